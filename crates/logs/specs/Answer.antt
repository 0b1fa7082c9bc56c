-- What a call answers, and the answer of each result: the scope's number of its refusal, and the values of what it gives.
use Rattle.std.specs.Prelude.{ℕ, Bool, true, false, Result, Ok, Err}
use Rattle.logs.specs.declared.Reason.{Reason}
use Rattle.logs.specs.declared.Reason.TheVariants.{TooShort, NoHead, TooManyEpisodes, UnknownKind, ToBeforeFrom, FromWithoutTo, NoSuchEpisode, TooManyToWords, NoEnd, WrongCount, OutputTooShort, WorkTooShort, Loop, TooManyBytes, PartOfAWord, NotAReport, NoSuchThread, UnknownVersion, TooManyVoices, TooManyForVoices, VoicesAgain}
use Rattle.logs.specs.declared.Refusal.{Refusal}
use Rattle.logs.specs.declared.Head.{Head}
use Rattle.logs.specs.declared.ToWord.{ToWord}
use Rattle.logs.specs.declared.VoicesWord.{VoicesWord}
use Rattle.logs.specs.declared.LogWord.{LogWord}
use Rattle.logs.specs.declared.LogWord.TheVariants.{From, To, End}
use Rattle.logs.specs.declared.Reading.{Reading}

-- what is given, or a refusal: its number and its place
pub data Answer (A : Type 0) : Type 0 where
  given : A → Answer A
  refused : ℕ → ℕ → Answer A

-- A question with its number, the place of its refusal and its answer: on yes what comes next is asked.
abbrev pub question : {A : Type 0} → ℕ → ℕ → Bool → Answer A → Answer A
question k p true next = next
question k p false next = refused k p

-- The second answer, unless the first is a refusal.
abbrev pub and_then : {A B : Type 0} → Answer A → Answer B → Answer B
and_then (given a) next = next
and_then (refused k p) next = refused k p

-- the number of a reason
abbrev pub reason_number : Reason → ℕ
reason_number TooShort = 1
reason_number NoHead = 2
reason_number TooManyEpisodes = 3
reason_number UnknownKind = 4
reason_number ToBeforeFrom = 5
reason_number FromWithoutTo = 6
reason_number NoSuchEpisode = 7
reason_number TooManyToWords = 8
reason_number NoEnd = 9
reason_number WrongCount = 10
reason_number OutputTooShort = 11
reason_number WorkTooShort = 12
reason_number Loop = 13
reason_number TooManyBytes = 14
reason_number PartOfAWord = 15
reason_number NotAReport = 16
reason_number NoSuchThread = 17
reason_number UnknownVersion = 18
reason_number TooManyVoices = 19
reason_number TooManyForVoices = 20
reason_number VoicesAgain = 21

-- what a result answers, where `f` tells the values of what it gives
abbrev pub result_answer : {T A : Type 0} → (T → A) → Result T Refusal → Answer A
result_answer f (Ok x) = given (f x)
result_answer f (Err r) = refused (reason_number r.reason) r.place

-- a head's kind, its count of episodes and its version
abbrev pub head_figures : Head → ℕ × ℕ × ℕ
head_figures h = (1, h.episodes, h.version)

-- the figures of a from word or an end of kind `k`: its kind, its number, and no pause
abbrev pub numbered : ℕ → ℕ → ℕ × ℕ × ℕ
numbered k x = (k, x, 0)

-- a to word's kind, its episode and its pause
abbrev pub to_figures : ToWord → ℕ × ℕ × ℕ
to_figures t = (3, t.episode, t.pause)

-- a log word's kind, its episode or number, and its pause
abbrev pub word_figures : LogWord → ℕ × ℕ × ℕ
word_figures (From x) = numbered 2 x
word_figures (To t) = to_figures t
word_figures (End x) = numbered 15 x

-- a voices word's kind, its episode and its voices
abbrev pub voices_figures : VoicesWord → ℕ × ℕ × ℕ
voices_figures v = (9, v.episode, v.voices)

-- a log word: its figures, or the refusal that it earns
abbrev pub word_answer : Result LogWord Refusal → Answer (ℕ × ℕ × ℕ)
word_answer = result_answer word_figures

-- a log: n and the count of its to words, or the refusal
abbrev pub read_answer : Result Reading Refusal → Answer (ℕ × ℕ)
read_answer = result_answer (λ r. (r.episodes, r.to_words))
