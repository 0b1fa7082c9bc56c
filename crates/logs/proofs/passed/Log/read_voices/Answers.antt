use mathlib.Core.Path.{◌≡◌, ◌∙◌, ap, subst}
use mathlib.Core.List.{List}
use Prim.Native.Nat.{ℕ, ◌+◌, ◌-◌, ◌<◌}
use native.Mathlib.Omega.{arith}
use lib.ListN.{length, get_or, take, drop, replicate, length-drop}
use lib.Seq.{length-take-le, get_or-take}
use Rattle.logs.specs.Words.{voices_episode, voices_given}
use Rattle.logs.specs.Log.{marks_of, voices_by, voices_count}
use Rattle.logs.specs.Voices.{VoicesRead}
use Rattle.logs.specs.declared.passed.Log.{Log}
use Rattle.logs.proofs.Laws.{voices_end}
use Rattle.logs.proofs.Marks.{marks_nil}
use Rattle.logs.proofs.VoicesTable.{ones_read, mark_written, voices_word_taken, voices_word_next, voices_words_all}
use Rattle.logs.proofs.Voices.{VoicesTaken}
use Rattle.logs.proofs.passed.Log.read_voices.Goals as goal
use Rattle.logs.proofs.passed.Log.read_voices.Goals.{After-from-mark}

-- the voices words stand within the log
within : (l : Log) → l.voices_words + 1 < length l.words.now
within l = omega (arith, (voices_end _ l.words.now l.episodes l.to_words l.passes).within, l.voices)

-- as many words are read
read_length : (l : Log) → length (take (l.voices_words + 1 - 1) (drop 1 l.words.now)) ≡ l.voices_words
read_length l =
    let fits = within l in
    length-take-le (l.voices_words + 1 - 1) (drop 1 l.words.now) (omega (arith, length-drop 1 l.words.now)) ∙ omega arith

pub overflow_add-w-items : goal.overflow_add-w-items
overflow_add-w-items c = omega (arith, within c.args.self)

pub slice_bounds-w-items-end : goal.slice_bounds-w-items-end
slice_bounds-w-items-end c = omega (arith, within c.args.self)

pub loop-w-init : goal.loop-w-init
loop-w-init c =
    let ones = c.one_voice.ensures ∙ ap (λ (k : ℕ). replicate k 1) (length-take-le c.args.self.episodes c.args.table.now c.requires) in
    rw marks_nil (ones_read c.args.self.episodes c.args.table.now c.one_voice.new.table c.requires ones)

-- the word that is read is a voices word
module _ (c : After-from-mark) where
  read_few : c.loop-w.w-index < voices_count c.args.self.words.now
  read_few = omega (arith, c.loop-w-test.true, read_length c.args.self, c.args.self.voices)

  read_word : get_or (take (c.args.self.voices_words + 1 - 1) (drop 1 c.args.self.words.now)) c.loop-w.w-index 0
      ≡ get_or (drop 1 c.args.self.words.now) c.loop-w.w-index 0
  read_word = get_or-take (c.args.self.voices_words + 1 - 1) (drop 1 c.args.self.words.now) c.loop-w.w-index 0 (omega (arith, read_few, c.args.self.voices))

  episode : c.from-mark.result.episode ≡ voices_episode (get_or (drop 1 c.args.self.words.now) c.loop-w.w-index 0)
  episode = c.from-mark.ensures.0 ∙ ap voices_episode read_word

  voices : c.from-mark.result.voices ≡ voices_given (get_or (drop 1 c.args.self.words.now) c.loop-w.w-index 0)
  voices = c.from-mark.ensures.1 ∙ ap voices_given read_word

  taken : VoicesTaken c.args.self.episodes (get_or (drop 1 c.args.self.words.now) c.loop-w.w-index 0)
      (marks_of (take c.loop-w.w-index (drop 1 c.args.self.words.now)))
  taken = let l = c.args.self in voices_word_taken l.words.now l.episodes l.to_words l.passes c.loop-w.w-index read_few

pub bounds-table-mark : goal.bounds-table-mark
bounds-table-mark c = omega (arith, episode c, (taken c).below, c.loop-w.invariant.same_length, c.requires)

pub loop-w-preserved : goal.loop-w-preserved
loop-w-preserved c =
    let l = c.args.self in
    mark_written l.episodes (marks_of (take c.loop-w.w-index (drop 1 l.words.now))) (get_or (drop 1 l.words.now) c.loop-w.w-index 0) c.args.table.now c.loop-w.table
    c.requires (taken c) c.loop-w.invariant _ _ _
    (voices_word_next l.words.now l.episodes l.to_words l.passes c.loop-w.w-index (read_few c))
    (episode c)
    (voices c)

pub returns : goal.returns
returns c =
    let l = c.args.self in
    let all : c.loop-w.w-index ≡ voices_count l.words.now = omega (arith, c.loop-w-test.false, c.loop-w.auto.w-index-end, read_length l, l.voices) in
    let e = ap (λ (k : ℕ). marks_of (take k (drop 1 l.words.now))) all ∙ voices_words_all l.words.now l.episodes l.to_words l.passes in
    subst (λ (ms : List (ℕ × ℕ)). VoicesRead (voices_by ms) l.episodes c.args.table.now c.loop-w.table) e c.loop-w.invariant
