-- The questions at a place of a log: what the contracts of the functions behind `read` and behind the link count cite.
use Rattle.std.specs.Prelude.{◌≡◌, ◌≢◌, ◌⊎◌, Bool, false, Result, Ok, Err, List, [], ℕ, ◌+◌, ◌<◌, ltb, length, get_or, drop}
use Rattle.logs.specs.Words.{kind}
use Rattle.logs.specs.Answer.{Answer, given, refused, and_then, reason_number}
use Rattle.logs.specs.Log.{most_with_voices, log_word, onwards, marked, voices_onwards}
use Rattle.logs.specs.declared.Ceilings.{Ceilings}
use Rattle.logs.specs.declared.Refusal.{Refusal}

-- `log_word` and `onwards` at a place of the log `l`
abbrev pub log_word_at : Ceilings → List ℕ → ℕ → ℕ → Bool → ℕ → Answer (ℕ × ℕ × ℕ)
log_word_at m l n p from t = log_word m n p (get_or l p 0) (drop (p + 1) l) from t

abbrev pub onwards_at : Ceilings → List ℕ → ℕ → ℕ → Bool → ℕ → Answer (ℕ × ℕ)
onwards_at m l n p from t = onwards m n p (get_or l p 0) (drop (p + 1) l) from t

-- `voices_onwards` at place 1 of the log `l`
abbrev pub voices_from_head : Ceilings → List ℕ → ℕ → Answer (ℕ × ℕ)
voices_from_head m l n = voices_onwards m n 1 (get_or l 1 0) (drop 2 l) []

-- before place `start` stand the head and voices words alone, and there the last word or another one
pub record BehindVoices (l : List ℕ) (start : ℕ) : Type 0 where
  pub behind : 0 < start
  pub within : start < length l
  pub before : (p : ℕ) → 0 < p → p < start → kind (get_or l p 0) ≡ 9
  pub none : start + 1 < length l → kind (get_or l start 0) ≢ 9

-- which of the episodes that may have voices words are marked
abbrev pub Noted : List Bool → List (ℕ × ℕ) → Type 0
Noted seen marks = (v : ℕ) → v < most_with_voices → get_or seen v false ≡ marked v marks

-- What the voices words behind the head answer: the place behind them, where `onwards` goes on, or the first refusal of one.
abbrev pub VoicesEnd : Ceilings → List ℕ → ℕ → Result ℕ Refusal → Type 0
VoicesEnd m l n (Ok start) = BehindVoices l start × (voices_from_head m l n ≡ onwards_at m l n start false 0)
VoicesEnd m l n (Err r) = voices_from_head m l n ≡ refused (reason_number r.reason) r.place

-- The answer to questions 4 to 10, from place `start` on, is that of the word at `place`, before which `count` to words have come. It is the last
-- word, or one that is refused.
pub record Stopped (m : Ceilings) (l : List ℕ) (n start place count : ℕ) : Type 0 where
  pub within : place < length l
  pub answer : onwards_at m l n start false 0 ≡ and_then (log_word_at m l n place (ltb start place) count) (given (n, count))
  pub ended : (place + 1 ≡ length l) ⊎ ((k q : ℕ) × (log_word_at m l n place (ltb start place) count ≡ refused k q))
