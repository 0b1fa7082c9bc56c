-- Questions 1 to 10 and 18 to 21 of the whole log, from the answers of its head and of the word at which the loops over its groups stop.
use mathlib.Core.Path.{◌≡◌, refl, ◌∙◌, ap}
use mathlib.Core.Bool.{false}
use mathlib.Core.List.{List, [], ◌∷◌}
use Prim.Native.Nat.{ℕ, ◌<◌, ◌≤◌}
use native.Mathlib.Omega.{arith}
use lib.Dec.{ltb}
use lib.ListN.{length, get_or}
use Rattle.logs.specs.Words.{head_episodes}
use Rattle.logs.specs.Answer.{given, refused, and_then}
use Rattle.logs.specs.Log.{head_word, questions}
use Rattle.logs.specs.Places.{log_word_at, onwards_at, voices_from_head, Stopped}
use Rattle.logs.specs.declared.Ceilings.{Ceilings}
use Rattle.logs.proofs.Asked.{head_passed}

pub too_short : (m : Ceilings) (l : List ℕ) → length l < 2 → questions m l ≡ refused 1 0
unfolding questions
too_short m [] h = refl
too_short m (w ∷ []) h = refl
too_short m (w ∷ x ∷ rest) h = absurd (omega arith)

pub head_first : (m : Ceilings) (l : List ℕ) → 2 ≤ length l
    → questions m l ≡ and_then (head_word m (get_or l 0 0)) (voices_from_head m l (head_episodes (get_or l 0 0)))
unfolding questions
head_first m [] h = absurd (omega arith)
head_first m (w ∷ []) h = absurd (omega arith)
head_first m (w ∷ x ∷ rest) h = refl

-- the head gives the version and the count of episodes, and the voices words are asked next
pub voices_first : (m : Ceilings) (l : List ℕ) (n v : ℕ) → 2 ≤ length l → head_word m (get_or l 0 0) ≡ given (1, n, v)
    → questions m l ≡ voices_from_head m l n
voices_first m l n v long head =
    head_first m l long ∙ rw (head, ap (λ (w : ℕ × ℕ × ℕ). w.1) (head_passed m (get_or l 0 0) (1, n, v) head).3)

-- the first refusal of a voices word is that of the log
pub voices_refused : (m : Ceilings) (l : List ℕ) (n v k q : ℕ) → 2 ≤ length l → head_word m (get_or l 0 0) ≡ given (1, n, v)
    → voices_from_head m l n ≡ refused k q → questions m l ≡ refused k q
voices_refused m l n v k q long head e = voices_first m l n v long head ∙ e

-- the answer of the word where the loops over the groups stop is that of the log
pub word_stopped : (m : Ceilings) (l : List ℕ) (n v start place count : ℕ) → 2 ≤ length l → head_word m (get_or l 0 0) ≡ given (1, n, v)
    → voices_from_head m l n ≡ onwards_at m l n start false 0 → Stopped m l n start place count
    → questions m l ≡ and_then (log_word_at m l n place (ltb start place) count) (given (n, count))
word_stopped m l n v start place count long head behind stop = voices_first m l n v long head ∙ behind ∙ stop.answer
