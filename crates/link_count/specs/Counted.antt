-- What a link count call gives.
use Rattle.std.specs.Prelude.{◌≡◌, List, ℕ, length, Result}
use mathlib.Core.List.{Memᴰ as Mem}
use Rattle.paths.specs.Links.{distinct, link_count}
use Rattle.logs.specs.Answer.{Answer, given, and_then, result_answer}
use Rattle.logs.specs.Log.{questions, graph_of}
use Rattle.logs.specs.declared.Ceilings.{Ceilings}
use Rattle.logs.specs.declared.Refusal.{Refusal}
use Rattle.bits.specs.Work.{matrix_words, Matrix}

-- The answer of a link count call: the count, or a refusal.
abbrev pub count_answer : Result ℕ Refusal → Answer ℕ
count_answer = result_answer (λ k. k)

-- Questions 1 to 10 and 18 to 21, then the link count of the log's graph.
abbrev pub count_asked : Ceilings → List ℕ → Answer ℕ
count_asked m l = and_then (questions m l) (given (link_count (graph_of l)))

-- `seen` has a row of bits for each episode, in which the links that a counter has heard are marked, and `count` of them are different.
pub record Counted (seen : List ℕ) (count : ℕ) (heard : List (ℕ × ℕ)) : Type 0 where
  pub words : length seen ≡ matrix_words
  pub marked : Matrix 0 seen (λ a b. Mem (a, b) heard)
  pub counted : count ≡ length (distinct heard)
