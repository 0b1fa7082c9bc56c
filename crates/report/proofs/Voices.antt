-- The voices of a log that passes: where it has no voices word each episode has one, else none has more than two and there are at most 120 episodes. So
-- there is room for a report, and there are few items.
use mathlib.Core.Path.{◌≡◌, refl}
use mathlib.Core.Logic.{inl, inr}
use mathlib.Core.List.{List}
use Prim.Native.Nat.{ℕ, zero, suc, ◌≤◌, ◌<◌}
use native.Mathlib.Omega.{arith}
use Rattle.paths.specs.Items.{item_count}
use Rattle.paths.proofs.Items.{items_one, items_few}
use Rattle.logs.specs.Answer.{given}
use Rattle.logs.specs.Log.{questions, graph_of, voices_count}
use Rattle.logs.specs.declared.Ceilings.{Ceilings}
use Rattle.logs.proofs.Laws.{graph_episodes, voices_none, voices_few, voices_most}
use Rattle.writing.specs.Layout.{report_need}
use Rattle.writing.specs.Writing.{ReportRoom}

-- the words have room for a report where they are as many as question 11 asks for
pub room : (m : Ceilings) (l : List ℕ) (n t k : ℕ) → questions m l ≡ given (n, t) → report_need n (voices_count l) ≤ k → ReportRoom (graph_of l) k
room m l n t k e enough = go (voices_count l) refl
  where
    go : (v : ℕ) → voices_count l ≡ v → ReportRoom (graph_of l) k
    go zero none = inl (λ v h. voices_none l none v, rw (graph_episodes m l n t e) (rw none at enough))
    go (suc v) some =
        inr (λ v h. voices_few m l n t e v (rw (graph_episodes m l n t e) at h), rw (graph_episodes m l n t e) (rw some at enough))

-- and there are few items: one for each episode, or two for each of at most 120
pub few_items : (m : Ceilings) (l : List ℕ) (n t : ℕ) → questions m l ≡ given (n, t) → n < 256 → item_count (graph_of l) < 256
few_items m l n t e few = go (voices_count l) refl
  where
    episodes : (graph_of l).n ≡ n
    episodes = graph_episodes m l n t e

    go : (v : ℕ) → voices_count l ≡ v → item_count (graph_of l) < 256
    go zero none = let one = items_one (graph_of l) (λ v h. voices_none l none v) in omega (arith, episodes, few)
    go (suc v) some =
        let two = items_few (graph_of l) (λ v h. voices_few m l n t e v (rw episodes at h)) in
        let most = voices_most m l n t e (omega arith) in
        omega (arith, episodes)
