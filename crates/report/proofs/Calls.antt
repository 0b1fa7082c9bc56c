-- A report call by what its questions answer: from each answer to what the call leaves.
use mathlib.Core.Path.{◌≡◌, refl, ◌∙◌}
use mathlib.Core.List.{List, ◌++◌}
use Prim.Native.Nat.{ℕ, ◌+◌, ◌≤◌, ◌<◌}
use native.Mathlib.Omega.{arith}
use lib.ListN.{length, drop, replicate, length-drop}
use lib.Seq.{length-take-le}
use Rattle.logs.specs.Answer.{given, refused}
use Rattle.logs.specs.Log.{questions, content_of, graph_of, heard_count, voices_count, PassesWith}
use Rattle.logs.specs.Voices.{VoicesRead}
use Rattle.logs.specs.declared.Ceilings.{Ceilings}
use Rattle.logs.proofs.Laws.{few_episodes, graph_episodes, links_below}
use Rattle.bits.specs.Work.{items_at, next_at, voices_at, starts_at, used_words, Outside}
use Rattle.bits.proofs.Frames.{Cleared, part_cleared, matrix_before}
use Rattle.bits.proofs.Parts.{put_length, put_before, put_behind, put_here}
use borrow.Rule.Slice.PartMut.{mid_of, put_mid}
use Rattle.items.specs.Listed.{voices_in}
use Rattle.reach.specs.Reach.{ReachedLog}
use Rattle.writing.specs.Layout.{report_need}
use Rattle.report.specs.Report.{work_words, asked, report_needs, cleared, Passes, Left}
use Rattle.report.specs.Solving.{Ready, Answered}
use Rattle.report.specs.declared.Outcome.{Outcome}
use Rattle.report.specs.declared.Outcome.TheVariants.{Report, Loop as Looped, Refused}
use Rattle.report.proofs.Asked.{asked_given, asked_passes}
use Rattle.report.proofs.Voices.{few_items}
use Rattle.report.proofs.Reported.{read_graph}

-- refused by 1 to 12 or 18 to 21
pub left_denied : (m : Ceilings) (l o w : List ℕ) (q p : ℕ) → asked m report_needs l (length o) (length w) ≡ refused q p
    → Left m l o w o w (Refused q p)
unfolding Left
left_denied m l o w q p e = (e, refl, refl)

-- answered yes
module _ (m : Ceilings) (l o w : List ℕ) (n t : ℕ) (e : asked m report_needs l (length o) (length w) ≡ given (n, t)) where
  pub passed : (questions m l ≡ given (n, t)) × (report_need n (voices_count l) ≤ length o) × (work_words ≤ length w)
  passed = asked_given m report_needs l (length o) (length w) n t e

  pub passed_few : m.episodes < 256 → n < 256
  passed_few h = omega (arith, few_episodes m l n t passed.0)

  passes : Passes m l (length o) (length w)
  passes =
      let f = graph_episodes m l n t passed.0 in
      asked_passes m report_needs l (length o) (length w) (graph_of l).n (heard_count l) (read_graph m l n t passed.0)
      (rw f passed.1) passed.2

  pub left_answered : (o' : List ℕ) {w' : List ℕ} (r : Outcome) → Answered (graph_of l) o o' r → w' ≡ cleared w → Left m l o w o' w' r
  unfolding Left
  left_answered o' (Report c) d f = (passes, d, f)
  left_answered o' (Looped c) d f = (passes, d, f)
  left_answered o' (Refused q p) d f = absurd d

-- the work words, made zero, and the others
pub work_cleared : (w part : List ℕ) → part ≡ replicate work_words 0 → part ++ drop work_words w ≡ cleared w
unfolding cleared
work_cleared w part e = rw e

-- the table of voices is read into its region
module _ (w : List ℕ) (k : ℕ) {voices : ℕ → ℕ} {n : ℕ} {p : List ℕ} (few : n ≤ k) (region : voices_at + k ≡ starts_at) (long : used_words ≤ length w)
    (read : VoicesRead voices n (mid_of voices_at k w) p) where
  as_many : length p ≡ k
  as_many = read.same_length ∙ length-take-le k (drop voices_at w) (omega (arith, length-drop voices_at w))

  pub voices_put : Outside voices_at starts_at w (put_mid voices_at k w p)
  voices_put =
      record {
        same_length = put_length voices_at k w p (omega arith) as_many;
        before = put_before voices_at k w p (omega arith) as_many;
        behind = λ i h. put_behind voices_at k w p (omega arith) as_many i (omega arith);
      }

  pub voices_there : (v : ℕ) → v < n → voices_in (put_mid voices_at k w p) v ≡ voices v
  voices_there v h = put_here voices_at k w p (omega arith) as_many v (omega arith) ∙ read.here v h

-- the words of the matrices of links and ways are made zero, and those of the tables of the search
pub made_zero : (w front tables : List ℕ) → voices_at ≤ length w → front ≡ replicate (length (mid_of 0 items_at w)) 0
    → tables ≡ replicate (length (mid_of next_at 1048 (front ++ drop items_at w))) 0
    → Cleared 0 items_at w (front ++ drop items_at w)
    × Cleared next_at voices_at (front ++ drop items_at w) (put_mid next_at 1048 (front ++ drop items_at w) tables)
made_zero w front tables long e f =
    let first = part_cleared w front 0 items_at items_at (omega arith) (omega arith) e in
    (first, part_cleared (front ++ drop items_at w) tables next_at 1048 voices_at (omega arith) (omega (arith, first.outside.same_length)) f)

-- the links, the ways and the voices of the log stand in words that were zero, and the tables of the search are
pub ready : (l : List ℕ) (n t : ℕ) {w w₁ w₂ w₃ : List ℕ} → PassesWith l n t → n < 256 → used_words ≤ length w
    → Cleared next_at voices_at w w₁ → ReachedLog l w₁ w₂ → Outside voices_at starts_at w₂ w₃
    → ((v : ℕ) → v < n → voices_in w₃ v ≡ (content_of l).voices v) → Ready (graph_of l) n w₃
ready l n t e small long zero reached put voices =
    record {
      count = graph_episodes _ l n t e;
      few = small;
      few_items = few_items _ l n t e small;
      long = rw (put.same_length, reached.outside.same_length, zero.outside.same_length) long;
      ends = links_below _ l n t e;
      links = matrix_before (omega arith) put reached.links;
      ways = matrix_before (omega arith) put reached.ways;
      voices = voices;
      empty = λ i lo hi. put.before i hi ∙ reached.outside.behind i (omega arith) ∙ zero.zeros i lo hi;
    }
