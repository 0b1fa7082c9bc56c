-- Counting links: the rows hold those that a counter has heard, and their count is that of the different ones.
use mathlib.Core.Path.{◌≡◌, refl, sym, ◌∙◌}
use mathlib.Core.Bool.{Bool, true, false, not, ◌&&◌}
use mathlib.Core.List.{List, [], ◌∷◌, ◌++◌, append-nil}
use Prim.Native.Nat.{ℕ, zero, suc, ◌+◌, ◌*◌, ◌<◌, ◌≤◌, ◌^◌}
use native.Mathlib.Decide.{ℕ_discrete}
use native.Mathlib.Nat.{add-zero}
use native.Mathlib.Omega.{arith}
use lib.Dec.{eqb}
use lib.ListN.{length, get_or, replicate, length-replicate, get_or-replicate}
use mir.Val.{bool_byte}
use Rattle.paths.specs.Graph.{Graph, SameLinks}
use Rattle.paths.specs.Links.{distinct, link_count}
use Rattle.paths.proofs.Links.{distinct_again, distinct_new, count_few, count_same}
use Rattle.logs.specs.Answer.{refused}
use Rattle.logs.specs.Log.{head_word, graph_of}
use Rattle.logs.specs.declared.Ceilings.{Ceilings}
use Rattle.logs.specs.Groups.{short_links}
use Rattle.logs.specs.Hear.{Next, where_short}
use Rattle.logs.proofs.Laws.{short_counts}
use Rattle.logs.proofs.Whole.{too_short, head_first}
use Rattle.bits.specs.Bits.{bit, BitSet, SetWhere}
use Rattle.bits.specs.Work.{matrix_words}
use Rattle.bits.proofs.Rows.{bit_lt}
use Rattle.bits.proofs.Pairs.{no_pairs, one_pair_more}
use Rattle.link_count.specs.Counted.{Counted, count_asked}

-- nothing is heard yet
pub none_counted : Counted (replicate matrix_words 0) 0 []
unfolding distinct
none_counted =
    record {
      words = length-replicate {A = ℕ} matrix_words 0;
      marked = no_pairs 0 (replicate matrix_words 0) (λ i h. get_or-replicate matrix_words i 0 0 (omega arith));
      counted = refl;
    }

-- what is told next, to a counter that has `seen` and `count`
module _ (seen : List ℕ) (count row to : ℕ) (next : Next (λ n. n ≤ 256) (λ from. 8 * from) (Counted seen count) row to) where
  -- one more can be counted
  pub has_room : (more : ℕ) → more ≤ 1 → count + more < 2 ^ 64
  has_room more one = omega (arith, next.room, next.before.counted, count_few (record { n = 0; links = next.links; voices = λ v. 1 }))

  -- one whose pause lets it count is counted unless it is marked
  new_counted : (more : ℕ) (seen' : List ℕ) → BitSet seen seen' row to → more + bit seen row to ≡ 1
      → Counted seen' (count + more) (next.links ++ (next.from, to) ∷ [])
  new_counted more seen' set one =
      let here : row ≡ 0 + 8 * next.from = omega (arith, next.its_row) in
      record {
        words = set.same_length ∙ next.before.words;
        marked = one_pair_more 0 next.links next.from to low next.before.marked (rw here at set);
        counted = counted (ℕ_discrete (bit seen row to) 1) here;
      }
    where
      low : to < 256
      low = omega (arith, next.taken, next.to_below)

      near : next.from < 256
      near = omega (arith, next.taken, next.from_below)

      counted : Dec (bit seen row to ≡ 1) → row ≡ 0 + 8 * next.from → count + more ≡ length (distinct (next.links ++ (next.from, to) ∷ []))
      counted (no new) here =
          let first = distinct_new next.links next.from to (λ m. new (rw here (next.before.marked.complete next.from to near low m))) in
          omega (arith, first, new, bit_lt seen row to, next.before.counted)
      counted (yes held) here =
          let m = next.before.marked.sound next.from to near low (rw here at held) in
          omega (arith, distinct_again next.links next.from to m, next.before.counted)

  -- another is not
  pub one_counted : (short : Bool) (seen' : List ℕ) → SetWhere short seen seen' row to
      → Counted seen' (count + bool_byte (short && not (eqb (bit seen row to) 1))) (next.links ++ where_short short (next.from, to))
  one_counted true seen' set = new_counted (bool_byte (not (eqb (bit seen row to) 1))) seen' set (unmarked (bit seen row to) (bit_lt seen row to))
    where
      unmarked : (d : ℕ) → d < 2 → bool_byte (not (eqb d 1)) + d ≡ 1
      unmarked zero h = refl
      unmarked (suc zero) h = refl
      unmarked (suc (suc d)) h = absurd (omega arith)
  one_counted false seen' none = rw (none, append-nil, add-zero) next.before

-- the links of a log that count by their own pause are those of its graph
pub count_of_log : (l seen : List ℕ) (count : ℕ) → Counted seen count (short_links l) → count ≡ link_count (graph_of l)
count_of_log l seen count all =
    let heard : Graph = record { n = (graph_of l).n; links = short_links l; voices = (graph_of l).voices } in
    let same : SameLinks heard (graph_of l) = record { episodes = refl; voices = λ v h. refl; links = short_counts l } in
    all.counted ∙ count_same same

-- a log of fewer than two words, or with a head that is refused, is refused as the reading refuses it
pub short_refused : (m : Ceilings) (l : List ℕ) → length l < 2 → refused 1 0 ≡ count_asked m l
short_refused m l h = rw (too_short m l h)

pub head_refused : (m : Ceilings) (l : List ℕ) (q p : ℕ) → 2 ≤ length l → refused q p ≡ head_word m (get_or l 0 0) → refused q p ≡ count_asked m l
head_refused m l q p h e = rw (head_first m l h, sym e)
