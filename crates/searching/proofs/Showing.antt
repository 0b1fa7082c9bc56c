-- What an item of the queue shows: from one new item to the next, up to one with none before it or to the last.
use Rattle.std.proofs.lemmas.Grind.{common_steps}
use mathlib.Core.Path.{◌≡◌, refl, sym, ap, ◌∙◌}
use mathlib.Core.Logic.{◌≢◌}
use mathlib.Core.List.{List}
use Prim.Native.Nat.{ℕ, ◌+◌, ◌-◌, ◌*◌, ◌≤◌, ◌<◌}
use native.Mathlib.Decide.{ℕ_discrete}
use native.Mathlib.Omega.{arith}
use lib.ListN.{length}
use Rattle.bits.specs.Bits.{bit, RowTaken, RowLess}
use Rattle.bits.specs.Work.{next_at, via_at, seen_at, dead_at, Outside}
use Rattle.searching.specs.Items.{Tables, SameChains, Matching, Searching, Saw, Flipped}
use Rattle.searching.specs.State.{tables, deads, Pairs, Sized, SawIn, ShowAsked, ShownIn}
use Rattle.bits.proofs.Frames.{outside_none, outside_then}
use Rattle.bits.proofs.Rows.{bit_lt, bit_less}
use Rattle.searching.proofs.Frames.{pairs_kept, pairs_were}
use Rattle.searching.proofs.Relations.{Within}
use Rattle.searching.proofs.Searches.{matching_same, saw_matching, saw_searching, item_done, found}

-- of more items than there are
saw_fewer : {m n : ℕ} {t t' : Tables} {head b tail : ℕ} → n ≤ m → Saw m t t' head b tail → Saw n t t' head b tail
saw_fewer l s = grind (arith, common_steps)

pub flipped_fewer : {m n : ℕ} {t t' : Tables} {a b : ℕ} → n ≤ m → Flipped m t t' a b → Flipped n t t' a b
flipped_fewer l s = grind (arith, common_steps)

-- ---- the work words before the tables of a search, and the chains, stay as they are

module _ {lo hi : ℕ} {w w' : List ℕ} (le : via_at ≤ lo) (o : Outside lo hi w w') where
  pub same_chains : (m : ℕ) → m < 256 → SameChains m (tables w) (tables w')
  same_chains m h = grind (arith, common_steps)

  pub matching_kept : {m : ℕ} → m < 256 → Matching m (tables w) → Matching m (tables w')
  matching_kept {m} h k = matching_same k (same_chains m h)

pub sized_kept : {w w' : List ℕ} {base m : ℕ} → length w' ≡ length w → Sized w base m → Sized w' base m
sized_kept e s = grind (arith, common_steps)

module _ {w w' : List ℕ} {base m lo hi : ℕ} (s : Sized w base m) (le : next_at ≤ lo) (o : Outside lo hi w w') where
  pub forth : Within m (Pairs base w) (Pairs base w')
  forth a b al bl = pairs_kept o base a b (omega (arith, s.matrix)) (omega (arith, s.items)) (omega (arith, s.items))

  pub back : Within m (Pairs base w') (Pairs base w)
  back a b al bl = pairs_were o base a b (omega (arith, s.matrix)) (omega (arith, s.items)) (omega (arith, s.items))

-- ---- the loop of `show`

-- The item at `head` has shown what it has below `from`; `rest` is what it has that is not seen. The words were `w₀`.
pub record Showing (w₀ w : List ℕ) (base m head end : ℕ) (rest : ℕ → ℕ) : Type 0 where
  pub from : ℕ
  pub sized : Sized w base m
  pub outside : Outside via_at dead_at w₀ w
  pub matching : Matching m (tables w)
  pub searching : Searching m (Pairs base w₀) (deads w₀) (tables w) head from end
  pub inside : head < end
  pub source : (tables w).queue 0 ≡ (tables w₀).queue 0
  pub rest_is : (c : ℕ) → c < 256 → rest c ≡ bit w₀ (base + 8 * (tables w).queue head) c - (tables w).seen c

-- nothing is shown: `new` is the row of the item without what is seen
pub showing_start : {w u new : List ℕ} {base m head tail row : ℕ} → ShowAsked w base m head tail → row ≡ base + 8 * (tables w).queue head
    → RowTaken w seen_at u → RowLess w row u new → Showing w w base m head tail (bit new 0)
showing_start {w} {row = row} p is t l =
    record {
      from = 0;
      sized = p.0;
      outside = outside_none via_at dead_at w;
      matching = p.1;
      searching = p.2;
      inside = p.3;
      source = refl;
      rest_is = λ c h. rw (sym is) (bit_less l c h ∙ ap (λ (x : ℕ). bit w row c - x) (t.taken c h));
    }

-- the same bits
pub showing_same : {w₀ w : List ℕ} {base m head end : ℕ} {rest other : ℕ → ℕ} → ((c : ℕ) → other c ≡ rest c) → Showing w₀ w base m head end rest
    → Showing w₀ w base m head end other
showing_same e s =
    record {
      from = s.from;
      sized = s.sized;
      outside = s.outside;
      matching = s.matching;
      searching = s.searching;
      inside = s.inside;
      source = s.source;
      rest_is = λ c h. e c ∙ s.rest_is c h;
    }

module _ {w₀ w : List ℕ} {base m head end : ℕ} {rest : ℕ → ℕ} (s : Showing w₀ w base m head end rest) where
  -- of what it has, nothing is left that is not seen
  all_seen : (c : ℕ) → c < 256 → rest c ≡ 0 → Pairs base w₀ ((tables w).queue head) c → (tables w).seen c ≡ 1
  all_seen c h z q = omega (arith, s.rest_is c h, bit_lt w seen_at c)

  -- it has shown all
  pub showing_end : ((c : ℕ) → c < m → rest c ≡ 0) → ShownIn w₀ w base m head m end
  showing_end none =
      record {
        outside = s.outside;
        source = s.source;
        item_le = omega arith;
        done = λ e. item_done s.searching s.inside (λ c lo cl q. all_seen c (omega (arith, s.sized.items)) (none c cl) q);
        found = λ l. absurd (omega arith);
      }

  -- `b` is the first of the rest, and is seen; the words are now `w'`
  module _ {w' : List ℕ} {b : ℕ} (here : rest b ≡ 1) (lower : (c : ℕ) → c < b → rest c ≡ 0) (bl : b < m) (i : SawIn w w' head b end) where
    saw : Saw m (tables w) (tables w') head b end
    saw = saw_fewer (omega (arith, s.sized.items)) i.saw

    few : m < 256
    few = s.sized.items

    new : Pairs base w₀ ((tables w).queue head) b × ((tables w).seen b ≡ 0)
    new =
        let e = s.rest_is b (omega (arith, few)) in
        let l = bit_lt w₀ (base + 8 * (tables w).queue head) b in
        (omega (arith, here), omega (arith, here))

    outside' : Outside via_at dead_at w₀ w'
    outside' = outside_then s.outside i.outside

    source' : (tables w').queue 0 ≡ (tables w₀).queue 0
    source' = saw.queue_same 0 (omega (arith, s.inside)) ∙ s.source

    -- with an item before it; `rest'` is the rest without it
    pub showing_more : {rest' : ℕ → ℕ} → 0 < (tables w').prev b → rest' b ≡ 0 → ((c : ℕ) → c ≢ b → rest' c ≡ rest c)
        → Showing w₀ w' base m head (end + 1) rest'
    showing_more {rest'} pos taken others =
        record {
          from = b + 1;
          sized = sized_kept i.outside.same_length s.sized;
          outside = outside';
          matching = saw_matching s.matching saw;
          searching =
              saw_searching s.matching s.searching saw s.inside bl new.1 (omega (arith, saw.prev_same b bl)) new.0
              (λ c lo hi q. all_seen c (omega (arith, few)) (lower c hi) q);
          inside = omega (arith, s.inside);
          source = source';
          rest_is = λ c h. rw (saw.queue_same head s.inside) (left_then c h (ℕ_discrete c b));
        }
      where
        left_then : (c : ℕ) → c < 256 → Dec (c ≡ b) → rest' c ≡ bit w₀ (base + 8 * (tables w).queue head) c - (tables w').seen c
        left_then c h (yes e) =
            let l = bit_lt w₀ (base + 8 * (tables w).queue head) b in
            rw e (omega (arith, taken, saw.seen_here))
        left_then c h (no ne) = others c ne ∙ s.rest_is c h ∙ ap (λ (x : ℕ). bit w₀ (base + 8 * (tables w).queue head) c - x) (sym (i.saw.seen_other c h ne))

    -- with none
    pub showing_found : (tables w').prev b ≡ 0 → ShownIn w₀ w' base m head b end
    showing_found first =
        record {
          outside = outside';
          source = source';
          item_le = omega arith;
          done = λ e. absurd (omega arith);
          found = λ l. found s.matching s.searching saw s.inside bl new.1 (omega (arith, saw.prev_same b bl)) new.0;
        }
