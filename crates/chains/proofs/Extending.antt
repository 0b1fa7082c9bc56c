-- A search from one item: one chain fewer, going back over the items that it has seen, from the one with none before it; or what it has
-- seen is dead.
use Rattle.std.proofs.lemmas.Grind.{common_steps}
use Rattle.std.specs.Prelude.{Option, Some, None}
use mathlib.Core.Path.{◌≡◌, refl, sym, ap, subst, ◌∙◌}
use mathlib.Core.Logic.{inl, inr}
use mathlib.Core.List.{List}
use Prim.Native.Nat.{ℕ, ◌+◌, ◌-◌, ◌≤◌, ◌<◌}
use native.Mathlib.Omega.{arith}
use lib.ListN.{length, get_or}
use Rattle.bits.specs.Bits.{RowCopied}
use Rattle.bits.specs.Work.{next_at, via_at, seen_at, dead_at, none_at, used_words, Outside}
use Rattle.bits.proofs.Frames.{outside_none, outside_then, outside_wider, bit_before}
use Rattle.searching.specs.Items.{SameChains, Dead, Trail, Flipping, Flipped, Extended}
use Rattle.searching.specs.State.{tables, figure, deads, Pairs, Extendable, SearchedIn, FlipAsked, FlippedIn}
use Rattle.chains.specs.Joined.{ExtendedIn}
use Rattle.searching.proofs.Deads.{dead_moved, dead_skip, dead_kept}
use Rattle.chains.proofs.Flips.{flip_on, flip_end}
use Rattle.searching.proofs.Frames.{via_behind, dead_behind}
use Rattle.searching.proofs.Marks.{copied_outside}
use Rattle.searching.proofs.Relations.{chains_none, trail_within, flipping_within, shrunk_within, shrunk_from, shrunk_to}
use Rattle.searching.proofs.Showing.{flipped_fewer, matching_kept, same_chains, forth, back}

-- what is left of the way back: the place, plus one, from which the next item was seen, or 0 at the end
abbrev pub left : List ℕ → Option ℕ → ℕ
left w (Some b) = get_or w (via_at + b) 0
left w None = 0

-- On the way back: `w₁` are the words after the search, and `item` is the item before which none stands, or none at the end.
pub record Going (w₁ w : List ℕ) (base m tail : ℕ) (item : Option ℕ) : Type 0 where
  pub items : m < 256
  pub long : used_words ≤ length w
  pub outside : Outside next_at via_at w₁ w
  pub tail_le : tail ≤ m
  pub trail : Trail m (Pairs base w₁) (deads w₁) (tables w₁) tail
  pub on : (b : ℕ) → item ≡ Some b → Flipping m (Pairs base w₁) (deads w₁) (tables w₁) (tables w) tail b
  pub done : item ≡ None → Extended m (Pairs base w₁) (deads w₁) (tables w₁) (tables w) ((tables w₁).queue 0)

-- one step back
module _ {w₁ w : List ℕ} {base m tail : ℕ} {item : Option ℕ} {b : ℕ} (s : Going w₁ w base m tail item) (e : item ≡ Some b) where
  f : Flipping m (Pairs base w₁) (deads w₁) (tables w₁) (tables w) tail b
  f = s.on b e

  abbrev p : ℕ
  p = f.from.0

  via : (tables w).via b ≡ p + 1
  via = via_behind s.outside (omega arith) b ∙ f.from.2

  place : (tables w).queue ((tables w).via b - 1) ≡ (tables w₁).queue p
  place = grind (arith, common_steps)

  pub flip_asked : FlipAsked w b
  flip_asked =
      let il = s.items in
      let tl = s.tail_le in
      let bl = f.below in
      let pl = f.from.1 in
      let ql = s.trail.queued p pl in
      (s.long, omega arith, omega (arith, via), omega (arith, via), omega (arith, place))

  module _ {w' : List ℕ} (item' : Option ℕ) (k : FlippedIn w w' b (figure item')) where
    flipped : Flipped m (tables w) (tables w') ((tables w₁).queue p) b
    flipped = rw place at (flipped_fewer {n = m} (omega (arith, s.items)) k.put.flipped)

    before : (tables w).next ((tables w₁).queue p) ≡ figure item'
    before = sym (k.before ∙ ap (λ (x : ℕ). (tables w).next x) place)

    pub going_more : Going w₁ w' base m tail item'
    going_more =
        record {
          items = s.items;
          long = omega (arith, k.put.outside.same_length, s.long);
          outside = outside_then s.outside k.put.outside;
          tail_le = s.tail_le;
          trail = s.trail;
          on = λ c i. (flip_on p s.trail f f.from.2 flipped (before ∙ ap figure i)).0;
          done = λ i. flip_end p s.trail f f.from.2 flipped (before ∙ ap figure i);
        }

    pub going_less : left w' item' < left w item
    going_less = go item' refl
      where
        now : left w item ≡ p + 1
        now = ap (left w) e ∙ via

        go : (x : Option ℕ) → item' ≡ x → left w' x < left w item
        go None i = omega (arith, now)
        go (Some c) i =
            let h = (flip_on p s.trail f f.from.2 flipped (before ∙ ap figure i)).1 in
            let j : left w' (Some c) ≡ (tables w₁).via c = via_behind going_more.outside (omega arith) c in
            let v = f.from.2 in
            omega (arith, now)

-- an item that ends no chain
pub not_end : {e : List ℕ} {base m a : ℕ} → Extendable e base m a → 0 < (tables e).next a → ExtendedIn e e base m a
not_end {e} z h =
    record { outside = outside_none next_at none_at e; seen_dead = z.seen_dead; dead = dead_skip z.dead h; change = inl chains_none }

-- `e` are the words before the search
module _ {e w₁ : List ℕ} {base m a item : ℕ} (z : Extendable e base m a) (h : SearchedIn e w₁ base m a item) where
  same_dead : (b : ℕ) → b < m → deads w₁ b ≡ deads e b
  same_dead b bl = dead_behind h.outside (omega arith) b

  pub going_start : item < m → (tail : ℕ) × Going w₁ w₁ base m tail (Some item)
  going_start l =
      let (tail, tl, k, i) = h.found l in
      let to = forth z.sized (omega arith) h.outside in (
        tail,
        record {
          items = z.sized.items;
          long = omega (arith, z.sized.long, h.outside.same_length);
          outside = outside_none next_at via_at w₁;
          tail_le = tl;
          trail = trail_within to same_dead k;
          on = λ b q. let same : item ≡ b = cc in rw same at (flipping_within to same_dead k i);
          done = λ q. absurd (cc);
        },
      )

  -- one chain fewer; `w'` are the words after what is dead has been copied
  pub going_end : {w w' : List ℕ} {tail : ℕ} {next : Option ℕ} → Going w₁ w base m tail next → next ≡ None → RowCopied w w' seen_at dead_at → ExtendedIn e w' base m a
  going_end {w} {w'} s q c =
      record {
        outside =
            outside_then (outside_wider (omega arith) (omega arith) h.outside)
            (outside_then (outside_wider (omega arith) (omega arith) s.outside) (outside_wider (omega arith) (omega arith) o));
        seen_dead = λ b bl. c.copied b (omega (arith, z.sized.items)) ∙ sym (dead_behind o (omega arith) b);
        dead =
            dead_moved (back z.sized (omega arith) h.outside) (forth z.sized (omega arith) h.outside) links
            (λ b bl. dead_behind o (omega arith) b ∙ dead_behind s.outside (omega arith) b)
            (dead_kept searched (matching_kept (omega arith) h.outside z.sized.items z.matching) extended);
        change =
            inr
            (shrunk_within (back z.sized (omega arith) h.outside)
            (shrunk_from (same_chains (omega arith) h.outside m z.sized.items) (shrunk_to links extended.shrunk)));
      }
    where
      o : Outside seen_at dead_at w w'
      o = copied_outside c

      links : SameChains m (tables w) (tables w')
      links = same_chains (omega arith) o m z.sized.items

      extended : Extended m (Pairs base w₁) (deads w₁) (tables w₁) (tables w) a
      extended = subst (λ (x : ℕ). Extended m (Pairs base w₁) (deads w₁) (tables w₁) (tables w) x) h.source (s.done q)

      searched : Dead m (Pairs base w₁) (tables w₁) (deads w₁) a
      searched =
          dead_moved (forth z.sized (omega arith) h.outside) (back z.sized (omega arith) h.outside)
          (same_chains (omega arith) h.outside m z.sized.items) same_dead z.dead

  -- nothing was found; `w` are the words after what is seen has been copied
  pub in_vain : {w : List ℕ} → item ≡ m → RowCopied w₁ w dead_at seen_at → ExtendedIn e w base m a
  in_vain {w} q c =
      record {
        outside = outside_wider (omega arith) (omega arith) all;
        seen_dead = λ b bl. bit_before o seen_at b (omega arith) (omega (arith, z.sized.items)) ∙ sym (dead b bl);
        dead = dead_moved (λ x b xl bl r. r) (λ x b xl bl r. r) (same_chains (omega arith) o m z.sized.items) dead (h.exhausted q);
        change = inl (same_chains (omega arith) all m z.sized.items);
      }
    where
      o : Outside dead_at none_at w₁ w
      o = copied_outside c

      dead : (b : ℕ) → b < m → deads w b ≡ (tables w₁).seen b
      dead b bl = c.copied b (omega (arith, z.sized.items))

      all : Outside via_at none_at e w
      all = outside_then (outside_wider (omega arith) (omega arith) h.outside) (outside_wider (omega arith) (omega arith) o)
