-- The links of a row that are not implied: how they are written, bit by bit of a word and word by word, and that they are the links that stay.
use mathlib.Core.Path.{◌≡◌, refl, ◌∙◌}
use mathlib.Core.Bool.{Bool, true, ◌&&◌}
use mathlib.Core.List.{List, [], ◌∷◌}
use Prim.Native.Nat.{ℕ, zero, suc, ◌+◌, ◌-◌, ◌*◌, ◌≤◌, ◌<◌}
use native.Mathlib.Decide.{ℕ_discrete}
use native.Mathlib.Omega.{arith}
use lib.Dec.{eqb}
use lib.ListN.{length, get_or, set, length-append}
use borrow.Author.Tests.{eqb-true, eq-eqb, ne_eqb}
use Rattle.paths.specs.Graph.{Graph, Link}
use Rattle.paths.specs.Links.{linked}
use Rattle.paths.proofs.Links.{both}
use Rattle.paths.specs.Passing.{passing}
use Rattle.paths.specs.Trimmed.{Stays}
use Rattle.paths.proofs.Numbers.{rising_equal}
use Rattle.paths.proofs.Passing.{passing_more, passing_le, passing_below, passing_test, test_passing, passing_rising}
use Rattle.paths.proofs.Trimming.{stays_direct, direct_stays, trimmed_ends}
use Rattle.logs.specs.Words.{word}
use Rattle.logs.proofs.Words.{to_unpaused_lem}
use Rattle.bits.specs.Bits.{digit, bit, RowLess}
use Rattle.bits.specs.Ones.{LowestTaken}
use Rattle.bits.specs.Work.{links_at}
use Rattle.bits.proofs.Digits.{Rest, rest_here, rest_least, rest_none, rest_end}
use Rattle.bits.proofs.Rows.{bit_lt, new_word}
use Rattle.writing.proofs.Listing.{Listing, listing_more, listing_skip}
use Rattle.copying.specs.FairCopy.{linked_to}
use Rattle.copying.proofs.Linked.{linked_to_mem, mem_linked_to}
use Rattle.trimming.specs.TrimmedCopy.{trimmed}
use Rattle.trimming.specs.Trimming.{Held, HoldsImplied, kept_at, kept_to, to_unpaused, TellsDigits}
use Rattle.trimming.proofs.Kept.{trimmed_is}

-- ---- the bits of a word

-- The to words of the bits of `x` below `k` are written, and `rest` has the others.
module _ (first : ℕ) {test : ℕ → Bool} {o o' : List ℕ} {x rest k count : ℕ} (tells : TellsDigits test x first) (few : first + 32 ≤ 256) (r : Rest x rest k)
    (s : Listing test to_unpaused o o' 256 count (first + k)) where
  -- none passes where the digits are zero
  up_to : (t : ℕ) → k ≤ t → t ≤ 32 → ((j : ℕ) → k ≤ j → j < t → digit x j ≡ 0) → Listing test to_unpaused o o' 256 count (first + t)
  up_to t lo hi none =
      listing_skip test to_unpaused o o' 256 count (first + k) s (first + t) (omega arith) (omega arith)
      (λ c l h.
      let e : first + (c - first) ≡ c = omega arith in
      rw e at (tells (c - first) (omega arith) ∙ ne_eqb (digit x (c - first)) 1 (λ f. omega (arith, none (c - first) (omega arith) (omega arith)))))

  module _ {b less : ℕ} (t : LowestTaken rest b less) where
    passes : test (first + b) ≡ true
    passes = tells b t.below ∙ eq-eqb _ 1 (rest_here r t)

    here : Listing test to_unpaused o o' 256 count (first + b)
    here = up_to b (rest_least r t) (omega (arith, t.below)) (rest_none r t)

    -- there is room for one more
    pub bit_room : length (passing test 256) < length o → count + 1 < length o
    bit_room room =
        let more : length (passing test (first + b + 1)) ≡ length (passing test (first + b)) + 1 =
        rw (passing_more test (first + b) passes) (length-append (passing test (first + b)) ((first + b) ∷ [])) in
        let le = passing_le test (first + b + 1) 256 (omega (arith, t.below)) in
        omega (arith, here.size)

    pub bit_written : length (passing test 256) < length o → Listing test to_unpaused o (set o' (count + 1) (word 3 (first + b))) 256 (count + 1) (first + (b + 1))
    bit_written room =
        let e : first + b + 1 ≡ first + (b + 1) = omega arith in
        rw (e, to_unpaused_lem) at
        (listing_more test to_unpaused o o' 256 count (first + b) here (omega (arith, t.below)) (bit_room room) passes)

  pub bits_written : rest ≡ 0 → Listing test to_unpaused o o' 256 count (first + 32)
  bits_written e = up_to 32 r.at_most (omega arith) (λ j lo hi. rest_end r e j lo)

-- ---- the words of a row

-- what one bit has over another, as the test has it
new_test : (x y : ℕ) → x < 2 → y < 2 → eqb x 1 && eqb y 0 ≡ eqb (x - y) 1
new_test zero zero h k = refl
new_test zero (suc zero) h k = refl
new_test (suc zero) zero h k = refl
new_test (suc zero) (suc zero) h k = refl
new_test x (suc (suc y)) h k = absurd (omega arith)
new_test (suc (suc x)) y h k = absurd (omega arith)

-- the test of what is kept tells the digits of word `i`
pub word_tells : {w v kept : List ℕ} {row : ℕ} (a i : ℕ) → RowLess w row v kept → row ≡ links_at + 8 * a → i < 8
    → TellsDigits (kept_at w a v) (get_or kept i 0) (32 * i)
word_tells {w} {v} {kept} a i s p hi j h =
    let c = 32 * i + j in
    let e : 0 + i ≡ i = omega arith in
    rw (new_word w v (links_at + 8 * a) 0 i (get_or kept i 0) (rw e (λ d. rw p at (s.less i d hi))) j h)
    (new_test (bit w (links_at + 8 * a) c) (bit v 0 c) (bit_lt w (links_at + 8 * a) c) (bit_lt v 0 c))

-- ---- they are the links that stay

module _ (v : List ℕ) {g : Graph} {n a : ℕ} {w : List ℕ} (held : Held g n w) (h : a < n) (implied : HoldsImplied w a v) where
  kept_link : (b : ℕ) → b < 256 → kept_at w a v b ≡ true → Link (trimmed g) a b
  kept_link b hb e =
      let (l, i) = both (eqb (bit w (links_at + 8 * a) b) 1) (eqb (bit v 0 b) 0) e in
      let link : Link g a b = held.links.sound a b (omega (arith, held.few)) hb (eqb-true _ 1 l) in
      let none : bit v 0 b ≡ 0 = eqb-true _ 0 i in
      ((trimmed_is g).links a b).1 (direct_stays held.ends link (λ y. let o = (implied g n held b hb).1 y in omega arith))

  link_kept : (b : ℕ) → b < 256 → Link (trimmed g) a b → kept_at w a v b ≡ true
  link_kept b hb l =
      let stays : Stays g a b = ((trimmed_is g).links a b).0 l in
      let one : bit w (links_at + 8 * a) b ≡ 1 = held.links.complete a b (omega (arith, held.few)) hb stays.link in
      let none : bit v 0 b ≡ 0 = zero_bit stays (ℕ_discrete (bit v 0 b) 1) in
      rw (eq-eqb _ 1 one, eq-eqb _ 0 none)
    where
      zero_bit : Stays g a b → Dec (bit v 0 b ≡ 1) → bit v 0 b ≡ 0
      zero_bit stays (yes e) = absurd (stays_direct held.ends stays ((implied g n held b hb).0 e))
      zero_bit stays (no ne) = omega (arith, ne, bit_lt v 0 b)

  pub row_stays : kept_to w a v ≡ linked_to a (trimmed g).links n
  row_stays =
      rising_equal (kept_to w a v) (linked_to a (trimmed g).links n)
      (passing_rising (kept_at w a v) 256) (passing_rising (λ b. linked a b (trimmed g).links) n)
      (λ b m.
      let link = kept_link b (passing_below (kept_at w a v) 256 m) (passing_test (kept_at w a v) 256 m) in
      let e = trimmed_ends (trimmed_is g) held.ends a b link in
      mem_linked_to a (trimmed g).links b n (omega (arith, (trimmed_is g).episodes, held.count)) link)
      (λ b m.
      let (k, l) = linked_to_mem a (trimmed g).links b n m in
      let hb : b < 256 = omega (arith, held.few) in
      test_passing (kept_at w a v) 256 hb (link_kept b hb l))
