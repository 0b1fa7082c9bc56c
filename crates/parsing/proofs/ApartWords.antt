-- The apart words that are counted: as many words of kind 5 behind the first word as are looked at.
use mathlib.Core.Path.{◌≡◌, refl, sym, ◌∙◌}
use mathlib.Core.Bool.{Bool, true, false, true≢false}
use mathlib.Core.List.{List}
use Prim.Native.Nat.{ℕ, ◌<◌, ◌≤◌}
use native.Mathlib.Omega.{arith}
use borrow.Author.Tests.{ltb-true, ltb-false}
use lib.Dec.{eqb, ltb}
use lib.ListN.{length, get_or, drop}
use Rattle.std.proofs.lemmas.List.Sums.{prefix_len_is, prefix_len_stops, prefix_len-le-length}
use Rattle.logs.specs.Words.{kind}
use Rattle.parsing.specs.Parsing.{apart_count}

-- whether a word is an apart word
abbrev pub is_apart : ℕ → Bool
is_apart w = eqb (kind w) 5

-- the first `i` words behind the first word are apart words
abbrev pub Apart : List ℕ → ℕ → Type 0
Apart ws i = (j : ℕ) → j < i → is_apart (get_or (drop 1 ws) j 0) ≡ true

module _ (ws : List ℕ) (i : ℕ) (all : Apart ws i) where
  -- the one behind them is another
  pub apart_end : i < length (drop 1 ws) → is_apart (get_or (drop 1 ws) i 0) ≡ false → apart_count ws ≡ i
  apart_end h other = prefix_len_is is_apart (drop 1 ws) i 0 (omega arith) all (λ _. other)

  -- there are as many
  pub apart_least : i ≤ length (drop 1 ws) → i ≤ apart_count ws
  apart_least h = by_less (ltb (apart_count ws) i) refl
    where
      by_less : (b : Bool) → ltb (apart_count ws) i ≡ b → i ≤ apart_count ws
      by_less true e =
          let less = ltb-true (apart_count ws) i e in
          absurd (true≢false (sym (all (apart_count ws) less) ∙ prefix_len_stops is_apart (drop 1 ws) 0 (omega arith)))
      by_less false e = ltb-false (apart_count ws) i e

-- and no more than there are words
pub apart_most : (ws : List ℕ) → apart_count ws ≤ length (drop 1 ws)
apart_most ws = prefix_len-le-length is_apart (drop 1 ws)
