-- What is read of the voices of a log.
use Rattle.std.specs.Prelude.{◌≡◌, List, ℕ, ◌≤◌, ◌<◌, length, get_or, drop}
use Rattle.std.specs.List.{prefix_len}
use Rattle.logs.specs.Log.{is_voices}

-- how many voices words stand behind the head, up to the first of another kind
abbrev pub voices_behind : List ℕ → ℕ
voices_behind l = prefix_len is_voices (drop 1 l)

-- a table starts with the voices of the episodes below `n`, and is behind them as it was
pub record VoicesRead (voices : ℕ → ℕ) (n : ℕ) (t t' : List ℕ) : Type 0 where
  pub same_length : length t' ≡ length t
  pub here : (v : ℕ) → v < n → get_or t' v 0 ≡ voices v
  pub behind : (i : ℕ) → n ≤ i → get_or t' i 0 ≡ get_or t i 0
