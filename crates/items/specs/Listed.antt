-- The items in the work words: an episode with c voices is c items, in the order of the episodes.
use Rattle.std.specs.Prelude.{◌≡◌, List, ℕ, ◌+◌, ◌*◌, ◌≤◌, ◌<◌, length, get_or}
use Rattle.paths.specs.Items.{owners as owners_below}
use Rattle.bits.specs.Bits.{bit}
use Rattle.bits.specs.Work.{ways_at, items_at, next_at, voices_at, starts_at, owners_at, used_words, Outside}

-- the voices of the episode `v`, where its items start, and whose the item `x` is, as the words say
abbrev pub voices_in : List ℕ → ℕ → ℕ
voices_in w v = get_or w (voices_at + v) 0

abbrev pub start_in : List ℕ → ℕ → ℕ
start_in w v = get_or w (starts_at + v) 0

abbrev pub owner_in : List ℕ → ℕ → ℕ
owner_in w x = get_or w (owners_at + x) 0

-- the `m` items of `n` episodes are listed: where those of each start, and whose each is
pub record Listed (w : List ℕ) (n m : ℕ) : Type 0 where
  pub long : used_words ≤ length w
  pub few : n ≤ 256
  pub few_items : m < 256
  pub count : m ≡ length (owners_below (voices_in w) n)
  pub starts : (v : ℕ) → v < n → start_in w v ≡ length (owners_below (voices_in w) v)
  pub owners : (x : ℕ) → x < m → owner_in w x ≡ get_or (owners_below (voices_in w) n) x 0

-- no episode has a way to one that is not below `n`
abbrev pub WaysBelow : List ℕ → ℕ → Type 0
WaysBelow w n = (a b : ℕ) → a < n → b < 256 → bit w (ways_at + 8 * a) b ≡ 1 → b < n

-- an item has another behind it exactly where its owner has a way to the owner of that
pub record PairsIn (w w' : List ℕ) (m : ℕ) : Type 0 where
  pub outside : Outside items_at next_at w w'
  pub pairs : (x y : ℕ) → x < m → y < m → bit w' (items_at + 8 * x) y ≡ bit w (ways_at + 8 * owner_in w x) (owner_in w y)
