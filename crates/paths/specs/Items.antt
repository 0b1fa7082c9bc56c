-- Items: an episode with c voices is c items, in the order of the episodes. Chains of items and sets of items stand for the threads and the apart
-- sets of a graph with voices.
use Rattle.std.specs.Prelude.{List, [], ◌∷◌, ◌++◌, ℕ, zero, suc, length, get_or, replicate}
use Rattle.paths.specs.Graph.{Graph, Way}

-- whose the items of the episodes below `k` are: each episode as often as it has voices, rising
unfoldable pub owners : (ℕ → ℕ) → ℕ → List ℕ
owners voices zero = []
owners voices (suc v) = owners voices v ++ replicate (voices v) v

-- how many items there are: all voices together
abbrev pub item_count : Graph → ℕ
item_count g = length (owners g.voices g.n)

-- whose the item `x` is
abbrev pub owner : Graph → ℕ → ℕ
owner g x = get_or (owners g.voices g.n) x 0

-- where the items of `v` start
abbrev pub first_item : Graph → ℕ → ℕ
first_item g v = length (owners g.voices v)

-- the owner of `x` has a way to that of `y`
abbrev pub ItemWay : Graph → ℕ → ℕ → Type 0
ItemWay g x y = Way g (owner g x) (owner g y)

-- each of some episodes as often as it has voices
unfoldable pub by_voices : (ℕ → ℕ) → List ℕ → List ℕ
by_voices voices [] = []
by_voices voices (v ∷ s) = replicate (voices v) v ++ by_voices voices s
