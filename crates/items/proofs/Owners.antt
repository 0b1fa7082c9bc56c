-- Where the items of an episode stand in the list of owners.
use mathlib.Core.Path.{◌≡◌, refl, ap, ◌∙◌}
use mathlib.Core.List.{List, [], ◌++◌}
use Prim.Native.Nat.{ℕ, zero, suc, ◌+◌, ◌-◌, ◌≤◌, ◌<◌}
use native.Mathlib.Decide.{dec_lt}
use native.Mathlib.Omega.{arith}
use lib.ListN.{length, get_or, replicate, length-append, length-replicate, get_or-append, get_or-replicate}
use Rattle.std.proofs.lemmas.List.{get_or-append_right}
use Rattle.paths.specs.Items.{owners}
use Rattle.paths.proofs.Items.{owners_split, owners_next, item_of}

-- `x` is one of the items of `v`
abbrev pub Among : (ℕ → ℕ) → ℕ → ℕ → Type 0
Among voices v x = (length (owners voices v) ≤ x) × (x < length (owners voices v) + voices v)

-- those of an episode below `n` and of the episodes before it are among all
pub owners_fit : (voices : ℕ → ℕ) (v n : ℕ) → v < n → length (owners voices v) + voices v ≤ length (owners voices n)
owners_fit voices v n h =
    let (rest, e) = owners_split voices v n h in
    omega (
      arith,
      ap length e,
      length-append (owners voices v ++ replicate (voices v) v) rest,
      length-append (owners voices v) (replicate (voices v) v),
      length-replicate (voices v) v,
    )

-- the items of one more episode stand behind
pub owner_before : (voices : ℕ → ℕ) (v x : ℕ) → x < length (owners voices v) → get_or (owners voices (suc v)) x 0 ≡ get_or (owners voices v) x 0
unfolding owners
owner_before voices v x h = get_or-append (owners voices v) (replicate (voices v) v) 0 x h

-- an item is one of its owner's
pub owner_among : (voices : ℕ → ℕ) (n x : ℕ) → x < length (owners voices n) → Among voices (get_or (owners voices n) x 0) x
unfolding owners
owner_among voices zero x h = absurd (omega arith)
owner_among voices (suc n) x h = go (dec_lt x (length (owners voices n))) (owner_among voices n x)
  where
    own : List ℕ
    own = replicate (voices n) n

    go : Dec (x < length (owners voices n)) → (x < length (owners voices n) → Among voices (get_or (owners voices n) x 0) x)
        → Among voices (get_or (owners voices n ++ own) x 0) x
    go (yes l) among = rw (get_or-append (owners voices n) own 0 x l) (among l)
    go (no l) among =
        let below : x < length (owners voices n) + voices n = omega (arith, owners_next voices n) in
        let e : get_or (owners voices n ++ own) x 0 ≡ n =
        get_or-append_right (owners voices n) own (length (owners voices n)) x 0 refl (omega arith)
        ∙ get_or-replicate (voices n) (x - length (owners voices n)) n 0 (omega arith) in
        rw e (omega arith, below)

-- the episode that it is one of is its owner
pub among_owner : (voices : ℕ → ℕ) (n v x : ℕ) → v < n → Among voices v x → (x < length (owners voices n)) × (get_or (owners voices n) x 0 ≡ v)
among_owner voices n v x h (lo, hi) =
    let at : length (owners voices v) + (x - length (owners voices v)) ≡ x = omega arith in
    rw at at (item_of (record { n = n; links = []; voices = voices }) v (x - length (owners voices v)) h (omega arith))
