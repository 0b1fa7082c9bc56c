-- Chains of items, kept in tables, and the search that joins two of them. The items are 0 to m - 1. `R a b` says that `b` may stand
-- behind `a` on a chain.
use Rattle.std.specs.Prelude.{◌≡◌, Bool, true, false, ◌&&◌, ◌⊎◌, ◌≢◌, List, ℕ, ◌+◌, ◌-◌, ◌≤◌, ◌<◌, eqb}
use Rattle.paths.specs.Passing.{passing}

-- `next a` is the item behind `a` on its chain and `prev b` the item before `b`, each plus one, or 0 where there is none. `queue p` is
-- the item at place p of a search's queue; `seen b` is 1 where the search has seen b, and `via b` is then, plus one, the place in the
-- queue from which it was seen.
pub record Tables : Type 0 where
  pub next : ℕ → ℕ
  pub prev : ℕ → ℕ
  pub via : ℕ → ℕ
  pub queue : ℕ → ℕ
  pub seen : ℕ → ℕ

-- the chains are sound, an item is behind another exactly when that one is before it: a matching
pub record Matching (m : ℕ) (t : Tables) : Type 0 where
  pub next_le : (a : ℕ) → a < m → t.next a ≤ m
  pub prev_le : (b : ℕ) → b < m → t.prev b ≤ m
  pub there : (a b : ℕ) → a < m → b < m → t.next a ≡ b + 1 → t.prev b ≡ a + 1
  pub back : (a b : ℕ) → a < m → b < m → t.prev b ≡ a + 1 → t.next a ≡ b + 1

-- The state of a pass that pairs items as they come: what stands behind an item the item has in R, the items from `a` on have none behind
-- them yet, and what is not seen has none before it.
pub record Pairing (m : ℕ) (R : ℕ → ℕ → Type 0) (t : Tables) (a : ℕ) : Type 0 where
  pub matching : Matching m t
  pub pairs : (x y : ℕ) → x < m → y < m → t.next x ≡ y + 1 → R x y
  pub next_none : (x : ℕ) → a ≤ x → x < m → t.next x ≡ 0
  pub prev_none : (y : ℕ) → y < m → t.seen y ≡ 0 → t.prev y ≡ 0

-- from `a` one comes to `b` along the chain, in no step or more
pub data Steps (next : ℕ → ℕ) : ℕ → ℕ → Type 0 where
  stay : {a : ℕ} → Steps next a a
  go : {a b c : ℕ} → next a ≡ b + 1 → Steps next b c → Steps next a c

-- `a` ends its chain, or the item behind it is seen
abbrev pub Open : ℕ → Tables → ℕ → Type 0
Open m t a = (t.next a ≡ 0) ⊎ ((b : ℕ) × (b < m) × (t.next a ≡ b + 1) × (t.seen b ≡ 1))

-- What an alternating walk leads to: it starts at an item that ends its chain, goes along R, and from an item to the one before it.
pub data Reached (m : ℕ) (R : ℕ → ℕ → Type 0) (next : ℕ → ℕ) : ℕ → Type 0 where
  from_end : {a b : ℕ} → a < m → b < m → next a ≡ 0 → R a b → Reached m R next b
  from_next : {a b c : ℕ} → a < m → b < m → c < m → next a ≡ c + 1 → Reached m R next c → R a b → Reached m R next b

-- R without the pairs of those items that end a chain and are not below `k`
abbrev pub Before : ℕ → (ℕ → ℕ) → (ℕ → ℕ → Type 0) → ℕ → ℕ → Type 0
Before k next R a b = (next a ≡ 0 → a < k) × R a b

-- `a` ends its chain and is below `k`, or the item behind it is dead
abbrev pub Spent : ℕ → Tables → (ℕ → ℕ) → ℕ → ℕ → Type 0
Spent m t dead k a = ((a < k) × (t.next a ≡ 0)) ⊎ ((c : ℕ) × (c < m) × (t.next a ≡ c + 1) × (dead c ≡ 1))

-- The items below `k` that end a chain have been searched from in vain: what can be reached from them is dead, and each of it has an item
-- before it.
pub record Dead (m : ℕ) (R : ℕ → ℕ → Type 0) (t : Tables) (dead : ℕ → ℕ) (k : ℕ) : Type 0 where
  pub closed : (a b : ℕ) → a < m → b < m → Spent m t dead k a → R a b → dead b ≡ 1
  pub kept : (b : ℕ) → b < m → dead b ≡ 1 → 0 < t.prev b
  pub sound : (b : ℕ) → b < m → dead b ≡ 1 → Reached m (Before k t.next R) t.next b

-- All items that end a chain have been searched from in vain: what is seen is all that can be reached, and each of it has an item before it.
pub record Exhausted (m : ℕ) (R : ℕ → ℕ → Type 0) (t : Tables) : Type 0 where
  pub closed : (a b : ℕ) → a < m → b < m → Open m t a → R a b → t.seen b ≡ 1
  pub kept : (b : ℕ) → b < m → t.seen b ≡ 1 → 0 < t.prev b
  pub sound : (b : ℕ) → b < m → t.seen b ≡ 1 → Reached m R t.next b

-- `b` was seen from a place of the queue before `tail`
abbrev pub SeenFrom : (ℕ → ℕ → Type 0) → Tables → ℕ → ℕ → Type 0
SeenFrom R t tail b = (p : ℕ) × (p < tail) × (t.via b ≡ p + 1) × R (t.queue p) b

-- The state of a search from the item at place 0 of the queue. What was dead before it is seen. The queue holds that item and those
-- whose next is seen and was not dead; those before `head` have shown all that they have in R, and the one at `head` what of it is
-- below `from`.
pub record Searching (m : ℕ) (R : ℕ → ℕ → Type 0) (dead : ℕ → ℕ) (t : Tables) (head from tail : ℕ) : Type 0 where
  pub head_le : head ≤ tail
  pub tail_le : tail ≤ m
  pub queued : (p : ℕ) → p < tail → t.queue p < m
  pub different : (p q : ℕ) → p < tail → q < tail → t.queue p ≡ t.queue q → p ≡ q
  pub opened : (p : ℕ) → p < tail
      → ((p ≡ 0) × (t.next (t.queue p) ≡ 0))
      ⊎ ((b : ℕ) × (b < m) × (t.next (t.queue p) ≡ b + 1) × (t.seen b ≡ 1) × (dead b ≢ 1) × (t.via b ≤ p))
  pub all_open : (a b : ℕ) → a < m → b < m → t.next a ≡ b + 1 → t.seen b ≡ 1 → dead b ≢ 1 → (p : ℕ) × (p < tail) × (t.queue p ≡ a)
  pub old : (b : ℕ) → b < m → dead b ≡ 1 → t.seen b ≡ 1
  pub kept : (b : ℕ) → b < m → t.seen b ≡ 1 → 0 < t.prev b
  pub came : (b : ℕ) → b < m → t.seen b ≡ 1 → dead b ≢ 1 → SeenFrom R t tail b
  pub shown : (p b : ℕ) → p < head → b < m → R (t.queue p) b → t.seen b ≡ 1
  pub showing : (b : ℕ) → b < from → b < m → R (t.queue head) b → t.seen b ≡ 1

-- two tables with the same chains
pub record SameChains (m : ℕ) (t t' : Tables) : Type 0 where
  pub next_same : (a : ℕ) → a < m → t'.next a ≡ t.next a
  pub prev_same : (b : ℕ) → b < m → t'.prev b ≡ t.prev b

-- `b` becomes seen from the place `head`; where it has an item before it, that goes into the queue at `tail`.
pub record Saw (m : ℕ) (t t' : Tables) (head b tail : ℕ) : Type 0 where
  pub next_same : (a : ℕ) → a < m → t'.next a ≡ t.next a
  pub prev_same : (a : ℕ) → a < m → t'.prev a ≡ t.prev a
  pub via_here : t'.via b ≡ head + 1
  pub via_other : (c : ℕ) → c < m → c ≢ b → t'.via c ≡ t.via c
  pub queue_same : (p : ℕ) → p < tail → t'.queue p ≡ t.queue p
  pub queue_last : 0 < t.prev b → t'.queue tail + 1 ≡ t.prev b
  pub seen_here : t'.seen b ≡ 1
  pub seen_other : (c : ℕ) → c < m → c ≢ b → t'.seen c ≡ t.seen c

-- What a search leaves for going back: the item behind that at place `p` was not dead and was seen from an earlier place; only the one at
-- place 0 ends a chain.
pub record Trail (m : ℕ) (R : ℕ → ℕ → Type 0) (dead : ℕ → ℕ) (t : Tables) (tail : ℕ) : Type 0 where
  pub queued : (p : ℕ) → p < tail → t.queue p < m
  pub different : (p q : ℕ) → p < tail → q < tail → t.queue p ≡ t.queue q → p ≡ q
  pub earlier : (p b : ℕ) → p < tail → b < m → t.next (t.queue p) ≡ b + 1 → (dead b ≢ 1) × SeenFrom R t p b
  pub last : (p : ℕ) → p < tail → t.next (t.queue p) ≡ 0 → p ≡ 0

-- One chain fewer: the chains are sound again, what stands behind an item stood there before or the item has it in R, and of the items
-- that ended a chain one does so no longer.
pub record Shrunk (m : ℕ) (R : ℕ → ℕ → Type 0) (t t' : Tables) : Type 0 where
  pub matching : Matching m t'
  pub pairs : (a b : ℕ) → a < m → b < m → t'.next a ≡ b + 1 → (t.next a ≡ b + 1) ⊎ R a b
  pub ends : (a : ℕ) → a < m → t'.next a ≡ 0 → t.next a ≡ 0
  pub fewer : (a : ℕ) × (a < m) × (t.next a ≡ 0) × (0 < t'.next a)

-- It is the chain that `a` ended: the others still end where they did, and the dead items have the same items before them.
pub record Extended (m : ℕ) (R : ℕ → ℕ → Type 0) (dead : ℕ → ℕ) (t t' : Tables) (a : ℕ) : Type 0 where
  pub shrunk : Shrunk m R t t'
  pub dead_prev : (c : ℕ) → c < m → dead c ≡ 1 → t'.prev c ≡ t.prev c
  pub others : (x : ℕ) → x < m → x ≢ a → t.next x ≡ 0 → t'.next x ≡ 0
  pub joined : 0 < t'.next a

-- On the way there from `t₀`: no item stands before `b`, and the chains are sound elsewhere. The items of the queue's places up to
-- that from which `b` was seen have been left as they were.
pub record Flipping (m : ℕ) (R : ℕ → ℕ → Type 0) (dead : ℕ → ℕ) (t₀ t : Tables) (tail b : ℕ) : Type 0 where
  pub below : b < m
  pub new : dead b ≢ 1
  pub from : SeenFrom R t₀ tail b
  pub next_le : (a : ℕ) → a < m → t.next a ≤ m
  pub prev_le : (c : ℕ) → c < m → t.prev c ≤ m
  pub there : (a c : ℕ) → a < m → c < m → t.next a ≡ c + 1 → (c ≢ b) × (t.prev c ≡ a + 1)
  pub back : (a c : ℕ) → a < m → c < m → c ≢ b → t.prev c ≡ a + 1 → t.next a ≡ c + 1
  pub pairs : (a c : ℕ) → a < m → c < m → t.next a ≡ c + 1 → (t₀.next a ≡ c + 1) ⊎ R a c
  pub ends : (a : ℕ) → a < m → t.next a ≡ 0 → t₀.next a ≡ 0
  pub dead_prev : (c : ℕ) → c < m → dead c ≡ 1 → t.prev c ≡ t₀.prev c
  pub others : (x : ℕ) → x < m → x ≢ t₀.queue 0 → t₀.next x ≡ 0 → t.next x ≡ 0
  pub untouched : (q : ℕ) → q < t₀.via b → t.next (t₀.queue q) ≡ t₀.next (t₀.queue q)

-- `b` is put behind `a`
pub record Flipped (m : ℕ) (t t' : Tables) (a b : ℕ) : Type 0 where
  pub next_here : t'.next a ≡ b + 1
  pub next_other : (c : ℕ) → c < m → c ≢ a → t'.next c ≡ t.next c
  pub prev_here : t'.prev b ≡ a + 1
  pub prev_other : (c : ℕ) → c < m → c ≢ b → t'.prev c ≡ t.prev c

-- whether `v` ends its chain or the item behind it is seen
abbrev pub open_test : Tables → ℕ → Bool
open_test t v = elim (eqb (t.next v) 0) [ true ↦ true | false ↦ eqb (t.seen (t.next v - 1)) 1 ]

-- whether `v` is in the antichain that an exhausted search shows: open and not seen
abbrev pub member_test : Tables → ℕ → Bool
member_test t v = eqb (t.seen v) 0 && open_test t v

-- those below `k` that are in it, rising
abbrev pub members : Tables → ℕ → List ℕ
members t k = passing (member_test t) k
