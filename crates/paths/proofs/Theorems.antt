-- What is proved of graphs with voices, each statement in full; the proofs are in the modules that are named. The definitions are those of
-- specs/Graph.antt, specs/Items.antt, specs/OneVoice.antt, specs/Trimmed.antt and, in the crate `order`, of specs/Order.antt.
use mathlib.Core.Path.{◌≡◌, refl, sym, ◌∙◌}
use mathlib.Core.Logic.{◌⊎◌, ◌↔◌}
use mathlib.Core.Bool.{Bool}
use mathlib.Core.List.{List, ◌∷◌, map, Memᴰ as Mem, Nodup}
use Prim.Native.Nat.{ℕ, ◌+◌, ◌-◌, ◌*◌, ◌/◌, ◌≤◌, ◌<◌}
use native.Mathlib.Omega.{arith}
use lib.ListN.{length}
use Rattle.order.specs.Order.{All, On, StrictOrder, Chain, HoldsOne, Dilworth}
use Rattle.order.proofs.Dilworth as Order-dilworth
use Rattle.paths.specs.Graph.{
  Graph,
  Episode,
  Link,
  EndsBelow,
  SameLinks,
  Way,
  Acyclic,
  Thread,
  Cover,
  Apart,
  Smallest,
  Heaviest,
  Width,
  Furthest,
  Rising,
  Loop,
  member,
  passing_threads,
  weight,
  total_steps,
}
use Rattle.paths.specs.OneVoice as one
use Rattle.paths.specs.OneVoice.{OneVoice}
use Rattle.paths.specs.Items.{item_count, owner, first_item, ItemWay, by_voices}
use Rattle.paths.specs.Links.{link_count}
use Rattle.paths.specs.Passing.{passing}
use Rattle.paths.specs.Trimmed.{SameWays, Stays, Trimmed}
use Rattle.paths.proofs.Ways as Ways
use Rattle.paths.proofs.Threads as Threads
use Rattle.paths.proofs.Numbers as Numbers
use Rattle.paths.proofs.Duality as Duality
use Rattle.paths.proofs.Furthest as Furthest-one
use Rattle.paths.proofs.Fits as Fits
use Rattle.paths.proofs.Loops as Loops
use Rattle.paths.proofs.Same as Same
use Rattle.paths.proofs.Links as Links
use Rattle.paths.proofs.Trimming as Trimming
use Rattle.paths.proofs.Items as Items
use Rattle.paths.proofs.OneVoice as One-voice

-- 1. Weak duality: an apart set has at most as many voices as any cover has threads, in a graph with loops too.
pub weak_duality : {g : Graph} (ts : List (List ℕ)) (s : List ℕ) → Cover g ts → Apart g s → weight g s ≤ length ts
weak_duality = Duality.weak_duality

-- Where the two numbers are equal, every thread of the cover holds exactly one member.
pub one_member_each : {g : Graph} (ts : List (List ℕ)) (s : List ℕ) → Cover g ts → Apart g s → length ts ≡ weight g s
    → All (HoldsOne s) ts
one_member_each = Duality.holds_one

-- And each member is passed by exactly as many threads as it has voices.
pub as_many_threads : {g : Graph} (ts : List (List ℕ)) (s : List ℕ) → Cover g ts → Apart g s → length ts ≡ weight g s
    → (v : ℕ) → Mem v s → passing_threads v ts ≡ g.voices v
as_many_threads = Duality.as_many_threads

-- 2. Dilworth's theorem: over any type with decidable equality, for any decidable strict order and any list, there are chains that
-- part the list among them and an antichain in it, as many as each other.
pub dilworth : {A : Type 0} {R : A → A → Type 0} → Discrete A → ((a b : A) → Dec (R a b)) → StrictOrder R
    → (X : List A) → Dilworth R X
dilworth = Order-dilworth.dilworth

-- 3. Whether one episode has a way to another can be decided.
pub way_decidable : (g : Graph) → EndsBelow g → (a b : ℕ) → Dec (Way g a b)
way_decidable = Ways.dec_way

-- 4. A chain of ways becomes a thread that starts with the chain's first episode and holds all of them.
pub chain_to_thread : {g : Graph} → EndsBelow g → {a : ℕ} {l : List ℕ} → Chain (Way g) (a ∷ l) → All (Episode g) (a ∷ l)
    → (m : List ℕ) × Thread g (a ∷ m) × All (λ v. Mem v (a ∷ m)) (a ∷ l)
chain_to_thread ends = Threads.chain_thread ends

-- So an acyclic graph has a cover and an apart set of equal number.
pub equal_pair : (g : Graph) → EndsBelow g → Acyclic g
    → (ts : List (List ℕ)) × (s : List ℕ) × Cover g ts × Apart g s × (length ts ≡ weight g s)
equal_pair g ends acyclic =
    let c = Duality.certificate ends acyclic in
    (c.threads, c.apart, c.is_cover, c.is_apart, c.same)

-- 5. Duality: of a cover and an apart set the numbers are equal exactly when no cover has fewer threads and no apart set more voices.
pub duality : (g : Graph) → EndsBelow g → Acyclic g → (ts : List (List ℕ)) (s : List ℕ) → Cover g ts → Apart g s
    → (length ts ≡ weight g s) ↔ (Smallest g ts × Heaviest g s)
duality g = Duality.duality

-- The width is one number, every acyclic graph has it, and it is the weight of the heaviest apart set too.
pub width_unique : {g : Graph} (k j : ℕ) → Width g k → Width g j → k ≡ j
width_unique k j (ts, cover, smallest, e) (us, cover', smallest', e') =
    let h : length ts ≤ length us = smallest us cover' in
    let h' : length us ≤ length ts = smallest' ts cover in
    omega arith

pub width_exists : (g : Graph) → EndsBelow g → Acyclic g → (k : ℕ) × Width g k
width_exists g ends acyclic =
    let (ts, s, cover, apart, same) = equal_pair g ends acyclic in
    (length ts, (ts, cover, Duality.equal_smallest ts s apart same, refl))

pub width_heaviest : (g : Graph) → EndsBelow g → Acyclic g → (k : ℕ) (s : List ℕ) → Width g k → Apart g s
    → (weight g s ≡ k) ↔ Heaviest g s
width_heaviest g ends acyclic k s (ts, cover, smallest, e) apart = (
  λ same. Duality.equal_heaviest ts s cover (e ∙ sym same),
  λ heaviest. sym ((duality g ends acyclic ts s cover apart).1 (smallest, heaviest)) ∙ e,
)

-- 6. One furthest: two rising furthest apart sets are equal.
pub one_furthest : (g : Graph) → Acyclic g → (s r : List ℕ) → Furthest g s → Furthest g r → Rising s → Rising r → s ≡ r
one_furthest g = Furthest-one.furthest_unique

-- 7. Different numbers below n are at most n.
pub different_below : (n : ℕ) (l : List ℕ) → Nodup l → All (λ v. v < n) l → length l ≤ n
different_below = Numbers.nodup_below

-- The episodes of a thread of an acyclic graph are all different.
pub thread_different : {g : Graph} → Acyclic g → {t : List ℕ} → Thread g t → Nodup t
thread_different acyclic = Fits.thread_nodup acyclic

-- A thread of c episodes and an apart set of s give c + s ≤ n + 1.
pub thread_and_apart : {g : Graph} → Acyclic g → (t s : List ℕ) → Thread g t → Apart g s → length t + length s ≤ g.n + 1
thread_and_apart = Fits.thread_apart_le

-- k × (m - k) is at most m × m / 4 rounded down, for m = n + 1 in a report.
pub product_bound : (k m : ℕ) → k ≤ m → k * (m - k) ≤ m * m / 4
product_bound = Fits.product_le

-- A report's words, the width, the apart episodes, for each thread its length and its steps, and the end, fit 2 + 2n + q where every episode has
-- one voice, and 2 + 3n + 2q where none has more than two.
pub report_fits_one : {g : Graph} → Acyclic g → (ts : List (List ℕ)) (s : List ℕ) → OneVoice g → Cover g ts → Apart g s
    → length ts ≡ weight g s → 1 + length s + (length ts + total_steps ts) + 1 ≤ 2 + 2 * g.n + (g.n + 1) * (g.n + 1) / 4
report_fits_one = Fits.report_fits_one

pub report_fits_two : {g : Graph} → Acyclic g → (ts : List (List ℕ)) (s : List ℕ) → ((v : ℕ) → Episode g v → g.voices v ≤ 2) → Cover g ts
    → Apart g s → length ts ≡ weight g s
    → 1 + length s + (length ts + total_steps ts) + 1 ≤ 2 + 3 * g.n + 2 * ((g.n + 1) * (g.n + 1) / 4)
report_fits_two = Fits.report_fits_two

-- 8. A graph is acyclic exactly when it has no loop.
pub acyclic_no_loop : (g : Graph) → EndsBelow g → Acyclic g ↔ ((c : List ℕ) → Loop g c → ⊥)
acyclic_no_loop g = Loops.acyclic_no_loop

-- From a way from an episode to itself a loop can be had, and a loop is such a way.
pub way_to_loop : (g : Graph) → EndsBelow g → {v : ℕ} → Way g v v → (c : List ℕ) × Loop g c
way_to_loop g ends = Loops.way_loop ends

pub loop_to_way : {g : Graph} {c : List ℕ} (o : Loop g c) → Way g o.first o.first
loop_to_way = Loops.loop_way

-- Different episodes have different links, so a loop has at most as many episodes as there are links.
pub loop_few : {g : Graph} {c : List ℕ} → Loop g c → length c ≤ length g.links
loop_few = Loops.loop_few

-- Every graph is acyclic or has a loop.
pub acyclic_or_loop : (g : Graph) → EndsBelow g → Acyclic g ⊎ ((c : List ℕ) × Loop g c)
acyclic_or_loop g = Loops.acyclic_or_loop

-- 9. Graphs with the same episodes, as many voices and the same set of links have the same ways, covers, apart sets, width, furthest sets and loops.
pub same_ways : {g h : Graph} → SameLinks g h → (a b : ℕ) → Way g a b ↔ Way h a b
same_ways = Same.same_ways

pub same_covers : {g h : Graph} → SameLinks g h → (ts : List (List ℕ)) → Cover g ts ↔ Cover h ts
same_covers = Same.same_covers

pub same_apart : {g h : Graph} → SameLinks g h → (s : List ℕ) → Apart g s ↔ Apart h s
same_apart = Same.same_apart

pub same_width : {g h : Graph} → SameLinks g h → (k : ℕ) → Width g k ↔ Width h k
same_width = Same.same_width

pub same_furthest : {g h : Graph} → SameLinks g h → (s : List ℕ) → Furthest g s ↔ Furthest h s
same_furthest = Same.same_furthest

pub same_loops : {g h : Graph} → SameLinks g h → (c : List ℕ) → Loop g c ↔ Loop h c
same_loops = Same.same_loops

-- A graph with the same episodes, none with more voices, and all links of another, and perhaps more, has its covers.
pub more_cover : {g h : Graph} → g.n ≡ h.n → ((v : ℕ) → Episode g v → h.voices v ≤ g.voices v) → ((a b : ℕ) → Link g a b → Link h a b)
    → (ts : List (List ℕ)) → Cover g ts → Cover h ts
more_cover episodes voices link ts = Same.more_cover episodes link voices

-- 10. Graphs with the same episodes, as many voices and the same ways: if one is acyclic so is the other, they have the same apart sets and
-- furthest sets, and acyclic ones the same width.
pub ways_acyclic : {g h : Graph} → SameWays g h → Acyclic g → Acyclic h
ways_acyclic = Same.ways_acyclic

pub ways_apart : {g h : Graph} → SameWays g h → (s : List ℕ) → Apart g s ↔ Apart h s
ways_apart = Same.ways_apart

pub ways_furthest : {g h : Graph} → SameWays g h → (s : List ℕ) → Furthest g s ↔ Furthest h s
ways_furthest = Same.ways_furthest

pub ways_width : {g h : Graph} → EndsBelow g → EndsBelow h → Acyclic g → SameWays g h → (k : ℕ) → Width g k ↔ Width h k
ways_width = Trimming.ways_width

-- 11. Trimming. A link stays exactly when no episode lies between its ends: none to which the first has a way and which has a way to the
-- last. Whether it stays can be decided.
pub stays_exactly : {g : Graph} → EndsBelow g → (a b : ℕ)
    → Stays g a b ↔ (Link g a b × ((c : ℕ) → Way g a c → Way g c b → ⊥))
stays_exactly ends a b = Trimming.stays_exactly ends

pub stays_decidable : (g : Graph) (a b : ℕ) → Dec (Stays g a b)
stays_decidable = Trimming.dec_stays

-- The links that stay of an acyclic graph have the same ways as all links.
pub trimmed_ways : {g h : Graph} → EndsBelow g → Acyclic g → Trimmed g h → SameWays g h
trimmed_ways = Trimming.trimmed_ways

-- They are the least: every graph with the same ways has each of them.
pub trimmed_least : {g h : Graph} → EndsBelow g → SameWays g h → (a b : ℕ) → Stays g a b → Link h a b
trimmed_least ends same a b = Trimming.stays_link ends same

-- So graphs with the same ways, trimmed, have the same links.
pub ways_trimmed : {g h g' h' : Graph} → EndsBelow g → EndsBelow h → SameWays g h → Trimmed g g' → Trimmed h h' → SameLinks g' h'
ways_trimmed = Trimming.ways_trimmed

-- 12. The link count is the length of every list without repeats that has exactly the graph's links.
pub count_listed : (g : Graph) (ls : List (ℕ × ℕ)) → Nodup ls → ((a b : ℕ) → Mem {A = ℕ × ℕ} (a, b) ls ↔ Link g a b)
    → length ls ≡ link_count g
count_listed = Links.count_listed

-- Such a list is there.
pub count_list : (g : Graph)
    → (ls : List (ℕ × ℕ)) × Nodup ls × ((a b : ℕ) → Mem {A = ℕ × ℕ} (a, b) ls ↔ Link g a b) × (length ls ≡ link_count g)
count_list = Links.count_list

-- It is at most the number of links with their repeats, and as much exactly when none is repeated.
pub count_few : (g : Graph) → link_count g ≤ length g.links
count_few = Links.count_few

pub count_once : (g : Graph) → (link_count g ≡ length g.links) ↔ Nodup g.links
count_once = Links.count_once

-- A graph that has each link of another has at least its count, so graphs with the same links have the same count.
pub count_more : (g h : Graph) → ((a b : ℕ) → Link g a b → Link h a b) → link_count g ≤ link_count h
count_more = Links.count_more

pub count_same : {g h : Graph} → SameLinks g h → link_count g ≡ link_count h
count_same = Links.count_same

-- 13. Items. Each item has an episode with voices as its owner, and the items of an episode stand behind each other, as many as it has voices.
pub owner_voiced : (g : Graph) (x : ℕ) → x < item_count g → (owner g x < g.n) × (1 ≤ g.voices (owner g x))
owner_voiced g x h = (Items.owner_below g x h, Items.owner_voiced g x h)

pub item_of : (g : Graph) (v j : ℕ) → Episode g v → j < g.voices v
    → (first_item g v + j < item_count g) × (owner g (first_item g v + j) ≡ v)
item_of = Items.item_of

-- Item ways of an acyclic graph are a strict order.
pub item_order : (g : Graph) → Acyclic g → StrictOrder (ItemWay g)
item_order = Items.item_order

-- Where every item is on one of some chains of items, threads that hold their owners are a cover.
pub filled_cover : (g : Graph) → Acyclic g → (cs ts : List (List ℕ)) → All (Chain (ItemWay g)) cs
    → ((x : ℕ) → x < item_count g → On cs x) → Items.Filled g cs ts → Cover g ts
filled_cover g = Duality.filled_cover

-- Chains of items can be filled to as many threads.
pub fill : (g : Graph) → EndsBelow g → (cs : List (List ℕ)) → All (Chain (ItemWay g)) cs → All (All (λ x. x < item_count g)) cs
    → (ts : List (List ℕ)) × Items.Filled g cs ts × (length ts ≡ length cs)
fill = Items.fill

-- Where items of one owner pass a test together, the owners of those that pass are the episodes whose first item passes, each as often as it has
-- voices.
pub passing_owners : (g : Graph) (test : ℕ → Bool)
    → ((x y : ℕ) → x < item_count g → y < item_count g → owner g x ≡ owner g y → test x ≡ test y)
    → map (owner g) (passing test (item_count g)) ≡ by_voices g.voices (passing (Items.first_passes g test) g.n)
passing_owners = Items.passing_owners

-- The items of different episodes are as many as these have voices.
pub items_weight : (g : Graph) (r : List ℕ) → Nodup r → All (Episode g) r
    → length (passing (λ x. member (owner g x) r) (item_count g)) ≡ weight g r
items_weight = Items.items_weight

-- An apart set, each member as often as it has voices, is as long as the set is heavy.
pub by_voices_length : (g : Graph) (s : List ℕ) → length (by_voices g.voices s) ≡ weight g s
by_voices_length = Items.by_voices_length

-- 14. One voice. Where every episode has one voice, covers, apart sets, smallest covers, largest apart sets, the width and the furthest sets are
-- those of the scope's own text.
pub one_cover : {g : Graph} → OneVoice g → (ts : List (List ℕ)) → Cover g ts ↔ one.Cover g ts
one_cover = One-voice.one_cover

pub one_apart : {g : Graph} → OneVoice g → (s : List ℕ) → Apart g s ↔ one.Apart g s
one_apart = One-voice.one_apart

pub one_weight : (g : Graph) → OneVoice g → (s : List ℕ) → All (Episode g) s → weight g s ≡ length s
one_weight = One-voice.one_weight

pub one_smallest : {g : Graph} → OneVoice g → (ts : List (List ℕ)) → Smallest g ts ↔ one.Smallest g ts
one_smallest = One-voice.one_smallest

pub one_largest : {g : Graph} → OneVoice g → (s : List ℕ) → All (Episode g) s → Heaviest g s ↔ one.Largest g s
one_largest = One-voice.one_largest

pub one_width : {g : Graph} → OneVoice g → (k : ℕ) → Width g k ↔ one.Width g k
one_width = One-voice.one_width

pub one_furthest_too : {g : Graph} → OneVoice g → (s : List ℕ) → Furthest g s ↔ one.Furthest g s
one_furthest_too = One-voice.one_furthest_too
