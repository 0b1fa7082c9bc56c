-- The episodes that an episode is linked to, and the words of its group.
use mathlib.Core.Path.{◌≡◌, refl, ap}
use mathlib.Core.List.{List, [], ◌∷◌, ◌++◌, map, map_congr_left, Memᴰ as Mem}
use Prim.Native.Nat.{ℕ, zero, suc, ◌+◌, ◌*◌, ◌<◌, ◌≤◌}
use native.Mathlib.Decide.{ℕ_discrete}
use native.Mathlib.Nat.{ℕ_set}
use native.Mathlib.Numerals.{add-one}
use native.Mathlib.Omega.{arith}
use lib.ListN.{length, length-append, length-map}
use Rattle.order.specs.Order.{All}
use Rattle.paths.specs.Graph.{Graph}
use Rattle.paths.specs.Links.{linked}
use Rattle.paths.proofs.Links.{linked_mem, mem_linked}
use Rattle.paths.proofs.Passing.{passing_below, passing_test, test_passing}
use Rattle.logs.specs.Words.{word, to_word}
use Rattle.copying.specs.FairCopy.{linked_to, group, groups, group_links, voices_words, copy_words, copy_length}
use Rattle.copying.specs.Copying.{group_length}

module _ (a : ℕ) (ls : List (ℕ × ℕ)) where
  -- its members are the episodes below `k` that `a` is linked to
  pub linked_to_mem : (b k : ℕ) → Mem b (linked_to a ls k) → (b < k) × Mem {A = ℕ × ℕ} (a, b) ls
  linked_to_mem b k m = (passing_below (λ c. linked a c ls) k m, linked_mem a b ls (passing_test (λ c. linked a c ls) k m))

  pub mem_linked_to : (b k : ℕ) → b < k → Mem {A = ℕ × ℕ} (a, b) ls → Mem b (linked_to a ls k)
  mem_linked_to b k h m = test_passing (λ c. linked a c ls) k h (mem_linked a b ls m)

-- a group that is not empty has a from word, and a to word for each link
pub length_group : (a : ℕ) (pause : ℕ → ℕ) (bs : List ℕ) → length (group a pause bs) ≡ group_length (length bs)
unfolding group
length_group a pause [] = refl
length_group a pause (b ∷ bs) = omega (arith, length-map bs (λ (c : ℕ). to_word c (pause c)))

pub length_group_le : (a : ℕ) (pause : ℕ → ℕ) (bs : List ℕ) → length (group a pause bs) ≤ 2 * length bs
unfolding group
length_group_le a pause [] = omega arith
length_group_le a pause (b ∷ bs) = omega (arith, length-map bs (λ (c : ℕ). to_word c (pause c)))

-- and so more words than links
pub links_fewer : (a : ℕ) (pause : ℕ → ℕ) (bs : List ℕ) → length bs ≤ length (group a pause bs)
links_fewer a pause bs = go bs (length_group a pause bs)
  where
    go : (bs : List ℕ) → length (group a pause bs) ≡ group_length (length bs) → length bs ≤ length (group a pause bs)
    go [] e = omega arith
    go (b ∷ bs) e = omega arith

-- the words of links depend on their own pauses alone, and so does a group
pub links_same : (p q : ℕ → ℕ) (bs : List ℕ) → All (λ b. p b ≡ q b) bs → map (λ b. to_word b (p b)) bs ≡ map (λ b. to_word b (q b)) bs
links_same p q bs h = map_congr_left (λ c m. ∥∥₁_rec (ℕ_set _ _) (λ i. ap (to_word c) (h c i)) m)

pub group_same : (a : ℕ) (p q : ℕ → ℕ) (bs : List ℕ) → All (λ b. p b ≡ q b) bs → group a p bs ≡ group a q bs
unfolding group
group_same a p q [] h = refl
group_same a p q (b ∷ bs) h = ap (λ (ws : List ℕ). word 2 a ∷ ws) (links_same p q (b ∷ bs) h)

module _ (pause : ℕ → ℕ → ℕ) (g : Graph) where
  pub groups_more : (a : ℕ) → groups pause g (a + 1) ≡ groups pause g a ++ group a (pause a) (linked_to a g.links g.n)
  unfolding groups
  groups_more a = rw (add-one, groups)

  length_next : (a : ℕ) → length (groups pause g (suc a)) ≡ length (groups pause g a) + length (group a (pause a) (linked_to a g.links g.n))
  unfolding groups
  length_next a = length-append (groups pause g a) (group a (pause a) (linked_to a g.links g.n))

  -- the groups of fewer episodes have no more words
  pub length_groups_le : (a k : ℕ) → a ≤ k → length (groups pause g a) ≤ length (groups pause g k)
  length_groups_le a zero h = let none : a ≡ 0 = omega arith in rw none (omega arith)
  length_groups_le a (suc k) h = go (ℕ_discrete a (suc k)) (length_groups_le a k)
    where
      go : Dec (a ≡ suc k) → (a ≤ k → length (groups pause g a) ≤ length (groups pause g k))
          → length (groups pause g a) ≤ length (groups pause g (suc k))
      go (yes e) more = rw e (omega arith)
      go (no e) more = omega (arith, more (omega arith), length_next k)

  -- the head, the voices words, the groups and the end
  pub length_copy : (v : ℕ) → length (copy_words v pause g) ≡ copy_length pause g
  unfolding copy_words
  length_copy v =
      let end : List ℕ = word 15 (length (group_links g g.n)) ∷ [] in
      omega (arith, length-append (voices_words g.voices g.n ++ groups pause g g.n) end, length-append (voices_words g.voices g.n) (groups pause g g.n))

  -- where the group of `a` goes, there is room for it
  pub group_room : (a : ℕ) → a < g.n
      → length (groups pause g a) + length (group a (pause a) (linked_to a g.links g.n)) ≤ length (groups pause g g.n)
  group_room a h = omega (arith, length_next a, length_groups_le (suc a) g.n (omega arith))
