-- The links of a copy's groups: each link between episodes, once. So the copy is at most as long as `fair_need` says.
use mathlib.Core.Path.{◌≡◌, refl, sym, ap}
use mathlib.Core.HLevel.{×_discrete}
use mathlib.Core.Logic.{inl, inr, ⊎_elim}
use mathlib.Core.List.Memᴰ
use mathlib.Core.List.Memᴰ.{append_cases}
use mathlib.Core.List.Memᴰ.{not-nil}
use mathlib.Core.List.Pairwise
use mathlib.Core.List.{
  List,
  [],
  ◌∷◌,
  ◌++◌,
  map,
  Memᴰ as Mem,
  Nodup,
  IsChain,
}
use mathlib.Mathlib.Data.List.Chain.{IsChain-map_of_IsChain}
use Prim.Native.Nat.{ℕ, zero, suc, ◌*◌, ◌<◌, ◌≤◌}
use native.Mathlib.Decide.{ℕ_discrete}
use native.Mathlib.Omega.{arith}
use lib.ListN.{length, length-append, length-map}
use Rattle.order.proofs.Lists.{nodup_cons, nodup_head, nodup_tail, nodup_append, nodup_le, chain_append}
use Rattle.paths.specs.Graph.{Graph, Link, EndsBelow, Rising}
use Rattle.paths.specs.Links.{linked, link_count}
use Rattle.paths.proofs.Links.{count_listed}
use Rattle.paths.proofs.Passing.{passing_nodup, passing_rising}
use Rattle.copying.specs.FairCopy.{linked_to, groups, group_links, voices_words, copy_words, Precedes, fair_need}
use Rattle.copying.proofs.Linked.{linked_to_mem, mem_linked_to, length_group_le, length_copy}

-- the links from `a` to the members of a list
abbrev pub links_of : ℕ → List ℕ → List (ℕ × ℕ)
links_of a bs = map (λ (b : ℕ). (a, b)) bs

links_of_mem : (a b c : ℕ) (bs : List ℕ) → Mem {A = ℕ × ℕ} (b, c) (links_of a bs) → (b ≡ a) × Mem c bs
links_of_mem a b c bs m =
    let r = Memᴰ.of_map (λ (d : ℕ). (a, d)) bs m in
    (sym (ap (λ (v : ℕ × ℕ). v.0) r.2), Memᴰ.cast (sym (ap (λ (v : ℕ × ℕ). v.1) r.2)) r.1)

links_of_nodup : (a : ℕ) (bs : List ℕ) → Nodup bs → Nodup (links_of a bs)
links_of_nodup a [] p = Pairwise.nil
links_of_nodup a (b ∷ bs) p = nodup_cons (λ m. nodup_head p (links_of_mem a a b bs m).1) (links_of_nodup a bs (nodup_tail p))

links_of_rising : (a : ℕ) (bs : List ℕ) → Rising bs → IsChain Precedes (links_of a bs)
links_of_rising a bs = IsChain-map_of_IsChain (λ (b : ℕ). (a, b)) (λ b c h. inr (refl, h))

module _ (g : Graph) where
  -- the links of the groups below `k` are the graph's links between episodes, from episodes below `k`
  pub group_links_mem : (k a b : ℕ) → Mem {A = ℕ × ℕ} (a, b) (group_links g k) → (a < k) × (b < g.n) × Link g a b
  unfolding group_links
  group_links_mem zero a b m = absurd (not-nil m)
  group_links_mem (suc k) a b m =
      ⊎_elim
      (λ l. let r = group_links_mem k a b l in (omega (arith, r.0), r.1, r.2))
      (λ l.
      let r = links_of_mem k a b (linked_to k g.links g.n) l in
      let t = linked_to_mem k g.links b g.n r.1 in
      (omega (arith, r.0), t.0, rw r.0 t.1))
      (append_cases (group_links g k) m)

  pub mem_group_links : (k a b : ℕ) → a < k → b < g.n → Link g a b → Mem {A = ℕ × ℕ} (a, b) (group_links g k)
  unfolding group_links
  mem_group_links zero a b h i m = absurd (omega arith)
  mem_group_links (suc k) a b h i m = go (ℕ_discrete a k) (λ l. mem_group_links k a b l i m)
    where
      go : Dec (a ≡ k) → (a < k → Mem {A = ℕ × ℕ} (a, b) (group_links g k))
          → Mem {A = ℕ × ℕ} (a, b) (group_links g k ++ links_of k (linked_to k g.links g.n))
      go (yes e) more =
          Memᴰ.append_right (group_links g k)
          (rw e (Memᴰ.map (λ (c : ℕ). (k, c)) (mem_linked_to k g.links b g.n i (rw e at m))))
      go (no e) more = Memᴰ.append_left (links_of k (linked_to k g.links g.n)) (more (omega arith))

  -- no link twice
  pub group_links_nodup : (k : ℕ) → Nodup (group_links g k)
  unfolding group_links
  group_links_nodup zero = Pairwise.nil
  group_links_nodup (suc k) =
      nodup_append (group_links g k) (links_of k (linked_to k g.links g.n)) (group_links_nodup k)
      (links_of_nodup k (linked_to k g.links g.n) (passing_nodup (λ b. linked k b g.links) g.n))
      (λ l m i.
      let low = (group_links_mem k l.0 l.1 m).0 in
      let same = (links_of_mem k l.0 l.1 (linked_to k g.links g.n) i).0 in
      omega arith)

  -- they rise, by the earlier episode and then by the later one
  pub group_links_rising : (k : ℕ) → IsChain Precedes (group_links g k)
  unfolding group_links
  group_links_rising zero = IsChain.nil
  group_links_rising (suc k) =
      let bs : List ℕ = linked_to k g.links g.n in
      chain_append (group_links_rising k) (links_of_rising k bs (passing_rising (λ b. linked k b g.links) g.n))
      (λ l m i j.
      let low = (group_links_mem k l.0 l.1 i).0 in
      let same = (links_of_mem k m.0 m.1 bs j).0 in
      inl (omega arith))

  -- so there are at most as many as the graph has
  pub length_group_links : (k : ℕ) → length (group_links g k) ≤ length g.links
  length_group_links k =
      nodup_le (×_discrete ℕ_discrete ℕ_discrete) (group_links g k) g.links (group_links_nodup k)
      (λ l m. (group_links_mem k l.0 l.1 m).2)

  -- where each link joins episodes they are the different links
  pub group_links_count : EndsBelow g → length (group_links g g.n) ≡ link_count g
  group_links_count ends =
      count_listed g (group_links g g.n) (group_links_nodup g.n)
      (λ a b. (λ m. (group_links_mem g.n a b m).2, λ k. mem_group_links g.n a b (ends a b k).0 (ends a b k).1 k))

  -- each group has at most two words for each of its links
  pub length_groups : (pause : ℕ → ℕ → ℕ) (k : ℕ) → length (groups pause g k) ≤ 2 * length (group_links g k)
  unfolding groups group_links
  length_groups pause zero = omega arith
  length_groups pause (suc k) =
      simp (length-append, length-map) (omega (arith, length_groups pause k, length_group_le k (pause k) (linked_to k g.links g.n)))

  pub copy_words_fit : (v : ℕ) (pause : ℕ → ℕ → ℕ) → length (copy_words v pause g) ≤ fair_need (length g.links) (length (voices_words g.voices g.n))
  copy_words_fit v pause = omega (arith, length_copy pause g v, length_groups pause g.n, length_group_links g.n)
