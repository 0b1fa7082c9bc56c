-- Dilworth's theorem by Galvin's induction. Take a minimal element `a` out of `X`, and let the rest, `Y`, have k chains and an
-- antichain of k. Of each chain drop elements from below as long as `Y` without what is left still has fewer than k chains. The
-- element that is then the chain's first is in an antichain of k, and these first elements, the heads, are an antichain themselves.
-- If `a` is before one of them, `a` goes in front of what is left of its chain, and fewer than k chains hold all others. If not, `a`
-- and the heads are an antichain of k + 1.
use mathlib.Core.Path.{◌≡◌, refl, sym, ◌∙◌, ap, subst}
use mathlib.Core.Logic.{◌≢◌, ◌⊎◌, inl, inr, ⊎_elim}
use mathlib.Core.HLevel.{⊥_prop, Π_prop}
use mathlib.Core.List.Memᴰ
use mathlib.Core.List.Memᴰ.{cases_cons as mem-cases}
use mathlib.Core.List.Memᴰ.{eq_of_singleton}
use mathlib.Core.List.Memᴰ.{head as here}
use mathlib.Core.List.Memᴰ.{not-nil}
use mathlib.Core.List.Memᴰ.{tail as there}
use mathlib.Core.List.Pairwise
use mathlib.Core.List.{
  List,
  [],
  ◌∷◌,
  Memᴰ as Mem,
  Nodup,
}
use Prim.Native.Nat.{ℕ, zero, suc, ◌≤◌, ◌<◌}
use native.Mathlib.Decide.{dec_lt}
use native.Mathlib.Omega.{arith}
use lib.ListN.{length}
use Rattle.order.specs.Order.{All, On, StrictOrder, Chain, single, more, Antichain, Disjoint, ChainPartition, Dilworth}
use Rattle.order.proofs.Lists.{
  all_nil,
  all_cons,
  on_there,
  dec_mem,
  find,
  nodup_cons,
  without,
  without_mem,
  mem_without,
  without_none,
  length_without,
  length_without_lt,
  others,
  others_mem,
  others_sublist,
  length_others,
  on_others,
}
use Rattle.order.proofs.Chains.{chain_tail, chain_first}
use Rattle.order.proofs.Pigeonhole.{antichain_le_chains}

module _ {A : Type 0} where
  disjoint_cons : {c : List A} {cs : List (List A)} → ((d : List A) → Mem d cs → (x : A) → Mem x c → Mem x d → ⊥) → Disjoint cs
      → Disjoint (c ∷ cs)
  disjoint_cons h p = Pairwise.cons (λ d m. ∥∥₁_rec (Π_prop (λ x. Π_prop (λ xc. Π_prop (λ xd. ⊥_prop)))) (h d) m) p

  -- two different ones of disjoint lists share nothing
  disjoint_apart : {x : A} {c d : List A} {cs : List (List A)} → Disjoint cs → Mem c cs → Mem d cs → c ≢ d → Mem x c → Mem x d → ⊥
  disjoint_apart Pairwise.nil m n ne xc xd = not-nil m
  disjoint_apart {x} {c} {d} (Pairwise.cons {a = b} {l = cs} h p) m n ne xc xd = go (disjoint_apart p) (mem-cases m) (mem-cases n)
    where
      go : (Mem c cs → Mem d cs → c ≢ d → Mem x c → Mem x d → ⊥) → (c ≡ b) ⊎ Mem c cs → (d ≡ b) ⊎ Mem d cs → ⊥
      go rest (inl e) (inl f) = ne (e ∙ sym f)
      go rest (inl e) (inr n') = h d ∣ n' ∣₁ x (subst (λ (l : List A). Mem x l) e xc) xd
      go rest (inr m') (inl f) = h c ∣ m' ∣₁ x (subst (λ (l : List A). Mem x l) f xd) xc
      go rest (inr m') (inr n') = rest m' n' ne xc xd

-- fewer than `k` chains that part `X` among them
record Few {A : Type 0} (R : A → A → Type 0) (X : List A) (k : ℕ) : Type 0 where
  chains : List (List A)
  partition : ChainPartition R X chains
  fewer : length chains < k

-- an antichain in `X` of `k` members or more
record Many {A : Type 0} (R : A → A → Type 0) (X : List A) (k : ℕ) : Type 0 where
  antichain : List A
  is_antichain : Antichain R antichain
  within : All (λ x. Mem x X) antichain
  enough : k ≤ length antichain

-- What is left of the chain `c` of `Y`: it starts with `h`, which is in an antichain of `k`, and `Y` without it has fewer than `k` chains.
record Cut {A : Type 0} (R : A → A → Type 0) (dec : Discrete A) (Y : List A) (k : ℕ) (c : List A) (h : A) : Type 0 where
  rest : List A
  is_chain : Chain R (h ∷ rest)
  within : All (λ x. Mem x c) (h ∷ rest)
  few : Few R (without dec (h ∷ rest) Y) k
  many : Many R Y k
  member : Mem h many.antichain

-- `Y` has the members of `X` but `a`, which is a minimal one
record Minimal {A : Type 0} (R : A → A → Type 0) (X : List A) (a : A) (Y : List A) : Type 0 where
  member : Mem a X
  low : All (λ y. R y a → ⊥) X
  in_X : {x : A} → Mem x Y → Mem x X
  not_a : {x : A} → Mem x Y → x ≢ a
  split : {x : A} → Mem x X → (x ≡ a) ⊎ Mem x Y

-- one head for each of the chains `cs`
record Heads {A : Type 0} (R : A → A → Type 0) (dec : Discrete A) (Y : List A) (k : ℕ) (cs : List (List A)) : Type 0 where
  list : List A
  same : length list ≡ length cs
  once : Nodup list
  from : All (λ h. (c : List A) × Mem c cs × Cut R dec Y k c h) list

module _ {A : Type 0} {R : A → A → Type 0} (dec : Discrete A) (decR : (a b : A) → Dec (R a b)) (order : StrictOrder R) where
  -- a minimal element
  minimal : (x : A) (X : List A) → (a : A) × Mem a (x ∷ X) × All (λ y. R y a → ⊥) (x ∷ X)
  minimal x [] = (x, here refl, all_cons (order.irreflexive x) (all_nil _))
  minimal x (y ∷ X) = go (minimal y X)
    where
      go : (a : A) × Mem a (y ∷ X) × All (λ z. R z a → ⊥) (y ∷ X) → (a : A) × Mem a (x ∷ y ∷ X) × All (λ z. R z a → ⊥) (x ∷ y ∷ X)
      go (a, m, low) = pick (decR x a)
        where
          pick : Dec (R x a) → (b : A) × Mem b (x ∷ y ∷ X) × All (λ z. R z b → ⊥) (x ∷ y ∷ X)
          pick (yes r) = (x, here refl, all_cons (order.irreflexive x) (λ z n s. low z n (order.transitive z x a s r)))
          pick (no nr) = (a, there m, all_cons nr low)

  -- there is no antichain of `k` where there are fewer than `k` chains
  too_few : {X t : List A} {k : ℕ} → Few R X k → Antichain R t → k ≤ length t → All (λ x. Mem x X) t → ⊥
  too_few {t = t} {k = k} few anti enough within =
      let p = few.partition in
      let le : length t ≤ length few.chains =
      antichain_le_chains dec order.transitive few.chains t p.chains anti (λ x m. p.covered x (within x m)) in
      let lt : length few.chains < k = few.fewer in
      omega arith

  few_or_many : {X : List A} (k : ℕ) → Dilworth R X → Few R X k ⊎ Many R X k
  few_or_many {X} k d = go (dec_lt (length d.chains) k)
    where
      go : Dec (length d.chains < k) → Few R X k ⊎ Many R X k
      go (yes h) = inl (record { chains = d.chains; partition = d.partition; fewer = h })
      go (no h) =
          let same : length d.chains ≡ length d.antichain = d.same in
          inr (record { antichain = d.antichain; is_antichain = d.is_antichain; within = d.within; enough = omega arith })

  -- the elements of one chain are dropped from below until `Y` without the rest has an antichain of `k`
  module _ (Y : List A) (k : ℕ) (smaller : (D : List A) → Dilworth R (without dec D Y)) (not_few : Few R Y k → ⊥) (c : List A) where
    cut_here : (x : A) (D : List A) → Chain R (x ∷ D) → All (λ y. Mem y c) (x ∷ D) → Few R (without dec (x ∷ D) Y) k
        → Many R (without dec D Y) k → Cut R dec Y k c x
    cut_here x D chain within few many =
        record { rest = D; is_chain = chain; within = within; few = few; many = in_Y; member = go (dec_mem dec x t) }
      where
        t : List A
        t = many.antichain

        in_Y : Many R Y k
        in_Y =
            record {
              antichain = t;
              is_antichain = many.is_antichain;
              within = λ y m. (without_mem dec D Y (many.within y m)).0;
              enough = many.enough;
            }

        -- without `x` the antichain would be in what fewer than `k` chains hold
        without_x : (Mem x t → ⊥) → All (λ y. Mem y (without dec (x ∷ D) Y)) t
        without_x nm y m =
            let h = without_mem dec D Y (many.within y m) in
            mem_without dec (x ∷ D) Y h.0 (λ q. ⊎_elim (λ e. nm (Memᴰ.cast (sym e) m)) h.1 (mem-cases q))

        go : Dec (Mem x t) → Mem x t
        go (yes m) = m
        go (no nm) = absurd (too_few few many.is_antichain many.enough (without_x nm))

    cut : (x : A) (D : List A) → Chain R (x ∷ D) → All (λ y. Mem y c) (x ∷ D) → Few R (without dec (x ∷ D) Y) k
        → (h : A) × Cut R dec Y k c h
    cut x [] chain within few = go (few_or_many k (smaller []))
      where
        go : Few R (without dec [] Y) k ⊎ Many R (without dec [] Y) k → (h : A) × Cut R dec Y k c h
        go (inl f) = absurd (not_few (subst (λ (l : List A). Few R l k) (without_none dec [] Y (λ x m. not-nil)) f))
        go (inr many) = (x, cut_here x [] chain within few many)
    cut x (y ∷ D) chain within few =
        go (cut y D (chain_tail chain) (λ z m. within z (there m))) (few_or_many k (smaller (y ∷ D)))
      where
        go : (Few R (without dec (y ∷ D) Y) k → (h : A) × Cut R dec Y k c h)
            → Few R (without dec (y ∷ D) Y) k ⊎ Many R (without dec (y ∷ D) Y) k → (h : A) × Cut R dec Y k c h
        go next (inl f) = next f
        go next (inr many) = (x, cut_here x (y ∷ D) chain within few many)

  heads : {Y : List A} {k : ℕ} (cs : List (List A)) → Disjoint cs → All (λ c. (h : A) × Cut R dec Y k c h) cs → Heads R dec Y k cs
  heads [] p cuts = record { list = []; same = refl; once = Pairwise.nil; from = all_nil _ }
  heads {Y} {k} (c ∷ cs) (Pairwise.cons dis p) cuts = go (cuts c (here refl)) (heads cs p (λ d m. cuts d (there m)))
    where
      go : (h : A) × Cut R dec Y k c h → Heads R dec Y k cs → Heads R dec Y k (c ∷ cs)
      go (h, q) r =
          record {
            list = h ∷ r.list;
            same = ap suc r.same;
            once = nodup_cons new r.once;
            from = all_cons (c, here refl, q) (λ x m. let t = r.from x m in (t.0, there t.1, t.2));
          }
        where
          -- two chains share nothing
          new : Mem h r.list → ⊥
          new m = let t = r.from h m in dis t.0 ∣ t.1 ∣₁ h (q.within h (here refl)) (t.2.within h (here refl))

  -- no head is before another: the antichain of `k` that holds `h` meets what is left of the chain of `h'`, at `h'` or behind it
  heads_apart : {Y c d : List A} {k : ℕ} {h h' : A} → Cut R dec Y k c h → Cut R dec Y k d h' → R h h' → ⊥
  heads_apart {Y} {h = h} {h' = h'} p q r = go (find (λ y. dec_mem dec y left) t)
    where
      t : List A
      t = p.many.antichain

      left : List A
      left = h' ∷ q.rest

      go : ((y : A) × Mem y t × Mem y left) ⊎ All (λ y. Mem y left → ⊥) t → ⊥
      go (inr none) =
          too_few q.few p.many.is_antichain p.many.enough (λ y m. mem_without dec left Y (p.many.within y m) (none y m))
      go (inl (y, m, n)) =
          p.many.is_antichain.apart p.member m (λ e. order.irreflexive y (subst (λ (z : A). R z y) e behind)) behind
        where
          behind : R h y
          behind = all_cons r (λ x z. order.transitive h h' x r (chain_first order.transitive q.is_chain x z)) y n

  -- the chains other than `c`
  all_but : {Y : List A} (d : Dilworth R Y) → {c : List A} → Mem c d.chains → Few R (without dec c Y) (length d.chains)
  all_but {Y} d {c} m =
      record {
        chains = others dec c d.chains;
        partition = record {
          chains = λ l q. p.chains l (in_chains q);
          within = λ l q x xl. mem_without dec c Y (p.within l (in_chains q) x xl) (apart_c q xl);
          disjoint = Pairwise.sublistᴰ (others_sublist dec c d.chains) p.disjoint;
          covered = λ x q. let h = without_mem dec c Y q in on_others dec c d.chains h.1 (p.covered x h.0);
        };
        fewer = length_others dec c d.chains m;
      }
    where
      p : ChainPartition R Y d.chains
      p = d.partition

      in_chains : {l : List A} → Mem l (others dec c d.chains) → Mem l d.chains
      in_chains q = (others_mem dec c d.chains q).0

      apart_c : {l : List A} {x : A} → Mem l (others dec c d.chains) → Mem x l → Mem x c → ⊥
      apart_c q = disjoint_apart p.disjoint (in_chains q) m (others_mem dec c d.chains q).1

  -- one element more than `Y`, of which `d` is known
  module _ {X Y : List A} {a : A} (min : Minimal R X a Y) (d : Dilworth R Y) where
    -- `a` is before no head: a chain more, and a member more
    widened : (hs : Heads R dec Y (length d.chains) d.chains) → All (λ h. R a h → ⊥) hs.list → Dilworth R X
    widened hs none =
        record {
          chains = (a ∷ []) ∷ d.chains;
          antichain = a ∷ hs.list;
          partition = record {
            chains = all_cons single p.chains;
            within = all_cons (all_cons min.member (all_nil _)) (λ c m x xc. min.in_X (p.within c m x xc));
            disjoint = disjoint_cons (λ c m x xa xc. min.not_a (p.within c m x xc) (eq_of_singleton xa)) p.disjoint;
            covered = λ x m. ⊎_elim (λ e. (a ∷ [], here refl, here e)) (λ n. on_there (p.covered x n)) (min.split m);
          };
          is_antichain = record {
            once = nodup_cons (λ m. min.not_a (head_in m) refl) hs.once;
            apart = λ m n. apart (mem-cases m) (mem-cases n);
          };
          within = all_cons min.member (λ x m. min.in_X (head_in m));
          same = ap suc (sym hs.same);
        }
      where
        p : ChainPartition R Y d.chains
        p = d.partition

        head_in : {h : A} → Mem h hs.list → Mem h Y
        head_in {h} m = let t = hs.from h m in p.within t.0 t.1 h (t.2.within h (here refl))

        apart : {x y : A} → (x ≡ a) ⊎ Mem x hs.list → (y ≡ a) ⊎ Mem y hs.list → x ≢ y → R x y → ⊥
        apart (inl e) (inl f) ne r = ne (e ∙ sym f)
        apart {x} {y} (inl e) (inr n) ne r = none y n (subst (λ (z : A). R z y) e r)
        apart {x} {y} (inr m) (inl f) ne r = min.low x (min.in_X (head_in m)) (subst (λ (z : A). R x z) f r)
        apart {x} {y} (inr m) (inr n) ne r = heads_apart (hs.from x m).2 (hs.from y n).2 r

    -- `a` is before a head: it goes in front of what is left of that chain
    lengthened : {c : List A} {h : A} → Mem c d.chains → Cut R dec Y (length d.chains) c h → R a h → Dilworth R X
    lengthened {c} {h} c-in q r =
        record {
          chains = (a ∷ left) ∷ few.chains;
          antichain = d.antichain;
          partition = partition;
          is_antichain = d.is_antichain;
          within = λ x m. min.in_X (d.within x m);
          same = same;
        }
      where
        left : List A
        left = h ∷ q.rest

        few : Few R (without dec left Y) (length d.chains)
        few = q.few

        p : ChainPartition R (without dec left Y) few.chains
        p = few.partition

        apart : (l : List A) → Mem l few.chains → (x : A) → Mem x (a ∷ left) → Mem x l → ⊥
        apart l m x xa xl = let o = without_mem dec left Y (p.within l m x xl) in ⊎_elim (min.not_a o.0) o.1 (mem-cases xa)

        covered : All (On ((a ∷ left) ∷ few.chains)) X
        covered x m = ⊎_elim (λ e. (a ∷ left, here refl, here e)) (λ n. go n (dec_mem dec x left)) (min.split m)
          where
            go : Mem x Y → Dec (Mem x left) → On ((a ∷ left) ∷ few.chains) x
            go n (yes xl) = (a ∷ left, here refl, there xl)
            go n (no nl) = on_there (p.covered x (mem_without dec left Y n nl))

        partition : ChainPartition R X ((a ∷ left) ∷ few.chains)
        partition =
            record {
              chains = all_cons (more r q.is_chain) p.chains;
              within = all_cons
                  (all_cons min.member (λ x m. min.in_X (d.partition.within c c-in x (q.within x m))))
                  (λ l m x xl. min.in_X (without_mem dec left Y (p.within l m x xl)).0);
              disjoint = disjoint_cons apart p.disjoint;
              covered = covered;
            }

        same : length ((a ∷ left) ∷ few.chains) ≡ length d.antichain
        same =
            let at_most : length few.chains < length d.chains = few.fewer in
            let before : length d.chains ≡ length d.antichain = d.same in
            let at_least : length d.antichain ≤ length ((a ∷ left) ∷ few.chains) =
            antichain_le_chains dec order.transitive ((a ∷ left) ∷ few.chains) d.antichain partition.chains d.is_antichain
            (λ x m. covered x (min.in_X (d.within x m))) in
            omega arith

  nothing : Dilworth R []
  nothing =
      record {
        chains = [];
        antichain = [];
        partition = record { chains = all_nil _; within = all_nil _; disjoint = Pairwise.nil; covered = all_nil _ };
        is_antichain = record { once = Pairwise.nil; apart = λ m. absurd (not-nil m) };
        within = all_nil _;
        same = refl;
      }

  -- from all smaller lists to this one
  step : (X : List A) → (a : A) × Mem a X × All (λ y. R y a → ⊥) X → ((Z : List A) → length Z < length X → Dilworth R Z) → Dilworth R X
  step X (a, a_in, low) smaller = go (find (decR a) hs.list)
    where
      Y : List A
      Y = without dec (a ∷ []) X

      min : Minimal R X a Y
      min =
          record {
            member = a_in;
            low = low;
            in_X = λ m. (without_mem dec (a ∷ []) X m).0;
            not_a = λ m e. (without_mem dec (a ∷ []) X m).1 (here e);
            split = λ m. split m (dec _ a);
          }
        where
          split : {x : A} → Mem x X → Dec (x ≡ a) → (x ≡ a) ⊎ Mem x Y
          split m (yes e) = inl e
          split m (no ne) = inr (mem_without dec (a ∷ []) X m (λ q. ne (eq_of_singleton q)))

      shorter : length Y < length X
      shorter = length_without_lt dec (a ∷ []) X a_in (here refl)

      smaller_Y : (D : List A) → Dilworth R (without dec D Y)
      smaller_Y D =
          let h = length_without dec D Y in
          let s : length Y < length X = shorter in
          smaller (without dec D Y) (omega arith)

      d : Dilworth R Y
      d = smaller Y shorter

      not_few : Few R Y (length d.chains) → ⊥
      not_few few =
          let same : length d.chains ≡ length d.antichain = d.same in
          too_few few d.is_antichain (omega arith) d.within

      cut_all : (c : List A) → Chain R c → Few R (without dec c Y) (length d.chains) → (h : A) × Cut R dec Y (length d.chains) c h
      cut_all [] chain few = elim chain [ ]
      cut_all (x ∷ D) chain few = cut Y (length d.chains) smaller_Y not_few (x ∷ D) x D chain (λ y n. n) few

      hs : Heads R dec Y (length d.chains) d.chains
      hs = heads d.chains d.partition.disjoint (λ c n. cut_all c (d.partition.chains c n) (all_but d n))

      go : ((h : A) × Mem h hs.list × R a h) ⊎ All (λ h. R a h → ⊥) hs.list → Dilworth R X
      go (inl (h, n, r)) = let t = hs.from h n in lengthened min d t.1 t.2 r
      go (inr none) = widened min d hs none

  from_smaller : (X : List A) → ((Z : List A) → length Z < length X → Dilworth R Z) → Dilworth R X
  from_smaller [] smaller = nothing
  from_smaller (x ∷ X) smaller = step (x ∷ X) (minimal x X) smaller

  by_length : (n : ℕ) (X : List A) → length X ≤ n → Dilworth R X
  by_length zero X h = from_smaller X (λ Z lt. let none : ⊥ = omega arith in absurd none)
  by_length (suc n) X h = from_smaller X (λ Z lt. by_length n Z (omega arith))

  -- Dilworth's theorem
  pub dilworth : (X : List A) → Dilworth R X
  dilworth X = by_length (length X) X (omega arith)
