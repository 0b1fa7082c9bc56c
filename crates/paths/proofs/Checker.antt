-- Tests that compute, for graphs written out: whether given threads are a cover, given episodes the furthest apart set or a loop, and whether
-- given links are those that stay.
-- Each test comes with the lemma that it is right.
use mathlib.Core.Path.{◌≡◌, refl, subst}
use mathlib.Core.Bool.{Bool, true, false, not, ◌&&◌, ◌||◌}
use mathlib.Core.Logic.{◌⊎◌, inl, inr, ⊎_elim}
use mathlib.Core.List.Memᴰ.{cases_cons as mem-cases}
use mathlib.Core.List.Memᴰ.{head as here}
use mathlib.Core.List.Memᴰ.{not-nil}
use mathlib.Core.List.Memᴰ.{tail as there}
use mathlib.Core.List.IsChain
use mathlib.Core.List.Pairwise
use mathlib.Core.List.{
  List,
  [],
  ◌∷◌,
  ◌++◌,
  Memᴰ as Mem,
  Nodup,
}
use Prim.Native.Nat.{ℕ, zero, suc, ◌≤◌}
use native.Mathlib.Omega.{arith}
use lib.Dec.{T, T_not, eqb, eqb→eq, leb, leb→le, ltb, ltb→lt}
use lib.ListN.{length}
use Rattle.order.specs.Order.{All, Chain, single, more}
use Rattle.order.proofs.Lists.{all_nil, all_cons, nodup_cons}
use Rattle.paths.specs.Graph.{
  Graph,
  Episode,
  Link,
  EndsBelow,
  Way,
  Acyclic,
  Thread,
  Cover,
  Apart,
  Smallest,
  Heaviest,
  Furthest,
  Rising,
  Loop,
  member,
  passing_threads,
  weight,
}
use Rattle.paths.specs.Links as links
use Rattle.paths.specs.Closure.{WayBelow}
use Rattle.paths.specs.Trimmed.{Stays, Trimmed, Implied}
use Rattle.paths.proofs.Links.{linked_mem, mem_linked}
use Rattle.paths.proofs.Ways.{way_below, below_way, way_first}
use Rattle.paths.proofs.Numbers.{below, lt_below}
use Rattle.paths.proofs.Counting.{member_mem, mem_member}
use Rattle.paths.proofs.Duality.{equal_smallest, equal_heaviest}
use Rattle.paths.proofs.Furthest.{Behind, furthest_by_threads}
use Rattle.paths.proofs.Trimming.{stays_direct, direct_stays}

-- a test that passes is true
holds : (a : Bool) → T a → a ≡ true
holds true h = refl
holds false h = absurd h

-- both, or one of the two
pub both : (a b : Bool) → T (a && b) → T a × T b
both true b h = (tt, h)
both false b h = absurd h

either : (a b : Bool) → T (a || b) → T a ⊎ T b
either true b h = inl tt
either false b h = inr h

left : (a b : Bool) → T a → T (a || b)
left true b h = tt
left false b h = absurd h

right : (a b : Bool) → T b → T (a || b)
right true b h = tt
right false b h = h

pub pair : (a b : Bool) → T a → T b → T (a && b)
pair true b h k = k
pair false b h k = absurd h

module _ {A : Type 0} where
  -- each member, and some member, passes
  unfoldable pub each : (A → Bool) → List A → Bool
  each f [] = true
  each f (x ∷ l) = f x && each f l

  unfoldable pub some : (A → Bool) → List A → Bool
  some f [] = false
  some f (x ∷ l) = f x || some f l

  pub each_right : (f : A → Bool) (l : List A) → T (each f l) → All (λ x. T (f x)) l
  unfolding each
  each_right f [] h = all_nil _
  each_right f (y ∷ l) h = let q = both (f y) (each f l) h in all_cons q.0 (each_right f l q.1)

  pub some_right : (f : A → Bool) (l : List A) → T (some f l) → (x : A) × Mem x l × T (f x)
  unfolding some
  some_right f [] h = absurd h
  some_right f (y ∷ l) h =
      ⊎_elim (λ p. (y, here refl, p)) (λ q. let r = some_right f l q in (r.0, there r.1, r.2)) (either (f y) (some f l) h)

  pub some_all : (f : A → Bool) (l : List A) {x : A} → Mem x l → T (f x) → T (some f l)
  unfolding some
  some_all f [] m h = absurd (not-nil m)
  some_all f (y ∷ l) m h =
      ⊎_elim (λ e. left (f y) (some f l) (subst (λ (z : A). T (f z)) e h))
      (λ n. right (f y) (some f l) (some_all f l n h))
      (mem-cases m)

pub member_right : (x : ℕ) (l : List ℕ) → T (member x l) → Mem x l
member_right x l h = member_mem x l (holds (member x l) h)

pub member_all : (x : ℕ) (l : List ℕ) → Mem x l → T (member x l)
member_all x l m = rw (mem_member x l m) tt

unfoldable pub different : List ℕ → Bool
different [] = true
different (x ∷ l) = not (member x l) && different l

different_right : (l : List ℕ) → T (different l) → Nodup l
unfolding different
different_right [] h = Pairwise.nil
different_right (x ∷ l) h =
    let q = both (not (member x l)) (different l) h in
    nodup_cons (λ m. T_not (member x l) q.0 (member_all x l m)) (different_right l q.1)

-- one number or more, each next pair passes
unfoldable pub chained : (ℕ → ℕ → Bool) → List ℕ → Bool
chained f [] = false
chained f (a ∷ []) = true
chained f (a ∷ b ∷ l) = f a b && chained f (b ∷ l)

chained_right : {R : ℕ → ℕ → Type 0} (f : ℕ → ℕ → Bool) → ((a b : ℕ) → T (f a b) → R a b) → (l : List ℕ) → T (chained f l) → Chain R l
unfolding chained
chained_right f h [] t = absurd t
chained_right f h (a ∷ []) t = single
chained_right f h (a ∷ b ∷ l) t =
    let q = both (f a b) (chained f (b ∷ l)) t in
    more (h a b q.0) (chained_right f h (b ∷ l) q.1)

unfoldable pub rises : List ℕ → Bool
rises [] = true
rises (a ∷ []) = true
rises (a ∷ b ∷ l) = ltb a b && rises (b ∷ l)

pub rises_right : (l : List ℕ) → T (rises l) → Rising l
unfolding rises
rises_right [] t = IsChain.nil
rises_right (a ∷ []) t = IsChain.singleton a
rises_right (a ∷ b ∷ l) t =
    let q = both (ltb a b) (rises (b ∷ l)) t in
    IsChain.cons-cons (ltb→lt a b q.0) (rises_right (b ∷ l) q.1)

module _ (g : Graph) where
  unfoldable pub linked : ℕ → ℕ → Bool
  unfolding links.linked
  linked a b = links.linked a b g.links

  linked_right : (a b : ℕ) → T (linked a b) → Link g a b
  unfolding linked
  linked_right a b h = linked_mem a b g.links (holds (links.linked a b g.links) h)

  pub linked_all : (a b : ℕ) → Link g a b → T (linked a b)
  unfolding linked
  linked_all a b m = rw (mem_linked a b g.links m) tt

  -- a way with inner episodes below `k`
  unfoldable pub reaches : ℕ → ℕ → ℕ → Bool
  unfolding linked
  reaches zero a b = linked a b
  reaches (suc k) a b = reaches k a b || (reaches k a k && reaches k k b)

  reaches_right : (k a b : ℕ) → T (reaches k a b) → WayBelow g k a b
  unfolding reaches WayBelow
  reaches_right zero a b h = linked_right a b h
  reaches_right (suc k) a b h =
      ⊎_elim (λ p. inl (reaches_right k a b p))
      (λ p. let q = both (reaches k a k) (reaches k k b) p in inr (reaches_right k a k q.0, reaches_right k k b q.1))
      (either (reaches k a b) (reaches k a k && reaches k k b) h)

  reaches_all : (k a b : ℕ) → WayBelow g k a b → T (reaches k a b)
  unfolding reaches WayBelow
  reaches_all zero a b w = linked_all a b w
  reaches_all (suc k) a b (inl w) = left (reaches k a b) (reaches k a k && reaches k k b) (reaches_all k a b w)
  reaches_all (suc k) a b (inr w) =
      right (reaches k a b) (reaches k a k && reaches k k b)
      (pair (reaches k a k) (reaches k k b) (reaches_all k a k w.0) (reaches_all k k b w.1))

  unfoldable pub ends_test : Bool
  unfolding each
  ends_test = each (λ l. ltb l.0 g.n && ltb l.1 g.n) g.links

  pub ends_right : T ends_test → EndsBelow g
  unfolding ends_test
  ends_right h a b m =
      let t = each_right (λ (l : ℕ × ℕ). ltb l.0 g.n && ltb l.1 g.n) g.links h (a, b) m in
      let q = both (ltb a g.n) (ltb b g.n) t in
      (ltb→lt a g.n q.0, ltb→lt b g.n q.1)

  episodes_test : List ℕ → Bool
  episodes_test l = each (λ v. ltb v g.n) l

  episodes_right : (l : List ℕ) → T (episodes_test l) → All (Episode g) l
  unfolding episodes_test
  episodes_right l h v m = ltb→lt v g.n (each_right (λ v. ltb v g.n) l h v m)

  thread_test : List ℕ → Bool
  thread_test t = episodes_test t && chained linked t

  thread_right : (t : List ℕ) → T (thread_test t) → Thread g t
  unfolding thread_test
  thread_right t h =
      let q = both (episodes_test t) (chained linked t) h in
      record { episodes = episodes_right t q.0; path = chained_right linked linked_right t q.1 }

  -- whether enough threads pass `v`
  enough : List (List ℕ) → ℕ → Bool
  enough ts v = leb (g.voices v) (passing_threads v ts)

  unfoldable pub cover_test : List (List ℕ) → Bool
  unfolding episodes_test thread_test enough each member passing_threads chained linked below
  cover_test ts = each thread_test ts && each (enough ts) (below g.n)

  pub cover_right : (ts : List (List ℕ)) → T (cover_test ts) → Cover g ts
  unfolding cover_test enough
  cover_right ts h =
      let q = both (each thread_test ts) (each (enough ts) (below g.n)) h in
      record {
        threads = λ t m. thread_right t (each_right thread_test ts q.0 t m);
        enough = λ v e. leb→le (g.voices v) (passing_threads v ts) (each_right (enough ts) (below g.n) q.1 v (lt_below g.n e));
      }

  unfoldable pub acyclic_test : Bool
  unfolding each reaches below
  acyclic_test = each (λ v. not (reaches g.n v v)) (below g.n)

  pub acyclic_right : EndsBelow g → T acyclic_test → Acyclic g
  unfolding acyclic_test
  acyclic_right ends h v w =
      T_not (reaches g.n v v)
      (each_right (λ v. not (reaches g.n v v)) (below g.n) h v (lt_below g.n (way_first ends w)))
      (reaches_all g.n v v (way_below g ends w))

  -- a link and a way lead from `a` to `b`
  unfoldable pub implied : ℕ → ℕ → Bool
  unfolding some linked reaches below
  implied a b = some (λ c. linked a c && reaches g.n c b) (below g.n)

  implied_right : (a b : ℕ) → T (implied a b) → Implied g a b
  unfolding implied
  implied_right a b h =
      let (c, m, t) = some_right (λ c. linked a c && reaches g.n c b) (below g.n) h in
      let q = both (linked a c) (reaches g.n c b) t in
      (c, linked_right a c q.0, below_way g g.n (reaches_right g.n c b q.1))

  implied_all : EndsBelow g → (a b : ℕ) → Implied g a b → T (implied a b)
  unfolding implied
  implied_all ends a b (c, l, w) =
      some_all (λ c. linked a c && reaches g.n c b) (below g.n) (lt_below g.n (ends a c l).1)
      (pair (linked a c) (reaches g.n c b) (linked_all a c l) (reaches_all g.n c b (way_below g ends w)))

  -- neither the same nor with a way
  no_way : List ℕ → ℕ → Bool
  no_way s a = each (λ b. eqb a b || not (reaches g.n a b)) s

  voiced_test : List ℕ → Bool
  voiced_test s = each (λ v. ltb 0 (g.voices v)) s

  unfoldable pub apart_test : List ℕ → Bool
  unfolding episodes_test voiced_test no_way each different member reaches
  apart_test s = episodes_test s && (voiced_test s && (different s && each (no_way s) s))

  pub apart_right : EndsBelow g → (s : List ℕ) → T (apart_test s) → Apart g s
  unfolding apart_test voiced_test no_way
  apart_right ends s h =
      let q = both (episodes_test s) (voiced_test s && (different s && each (no_way s) s)) h in
      let p = both (voiced_test s) (different s && each (no_way s) s) q.1 in
      let r = both (different s) (each (no_way s) s) p.1 in
      record {
        episodes = episodes_right s q.0;
        voiced = λ v m. omega (arith, ltb→lt 0 (g.voices v) (each_right (λ v. ltb 0 (g.voices v)) s p.0 v m));
        antichain = record { once = different_right s r.0; apart = λ m n. none r.1 m n };
      }
    where
      none : T (each (no_way s) s) → {a b : ℕ} → Mem a s → Mem b s → (a ≡ b → ⊥) → Way g a b → ⊥
      none h {a} {b} m n ne w =
          ⊎_elim (λ e. ne (eqb→eq a b e)) (λ t. T_not (reaches g.n a b) t (reaches_all g.n a b (way_below g ends w)))
          (either (eqb a b) (not (reaches g.n a b))
          (each_right (λ b. eqb a b || not (reaches g.n a b)) s (each_right (no_way s) s h a m) b n))

  -- `v` is `b`, has a way to `b`, or enough of the threads pass it
  held_test : ℕ → List (List ℕ) → ℕ → Bool
  held_test b ts v = eqb v b || (reaches g.n v b || enough ts v)

  behind_test : List ℕ → ℕ → List (List ℕ) → Bool
  behind_test s b ts = each thread_test ts && (ltb (length ts) (weight g s) && each (held_test b ts) (below g.n))

  behind_right : (s : List ℕ) (b : ℕ) (ts : List (List ℕ)) → T (behind_test s b ts) → Behind g s b
  unfolding behind_test held_test enough
  behind_right s b ts h =
      let q = both (each thread_test ts) (ltb (length ts) (weight g s) && each (held_test b ts) (below g.n)) h in
      let r = both (ltb (length ts) (weight g s)) (each (held_test b ts) (below g.n)) q.1 in
      record {
        threads = ts;
        are_threads = λ t m. thread_right t (each_right thread_test ts q.0 t m);
        fewer = ltb→lt (length ts) (weight g s) r.0;
        enough = λ v e. held v (each_right (held_test b ts) (below g.n) r.1 v (lt_below g.n e));
      }
    where
      held : (v : ℕ) → T (held_test b ts v) → (v ≡ b) ⊎ (Way g v b ⊎ (g.voices v ≤ passing_threads v ts))
      held v t =
          let way : T (reaches g.n v b) → Way g v b = λ w. below_way g g.n (reaches_right g.n v b w) in
          let rest : T (reaches g.n v b || enough ts v) → Way g v b ⊎ (g.voices v ≤ passing_threads v ts) =
          λ u. ⊎_elim (λ w. inl (way w)) (λ o. inr (leb→le (g.voices v) (passing_threads v ts) o)) (either (reaches g.n v b) (enough ts v) u) in
          ⊎_elim (λ e. inl (eqb→eq v b e)) (λ u. inr (rest u)) (either (eqb v b) (reaches g.n v b || enough ts v) t)

  -- a list of threads for each member
  behind_each : List ℕ → List ℕ → List (List (List ℕ)) → Bool
  behind_each s [] [] = true
  behind_each s [] (ts ∷ bs) = false
  behind_each s (b ∷ r) [] = false
  behind_each s (b ∷ r) (ts ∷ bs) = behind_test s b ts && behind_each s r bs

  behind_each_lem : (s r : List ℕ) (bs : List (List (List ℕ))) → T (behind_each s r bs) → All (Behind g s) r
  unfolding behind_each
  behind_each_lem s [] bs h = all_nil _
  behind_each_lem s (b ∷ r) [] h = absurd h
  behind_each_lem s (b ∷ r) (ts ∷ bs) h =
      let q = both (behind_test s b ts) (behind_each s r bs) h in
      all_cons (behind_right s b ts q.0) (behind_each_lem s r bs q.1)

  unfoldable pub furthest_test : List ℕ → List (List (List ℕ)) → Bool
  unfolding behind_each behind_test held_test enough thread_test episodes_test each member passing_threads weight chained linked reaches below
  furthest_test s bs = behind_each s s bs

  pub furthest_right : EndsBelow g → (s : List ℕ) (bs : List (List (List ℕ))) → Apart g s → Heaviest g s → T (furthest_test s bs)
      → Furthest g s
  unfolding furthest_test
  furthest_right ends s bs apart heaviest h = furthest_by_threads ends apart heaviest (behind_each_lem s s bs h)

  unfoldable pub loop_test : List ℕ → Bool
  unfolding episodes_test each different member chained linked
  loop_test [] = false
  loop_test (a ∷ p) = episodes_test (a ∷ p) && (different (a ∷ p) && chained linked (a ∷ p ++ a ∷ []))

  pub loop_right : (c : List ℕ) → T (loop_test c) → Loop g c
  unfolding loop_test
  loop_right [] h = absurd h
  loop_right (a ∷ p) h =
      let q = both (episodes_test (a ∷ p)) (different (a ∷ p) && chained linked (a ∷ p ++ a ∷ [])) h in
      let r = both (different (a ∷ p)) (chained linked (a ∷ p ++ a ∷ [])) q.1 in
      record {
        first = a;
        others = p;
        parts = refl;
        episodes = episodes_right (a ∷ p) q.0;
        once = different_right (a ∷ p) r.0;
        closed = chained_right linked linked_right (a ∷ p ++ a ∷ []) r.1;
      }

-- What a report on `g` states of a cover and an apart set.
pub record Settled (g : Graph) (ts : List (List ℕ)) (s : List ℕ) : Type 0 where
  pub ends : EndsBelow g
  pub acyclic : Acyclic g
  pub cover : Cover g ts
  pub smallest : Smallest g ts
  pub furthest : Furthest g s
  pub rising : Rising s
  pub same : length ts ≡ weight g s

module _ (g : Graph) (ts : List (List ℕ)) (s : List ℕ) (bs : List (List (List ℕ))) where
  pair_test : Bool
  pair_test = cover_test g ts && (apart_test g s && eqb (length ts) (weight g s))

  unfoldable pub settled_test : Bool
  unfolding pair_test ends_test acyclic_test cover_test apart_test weight rises furthest_test
  settled_test = ends_test g && (acyclic_test g && (pair_test && (rises s && furthest_test g s bs)))

  pub settled_right : T settled_test → Settled g ts s
  unfolding settled_test pair_test
  settled_right h =
      let h₁ = both (ends_test g) (acyclic_test g && (pair_test && (rises s && furthest_test g s bs))) h in
      let h₂ = both (acyclic_test g) (pair_test && (rises s && furthest_test g s bs)) h₁.1 in
      let h₃ = both pair_test (rises s && furthest_test g s bs) h₂.1 in
      let h₄ = both (rises s) (furthest_test g s bs) h₃.1 in
      let p₁ = both (cover_test g ts) (apart_test g s && eqb (length ts) (weight g s)) h₃.0 in
      let p₂ = both (apart_test g s) (eqb (length ts) (weight g s)) p₁.1 in
      let ends : EndsBelow g = ends_right g h₁.0 in
      let cover : Cover g ts = cover_right g ts p₁.0 in
      let apart : Apart g s = apart_right g ends s p₂.0 in
      let same : length ts ≡ weight g s = eqb→eq (length ts) (weight g s) p₂.1 in
      record {
        ends = ends;
        acyclic = acyclic_right g ends h₂.0;
        cover = cover;
        smallest = equal_smallest ts s apart same;
        furthest = furthest_right g ends s bs apart (equal_heaviest ts s cover same) h₄.1;
        rising = rises_right s h₄.0;
        same = same;
      }

-- `h` has the links of `g` that no others imply, and no others
module _ (g h : Graph) where
  unfoldable pub trim_test : Bool
  unfolding each linked implied ends_test
  trim_test =
      ends_test g
      && (each (λ l. linked g l.0 l.1 && not (implied g l.0 l.1)) h.links
      && each (λ l. implied g l.0 l.1 || linked h l.0 l.1) g.links)

  pub trim_right : h.n ≡ g.n → ((v : ℕ) → Episode g v → h.voices v ≡ g.voices v) → T trim_test → Trimmed g h
  unfolding trim_test
  trim_right episodes voices t = record { episodes = episodes; voices = voices; links = λ a b. (there_stays a b, stays_there a b) }
    where
      stay : ℕ × ℕ → Bool
      stay l = linked g l.0 l.1 && not (implied g l.0 l.1)

      kept : ℕ × ℕ → Bool
      kept l = implied g l.0 l.1 || linked h l.0 l.1

      ends : EndsBelow g
      ends = ends_right g (both (ends_test g) (each stay h.links && each kept g.links) t).0

      tests : T (each stay h.links) × T (each kept g.links)
      tests = both (each stay h.links) (each kept g.links) (both (ends_test g) (each stay h.links && each kept g.links) t).1

      there_stays : (a b : ℕ) → Link h a b → Stays g a b
      there_stays a b l =
          let q = both (linked g a b) (not (implied g a b)) (each_right stay h.links tests.0 (a, b) l) in
          direct_stays ends (linked_right g a b q.0) (λ i. T_not (implied g a b) q.1 (implied_all g ends a b i))

      stays_there : (a b : ℕ) → Stays g a b → Link h a b
      stays_there a b s =
          ⊎_elim (λ i. absurd (stays_direct ends s (implied_right g a b i))) (linked_right h a b)
          (either (implied g a b) (linked h a b) (each_right kept g.links tests.1 (a, b) s.link))
