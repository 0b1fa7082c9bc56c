-- All that a call on a written-out graph can show, as lists that compute: the covers beside a given apart set, and the loops. Each list
-- comes with the lemma that nothing is missing from it.
use mathlib.Core.Path.{◌≡◌, refl, sym, subst, ◌∙◌}
use mathlib.Core.Bool.{Bool, true, false, ◌&&◌}
use mathlib.Core.Logic.{⊎_elim}
use mathlib.Core.List.Memᴰ
use mathlib.Core.List.Memᴰ.{cases_cons as mem-cases}
use mathlib.Core.List.Memᴰ.{head as here}
use mathlib.Core.List.Memᴰ.{not-nil}
use mathlib.Core.List.Memᴰ.{tail as there}
use mathlib.Core.List.{
  List,
  [],
  ◌∷◌,
  ◌++◌,
  map,
  flat_map,
  Memᴰ as Mem,
}
use Prim.Native.Nat.{ℕ, zero, suc, ◌≤◌, ◌<◌}
use native.Mathlib.Omega.{arith}
use lib.Dec.{T, leb, le→leb}
use lib.ListN.{length, get_or}
use Rattle.order.specs.Order.{All, Chain, single, more}
use Rattle.paths.specs.Graph.{Graph, Link, Thread, member, passing_threads}
use Rattle.paths.specs.Items.{by_voices}
use Rattle.paths.proofs.Theorems.{different_below, thread_different, by_voices_length}
use Rattle.paths.proofs.Numbers.{below, below_lt, lt_below}
use Rattle.paths.proofs.Checker.{pair, each, member_all, chained, linked, linked_all}
use Rattle.report.specs.Report.{Reported, LoopShown}

module _ {A : Type 0} where
  -- `x` in front of `l` if it passes
  kept : Bool → A → List A → List A
  kept true x l = x ∷ l
  kept false x l = l

  -- it is then there, and what is in `l` is there either way
  kept_first : (b : Bool) {x y : A} (l : List A) → T b → x ≡ y → Mem x (kept b y l)
  unfolding kept
  kept_first true l t e = here e
  kept_first false l t e = absurd t

  kept_later : (b : Bool) {x : A} (y : A) {l : List A} → Mem x l → Mem x (kept b y l)
  unfolding kept
  kept_later true y m = there m
  kept_later false y m = m

  -- those of a list that pass
  unfoldable pub keep : (A → Bool) → List A → List A
  unfolding kept
  keep f [] = []
  keep f (x ∷ l) = kept (f x) x (keep f l)

  -- what passes is kept
  keep_all : (f : A → Bool) (l : List A) {x : A} → Mem x l → T (f x) → Mem x (keep f l)
  unfolding keep
  keep_all f [] m t = absurd (not-nil m)
  keep_all f (y ∷ l) m t =
      ⊎_elim (λ e. kept_first (f y) (keep f l) (subst (λ (z : A). T (f z)) e t) e)
      (λ n. kept_later (f y) y (keep_all f l n t))
      (mem-cases m)

  -- the test holds of a list if it does of each member
  each_all : (f : A → Bool) (l : List A) → All (λ x. T (f x)) l → T (each f l)
  unfolding each
  each_all f [] h = tt
  each_all f (y ∷ l) h = pair (f y) (each f l) (h y (here refl)) (each_all f l (λ x m. h x (there m)))

-- what one of the lists has, all of them together have
flat_all : {A B : Type 0} (f : A → List B) (l : List A) {x : A} {y : B} → Mem x l → Mem y (f x) → Mem y (flat_map f l)
unfolding flat_map
flat_all f [] m n = absurd (not-nil m)
flat_all {A} {B} f (z ∷ l) {x} {y} m n =
    ⊎_elim (λ e. Memᴰ.append_left (flat_map f l) (subst (λ (v : A). Mem y (f v)) e n))
    (λ r. Memᴰ.append_right (f z) (flat_all f l r n))
    (mem-cases m)

-- a chain without its last element, if it has another
chain_front : {R : ℕ → ℕ → Type 0} (a : ℕ) (p : List ℕ) (x : ℕ) → Chain R (a ∷ p ++ x ∷ []) → Chain R (a ∷ p)
chain_front a [] x c = single
chain_front a (b ∷ p) x (more r c) = more r (chain_front b p x c)

-- a chain passes the test for its next pairs
chained_all : {R : ℕ → ℕ → Type 0} (f : ℕ → ℕ → Bool) → ((a b : ℕ) → R a b → T (f a b)) → {l : List ℕ} → Chain R l → T (chained f l)
unfolding chained
chained_all f h single = tt
chained_all f h (more {a = a} {b = b} {l = l} r c) = pair (f a b) (chained f (b ∷ l)) (h a b r) (chained_all f h c)

module _ (g : Graph) where
  -- the threads from `a` of at most `k` episodes
  unfoldable pub walks : ℕ → ℕ → List (List ℕ)
  unfolding keep linked below flat_map
  walks zero a = []
  walks (suc k) a = (a ∷ []) ∷ map (λ t. a ∷ t) (flat_map (walks k) (keep (linked g a) (below g.n)))

  -- a thread from `a` is one of them
  walks_all : {a : ℕ} {p : List ℕ} (k : ℕ) → All (λ v. v < g.n) (a ∷ p) → Chain (Link g) (a ∷ p) → length p < k → Mem (a ∷ p) (walks k a)
  unfolding walks
  walks_all zero h c s = absurd (omega arith)
  walks_all (suc k) h single s = here refl
  walks_all {a} (suc k) h (more {b = b} {l = l} r c) s =
      there (Memᴰ.map (λ (t : List ℕ). a ∷ t)
      (flat_all (walks k) (keep (linked g a) (below g.n))
      (keep_all (linked g a) (below g.n) (lt_below g.n (h b (there (here refl)))) (linked_all g a b r))
      (walks_all k (λ v m. h v (there m)) c (omega arith))))

  -- the threads of at most n episodes: those of an acyclic graph have no more
  unfoldable pub all_walks : List (List ℕ)
  unfolding flat_map walks below
  all_walks = flat_map (walks g.n) (below g.n)

  -- a thread is one of them
  walk_listed : {a : ℕ} {p : List ℕ} → All (λ v. v < g.n) (a ∷ p) → Chain (Link g) (a ∷ p) → length (a ∷ p) ≤ g.n → Mem (a ∷ p) all_walks
  unfolding all_walks
  walk_listed {a} h c s = flat_all (walks g.n) (below g.n) (lt_below g.n (h a (here refl))) (walks_all g.n h c (omega arith))

  -- so is a thread that does not say what it starts with
  chain_listed : {t : List ℕ} → All (λ v. v < g.n) t → Chain (Link g) t → length t ≤ g.n → Mem t all_walks
  chain_listed h single s = walk_listed h single s
  chain_listed h (more r c) s = walk_listed h (more r c) s

  -- the ways to take for each of the episodes `s` a thread that holds it
  unfoldable pub holding : List ℕ → List (List (List ℕ))
  unfolding all_walks keep member flat_map
  holding [] = [] ∷ []
  holding (a ∷ s) = flat_map (λ t. map (λ ts. t ∷ ts) (holding s)) (keep (member a) all_walks)

  -- threads that hold them one by one are such a way
  holding_all : (s : List ℕ) (ts : List (List ℕ)) → length ts ≡ length s → All (λ t. Mem t all_walks) ts
      → ((i : ℕ) → i < length s → Mem (get_or s i 0) (get_or ts i [])) → Mem ts (holding s)
  unfolding holding
  holding_all [] [] e w h = here refl
  holding_all [] (t ∷ ts) e w h = absurd (omega arith)
  holding_all (a ∷ s) [] e w h = absurd (omega arith)
  holding_all (a ∷ s) (t ∷ ts) e w h =
      flat_all (λ (t : List ℕ). map (λ (ts : List (List ℕ)). t ∷ ts) (holding s)) (keep (member a) all_walks)
      (keep_all (member a) all_walks (w t (here refl)) (member_all a t (h 0 (omega arith))))
      (Memᴰ.map (λ (ts : List (List ℕ)). t ∷ ts)
      (holding_all s ts (omega arith) (λ u m. w u (there m)) (λ i lt. h (suc i) (omega arith))))

  -- enough of the threads pass every episode
  enough_test : List (List ℕ) → Bool
  enough_test ts = each (λ v. leb (g.voices v) (passing_threads v ts)) (below g.n)

  -- the covers that a report with the apart set `s` can show
  unfoldable pub covers : List ℕ → List (List (List ℕ))
  unfolding keep enough_test each passing_threads below holding by_voices
  covers s = keep enough_test (holding (by_voices g.voices s))

  -- every cover of a report is one of them
  pub covers_all : (s : List ℕ) (ts : List (List ℕ)) → Reported g s ts → Mem ts (covers s)
  unfolding covers enough_test
  covers_all s ts r =
      keep_all enough_test (holding (by_voices g.voices s))
      (holding_all (by_voices g.voices s) ts as_many (λ t m. listed t (r.cover.threads t m)) (λ i lt. r.paired.holds i (omega (arith, as_many))))
      (each_all (λ v. leb (g.voices v) (passing_threads v ts)) (below g.n)
      (λ v m. le→leb (g.voices v) (passing_threads v ts) (r.cover.enough v (below_lt g.n v m))))
    where
      as_many : length ts ≡ length (by_voices g.voices s)
      as_many = r.paired.same ∙ sym (by_voices_length g s)

      listed : (t : List ℕ) → Thread g t → Mem t all_walks
      listed t thread =
          chain_listed thread.episodes thread.path
          (different_below g.n t (thread_different r.acyclic thread) thread.episodes)

  -- the last is linked to the first, and the first is the smallest
  shown_test : List ℕ → Bool
  shown_test [] = false
  shown_test (a ∷ p) = chained (linked g) (a ∷ p ++ a ∷ []) && each (leb a) (a ∷ p)

  -- the loops that can be shown
  unfoldable pub loops : List (List ℕ)
  unfolding keep shown_test chained linked each all_walks
  loops = keep shown_test all_walks

  -- a loop that is shown from `a` is one of them
  loop_listed : (a : ℕ) (p : List ℕ) → All (λ v. v < g.n) (a ∷ p) → length (a ∷ p) ≤ g.n → Chain (Link g) (a ∷ p ++ a ∷ [])
      → All (λ v. a ≤ v) (a ∷ p) → Mem (a ∷ p) loops
  unfolding loops shown_test
  loop_listed a p h s c f =
      keep_all shown_test all_walks (chain_listed h (chain_front a p a c) s)
      (pair (chained (linked g) (a ∷ p ++ a ∷ [])) (each (leb a) (a ∷ p)) (chained_all (linked g) (linked_all g) c)
      (each_all (leb a) (a ∷ p) (λ v m. le→leb a v (f v m))))

  -- every loop that is shown is one of them
  pub loops_all : (c : List ℕ) → LoopShown g c → Mem c loops
  unfolding loops
  loops_all c o =
      let l = o.loop in
      let few : length c ≤ g.n = different_below g.n c l.once l.episodes in
      rw l.parts
      (loop_listed l.first l.others (rw l.parts at l.episodes) (rw l.parts at few) (rw l.parts at l.closed)
      (rw l.parts at o.smallest_first))
