-- A thread that is being written: the owners of a chain's items up to one, with the links of paths between them.
use Rattle.std.proofs.Math.Logic.{∥∥₁_elim}
use Rattle.std.proofs.Props.{props}
use mathlib.Core.Path.{◌≡◌, refl, sym, ap, subst, ◌∙◌}
use mathlib.Core.Logic.{◌⊎◌, inl, inr, ⊎_elim}
use mathlib.Core.List.Memᴰ
use mathlib.Core.List.Memᴰ.{append_cases}
use mathlib.Core.List.Memᴰ.{head as here}
use mathlib.Core.List.{
  List,
  [],
  ◌∷◌,
  ◌++◌,
  map,
  map-append,
  append_assoc,
  Memᴰ as Mem,
}
use Prim.Native.Nat.{ℕ, ◌+◌, ◌-◌, ◌*◌, ◌≤◌, ◌<◌}
use native.Mathlib.Omega.{arith}
use lib.ListN.{length, get_or, set, take, drop, length-map, length-append, length-drop}
use Rattle.order.specs.Order.{Chain, more}
use Rattle.paths.specs.Graph.{Graph, Way, Thread}
use Rattle.paths.specs.Items.{item_count, owner}
use Rattle.paths.proofs.Threads.{thread_single}
use Rattle.paths.proofs.Fits.{thread_nodup}
use Rattle.paths.proofs.Numbers.{nodup_below}
use Rattle.logs.specs.Words.{word}
use Rattle.bits.specs.Bits.{bit}
use Rattle.bits.specs.Work.{ways_at}
use Rattle.searching.specs.Items.{Matching, Steps}
use Rattle.searching.specs.State.{tables}
use Rattle.chains.proofs.Steps.{steps_trans, steps_same, steps_first, steps_last, steps_end, next_below as following_below, steps_below, steps_join}
use Rattle.items.specs.Listed.{owner_in}
use Rattle.writing.specs.Layout.{BeginsWith, thread_words}
use Rattle.writing.specs.Path.{PathWritten}
use Rattle.writing.specs.Writing.{Solved, IsSolved, StartOf, ThreadWritten}
use Rattle.writing.proofs.Buffers.{length_snoc, begins_length, begins_first, begins_second, begins_over, begins_part, lent_part, lent_rest}
use Rattle.writing.proofs.Solved.{owner_lt}

chain_join : {A : Type 0} {R : A → A → Type 0} {a : A} {p : List A} (l : List A) → Chain R (l ++ (a ∷ [])) → Chain R (a ∷ p) → Chain R (l ++ (a ∷ p))
chain_join [] c d = d
chain_join (x ∷ []) (more q c) d = more q d
chain_join (x ∷ y ∷ l) (more q c) d = more q (chain_join (y ∷ l) c d)

-- a thread goes on by a thread from its last episode
thread_join : {g : Graph} {a : ℕ} {p : List ℕ} (l : List ℕ) → Thread g (l ++ (a ∷ [])) → Thread g (a ∷ p) → Thread g (l ++ (a ∷ p))
thread_join {a = a} l t u =
    record {
      episodes = λ x m. ⊎_elim (λ k. t.episodes x (Memᴰ.append_left (a ∷ []) k)) (u.episodes x) (append_cases l m);
      path = chain_join l t.path u.path;
    }

-- The words behind the first are the steps of a thread that ends at `at`, the owner of `item`. It holds the owners of what the start of the chain of
-- `v` leads to, but for what is behind `item`.
pub record Filling (w : List ℕ) (n m v : ℕ) (o o' : List ℕ) (item at count : ℕ) : Type 0 where
  pub before : List ℕ
  pub first : ℕ
  pub start : ℕ
  pub starts : StartOf w v start
  pub start_below : start < m
  pub size : count ≡ length before + 2
  pub words : BeginsWith (first ∷ map (word 7) (before ++ (at ∷ []))) o o'
  pub item_below : item < m
  pub owned : at ≡ owner_in w item
  pub thread : (g : Graph) → Solved g n m w → Thread g (before ++ (at ∷ []))
  pub holds : (x : ℕ) → Steps (tables w).next start x → Mem (owner_in w x) (before ++ (at ∷ [])) ⊎ Steps (tables w).next item x

module _ {w : List ℕ} {n m s at : ℕ} (o : List ℕ) (below : s < m) (owned : at ≡ owner_in w s) (solved : IsSolved n m w) where
  -- the owner of an item is a thread of one step
  single : (g : Graph) → Solved g n m w → Thread g (at ∷ [])
  single g q = thread_single (rw (q.count, owned) (owner_lt solved s below))

  pub filling_starts : {v : ℕ} → StartOf w v s → 1 < length o → Filling w n m v (set o 1 (word 7 at)) (set o 1 (word 7 at)) s at 2
  filling_starts h l =
      record {
        before = [];
        first = get_or o 0 0;
        start = s;
        starts = h;
        start_below = below;
        size = refl;
        words = begins_second (word 7 at) o l;
        item_below = below;
        owned = owned;
        thread = single;
        holds = λ x p. inr p;
      }

  -- there is room for it
  pub starts_room : ((g : Graph) → Solved g n m w → (th : List ℕ) → Thread g th → length th + 1 ≤ length o) → 1 < length o
  starts_room room = ∥∥₁_elim solved (search props) (λ (g, q). room g q (at ∷ []) (single g q))

module _ {w : List ℕ} {n m v : ℕ} {o o' : List ℕ} {item at count : ℕ} (f : Filling w n m v o o' item at count) where
  pub filling_length : length o' ≡ length o
  filling_length = begins_length (f.first ∷ map (word 7) (f.before ++ (at ∷ []))) o o' f.words

  -- the first word and the steps
  filling_count : length (f.first ∷ map (word 7) (f.before ++ (at ∷ []))) ≡ count
  filling_count =
      let a = length-map (f.before ++ (at ∷ [])) (word 7) in
      let b = length_snoc f.before at in
      let c = f.size in
      omega arith

  pub at_lt : IsSolved n m w → at < n
  at_lt solved = rw f.owned (owner_lt solved item f.item_below)

  -- the thread of a graph has at most as many steps as there are episodes
  pub filling_le : IsSolved n m w → count ≤ n + 1
  filling_le solved = ∥∥₁_elim solved (search props) (λ (g, q). le g q)
    where
      le : (g : Graph) → Solved g n m w → count ≤ n + 1
      le g q =
          let th = f.thread g q in
          let le : length (f.before ++ (at ∷ [])) ≤ g.n =
          nodup_below g.n (f.before ++ (at ∷ [])) (thread_nodup q.acyclic th) th.episodes in
          let e = length_snoc f.before at in
          let h = f.size in
          let c = q.count in
          omega arith

  -- what goes on from `at` fits into the part behind the words
  pub filling_room : {g : Graph} → Solved g n m w → ((th : List ℕ) → Thread g th → length th + 1 ≤ length o) → (p : List ℕ) → Thread g (at ∷ p)
      → length p ≤ length (take (length o' - count) (drop count o'))
  filling_room {g} q room p t =
      let le = room (f.before ++ (at ∷ p)) (thread_join f.before (f.thread g q) t) in
      let e = length-append f.before (at ∷ p) in
      let c = f.size in
      let l = filling_length in
      let d = length-drop count o' in
      rw (lent_part o' count) (omega arith)

  -- `next` is the next item of the chain, and `to` its owner
  module _ (next : ℕ) {to : ℕ} (behind : (tables w).next item ≡ next + 1) (owner_to : to ≡ owner_in w next) where
    next_below : Matching m (tables w) → next < m
    next_below k = following_below k f.item_below behind

    to_lt : Matching m (tables w) → IsSolved n m w → to < n
    to_lt k solved = rw owner_to (owner_lt solved next (next_below k))

    -- a way leads there
    pub next_way : Matching m (tables w) → IsSolved n m w → (to < n) × (bit w (ways_at + 8 * at) to ≡ 1)
    next_way k solved = (to_lt k solved, ∥∥₁_elim solved (search props) (λ (g, q). way g q))
      where
        way : (g : Graph) → Solved g n m w → bit w (ways_at + 8 * at) to ≡ 1
        way g q =
            let below = next_below k in
            let pair : Way g (owner g item) (owner g next) = q.pairs item next f.item_below below behind in
            let a : at ≡ owner g item = f.owned ∙ q.owners item f.item_below in
            let b : to ≡ owner g next = owner_to ∙ q.owners next below in
            q.ways.complete at to (omega (arith, at_lt solved, q.few)) (omega (arith, to_lt k solved, q.few))
            (subst (λ (u : ℕ). Way g u to) (sym a) (subst (λ (u : ℕ). Way g (owner g item) u) (sym b) pair))

    -- the steps of a path to it are written behind the others
    path_more : Matching m (tables w) → (p : List ℕ) (r : ℕ) → PathWritten w (drop count o') p n m at to r
        → Filling w n m v o (take count o' ++ p) next to (count + r)
    path_more k p r t =
        record {
          before = f.before ++ (at ∷ t.between);
          first = f.first;
          start = f.start;
          starts = f.starts;
          start_below = f.start_below;
          size =
              let e = length-append f.before (at ∷ t.between) in
              let a = f.size in
              let b = t.size in
              omega arith;
          words =
              subst (λ (ws : List ℕ). BeginsWith (f.first ∷ ws) o (take count o' ++ p))
              (sym (ap (map (word 7)) whole ∙ map-append (word 7) (f.before ++ (at ∷ [])) (t.between ++ (to ∷ []))))
              (begins_part (f.first ∷ map (word 7) (f.before ++ (at ∷ []))) o o' f.words (map (word 7) (t.between ++ (to ∷ []))) p count
              (sym filling_count) t.words);
          item_below = next_below k;
          owned = owner_to;
          thread = λ g' q'.
              rw (append_assoc f.before (at ∷ t.between) (to ∷ [])) (thread_join f.before (f.thread g' q') (t.of g' q'));
          holds = λ x h. ⊎_elim (λ i. inl (there (owner_in w x) i)) (λ i. ⊎_elim (λ e. inl (last x e)) inr (steps_first behind i)) (f.holds x h);
        }
      where
        whole : (f.before ++ (at ∷ t.between)) ++ (to ∷ []) ≡ (f.before ++ (at ∷ [])) ++ (t.between ++ (to ∷ []))
        whole =
            append_assoc f.before (at ∷ t.between) (to ∷ [])
            ∙ sym (append_assoc f.before (at ∷ []) (t.between ++ (to ∷ [])))

        there : (u : ℕ) → Mem u (f.before ++ (at ∷ [])) → Mem u ((f.before ++ (at ∷ t.between)) ++ (to ∷ []))
        there u i = rw whole (Memᴰ.append_left (t.between ++ (to ∷ [])) i)

        -- the item itself
        last : (x : ℕ) → item ≡ x → Mem (owner_in w x) ((f.before ++ (at ∷ t.between)) ++ (to ∷ []))
        last x e = there (owner_in w x) (Memᴰ.append_right f.before (here (ap (owner_in w) (sym e) ∙ sym f.owned)))

    -- the same, as the part that was lent comes back
    pub filling_more : Matching m (tables w) → {p : List ℕ} {r : ℕ}
        → PathWritten w (take (length o' - count) (drop count o')) p n m at to r
        → Filling w n m v o (take count o' ++ (p ++ drop (length o' - count) (drop count o'))) next to (count + r)
    filling_more k {p} {r} t = rw (lent_rest o' p count) (path_more k p r (rw (lent_part o' count) at t))

  -- at the end of the chain
  pub filling_ends : (tables w).next item ≡ 0 → ThreadWritten w o (set o' 0 (word 6 (count - 1))) n m v count
  unfolding thread_words
  filling_ends z =
      record {
        thread = th;
        size = let d = length-map th (word 7) in let s = size in omega arith;
        words =
            subst (λ (k : ℕ). BeginsWith (word 6 k ∷ map (word 7) th) o (set o' 0 (word 6 (count - 1)))) (sym size)
            (begins_first f.first (word 6 (count - 1)) (map (word 7) th) o o' f.words);
        of = λ g q. record { thread = f.thread g q; holds = holds g q };
      }
    where
      th : List ℕ
      th = f.before ++ (at ∷ [])

      size : length th ≡ count - 1
      size = let b = length_snoc f.before at in let c = f.size in omega arith

      s : ℕ
      s = f.start

      last : Mem (owner_in w item) th
      last = Memᴰ.append_right f.before (here (sym f.owned))

      -- the owners of what the start leads to are on the thread
      behind : (x : ℕ) → Steps (tables w).next s x → Mem (owner_in w x) th
      behind x p =
          ⊎_elim (λ i. i)
          (λ r. subst (λ (y : ℕ). Mem (owner_in w y) th) (steps_end z r) last)
          (f.holds x p)

      -- what leads to the start is the start
      before : (g : Graph) → Solved g n m w → (x : ℕ) → x < m → Steps (tables w).next x s → Steps (tables w).next s x
      before g q x h p = go (steps_last p)
        where
          go : (x ≡ s) ⊎ ((d : ℕ) × Steps (tables w).next x d × ((tables w).next d ≡ s + 1)) → Steps (tables w).next s x
          go (inl k) = steps_same (sym k)
          go (inr (d, r, k)) =
              let a : (tables w).prev s ≡ d + 1 = q.matching.there d s (steps_below q.matching h r) f.start_below k in
              let b : (tables w).prev s ≡ 0 = f.starts.first in
              absurd (omega arith)

      holds : (g : Graph) → Solved g n m w → (x : ℕ) → x < item_count g → Steps (tables w).next x v ⊎ Steps (tables w).next v x → Mem (owner g x) th
      holds g q x h o = Memᴰ.cast (sym (q.owners x lt)) (behind x (from o))
        where
          lt : x < m
          lt = rw q.items at h

          from : Steps (tables w).next x v ⊎ Steps (tables w).next v x → Steps (tables w).next s x
          from (inr p) = steps_trans f.starts.steps p
          from (inl p) = ⊎_elim (λ r. r) (before g q x lt) (steps_join q.matching f.start_below lt f.starts.steps p)

-- with the path there are more words, and at most as many as a thread has
pub filling_less : {w : List ℕ} {n m v : ℕ} {o o' : List ℕ} {item at to count : ℕ} (f : Filling w n m v o o' item at count)
    (next : ℕ) → (tables w).next item ≡ next + 1 → to ≡ owner_in w next → Matching m (tables w) → IsSolved n m w → {p : List ℕ} {r : ℕ}
    → PathWritten w (take (length o' - count) (drop count o')) p n m at to r → (0 < r) × (count + r ≤ n + 1)
filling_less f next behind owner_to k solved t =
    (let e = t.size in omega arith, filling_le (filling_more f next behind owner_to k t) solved)

-- what was stored there before does not matter
pub written_over : {w o o' : List ℕ} {n m v r : ℕ} (x : ℕ) → 1 < r → ThreadWritten w (set o 1 x) o' n m v r → ThreadWritten w o o' n m v r
written_over {o = o} {o' = o'} x h t =
    record {
      thread = t.thread;
      size = t.size;
      words = begins_over (thread_words t.thread) o o' 1 x (let e = t.size in omega arith) t.words;
      of = t.of;
    }
