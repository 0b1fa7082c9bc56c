-- The search: what holds before it, after each item that it sees, and at its end, with or without a chain fewer in sight.
use Rattle.std.proofs.lemmas.Grind.{common_steps}
use mathlib.Core.Path.{◌≡◌, refl}
use mathlib.Core.Logic.{◌⊎◌, inl, inr, ⊎_elim, ◌≢◌}
use mathlib.Core.List.Memᴰ.{cases_cons as mem-cases}
use mathlib.Core.List.Memᴰ.{not-nil}
use mathlib.Core.List.Pairwise
use mathlib.Core.List.{
  List,
  [],
  ◌∷◌,
  Memᴰ as Mem,
  Nodup,
}
use Prim.Native.Nat.{ℕ, zero, suc, ◌+◌, ◌≤◌, ◌<◌}
use native.Mathlib.Decide.{ℕ_discrete, dec_lt}
use native.Mathlib.Omega.{arith}
use lib.ListN.{length}
use Rattle.order.proofs.Lists.{nodup_cons}
use Rattle.paths.proofs.Numbers.{nodup_below}
use Rattle.searching.specs.Items.{
  Tables,
  Matching,
  SameChains,
  SeenFrom,
  Searching,
  Saw,
  Trail,
  Flipping,
}

-- f (k - 1) .. f 0
values : (ℕ → ℕ) → ℕ → List ℕ
values f zero = []
values f (suc k) = f k ∷ values f k

length_values : (f : ℕ → ℕ) (k : ℕ) → length (values f k) ≡ k
unfolding values
length_values f zero = refl
length_values f (suc k) = let h = length_values f k in omega arith

values_from : {x : ℕ} (f : ℕ → ℕ) (k : ℕ) → Mem x (values f k) → (p : ℕ) × (p < k) × (x ≡ f p)
unfolding values
values_from f zero m = absurd (not-nil m)
values_from {x} f (suc k) m = go (values_from f k) (mem-cases m)
  where
    go : (Mem x (values f k) → (p : ℕ) × (p < k) × (x ≡ f p)) → (x ≡ f k) ⊎ Mem x (values f k) → (p : ℕ) × (p < suc k) × (x ≡ f p)
    go rest (inl e) = (k, omega arith, e)
    go rest (inr n) = let (p, h, e) = rest n in (p, omega arith, e)

values_nodup : (f : ℕ → ℕ) (k : ℕ) → ((p q : ℕ) → p < k → q < k → f p ≡ f q → p ≡ q) → Nodup (values f k)
unfolding values
values_nodup f zero h = Pairwise.nil
values_nodup f (suc k) h =
    nodup_cons (λ m. let (p, lt, e) = values_from f k m in let same : k ≡ p = h k p (omega arith) (omega arith) e in omega arith)
    (values_nodup f k (λ p q i j e. h p q (omega arith) (omega arith) e))

-- a map from the numbers below `k` to different numbers below `m` shows that `k` is at most `m`
pub injective_le : (k m : ℕ) (f : ℕ → ℕ) → ((p : ℕ) → p < k → f p < m) → ((p q : ℕ) → p < k → q < k → f p ≡ f q → p ≡ q) → k ≤ m
injective_le k m f low different =
    let le : length (values f k) ≤ m =
    nodup_below m (values f k) (values_nodup f k different)
    (λ x n. let (p, h, e) = values_from f k n in let l : f p < m = low p h in omega arith) in
    let e : length (values f k) ≡ k = length_values f k in
    omega arith

pub matching_same : {m : ℕ} {t t' : Tables} → Matching m t → SameChains m t t' → Matching m t'
matching_same k s = grind (arith, common_steps)

saw_same : {m : ℕ} {t t' : Tables} {head b tail : ℕ} → Saw m t t' head b tail → SameChains m t t'
saw_same w = record { next_same = w.next_same; prev_same = w.prev_same }

pub saw_matching : {m : ℕ} {t t' : Tables} {head b tail : ℕ} → Matching m t → Saw m t t' head b tail → Matching m t'
saw_matching k w = matching_same k (saw_same w)

-- before a search from `a`: only what is dead is seen
pub search_start : {m : ℕ} {R : ℕ → ℕ → Type 0} {dead : ℕ → ℕ} {t : Tables} (a : ℕ) → a < m → t.next a ≡ 0 → t.queue 0 ≡ a
    → ((b : ℕ) → b < m → t.seen b ≡ dead b) → ((b : ℕ) → b < m → dead b ≡ 1 → 0 < t.prev b) → Searching m R dead t 0 0 1
search_start a al z q same kept = grind (arith, common_steps)

module _ {m : ℕ} {R : ℕ → ℕ → Type 0} {dead : ℕ → ℕ} {t : Tables} {head from tail : ℕ} where
  -- an item that the search comes upon, with an item before it
  pub saw_searching : {t' : Tables} {b : ℕ} → Matching m t → Searching m R dead t head from tail → Saw m t t' head b tail → head < tail → b < m
      → t.seen b ≡ 0 → 0 < t.prev b → R (t.queue head) b
      → ((c : ℕ) → from ≤ c → c < b → R (t.queue head) c → t.seen c ≡ 1) → Searching m R dead t' head (b + 1) (tail + 1)
  saw_searching {t'} {b} k s w hd bl new pos r gap =
      record {
        head_le = omega arith;
        tail_le = injective_le (tail + 1) m t'.queue queued different;
        queued = queued;
        different = different;
        opened = λ p h. opened p h (ℕ_discrete p tail);
        all_open = λ a c al cl g sc n. all_open a c al cl g sc n (ℕ_discrete c b);
        old = λ c cl h. stays c cl (s.old c cl h);
        kept = kept;
        came = came;
        shown = λ p c h cl q. stays c cl (s.shown p c h cl (rw (w.queue_same p (omega arith)) at q));
        showing = λ c h cl q. showing c h cl (rw (w.queue_same head hd) at q);
      }
    where
      low : t'.queue tail < m
      low = grind (arith, common_steps)

      behind : t.next (t'.queue tail) ≡ b + 1
      behind = grind (arith, common_steps)

      -- the new item was not in the queue: the one behind it was not seen
      fresh : (p : ℕ) → p < tail → t.queue p ≡ t'.queue tail → ⊥
      fresh p h e = grind (arith, common_steps)

      queued : (p : ℕ) → p < tail + 1 → t'.queue p < m
      queued p h = grind (arith, common_steps)

      different : (p q : ℕ) → p < tail + 1 → q < tail + 1 → t'.queue p ≡ t'.queue q → p ≡ q
      different p q pl ql e = go (ℕ_discrete p tail) (ℕ_discrete q tail)
        where
          go : Dec (p ≡ tail) → Dec (q ≡ tail) → p ≡ q
          go (yes i) (yes j) = omega arith
          go (yes i) (no j) =
              let f = w.queue_same q (omega arith) in
              absurd (fresh q (omega arith) (cc))
          go (no i) (yes j) =
              let f = w.queue_same p (omega arith) in
              absurd (fresh p (omega arith) (cc))
          go (no i) (no j) = grind (arith, common_steps)

      not_new : (c : ℕ) → t.seen c ≡ 1 → c ≢ b
      not_new c h e = let f : t.seen b ≡ 1 = rw e at h in omega arith

      stays : (c : ℕ) → c < m → t.seen c ≡ 1 → t'.seen c ≡ 1
      stays c cl h = grind (arith, common_steps)

      opened : (p : ℕ) → p < tail + 1 → Dec (p ≡ tail)
          → ((p ≡ 0) × (t'.next (t'.queue p) ≡ 0))
          ⊎ ((c : ℕ) × (c < m) × (t'.next (t'.queue p) ≡ c + 1) × (t'.seen c ≡ 1) × (dead c ≢ 1) × (t'.via c ≤ p))
      opened p h (yes e) =
          let f = w.next_same (t'.queue tail) low in
          let v = w.via_here in
          inr (b, bl, rw e (omega (arith, behind)), w.seen_here, λ d. absurd (omega (arith, s.old b bl d)), omega arith)
      opened p h (no ne) =
          let l : p < tail = omega arith in
          let e = w.queue_same p l in
          let f = w.next_same (t.queue p) (s.queued p l) in
          ⊎_elim (λ (i, z). inl (i, cc))
          (λ (c, cl, g, sc, n, v).
          let u = w.via_other c cl (not_new c sc) in
          inr (c, cl, cc, stays c cl sc, n, omega arith)) (s.opened p l)

      all_open : (a c : ℕ) → a < m → c < m → t'.next a ≡ c + 1 → t'.seen c ≡ 1 → dead c ≢ 1 → Dec (c ≡ b)
          → (p : ℕ) × (p < tail + 1) × (t'.queue p ≡ a)
      all_open a c al cl g sc n (yes f) = grind (arith, common_steps)
      all_open a c al cl g sc n (no nf) =
          let e = w.next_same a al in
          let f = w.seen_other c cl nf in
          let (p, pl, h) = s.all_open a c al cl (omega arith) (omega arith) n in
          let q = w.queue_same p pl in
          (p, omega arith, cc)

      kept : (c : ℕ) → c < m → t'.seen c ≡ 1 → 0 < t'.prev c
      kept c cl h = grind (arith, common_steps)

      came : (c : ℕ) → c < m → t'.seen c ≡ 1 → dead c ≢ 1 → SeenFrom R t' (tail + 1) c
      came c cl h n = grind (arith, common_steps)

      showing : (c : ℕ) → c < b + 1 → c < m → R (t.queue head) c → t'.seen c ≡ 1
      showing c h cl q = grind (arith, common_steps)

  -- the item at `head` has shown all
  pub item_done : Searching m R dead t head from tail → head < tail
      → ((c : ℕ) → from ≤ c → c < m → R (t.queue head) c → t.seen c ≡ 1) → Searching m R dead t (head + 1) 0 tail
  item_done s hd gap =
      record {
        head_le = omega arith;
        tail_le = s.tail_le;
        queued = s.queued;
        different = s.different;
        opened = s.opened;
        all_open = s.all_open;
        old = s.old;
        kept = s.kept;
        came = s.came;
        shown = λ p b h bl r. go p b h bl r (ℕ_discrete p head) (dec_lt b from);
        showing = λ b h bl r. absurd (omega arith);
      }
    where
      go : (p b : ℕ) → p < head + 1 → b < m → R (t.queue p) b → Dec (p ≡ head) → Dec (b < from) → t.seen b ≡ 1
      go p b h bl r e l = grind (arith, common_steps)

  -- an item that the search comes upon, with no item before it: the way back can be taken
  pub found : {t' : Tables} {b : ℕ} → Matching m t → Searching m R dead t head from tail → Saw m t t' head b tail → head < tail → b < m
      → t.seen b ≡ 0 → t.prev b ≡ 0 → R (t.queue head) b → Trail m R dead t' tail × Flipping m R dead t' t' tail b
  found {t'} {b} k s w hd bl new first r = (
    record {
      queued = λ p pl. rw (w.queue_same p pl) (s.queued p pl);
      different =
          λ p q pl ql e.
          let f = w.queue_same p pl in
          let g = w.queue_same q ql in
          s.different p q pl ql (cc);
      earlier = earlier;
      last = last;
    },
    record {
      below = bl;
      new = λ d. absurd (omega (arith, s.old b bl d));
      from = (head, hd, w.via_here, rw (w.queue_same head hd) r);
      next_le = k'.next_le;
      prev_le = k'.prev_le;
      there = λ a c al cl h. let f = k'.there a c al cl h in (λ e. none a c e f, f);
      back = λ a c al cl ne h. k'.back a c al cl h;
      pairs = λ a c al cl h. inl h;
      ends = λ a al h. h;
      dead_prev = λ c cl d. refl;
      others = λ x xl n h. h;
      untouched = λ q h. refl;
    },
  )
    where
      k' : Matching m t'
      k' = saw_matching k w

      none : (a c : ℕ) → c ≡ b → t'.prev c ≡ a + 1 → ⊥
      none a c e f = grind (arith, common_steps)

      earlier : (p c : ℕ) → p < tail → c < m → t'.next (t'.queue p) ≡ c + 1 → (dead c ≢ 1) × SeenFrom R t' p c
      earlier p c pl cl h = ⊎_elim (λ z. let bad : ⊥ = omega (arith, e, z.1) in absurd bad) go (s.opened p pl)
        where
          e : t.next (t.queue p) ≡ c + 1
          e = let f = w.queue_same p pl in let g = w.next_same (t.queue p) (s.queued p pl) in cc

          go : (d : ℕ) × (d < m) × (t.next (t.queue p) ≡ d + 1) × (t.seen d ≡ 1) × (dead d ≢ 1) × (t.via d ≤ p)
              → (dead c ≢ 1) × SeenFrom R t' p c
          go (d, dl, g, sd, n, v) =
              let same : d ≡ c = omega (arith, e) in
              let sc : t.seen c ≡ 1 = rw same at sd in
              let vc : t.via c ≤ p = rw same at v in
              let other : c ≢ b = λ f. let i : t.seen b ≡ 1 = rw f at sc in omega arith in
              let u = w.via_other c cl other in
              let nc : dead c ≢ 1 = rw same at n in
              let (q, ql, i, j) = s.came c cl sc nc in
              (nc, (q, omega arith, omega arith, rw (w.queue_same q ql) j))

      last : (p : ℕ) → p < tail → t'.next (t'.queue p) ≡ 0 → p ≡ 0
      last p pl h = grind (arith, common_steps)
