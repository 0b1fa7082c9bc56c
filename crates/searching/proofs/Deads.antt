-- What is dead: what searches have seen in vain, and through which no later search succeeds. At first that is nothing; a search in vain adds
-- what it has seen, a chain fewer changes nothing of it, and after the last item it is what an exhausted search shows.
use Rattle.std.proofs.lemmas.Grind.{common_steps}
use mathlib.Core.Path.{◌≡◌, sym, ◌∙◌}
use mathlib.Core.Logic.{inl, inr, ⊎_elim, ◌≢◌}
use Prim.Native.Nat.{ℕ, zero, suc, ◌+◌, ◌≤◌, ◌<◌}
use native.Mathlib.Decide.{ℕ_discrete}
use native.Mathlib.Omega.{arith}
use Rattle.searching.specs.Items.{
  Tables,
  SameChains,
  Matching,
  Reached,
  from_end,
  from_next,
  Before,
  Spent,
  Dead,
  Exhausted,
  Searching,
  Extended,
}
use Rattle.searching.proofs.Relations.{Within, reached_within}

-- with more items searched from
reached_more : {m k l b : ℕ} {R : ℕ → ℕ → Type 0} {next : ℕ → ℕ} → k ≤ l → Reached m (Before k next R) next b → Reached m (Before l next R) next b
reached_more le x = reached_within (λ a b al bl (h, r). (λ e. omega (arith, h e), r)) x

-- in the same chains
reached_same : {m k : ℕ} {R : ℕ → ℕ → Type 0} {next next' : ℕ → ℕ} {b : ℕ} → ((a : ℕ) → a < m → next' a ≡ next a)
    → Reached m (Before k next R) next b → Reached m (Before k next' R) next' b
reached_same s (from_end {a = a} al bl e (h, r)) = from_end al bl (s a al ∙ e) (λ z. h e, r)
reached_same s (from_next {a = a} al bl cl e g (h, r)) =
    from_next al bl cl (s a al ∙ e) (reached_same s g) (λ z. h (sym (s a al) ∙ z), r)

-- the same chains, and the same pairs of another relation
pub dead_moved : {m k : ℕ} {R R' : ℕ → ℕ → Type 0} {t t' : Tables} {dead dead' : ℕ → ℕ} → Within m R R' → Within m R' R → SameChains m t t'
    → ((b : ℕ) → b < m → dead' b ≡ dead b) → Dead m R t dead k → Dead m R' t' dead' k
dead_moved {m} {k} {t = t} {t' = t'} {dead = dead} {dead' = dead'} to back s d x =
    record {
      closed = λ a b al bl h r. omega (arith, d b bl, x.closed a b al bl (spent a al h) (back a b al bl r));
      kept = λ b bl h. omega (arith, s.prev_same b bl, x.kept b bl (omega (arith, d b bl)));
      sound =
          λ b bl h.
          reached_within (λ a c al cl (g, r). (g, to a c al cl r)) (reached_same s.next_same (x.sound b bl (omega (arith, d b bl))));
    }
  where
    spent : (a : ℕ) → a < m → Spent m t' dead' k a → Spent m t dead k a
    spent a al h = grind (arith, common_steps)

module _ {m : ℕ} {R : ℕ → ℕ → Type 0} {t : Tables} {dead : ℕ → ℕ} where
  -- what can be reached from the items searched from is dead
  reached_dead : {k b : ℕ} → Dead m R t dead k → Reached m (Before k t.next R) t.next b → dead b ≡ 1
  reached_dead x (from_end {a = a} {b = b} al bl e (h, r)) = x.closed a b al bl (inl (h e, e)) r
  reached_dead x (from_next {a = a} {b = b} {c = c} al bl cl e g (h, r)) = x.closed a b al bl (inr (c, cl, e, reached_dead x g)) r

  module _ {a : ℕ} (x : Dead m R t dead a) where
    -- an item that ends no chain
    pub dead_skip : 0 < t.next a → Dead m R t dead (a + 1)
    dead_skip pos =
        record {
          closed = λ y b yl bl h r. x.closed y b yl bl (spent y h) r;
          kept = x.kept;
          sound = λ b bl h. reached_more (omega arith) (x.sound b bl h);
        }
      where
        spent : (y : ℕ) → Spent m t dead (a + 1) y → Spent m t dead a y
        spent y h = grind (arith, common_steps)

    -- a search from `a` in vain
    pub dead_more : {tail : ℕ} → Searching m R dead t tail 0 tail → 0 < tail → t.queue 0 ≡ a → Dead m R t t.seen (a + 1)
    dead_more {tail} s pos q =
        record {
          closed =
              λ y b yl bl h r.
              ⊎_elim (λ (l, e). end y b yl bl l e r (ℕ_discrete y a)) (λ (c, cl, e, sc). next y b c yl bl cl e sc r) h;
          kept = s.kept;
          sound = λ b bl h. sound b bl h (ℕ_discrete (dead b) 1);
        }
      where
        end : (y b : ℕ) → y < m → b < m → y < a + 1 → t.next y ≡ 0 → R y b → Dec (y ≡ a) → t.seen b ≡ 1
        end y b yl bl l e r d = grind (arith, common_steps)

        next : (y b c : ℕ) → y < m → b < m → c < m → t.next y ≡ c + 1 → t.seen c ≡ 1 → R y b → t.seen b ≡ 1
        next y b c yl bl cl e sc r = grind (arith, common_steps)

        new : (k b : ℕ) → b < m → t.seen b ≡ 1 → dead b ≢ 1 → t.via b < k → Reached m (Before (a + 1) t.next R) t.next b
        new zero b bl h n l = absurd (omega arith)
        new (suc k) b bl h n l =
            let (p, pl, v, r) = s.came b bl h n in
            ⊎_elim
            (λ (i, z).
            let j : t.queue p ≡ a = rw i q in
            from_end (s.queued p pl) bl z (λ e. omega arith, r))
            (λ (c, cl, e, sc, nc, u).
            from_next (s.queued p pl) bl cl e (new k c cl sc nc (omega arith)) (λ z. absurd (omega arith), r)) (s.opened p pl)

        sound : (b : ℕ) → b < m → t.seen b ≡ 1 → Dec (dead b ≡ 1) → Reached m (Before (a + 1) t.next R) t.next b
        sound b bl h (yes d) = reached_more (omega arith) (x.sound b bl d)
        sound b bl h (no n) = new (t.via b + 1) b bl h n (omega arith)

    -- one chain fewer, the one that `a` ended
    pub dead_kept : {t' : Tables} → Matching m t → Extended m R dead t t' a → Dead m R t' dead (a + 1)
    dead_kept {t'} k f =
        record {
          closed = λ y b yl bl h r. x.closed y b yl bl (spent y yl h) r;
          kept = λ b bl h. omega (arith, f.dead_prev b bl h, x.kept b bl h);
          sound = λ b bl h. moved (x.sound b bl h);
        }
      where
        spent : (y : ℕ) → y < m → Spent m t' dead (a + 1) y → Spent m t dead a y
        spent y yl h = grind (arith, common_steps)

        pair : (y c : ℕ) → y < m → c < m → t.next y ≡ c + 1 → dead c ≡ 1 → t'.next y ≡ c + 1
        pair y c yl cl e d = grind (arith, common_steps)

        moved : {b : ℕ} → Reached m (Before a t.next R) t.next b → Reached m (Before (a + 1) t'.next R) t'.next b
        moved (from_end {a = y} yl bl e (h, r)) =
            let l = h e in
            from_end yl bl (f.others y yl (λ i. absurd (omega arith)) e) (λ z. omega arith, r)
        moved (from_next {a = y} {c = c} yl bl cl e g (h, r)) =
            let j = pair y c yl cl e (reached_dead x g) in
            from_next yl bl cl j (moved g) (λ z. absurd (omega arith), r)

  -- after the last item
  pub dead_exhausted : Dead m R t dead m → ((b : ℕ) → b < m → t.seen b ≡ dead b) → Exhausted m R t
  dead_exhausted x s =
      record {
        closed =
            λ a b al bl o r.
            omega (
              arith,
              s b bl,
              x.closed a b al bl
                  (⊎_elim (λ e. inl (al, e)) (λ (c, cl, e, sc). inr (c, cl, e, omega (arith, s c cl))) o) r,
            );
        kept = λ b bl h. x.kept b bl (omega (arith, s b bl));
        sound = λ b bl h. reached_within (λ a c al cl (g, r). r) (x.sound b bl (omega (arith, s b bl)));
      }
