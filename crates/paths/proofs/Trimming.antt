-- Trimming: which links stay, and that in an acyclic graph the links that stay have the same ways as all links. A way from `a` to `b`
-- is taken apart at an episode between the two as long as there is one; each time fewer are left between.
use mathlib.Core.Path.{◌≡◌, refl, sym, ap, ◌∙◌}
use mathlib.Core.Logic.Dec
use mathlib.Core.Logic.{◌⊎◌, inl, inr, ◌↔◌}
use mathlib.Core.List.Memᴰ.{head as here}
use mathlib.Core.List.Memᴰ.{tail as there}
use mathlib.Core.List.{
  List,
  [],
  ◌∷◌,
  ◌++◌,
  Memᴰ as Mem,
  Nodup,
  filter,
}
use Prim.Native.Nat.{ℕ, zero, suc, ◌≤◌, ◌<◌}
use native.Mathlib.Decide.{ℕ_discrete, dec_lt}
use native.Mathlib.Omega.{arith}
use lib.ListN.{length}
use Rattle.order.specs.Order.{All, Chain, single, more}
use Rattle.order.proofs.Lists.{all_cons, find, filter_sound, filter_complete, filter_nodup, nodup_cons, nodup_le}
use Rattle.order.proofs.Chains.{chain_map}
use Rattle.paths.specs.Graph.{Graph, Episode, Link, EndsBelow, SameLinks, Way, one, step, Acyclic, Thread, Width, weight}
use Rattle.paths.specs.Trimmed.{SameWays, Stays, Trimmed, Implied}
use Rattle.paths.proofs.Ways.{way_trans, way_last, way_map, dec_link, dec_way}
use Rattle.paths.proofs.Threads.{thread_single, thread_cons}
use Rattle.paths.proofs.Loops.{walk_way}
use Rattle.paths.proofs.Numbers.{below, lt_below, below_nodup}
use Rattle.paths.proofs.Duality.{weak_duality, equal_smallest, certificate}
use Rattle.paths.proofs.Same.{ways_sym, ways_acyclic, ways_apart, same_weight}

-- two ways that meet lead on by a link and a way
pub meet_implied : {g : Graph} {a c b : ℕ} → Way g a c → Way g c b → Implied g a b
meet_implied {c = c} (one l) v = (c, l, v)
meet_implied {c = c} {b = b} (step {b = d} l w) v = (d, l, way_trans d c b w v)

-- a way is a thread from its first episode to its last
way_between : {g : Graph} → EndsBelow g → {a b : ℕ} → Way g a b → (p : List ℕ) × Thread g (a ∷ p ++ b ∷ [])
way_between ends (one l) = let e = ends _ _ l in ([], thread_cons e.0 l (thread_single e.1))
way_between ends (step {b = c} l w) = let r = way_between ends w in (c ∷ r.0, thread_cons (ends _ _ l).0 l r.1)

-- The links between episodes: a thread has no others.
module _ (g : Graph) where
  below_both : (l : ℕ × ℕ) → Dec ((l.0 < g.n) × (l.1 < g.n))
  below_both l = Dec.and (dec_lt l.0 g.n) (dec_lt l.1 g.n)

  inner : Graph
  inner = record { n = g.n; links = filter below_both g.links; voices = g.voices }

  inner_link : {a b : ℕ} → Link inner a b → Link g a b
  unfolding inner
  inner_link m = (filter_sound below_both g.links m).0

  inner_ends : EndsBelow inner
  unfolding inner
  inner_ends a b m = (filter_sound below_both g.links m).1

  link_inner : {a b : ℕ} → Episode g a → Episode g b → Link g a b → Link inner a b
  unfolding inner
  link_inner h k m = filter_complete below_both g.links m (h, k)

  inner_chain : {t : List ℕ} → All (Episode g) t → Chain (Link g) t → Chain (Link inner) t
  inner_chain h single = single
  inner_chain h (more {a = a} {b = b} l c) =
      more (link_inner (h a (here refl)) (h b (there (here refl))) l) (inner_chain (λ v m. h v (there m)) c)

  -- a thread with an episode between its first and its last is a link and a way, and the other way round
  thread_implied : {a b c : ℕ} (p : List ℕ) → Thread g (a ∷ c ∷ p ++ b ∷ []) → Implied inner a b
  thread_implied {a} {b} {c} p thread = go (inner_chain thread.episodes thread.path)
    where
      go : Chain (Link inner) (a ∷ c ∷ p ++ b ∷ []) → Implied inner a b
      go (more l walk) = (c, l, walk_way c p b walk)

  implied_thread : {a b : ℕ} → Implied inner a b → (c : ℕ) × (p : List ℕ) × Thread g (a ∷ c ∷ p ++ b ∷ [])
  unfolding inner
  implied_thread (c, l, w) =
      let (p, thread) = way_between inner_ends w in
      let whole = thread_cons (inner_ends _ _ l).0 l thread in
      (c, p, record { episodes = whole.episodes; path = chain_map (λ x y. inner_link) whole.path })

  stays_inner : {a b : ℕ} → Stays g a b → Implied inner a b → ⊥
  stays_inner s i =
      let (c, p, thread) = implied_thread i in
      let e : ◌≡◌ {A = List ℕ} (c ∷ p) [] = s.only (c ∷ p) thread in
      let none : suc (length p) ≡ 0 = ap length e in
      omega arith

  inner_stays : {a b : ℕ} → Link g a b → (Implied inner a b → ⊥) → Stays g a b
  inner_stays {a} {b} l none = record { link = l; only = only }
    where
      only : (p : List ℕ) → Thread g (a ∷ p ++ b ∷ []) → p ≡ []
      only [] thread = refl
      only (c ∷ p) thread = absurd (none (thread_implied p thread))

  -- whether a link stays can be decided
  pub dec_stays : (a b : ℕ) → Dec (Stays g a b)
  dec_stays a b = go (dec_link g a b) (find (λ c. Dec.and (dec_link inner a c) (dec_way inner inner_ends c b)) (below inner.n))
    where
      go : Dec (Link g a b)
          → ((c : ℕ) × Mem c (below inner.n) × (Link inner a c × Way inner c b)) ⊎ All (λ c. Link inner a c × Way inner c b → ⊥) (below inner.n)
          → Dec (Stays g a b)
      go (no nl) o = no (λ s. nl s.link)
      go (yes l) (inl (c, m, i)) = no (λ s. stays_inner s (c, i.0, i.1))
      go (yes l) (inr none) = yes (inner_stays l (λ (c, k, w). none c (lt_below inner.n (inner_ends a c k).1) (k, w)))

-- Where links join episodes, a link stays exactly when no link and way lead round it.
module _ {g : Graph} (ends : EndsBelow g) where
  inner_way : {a b : ℕ} → Way g a b → Way (inner g) a b
  inner_way (one l) = let e = ends _ _ l in one (link_inner g e.0 e.1 l)
  inner_way (step l w) = let e = ends _ _ l in step (link_inner g e.0 e.1 l) (inner_way w)

  pub stays_direct : {a b : ℕ} → Stays g a b → Implied g a b → ⊥
  stays_direct s (c, l, w) = let e = ends _ _ l in stays_inner g s (c, link_inner g e.0 e.1 l, inner_way w)

  pub direct_stays : {a b : ℕ} → Link g a b → (Implied g a b → ⊥) → Stays g a b
  direct_stays l none = inner_stays g l (λ (c, k, w). none (c, inner_link g k, way_map (λ x y. inner_link g) w))

  -- which is the same as that no episode lies between its ends
  pub stays_exactly : {a b : ℕ} → Stays g a b ↔ (Link g a b × ((c : ℕ) → Way g a c → Way g c b → ⊥))
  stays_exactly =
      (λ s. (s.link, λ c w v. stays_direct s (meet_implied w v)), λ (l, none). direct_stays l (λ (c, k, w). none c (one k) w))

-- The links that stay have the same ways as all links.
module _ {g h : Graph} (ends : EndsBelow g) (acyclic : Acyclic g) (t : Trimmed g h) where
  between : (a b c : ℕ) → Dec (Way g a c × Way g c b)
  between a b c = Dec.and (dec_way g ends a c) (dec_way g ends c b)

  -- the episodes between two
  inside : ℕ → ℕ → List ℕ
  inside a b = filter (between a b) (below g.n)

  inside_mem : {a b c : ℕ} → Mem c (inside a b) → Way g a c × Way g c b
  unfolding inside
  inside_mem {a} {b} m = (filter_sound (between a b) (below g.n) m).1

  mem_inside : {a b c : ℕ} → Way g a c → Way g c b → Mem c (inside a b)
  unfolding inside
  mem_inside {a} {b} w v = filter_complete (between a b) (below g.n) (lt_below g.n (way_last ends w)) (w, v)

  inside_nodup : (a b : ℕ) → Nodup (inside a b)
  unfolding inside
  inside_nodup a b = filter_nodup (between a b) (below g.n) (below_nodup g.n)

  -- fewer are between the first and one of them, and between that one and the last
  module _ {a b c : ℕ} (w : Way g a c) (v : Way g c b) where
    fewer_first : length (inside a c) < length (inside a b)
    fewer_first =
        nodup_le ℕ_discrete (c ∷ inside a c) (inside a b) (nodup_cons (λ m. acyclic c (inside_mem m).1) (inside_nodup a c))
        (all_cons (mem_inside w v) (λ x m. let (p, q) = inside_mem m in mem_inside p (way_trans x c b q v)))

    fewer_last : length (inside c b) < length (inside a b)
    fewer_last =
        nodup_le ℕ_discrete (c ∷ inside c b) (inside a b) (nodup_cons (λ m. acyclic c (inside_mem m).0) (inside_nodup c b))
        (all_cons (mem_inside w v) (λ x m. let (p, q) = inside_mem m in mem_inside (way_trans a c x w p) q))

  -- a way between which there is no episode is a link that stays
  link_kept : {a b : ℕ} → All (λ c. Way g a c × Way g c b → ⊥) (below g.n) → Way g a b → Way h a b
  link_kept none (one {a = a} {b = b} l) =
      one ((t.links a b).1 (direct_stays ends l (λ (c, k, v). none c (lt_below g.n (ends a c k).1) (one k, v))))
  link_kept none (step {a = a} {b = c} l v) = absurd (none c (lt_below g.n (ends a c l).1) (one l, v))

  way_kept : (k a b : ℕ) → length (inside a b) < k → Way g a b → Way h a b
  way_kept zero a b le w = absurd (omega arith)
  way_kept (suc k) a b le w = go (find (between a b) (below g.n)) (way_kept k)
    where
      go : ((c : ℕ) × Mem c (below g.n) × (Way g a c × Way g c b)) ⊎ All (λ c. Way g a c × Way g c b → ⊥) (below g.n)
          → ((x y : ℕ) → length (inside x y) < k → Way g x y → Way h x y) → Way h a b
      go (inr none) rest = link_kept none w
      go (inl (c, m, v)) rest =
          let first = fewer_first v.0 v.1 in
          let last = fewer_last v.0 v.1 in
          way_trans a c b (rest a c (omega arith) v.0) (rest c b (omega arith) v.1)

  -- a graph and the same graph trimmed have the same ways
  pub trimmed_ways : SameWays g h
  trimmed_ways =
      record {
        episodes = sym t.episodes;
        voices = λ v p. sym (t.voices v p);
        ways = λ a b. (way_kept (suc (length (inside a b))) a b (omega arith), way_map (λ x y l. ((t.links x y).0 l).link));
      }

-- What the same ways give of trimming: a link that stays in one graph is a link of the other, and stays there.
module _ {g h : Graph} (ends : EndsBelow g) (s : SameWays g h) where
  other_implied : {a b : ℕ} → Implied h a b → Implied g a b
  other_implied {a} {b} (c, l, w) = meet_implied ((s.ways a c).1 (one l)) ((s.ways c b).1 w)

  pub stays_link : {a b : ℕ} → Stays g a b → Link h a b
  stays_link {a} {b} t = go ((s.ways a b).0 (one t.link))
    where
      go : Way h a b → Link h a b
      go (one l) = l
      go (step {b = c} l w) = absurd (stays_direct ends t (other_implied (c, l, w)))

  pub stays_stays : EndsBelow h → {a b : ℕ} → Stays g a b → Stays h a b
  stays_stays others t = direct_stays others (stays_link t) (λ i. stays_direct ends t (other_implied i))

-- So graphs with the same ways, trimmed, have the same links.
pub ways_trimmed : {g h g' h' : Graph} → EndsBelow g → EndsBelow h → SameWays g h → Trimmed g g' → Trimmed h h' → SameLinks g' h'
ways_trimmed {g} {h} ge he s t u =
    record {
      episodes = t.episodes ∙ s.episodes ∙ sym u.episodes;
      voices = λ v p.
          let q : Episode g v = rw (← t.episodes) p in
          t.voices v q ∙ s.voices v q ∙ sym (u.voices v (rw (← s.episodes) q));
      links = λ a b. (
        λ l. (u.links a b).1 (stays_stays ge s he ((t.links a b).0 l)),
        λ l. (t.links a b).1 (stays_stays he (ways_sym s) ge ((u.links a b).0 l)),
      );
    }

-- A graph that is trimmed has only links of the one that it comes from.
module _ {g h : Graph} (t : Trimmed g h) where
  pub trimmed_link : (a b : ℕ) → Link h a b → Link g a b
  trimmed_link a b l = ((t.links a b).0 l).link

  pub trimmed_ends : EndsBelow g → EndsBelow h
  trimmed_ends ends a b l = let e = ends a b (trimmed_link a b l) in (rw t.episodes e.0, rw t.episodes e.1)

-- The width goes by the ways, in acyclic graphs: it is the weight of a heaviest apart set.
module _ {g h : Graph} (ge : EndsBelow g) (he : EndsBelow h) (acyclic : Acyclic g) (s : SameWays g h) where
  width_there : {k : ℕ} → Width g k → Width h k
  width_there (ts, cover, smallest, size) =
      let c = certificate ge acyclic in
      let d = certificate he (ways_acyclic s acyclic) in
      let few : length ts ≤ length c.threads = smallest c.threads c.is_cover in
      let over : weight h c.apart ≤ length d.threads = weak_duality d.threads c.apart d.is_cover ((ways_apart s c.apart).0 c.is_apart) in
      let back : weight g d.apart ≤ length ts = weak_duality ts d.apart cover ((ways_apart s d.apart).1 d.is_apart) in
      let first : weight g c.apart ≡ weight h c.apart = same_weight s c.apart c.is_apart.episodes in
      let last : weight h d.apart ≡ weight g d.apart = same_weight (ways_sym s) d.apart d.is_apart.episodes in
      (d.threads, d.is_cover, equal_smallest d.threads d.apart d.is_apart d.same, omega (arith, c.same, d.same))

pub ways_width : {g h : Graph} → EndsBelow g → EndsBelow h → Acyclic g → SameWays g h → (k : ℕ) → Width g k ↔ Width h k
ways_width ge he acyclic s k =
    (width_there ge he acyclic s, width_there he ge (ways_acyclic s acyclic) (ways_sym s))
