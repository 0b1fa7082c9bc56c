-- Graphs with the same episodes, voices and ways have the same apart sets and furthest sets. If they have the same set of links too,
-- they have the same threads, covers and loops: the order and the repeats of links make no difference.
use mathlib.Core.Path.{◌≡◌, refl, sym, ap₂, ◌∙◌}
use mathlib.Core.Logic.Iff
use mathlib.Core.Logic.{inl, inr, ⊎_elim, ◌↔◌}
use mathlib.Core.List.Memᴰ.{head as here}
use mathlib.Core.List.Memᴰ.{tail as there}
use mathlib.Core.List.{List, [], ◌∷◌}
use Prim.Native.Nat.{ℕ, ◌+◌, ◌≤◌}
use native.Mathlib.Omega.{arith}
use Rattle.order.specs.Order.{All}
use Rattle.order.proofs.Chains.{chain_map}
use Rattle.paths.specs.Graph.{
  Graph,
  Episode,
  Link,
  SameLinks,
  Way,
  Acyclic,
  Thread,
  Cover,
  Apart,
  Smallest,
  Heaviest,
  Width,
  Along,
  Furthest,
  Loop,
  weight,
}
use Rattle.paths.specs.Trimmed.{SameWays}
use Rattle.paths.proofs.Ways.{way_map}

-- What holds from one graph to another holds back; and the same ways carry on to a third.
same_sym : {g h : Graph} → SameLinks g h → SameLinks h g
same_sym s =
    record { episodes = sym s.episodes; voices = λ v p. sym (s.voices v (rw s.episodes p)); links = λ a b. Iff.symm (s.links a b) }

pub ways_sym : {g h : Graph} → SameWays g h → SameWays h g
ways_sym s =
    record { episodes = sym s.episodes; voices = λ v p. sym (s.voices v (rw s.episodes p)); ways = λ a b. Iff.symm (s.ways a b) }

pub ways_trans : {f g h : Graph} → SameWays f g → SameWays g h → SameWays f h
ways_trans s t =
    record {
      episodes = s.episodes ∙ t.episodes;
      voices = λ v p. s.voices v p ∙ t.voices v (rw (← s.episodes) p);
      ways = λ a b. Iff.trans (s.ways a b) (t.ways a b);
    }

-- The same links have the same ways.
pub links_ways : {g h : Graph} → SameLinks g h → SameWays g h
links_ways s =
    record {
      episodes = s.episodes;
      voices = s.voices;
      ways = λ a b. (way_map (λ x y. (s.links x y).0), way_map (λ x y. (s.links x y).1));
    }

-- What one graph has the other has too, by its ways.
module _ {g h : Graph} (s : SameWays g h) where
  way : {a b : ℕ} → Way g a b → Way h a b
  way {a} {b} = (s.ways a b).0

  episode : (v : ℕ) → Episode g v → Episode h v
  episode v p = rw (← s.episodes) p

  along : {r t : List ℕ} → Along g r t → Along h r t
  along p b m = ⊎_elim inl (λ q. inr (q.0, q.1, way q.2)) (p b m)

-- Some episodes have as many voices together.
pub same_weight : {g h : Graph} → SameWays g h → (r : List ℕ) → All (Episode g) r → weight g r ≡ weight h r
unfolding weight
same_weight s [] h = refl
same_weight s (v ∷ r) h = ap₂ ◌+◌ (s.voices v (h v (here refl))) (same_weight s r (λ x m. h x (there m)))

-- What asks something of every episode or way takes it back to the first graph.
module _ {g h : Graph} (s : SameWays g h) where
  pub ways_acyclic : Acyclic g → Acyclic h
  ways_acyclic acyclic v w = acyclic v (way (ways_sym s) w)

  apart : {r : List ℕ} → Apart g r → Apart h r
  apart p =
      record {
        episodes = λ v m. episode s v (p.episodes v m);
        voiced = λ v m. rw (← (s.voices v (p.episodes v m))) (p.voiced v m);
        antichain =
            record { once = p.antichain.once; apart = λ m n ne w. p.antichain.apart m n ne (way (ways_sym s) w) };
      }

-- So does what asks something of every apart set.
heaviest : {g h : Graph} → SameWays g h → (r : List ℕ) → Apart g r → Heaviest g r → Heaviest h r
heaviest {g} {h} s r a p t q =
    let e : weight g r ≡ weight h r = same_weight s r a.episodes in
    let f : weight h t ≡ weight g t = same_weight (ways_sym s) t q.episodes in
    let le : weight g t ≤ weight g r = p t (apart (ways_sym s) q) in
    omega arith

furthest : {g h : Graph} → SameWays g h → {r : List ℕ} → Furthest g r → Furthest h r
furthest s {r} f =
    record {
      apart = apart s f.apart;
      heaviest = heaviest s r f.apart f.heaviest;
      along = λ t p q. along s (f.along t (apart (ways_sym s) p) (heaviest (ways_sym s) t p q));
    }

-- Both directions at once.
module _ {g h : Graph} (s : SameWays g h) where
  pub ways_apart : (r : List ℕ) → Apart g r ↔ Apart h r
  ways_apart r = (apart s, apart (ways_sym s))

  pub ways_furthest : (r : List ℕ) → Furthest g r ↔ Furthest h r
  ways_furthest r = (furthest s, furthest (ways_sym s))

-- A graph with the same episodes and all links of another has its threads, and, where no episode has more voices, its covers.
module _ {g h : Graph} (episodes : g.n ≡ h.n) (link : (a b : ℕ) → Link g a b → Link h a b) where
  thread : {t : List ℕ} → Thread g t → Thread h t
  thread t = record { episodes = λ v m. rw (← episodes) (t.episodes v m); path = chain_map link t.path }

  pub more_cover : ((v : ℕ) → Episode g v → h.voices v ≤ g.voices v) → {ts : List (List ℕ)} → Cover g ts → Cover h ts
  more_cover voices c =
      record {
        threads = λ t m. thread (c.threads t m);
        enough = λ v p. let q : Episode g v = rw episodes p in omega (arith, voices v q, c.enough v q);
      }

-- What one graph has the other has too, by its links.
module _ {g h : Graph} (s : SameLinks g h) where
  link : (a b : ℕ) → Link g a b → Link h a b
  link a b = (s.links a b).0

  cover : {ts : List (List ℕ)} → Cover g ts → Cover h ts
  cover = more_cover s.episodes link (λ v q. omega (arith, s.voices v q))

  loop : {c : List ℕ} → Loop g c → Loop h c
  loop o =
      record {
        first = o.first;
        others = o.others;
        parts = o.parts;
        episodes = λ v m. episode (links_ways s) v (o.episodes v m);
        once = o.once;
        closed = chain_map link o.closed;
      }

-- What asks something of every cover takes it back to the first graph.
module _ {g h : Graph} (s : SameLinks g h) where
  smallest : (ts : List (List ℕ)) → Smallest g ts → Smallest h ts
  smallest ts p us c = p us (cover (same_sym s) c)

  width : {k : ℕ} → Width g k → Width h k
  width (ts, c, p, e) = (ts, cover s c, smallest ts p, e)

-- Both directions at once.
module _ {g h : Graph} (s : SameLinks g h) where
  back : SameLinks h g
  back = same_sym s

  pub same_ways : (a b : ℕ) → Way g a b ↔ Way h a b
  same_ways = (links_ways s).ways

  pub same_covers : (ts : List (List ℕ)) → Cover g ts ↔ Cover h ts
  same_covers ts = (cover s, cover back)

  pub same_apart : (r : List ℕ) → Apart g r ↔ Apart h r
  same_apart = ways_apart (links_ways s)

  pub same_width : (k : ℕ) → Width g k ↔ Width h k
  same_width k = (width s, width back)

  pub same_furthest : (r : List ℕ) → Furthest g r ↔ Furthest h r
  same_furthest = ways_furthest (links_ways s)

  pub same_loops : (c : List ℕ) → Loop g c ↔ Loop h c
  same_loops c = (loop s, loop back)
