-- Which links count: by their least pause, as is defined, or, what comes to the same, by the pause of some to word. All that were heard count in
-- version 0, and where no pause is over the longest that counts in version 1.
use mathlib.Core.Path.{◌≡◌, refl, ◌∙◌, ap, sym, subst}
use mathlib.Core.Logic.Iff
use mathlib.Core.Logic.{◌↔◌}
use mathlib.Core.Bool.{Bool, true, false, Bool-discrete}
use mathlib.Core.List.Memᴰ
use mathlib.Core.List.{List, [], ◌∷◌, ◌++◌, map, map-append, filter-append, Memᴰ as Mem}
use Prim.Native.Nat.{ℕ, ◌≤◌, ◌<◌}
use native.Mathlib.Omega.{arith}
use lib.Dec.{eqb}
use lib.ListN.{length, length-map}
use borrow.Author.Tests.{leb-true, le-leb}
use Rattle.order.specs.Order.{All}
use Rattle.order.proofs.Lists.{filter_sound, filter_complete, filter_length, filter_fewer, filter_all}
use Rattle.paths.specs.Graph.{Link, SameLinks}
use Rattle.paths.specs.Links.{link_count}
use Rattle.paths.proofs.Links.{count_few, count_more, count_same}
use Rattle.logs.specs.Content.{
  Heard,
  Content,
  joins,
  heard_graph,
  HeardOf,
  LeastPause,
  SameContent,
  least_pause,
  longest_pause,
  short_enough,
  counting,
  graph,
  short_of,
}
use Rattle.logs.specs.Hear.{where_short}
use Rattle.logs.proofs.Pauses.{same_heard, least_unique, least_pause_lem, link_heard}

-- a pause that is no longer than one that lets a link count lets it too
shorter : (v p q : ℕ) → p ≤ q → short_enough v q ≡ true → short_enough v p ≡ true
shorter v p q le e = by_version (eqb v 0) refl
  where
    by_version : (x : Bool) → eqb v 0 ≡ x → short_enough v p ≡ true
    by_version true f = rw f
    by_version false f = let short = leb-true q longest_pause (rw f at e) in rw (f, le-leb p longest_pause (omega arith))

-- in version 0 each does, in version 1 only one that is not over the longest, and such a one in any version
short_old : (v p : ℕ) → v ≡ 0 → short_enough v p ≡ true
short_old v p e = rw e

short_new : (v p : ℕ) → v ≡ 1 → short_enough v p ≡ true → p ≤ longest_pause
short_new v p e short = leb-true p longest_pause (rw e at short)

short_few : (v p : ℕ) → p ≤ longest_pause → short_enough v p ≡ true
short_few v p le = by_version (eqb v 0) refl
  where
    by_version : (x : Bool) → eqb v 0 ≡ x → short_enough v p ≡ true
    by_version true f = rw f
    by_version false f = rw (f, le-leb p longest_pause le)

module _ (c : Content) where
  -- the least pause of the link lets it count
  abbrev Counts : Heard → Type 0
  Counts h = short_enough c.version (least_pause c h.from h.to) ≡ true

  abbrev counts : (h : Heard) → Dec (Counts h)
  counts h = Bool-discrete (short_enough c.version (least_pause c h.from h.to)) true

  -- a link counts exactly when its least pause lets it
  pub counts_least : (a b : ℕ) → Link (graph c) a b ↔ ((p : ℕ) × LeastPause c a b p × (short_enough c.version p ≡ true))
  unfolding counting
  counts_least a b = (
    λ m.
        let (h, i, e) = Memᴰ.of_map joins (counting c) m in
        let (j, short) = filter_sound counts c.heard i in
        let from : h.from ≡ a = ap (λ (v : ℕ × ℕ). v.0) e in
        let to : h.to ≡ b = ap (λ (v : ℕ × ℕ). v.1) e in (
          least_pause c a b,
          least_pause_lem c a b (h.pause, Memᴰ.cast (same_heard h a b h.pause (sym from) (sym to) refl) j),
          rw (from, to) at short,
        ),
    λ (p, least, short).
        let same : p ≡ least_pause c a b = least_unique least (least_pause_lem c a b (p, least.heard)) in
        Memᴰ.map joins (filter_complete counts c.heard least.heard (subst (λ (q : ℕ). short_enough c.version q ≡ true) same short)),
  )

  -- that is, when some to word gives it with a pause that does
  pub counts_own : (a b : ℕ) → Link (graph c) a b ↔ ((p : ℕ) × HeardOf c a b p × (short_enough c.version p ≡ true))
  counts_own a b = (
    λ m. let (p, least, short) = (counts_least a b).0 m in (p, least.heard, short),
    λ (p, heard, short).
        let least = least_pause_lem c a b (p, heard) in
        (counts_least a b).1 (least_pause c a b, least, shorter c.version (least_pause c a b) p (least.least p heard) short),
  )

  -- so the links that count by their own pause are those that count
  pub short_links_lem : (a b : ℕ) → Mem {A = ℕ × ℕ} (a, b) (map joins (short_of c.version c.heard)) ↔ Link (graph c) a b
  unfolding short_of
  short_links_lem a b = (
    λ m.
        let (h, i, e) = Memᴰ.of_map joins (short_of c.version c.heard) m in
        let (j, short) = filter_sound (λ (k : Heard). Bool-discrete (short_enough c.version k.pause) true) c.heard i in
        let from : h.from ≡ a = ap (λ (v : ℕ × ℕ). v.0) e in
        let to : h.to ≡ b = ap (λ (v : ℕ × ℕ). v.1) e in
        (counts_own a b).1 (h.pause, Memᴰ.cast (same_heard h a b h.pause (sym from) (sym to) refl) j, short),
    λ m.
        let (p, heard, short) = (counts_own a b).0 m in
        Memᴰ.map joins (filter_complete (λ (k : Heard). Bool-discrete (short_enough c.version k.pause) true) c.heard heard short),
  )

  -- each of them was heard, so there are no more
  pub counted_heard : (a b : ℕ) → Link (graph c) a b → Link (heard_graph c) a b
  counted_heard a b m = Memᴰ.map joins ((counts_own a b).0 m).1

  pub links_few : length (graph c).links ≤ length c.heard
  unfolding counting
  links_few = omega (arith, length-map (counting c) joins, filter_length counts c.heard)

  -- where the least pause of each link that was heard lets it count, all that were heard do
  whole_graph : All Counts c.heard → graph c ≡ heard_graph c
  unfolding counting
  whole_graph h = ap (λ (hs : List Heard). record { n = c.n; links = map joins hs; voices = c.voices }) (filter_all counts c.heard h)

  -- so it is in version 0
  pub old_graph : c.version ≡ 0 → graph c ≡ heard_graph c
  old_graph old = whole_graph (λ h m. short_old c.version (least_pause c h.from h.to) old)

  -- and where no pause is over the longest
  pub short_graph : All (λ h. h.pause ≤ longest_pause) c.heard → graph c ≡ heard_graph c
  short_graph short =
      whole_graph
      (λ h m.
      let least = least_pause_lem c h.from h.to (h.pause, m) in
      short_few c.version _ (short _ least.heard))

  -- what counts, by version
  pub old_counts : c.version ≡ 0 → (a b : ℕ) → Link (graph c) a b ↔ ((p : ℕ) × HeardOf c a b p)
  old_counts old a b = (
    λ m. let (p, heard, short) = (counts_own a b).0 m in (p, heard),
    λ (p, heard). (counts_own a b).1 (p, heard, short_old c.version p old),
  )

  pub new_counts : c.version ≡ 1 → (a b : ℕ) → Link (graph c) a b ↔ ((p : ℕ) × LeastPause c a b p × (p ≤ longest_pause))
  new_counts new a b = (
    λ m. let (p, least, short) = (counts_least a b).0 m in (p, least, short_new c.version p new short),
    λ (p, least, le). (counts_least a b).1 (p, least, short_few c.version p le),
  )

  pub new_some : c.version ≡ 1 → (a b : ℕ) → Link (graph c) a b ↔ ((p : ℕ) × HeardOf c a b p × (p ≤ longest_pause))
  new_some new a b = (
    λ m. let (p, heard, short) = (counts_own a b).0 m in (p, heard, short_new c.version p new short),
    λ (p, heard, le). (counts_own a b).1 (p, heard, short_few c.version p le),
  )

  -- the link count is at most that of the links that were heard, and equal to it where each of them counts
  pub count_at_most : link_count (graph c) ≤ link_count (heard_graph c)
  count_at_most = count_more (graph c) (heard_graph c) counted_heard

  pub count_whole : ((a b : ℕ) → Link (heard_graph c) a b → Link (graph c) a b) → link_count (graph c) ≡ link_count (heard_graph c)
  count_whole all =
      let same : SameLinks (graph c) (heard_graph c) = record { episodes = refl; voices = λ v h. refl; links = λ a b. (counted_heard a b, all a b) } in
      count_same same

  -- where it is not less than the count of all that were heard, repeats included, each of them counts
  pub whole_where_count : length c.heard ≤ link_count (graph c) → (a b : ℕ) → Link (heard_graph c) a b → Link (graph c) a b
  unfolding counting
  whole_where_count most a b k = let (p, m) = (link_heard c a b).0 k in by_pause p m (counts (record { from = a; to = b; pause = p }))
    where
      by_pause : (p : ℕ) → HeardOf c a b p → Dec (Counts (record { from = a; to = b; pause = p })) → Link (graph c) a b
      by_pause p m (yes short) = Memᴰ.map joins (filter_complete counts c.heard m short)
      by_pause p m (no long) =
          let fewer = filter_fewer counts c.heard m long in
          absurd (omega (arith, count_few (graph c), length-map (counting c) joins))

-- contents of version 0 with the same episodes, as many voices and the same links that were heard have the same links
pub old_same : (c d : Content) → c.version ≡ 0 → d.version ≡ 0 → c.n ≡ d.n → ((v : ℕ) → v < c.n → c.voices v ≡ d.voices v)
    → ((a b : ℕ) → ((p : ℕ) × HeardOf c a b p) ↔ ((p : ℕ) × HeardOf d a b p)) → SameLinks (graph c) (graph d)
old_same c d old old' episodes voices heard =
    record { episodes = episodes; voices = voices; links = λ a b. Iff.trans (old_counts c old a b) (Iff.trans (heard a b) (Iff.symm (old_counts d old' a b))) }

-- contents that agree have the same links that count
pub same_links : {c d : Content} → SameContent c d → SameLinks (graph c) (graph d)
same_links {c} {d} s =
    record {
      episodes = s.episodes;
      voices = s.voices;
      links = λ a b. (
        λ m.
            let (p, least, short) = (counts_least c a b).0 m in
            (counts_least d a b).1 (p, (s.pauses a b p).0 least, subst (λ (v : ℕ). short_enough v p ≡ true) s.versions short),
        λ m.
            let (p, least, short) = (counts_least d a b).0 m in
            (counts_least c a b).1 (p, (s.pauses a b p).1 least, subst (λ (v : ℕ). short_enough v p ≡ true) (sym s.versions) short),
      );
    }

-- links more that were heard: those of them that count by their own pause do so still
short_append : (v : ℕ) (hs ks : List Heard) → short_of v (hs ++ ks) ≡ short_of v hs ++ short_of v ks
unfolding short_of
short_append v = filter-append (λ (k : Heard). Bool-discrete (short_enough v k.pause) true)

pub short_more : (v : ℕ) (hs ks : List Heard) → map joins (short_of v (hs ++ ks)) ≡ map joins (short_of v hs) ++ map joins (short_of v ks)
short_more v hs ks = ap (map joins) (short_append v hs ks) ∙ map-append joins (short_of v hs) (short_of v ks)

-- of one
pub short_one : (v : ℕ) (h : Heard) → map joins (short_of v (h ∷ [])) ≡ where_short (short_enough v h.pause) (joins h)
unfolding short_of
short_one v h = by_pause (short_enough v h.pause) refl
  where
    by_pause : (b : Bool) → short_enough v h.pause ≡ b → map joins (short_of v (h ∷ [])) ≡ where_short b (joins h)
    by_pause true e = rw e
    by_pause false e = rw e

pub short_none : (v : ℕ) → short_of v [] ≡ []
unfolding short_of
short_none v = refl
