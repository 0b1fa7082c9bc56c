-- The pauses of a link, and the least of them: that `least_pause` is it, and what contents that agree in it have in common.
use mathlib.Core.Path.{◌≡◌, refl, ◌∙◌, ap, sym, subst}
use mathlib.Core.Logic.Dec
use mathlib.Core.Logic.Iff
use mathlib.Core.Logic.{◌↔◌, ⊎_elim, ite}
use mathlib.Core.List.Memᴰ
use mathlib.Core.List.Memᴰ.{cases_cons as mem-cases}
use mathlib.Core.List.Memᴰ.{eq_of_singleton}
use mathlib.Core.List.Memᴰ.{head as here}
use mathlib.Core.List.Memᴰ.{not-nil}
use mathlib.Core.List.Memᴰ.{tail as there}
use mathlib.Core.List.{
  List,
  [],
  ◌∷◌,
  ◌++◌,
  map,
  map-append,
  filter,
  filter-append,
  Memᴰ as Mem,
}
use Prim.Native.Nat.{ℕ, ◌≤◌, ◌<◌, min}
use native.Mathlib.Decide.{ℕ_discrete}
use native.Mathlib.Omega.{arith}
use Rattle.order.proofs.Lists.{filter_sound, filter_complete}
use Rattle.paths.specs.Graph.{Link, SameLinks}
use Rattle.logs.specs.Content.{Heard, Content, joins, heard_graph, HeardOf, LeastPause, SameContent, pauses_of, least, least_pause}

-- a link that was heard is its three figures
pub same_heard : (h : Heard) (a b p : ℕ) → a ≡ h.from → b ≡ h.to → p ≡ h.pause → record { from = a; to = b; pause = p } ≡ h
same_heard h a b p e f g = rw (e, f, g)

module _ (a b : ℕ) where
  -- the link that was heard is the one from `a` to `b`
  abbrev Gives : Heard → Type 0
  Gives h = (a ≡ h.from) × (b ≡ h.to)

  abbrev gives : (h : Heard) → Dec (Gives h)
  gives h = Dec.and (ℕ_discrete a h.from) (ℕ_discrete b h.to)

  pub pauses_append : (xs ys : List Heard) → pauses_of a b (xs ++ ys) ≡ pauses_of a b xs ++ pauses_of a b ys
  unfolding pauses_of
  pauses_append xs ys =
      ap (map (λ (h : Heard). h.pause)) (filter-append gives xs ys)
      ∙ map-append (λ (h : Heard). h.pause) (filter gives xs) (filter gives ys)

  -- one to word gives its pause to its own link, and none to another
  pub pauses_one : (h : Heard) → Gives h → pauses_of a b (h ∷ []) ≡ h.pause ∷ []
  unfolding pauses_of
  pauses_one h e = go (gives h)
    where
      go : (d : Dec (Gives h)) → map (λ (k : Heard). k.pause) (ite {C = List Heard} d (h ∷ []) []) ≡ h.pause ∷ []
      go (yes f) = refl
      go (no f) = absurd (f e)

  pub pauses_none : (h : Heard) → (Gives h → ⊥) → pauses_of a b (h ∷ []) ≡ []
  unfolding pauses_of
  pauses_none h ne = go (gives h)
    where
      go : (d : Dec (Gives h)) → map (λ (k : Heard). k.pause) (ite {C = List Heard} d (h ∷ []) []) ≡ []
      go (yes e) = absurd (ne e)
      go (no f) = refl

  -- its members are the pauses that were heard
  pub pauses_heard : (p : ℕ) (hs : List Heard) → Mem p (pauses_of a b hs) → Mem (record { from = a; to = b; pause = p }) hs
  unfolding pauses_of
  pauses_heard p hs m =
      let (h, i, e) = Memᴰ.of_map (λ (h : Heard). h.pause) (filter gives hs) m in
      let (j, (from, to)) = filter_sound gives hs i in
      Memᴰ.cast (same_heard h a b p from to (sym e)) j

  pub heard_pauses : (p : ℕ) (hs : List Heard) → Mem (record { from = a; to = b; pause = p }) hs → Mem p (pauses_of a b hs)
  unfolding pauses_of
  heard_pauses p hs m = Memᴰ.map (λ (h : Heard). h.pause) (filter_complete gives hs m (refl, refl))

-- the least of one or more numbers is one of them, and none is less
pub least_mem : (p : ℕ) (ps : List ℕ) → Mem (least (p ∷ ps)) (p ∷ ps)
unfolding least
least_mem p [] = here refl
least_mem p (q ∷ ps) = go (ℕ_discrete (min p (least (q ∷ ps))) p) (least_mem q ps)
  where
    go : Dec (min p (least (q ∷ ps)) ≡ p) → Mem (least (q ∷ ps)) (q ∷ ps) → Mem (min p (least (q ∷ ps))) (p ∷ q ∷ ps)
    go (yes e) m = here e
    go (no ne) m =
        let e : min p (least (q ∷ ps)) ≡ least (q ∷ ps) = omega arith in
        there (Memᴰ.cast e m)

pub least_le : (q : ℕ) (ps : List ℕ) → Mem q ps → least ps ≤ q
unfolding least
least_le q [] m = absurd (not-nil m)
least_le q (p ∷ []) m = omega (arith, eq_of_singleton m)
least_le q (p ∷ r ∷ ps) m = ⊎_elim (λ e. omega arith) (λ i. omega (arith, least_le q (r ∷ ps) i)) (mem-cases m)

-- one number more at the end
pub least_more : (p : ℕ) (ps : List ℕ) (q : ℕ) → least (p ∷ ps ++ q ∷ []) ≡ min (least (p ∷ ps)) q
unfolding least
least_more p [] q = refl
least_more p (r ∷ ps) q = omega (arith, least_more r ps q)

-- two least pauses of a link are equal, and a link that was heard has one: `least_pause`
pub least_unique : {c : Content} {a b p q : ℕ} → LeastPause c a b p → LeastPause c a b q → p ≡ q
least_unique r s = let le = r.least _ s.heard in let ge = s.least _ r.heard in omega arith

pub least_pause_lem : (c : Content) (a b : ℕ) → ((p : ℕ) × HeardOf c a b p) → LeastPause c a b (least_pause c a b)
least_pause_lem c a b (p, m) =
    record {
      heard = pauses_heard a b _ c.heard (some (pauses_of a b c.heard) (heard_pauses a b p c.heard m));
      least = λ q n. least_le q (pauses_of a b c.heard) (heard_pauses a b q c.heard n);
    }
  where
    some : (ps : List ℕ) → Mem p ps → Mem (least ps) ps
    some [] i = absurd (not-nil i)
    some (q ∷ ps) i = least_mem q ps

-- a link that was heard, was so with some pause
pub link_heard : (c : Content) (a b : ℕ) → Link (heard_graph c) a b ↔ ((p : ℕ) × HeardOf c a b p)
link_heard c a b = (
  λ m.
      let (h, i, e) = Memᴰ.of_map joins c.heard m in
      let from : h.from ≡ a = ap (λ (v : ℕ × ℕ). v.0) e in
      let to : h.to ≡ b = ap (λ (v : ℕ × ℕ). v.1) e in
      (h.pause, Memᴰ.cast (same_heard h a b h.pause (sym from) (sym to) refl) i),
  λ (p, m). Memᴰ.map joins m,
)

-- in contents that agree the same links were heard, with the same least pause of each
module _ {c d : Content} where
  pub same_heards : SameContent c d → SameLinks (heard_graph c) (heard_graph d)
  same_heards s =
      record {
        episodes = s.episodes;
        voices = s.voices;
        links = λ a b. Iff.trans (link_heard c a b) (Iff.trans (s.links a b) (Iff.symm (link_heard d a b)));
      }

  pub same_least : SameContent c d → (a b : ℕ) → Link (heard_graph c) a b → least_pause c a b ≡ least_pause d a b
  same_least s a b k =
      let there = least_pause_lem c a b ((link_heard c a b).0 k) in
      least_unique ((s.pauses a b _).0 there) (least_pause_lem d a b (least_pause c a b, ((s.pauses a b _).0 there).heard))

-- and the other way round: contents with the same version, the same voices, the same links and the same least pauses agree
module _ {c d : Content} (versions : c.version ≡ d.version) (s : SameLinks (heard_graph c) (heard_graph d)) where
  heard_both : (a b : ℕ) → ((p : ℕ) × HeardOf c a b p) ↔ ((p : ℕ) × HeardOf d a b p)
  heard_both a b = Iff.trans (Iff.symm (link_heard c a b)) (Iff.trans (s.links a b) (link_heard d a b))

  module _ (equal : (a b : ℕ) → Link (heard_graph c) a b → least_pause c a b ≡ least_pause d a b) where
    pauses_equal : (a b p : ℕ) → LeastPause c a b p ↔ LeastPause d a b p
    pauses_equal a b p = (
      λ r.
          let one : (q : ℕ) × HeardOf c a b q = (p, r.heard) in
          let same = least_unique r (least_pause_lem c a b one) ∙ equal a b ((link_heard c a b).1 one) in
          subst (LeastPause d a b) (sym same) (least_pause_lem d a b ((heard_both a b).0 one)),
      λ r.
          let one : (q : ℕ) × HeardOf d a b q = (p, r.heard) in
          let back = (heard_both a b).1 one in
          let same = least_unique r (least_pause_lem d a b one) ∙ sym (equal a b ((link_heard c a b).1 back)) in
          subst (LeastPause c a b) (sym same) (least_pause_lem c a b back),
    )

    pub content_same : SameContent c d
    content_same = record { versions = versions; episodes = s.episodes; voices = s.voices; links = heard_both; pauses = pauses_equal }

pub content_sym : {c d : Content} → SameContent c d → SameContent d c
content_sym s =
    record {
      versions = sym s.versions;
      episodes = sym s.episodes;
      voices = λ v h. sym (s.voices v (subst (λ (k : ℕ). v < k) (sym s.episodes) h));
      links = λ a b. Iff.symm (s.links a b);
      pauses = λ a b p. Iff.symm (s.pauses a b p);
    }

pub content_trans : {c d e : Content} → SameContent c d → SameContent d e → SameContent c e
content_trans s t =
    record {
      versions = s.versions ∙ t.versions;
      episodes = s.episodes ∙ t.episodes;
      voices = λ v h. s.voices v h ∙ t.voices v (subst (λ (k : ℕ). v < k) s.episodes h);
      links = λ a b. Iff.trans (s.links a b) (t.links a b);
      pauses = λ a b p. Iff.trans (s.pauses a b p) (t.pauses a b p);
    }
