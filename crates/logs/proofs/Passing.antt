-- What the groups of a log tell: the links of the words before a group, and then those of its to words.
use mathlib.Core.Path.{◌≡◌, refl, ◌∙◌, sym, ap}
use mathlib.Core.Bool.{true}
use mathlib.Core.List.{List, [], ◌∷◌, ◌++◌, map, map-append, append_assoc, append-nil}
use Prim.Native.Nat.{ℕ, suc, ◌+◌, ◌-◌, ◌≤◌, ◌<◌}
use native.Mathlib.Omega.{arith}
use lib.ListN.{length, get_or, take, drop, length-drop}
use lib.Seq.{take-suc, length-take-le, get_or-take, get_or-drop}
use Rattle.logs.proofs.Words.{figure_from, figure_to}
use Rattle.logs.proofs.WellFormed.{WellFormed, well_formed, behind_voices}
use Rattle.logs.specs.Words.{to_episode}
use Rattle.logs.specs.Content.{Heard, joins, short_of}
use Rattle.logs.specs.Log.{to_before_last, content_of}
use Rattle.logs.specs.Groups.{heard_before, short_before, nearest_from, ToWords, told}
use Rattle.logs.specs.Passing.{Given}
use Rattle.logs.specs.declared.passed.Group.{Group}
use Rattle.logs.specs.declared.passed.Groups.{Groups}
use Rattle.logs.proofs.Asked.{to_there}
use Rattle.logs.proofs.Counts.{short_more}
use Rattle.logs.proofs.Laws.{pass_from, pass_to}
use Rattle.logs.proofs.Walk.{up}

-- the first `k` words from `start` on
part : List ℕ → ℕ → ℕ → List ℕ
part l start k = take k (drop start l)

part_more : (l : List ℕ) (start p : ℕ) → start ≤ p → p < length l → part l start (p + 1 - start) ≡ part l start (p - start) ++ get_or l p 0 ∷ []
unfolding part
part_more l start p h within =
    let e : p + 1 - start ≡ suc (p - start) = omega arith in
    let f : start + (p - start) ≡ p = omega arith in
    rw e (take-suc (drop start l) (p - start) 0 (omega (arith, length-drop start l)))
    ∙ ap (λ x. take (p - start) (drop start l) ++ x ∷ []) (get_or-drop start l (p - start) 0 ∙ ap (λ i. get_or l i 0) f)

module _ (l : List ℕ) (start : ℕ) (behind : 0 < start) where
  Told : ℕ → Type 0
  Told p =
      (heard_before l p ≡ heard_before l start ++ map (told (nearest_from l start)) (part l start (p - start)))
      × (nearest_from l p ≡ nearest_from l start)

  told_more : (p : ℕ) → start ≤ p → to_before_last l p ≡ true → Told p → Told (p + 1)
  unfolding Told
  told_more p h e t =
      let there = to_there l p e in
      let more = pass_to l p (omega arith) (omega arith) there.1 in
      let w = get_or l p 0 in
      let f = told (nearest_from l start) in
      let q = part l start (p - start) in (
        more.0 ∙ ap (λ a. heard_before l p ++ told a w ∷ []) t.1 ∙ ap (λ h. h ++ f w ∷ []) t.0 ∙ append_assoc (heard_before l start) (map f q) (f w ∷ [])
            ∙ ap (λ h. heard_before l start ++ h) (sym (map-append f q (w ∷ [])) ∙ ap (map f) (sym (part_more l start p h (omega arith)))),
        more.1 ∙ t.1,
      )

  -- the to words from `start` on and before `p`
  told_words : (p : ℕ) → ToWords l start p → Told p
  unfolding Told part
  told_words p s =
      let e : start - start ≡ 0 = omega arith in
      up Told start p s.start_before (rw (e, append-nil) (refl, refl)) (λ q a b t. told_more q a (s.each q a b) t)

-- the links of the words before the next group are those of the words before this one, and its own
pub heard_group : (s : Groups) (g : Group) (t : Groups) → Given s g t
    → heard_before s.log.words.now t.at ≡ heard_before s.log.words.now s.at ++ map (told g.from) g.to_words.now
unfolding Told part
heard_group s g t d =
    let l = s.log.words.now in
    let inner = d.inner in
    let (same, near) = pass_from l s.at s.here.behind s.here.within (s.here.starts (omega arith)) in
    let words = (told_words l (s.at + 1) (omega arith) t.at d.words).0 in
    let a = nearest_from l (s.at + 1) in
    let q = take (t.at - (s.at + 1)) (drop (s.at + 1) l) in
    words ∙ ap (λ h. h ++ map (told a) q) same ∙ ap (λ b. heard_before l s.at ++ map (told b) q) (near ∙ sym d.from)
    ∙ ap (λ v. heard_before l s.at ++ map (told g.from) v) (sym d.to_words)

-- so it is with those of them that count by their own pause
pub links_group : (s : Groups) (g : Group) (t : Groups) → Given s g t
    → short_before s.log.words.now t.at
    ≡ short_before s.log.words.now s.at ++ map joins (short_of (content_of s.log.words.now).version (map (told g.from) g.to_words.now))
links_group s g t d =
    let v = (content_of s.log.words.now).version in
    ap (λ (hs : List Heard). map joins (short_of v hs)) (heard_group s g t d)
    ∙ short_more v (heard_before s.log.words.now s.at) (map (told g.from) g.to_words.now)

-- the episodes of a group are those of the log
module _ (s : Groups) (g : Group) (t : Groups) (d : Given s g t) where
  formed : WellFormed (record { episodes = s.log.episodes; words = s.log.to_words }) s.log.words.now s.log.episodes s.log.to_words
  formed = well_formed _ s.log.words.now s.log.episodes s.log.to_words s.log.passes

  pub from_below : g.from < s.log.episodes
  from_below =
      let inner = d.inner in
      let k = s.here.starts (omega arith) in
      rw d.from (rw (figure_from _ k) at (formed.below s.at (behind_voices formed s.at s.here.behind (λ e. omega arith)) (omega arith)))

  pub to_below : (j : ℕ) → j < length g.to_words.now → to_episode (get_or g.to_words.now j 0) < s.log.episodes
  to_below j h =
      let l = s.log.words.now in
      let within = d.words.within in
      let long : length g.to_words.now ≡ t.at - (s.at + 1) =
      ap length d.to_words ∙ length-take-le (t.at - (s.at + 1)) (drop (s.at + 1) l) (omega (arith, length-drop (s.at + 1) l)) in
      let there = to_there l (s.at + 1 + j) (d.words.each (s.at + 1 + j) (omega arith) (omega arith)) in
      let same : get_or g.to_words.now j 0 ≡ get_or l (s.at + 1 + j) 0 =
      ap (λ q. get_or q j 0) d.to_words ∙ get_or-take (t.at - (s.at + 1)) (drop (s.at + 1) l) j 0 (omega arith) ∙ get_or-drop (s.at + 1) l j 0 in
      let k = there.1 in
      rw same (rw (figure_to _ k) at (formed.below (s.at + 1 + j) (behind_voices formed (s.at + 1 + j) (omega arith) (λ e. omega arith)) there.0))
