-- Marks, each an episode and its voices: those that voices words give, which episodes are marked, and the voices that each episode has by them.
use mathlib.Core.Path.{◌≡◌, refl, ◌∙◌, ap, sym}
use mathlib.Core.Logic.{◌≢◌, ⊎_elim}
use mathlib.Core.Bool.{Bool, true, false, not, ◌||◌}
use mathlib.Core.List.Memᴰ
use mathlib.Core.List.Memᴰ.{cases_cons as mem-cases}
use mathlib.Core.List.Memᴰ.{head as here}
use mathlib.Core.List.Memᴰ.{tail as there}
use mathlib.Core.List.Memᴰ.{not-nil}
use mathlib.Core.List.{List, [], ◌∷◌, ◌++◌, map, map-append, Memᴰ as Mem, Nodup}
use Prim.Native.Nat.{ℕ, suc, ◌+◌, ◌<◌, ◌≤◌}
use native.Mathlib.Decide.{ℕ_discrete}
use native.Mathlib.Omega.{arith}
use lib.Dec.{eqb}
use native.Mathlib.Numerals.{add-one}
use lib.ListN.{length, get_or, take, length-map}
use lib.Seq.{take-suc}
use borrow.Author.Tests.{eqb-true, eqb-false, eq-eqb, ne_eqb}
use Rattle.std.proofs.lemmas.Bool.{not-true}
use Rattle.order.specs.Order.{All}
use Rattle.order.proofs.Lists.{all_nil, all_cons, nodup_head, nodup_tail, nodup_le}
use Rattle.paths.specs.Passing.{passing}
use Rattle.paths.proofs.Numbers.{nodup_below}
use Rattle.paths.proofs.Passing.{passing_test, passing_nodup}
use Rattle.logs.specs.Words.{kind, voices_episode, voices_given}
use Rattle.logs.specs.Log.{marked, marks_of, voices_by}

-- the episodes of the marks
abbrev pub marked_episodes : List (ℕ × ℕ) → List ℕ
marked_episodes = map (λ (s : ℕ × ℕ). s.0)

-- the mark of a voices word
abbrev pub mark_of : ℕ → ℕ × ℕ
mark_of w = (voices_episode w, voices_given w)

-- ---- the marks of words

pub marks_nil : marks_of [] ≡ []
unfolding marks_of
marks_nil = refl

module _ (w : ℕ) (rest : List ℕ) where
  pub marks_voices : kind w ≡ 9 → marks_of (w ∷ rest) ≡ mark_of w ∷ marks_of rest
  unfolding marks_of
  marks_voices k = rw (k, marks_of)

  pub marks_other : kind w ≢ 9 → marks_of (w ∷ rest) ≡ marks_of rest
  unfolding marks_of
  marks_other ne = rw (ne_eqb (kind w) 9 ne, marks_of)

pub marks_append : (xs ys : List ℕ) → marks_of (xs ++ ys) ≡ marks_of xs ++ marks_of ys
unfolding marks_of
marks_append [] ys = refl
marks_append (w ∷ xs) ys = go (ℕ_discrete (kind w) 9) (marks_append xs ys)
  where
    go : Dec (kind w ≡ 9) → marks_of (xs ++ ys) ≡ marks_of xs ++ marks_of ys → marks_of (w ∷ xs ++ ys) ≡ marks_of (w ∷ xs) ++ marks_of ys
    go (yes k) more = rw (marks_voices w (xs ++ ys) k, marks_voices w xs k) (ap (λ (ss : List (ℕ × ℕ)). mark_of w ∷ ss) more)
    go (no ne) more = rw (marks_other w (xs ++ ys) ne, marks_other w xs ne) more

-- a voices word gives one mark, and another word none
pub marks_all : (ws : List ℕ) → All (λ w. kind w ≡ 9) ws → length (marks_of ws) ≡ length ws
unfolding marks_of
marks_all [] h = refl
marks_all (w ∷ ws) h = rw (marks_voices w ws (h w (here refl))) (ap suc (marks_all ws (λ x m. h x (there m))))

pub marks_none : (ws : List ℕ) → All (λ w. kind w ≢ 9) ws → marks_of ws ≡ []
unfolding marks_of
marks_none [] h = refl
marks_none (w ∷ ws) h = marks_other w ws (h w (here refl)) ∙ marks_none ws (λ x m. h x (there m))

-- ---- which episodes are marked

pub marked_mem : (v : ℕ) (ss : List (ℕ × ℕ)) → marked v ss ≡ true → Mem v (marked_episodes ss)
unfolding marked
marked_mem v [] e = let none : false ≡ true = e in absurd (let no : ◌≡◌ {A = ℕ} 0 1 = cc in omega arith)
marked_mem v (s ∷ ss) e = by_value (eqb v s.0) refl (marked_mem v ss)
  where
    by_value : (b : Bool) → eqb v s.0 ≡ b → (marked v ss ≡ true → Mem v (marked_episodes ss)) → Mem v (marked_episodes (s ∷ ss))
    by_value true f more = here (eqb-true v s.0 f)
    by_value false f more = there (more (sym (ap (λ (b : Bool). b || marked v ss) f) ∙ e))

pub mem_marked : (v : ℕ) (ss : List (ℕ × ℕ)) → Mem v (marked_episodes ss) → marked v ss ≡ true
unfolding marked
mem_marked v [] m = absurd (not-nil m)
mem_marked v (s ∷ ss) m = by_value (eqb v s.0) refl (mem_marked v ss)
  where
    by_value : (b : Bool) → eqb v s.0 ≡ b → (Mem v (marked_episodes ss) → marked v ss ≡ true) → marked v (s ∷ ss) ≡ true
    by_value true f more = ap (λ (b : Bool). b || marked v ss) f
    by_value false f more = ap (λ (b : Bool). b || marked v ss) f ∙ ⊎_elim (λ e. absurd (eqb-false v s.0 f e)) more (mem-cases m)

pub marked_not : (v : ℕ) (ss : List (ℕ × ℕ)) → marked v ss ≡ false → Mem v (marked_episodes ss) → ⊥
marked_not v ss e m = let both = sym (mem_marked v ss m) ∙ e in let none : ◌≡◌ {A = ℕ} 0 1 = cc in omega arith

pub not_marked : (v : ℕ) (ss : List (ℕ × ℕ)) → (Mem v (marked_episodes ss) → ⊥) → marked v ss ≡ false
not_marked v ss h = by_value (marked v ss) refl
  where
    by_value : (b : Bool) → marked v ss ≡ b → marked v ss ≡ false
    by_value true e = absurd (h (marked_mem v ss e))
    by_value false e = e

-- one mark more marks its episode, and each other one is marked as before
module _ (s : ℕ × ℕ) where
  pub marked_new : (ss : List (ℕ × ℕ)) → marked s.0 (ss ++ s ∷ []) ≡ true
  marked_new ss =
      mem_marked s.0 (ss ++ s ∷ [])
      (rw (map-append (λ (r : ℕ × ℕ). r.0) ss (s ∷ [])) (Memᴰ.append_right (marked_episodes ss) (here refl)))

  pub marked_old : (ss : List (ℕ × ℕ)) (v : ℕ) → v ≢ s.0 → marked v (ss ++ s ∷ []) ≡ marked v ss
  unfolding marked
  marked_old [] v ne = ap (λ (b : Bool). b || false) (ne_eqb v s.0 ne)
  marked_old (r ∷ ss) v ne = ap (λ (b : Bool). eqb v r.0 || b) (marked_old ss v ne)

-- the marks of the words up to the next one
pub marks_next : (l : List ℕ) (i : ℕ) → i < length l → marks_of (take (i + 1) l) ≡ marks_of (take i l) ++ marks_of (get_or l i 0 ∷ [])
marks_next l i h = rw (add-one, take-suc l i 0 h) (marks_append (take i l) (get_or l i 0 ∷ []))

-- ---- the voices by the marks

module _ (s : ℕ × ℕ) (ss : List (ℕ × ℕ)) (v : ℕ) where
  pub voices_first : v ≡ s.0 → voices_by (s ∷ ss) v ≡ s.1
  unfolding voices_by
  voices_first e = rw (eq-eqb v s.0 e, voices_by)

  pub voices_behind : v ≢ s.0 → voices_by (s ∷ ss) v ≡ voices_by ss v
  unfolding voices_by
  voices_behind ne = rw (ne_eqb v s.0 ne, voices_by)

-- an episode without a mark has 1
pub voices_unmarked : (ss : List (ℕ × ℕ)) (v : ℕ) → (Mem v (marked_episodes ss) → ⊥) → voices_by ss v ≡ 1
unfolding voices_by
voices_unmarked [] v h = refl
voices_unmarked (s ∷ ss) v h = voices_behind s ss v (λ e. h (here e)) ∙ voices_unmarked ss v (λ m. h (there m))

pub voices_one : (ss : List (ℕ × ℕ)) → length ss ≡ 0 → (v : ℕ) → voices_by ss v ≡ 1
unfolding voices_by
voices_one [] h v = refl
voices_one (s ∷ ss) h v = absurd (omega arith)

-- where the marks are of episodes below `n` and none is marked twice, there are at most `n` of them
pub marks_below : (n : ℕ) (ss : List (ℕ × ℕ)) → All (λ s. s.0 < n) ss → All (λ v. v < n) (marked_episodes ss)
marks_below n [] h = all_nil _
marks_below n (s ∷ ss) h = all_cons (h s (here refl)) (marks_below n ss (λ x m. h x (there m)))

pub marks_most : (n : ℕ) (ss : List (ℕ × ℕ)) → All (λ s. s.0 < n) ss → Nodup (marked_episodes ss) → length ss ≤ n
marks_most n ss h once = omega (arith, nodup_below n (marked_episodes ss) once (marks_below n ss h), length-map ss (λ (s : ℕ × ℕ). s.0))

-- where no episode is marked twice, each has the voices of its mark
pub voices_marked : (ss : List (ℕ × ℕ)) → Nodup (marked_episodes ss) → (s : ℕ × ℕ) → Mem s ss → voices_by ss s.0 ≡ s.1
voices_marked [] p s m = absurd (not-nil m)
voices_marked (r ∷ ss) p s m =
    ⊎_elim
    (λ e. voices_first r ss s.0 (ap (λ (x : ℕ × ℕ). x.0) e) ∙ sym (ap (λ (x : ℕ × ℕ). x.1) e))
    (λ i.
    let other : s.0 ≢ r.0 = λ e. nodup_head p (Memᴰ.cast (sym e) (Memᴰ.map (λ (x : ℕ × ℕ). x.0) i)) in
    voices_behind r ss s.0 other ∙ voices_marked ss (nodup_tail p) s i)
    (mem-cases m)

-- one mark more, of an episode that had none
module _ (s : ℕ × ℕ) where
  pub voices_new : (ss : List (ℕ × ℕ)) → (Mem s.0 (marked_episodes ss) → ⊥) → voices_by (ss ++ s ∷ []) s.0 ≡ s.1
  voices_new [] h = voices_first s [] s.0 refl
  voices_new (r ∷ ss) h = voices_behind r (ss ++ s ∷ []) s.0 (λ e. h (here e)) ∙ voices_new ss (λ m. h (there m))

  pub voices_old : (ss : List (ℕ × ℕ)) (v : ℕ) → v ≢ s.0 → voices_by (ss ++ s ∷ []) v ≡ voices_by ss v
  unfolding voices_by
  voices_old [] v ne = voices_behind s [] v ne
  voices_old (r ∷ ss) v ne = go (ℕ_discrete v r.0) (voices_old ss v ne)
    where
      go : Dec (v ≡ r.0) → voices_by (ss ++ s ∷ []) v ≡ voices_by ss v → voices_by (r ∷ ss ++ s ∷ []) v ≡ voices_by (r ∷ ss) v
      go (yes e) more = voices_first r (ss ++ s ∷ []) v e ∙ sym (voices_first r ss v e)
      go (no ne) more = voices_behind r (ss ++ s ∷ []) v ne ∙ more ∙ sym (voices_behind r ss v ne)

-- the voices are no more than each mark says, or 1
pub voices_at_most : (k : ℕ) (ss : List (ℕ × ℕ)) → 1 ≤ k → All (λ s. s.1 ≤ k) ss → (v : ℕ) → voices_by ss v ≤ k
unfolding voices_by
voices_at_most k [] one h v = one
voices_at_most k (s ∷ ss) one h v = go (ℕ_discrete v s.0) (voices_at_most k ss one (λ x m. h x (there m)) v)
  where
    go : Dec (v ≡ s.0) → voices_by ss v ≤ k → voices_by (s ∷ ss) v ≤ k
    go (yes e) more = rw (voices_first s ss v e) (h s (here refl))
    go (no ne) more = rw (voices_behind s ss v ne) more

-- an episode with other voices than 1 is marked, so there are at most as many as marks
pub other_marked : (ss : List (ℕ × ℕ)) (v : ℕ) → voices_by ss v ≢ 1 → Mem v (marked_episodes ss)
other_marked ss v ne = by_value (marked v ss) refl
  where
    by_value : (b : Bool) → marked v ss ≡ b → Mem v (marked_episodes ss)
    by_value true e = marked_mem v ss e
    by_value false e = absurd (ne (voices_unmarked ss v (marked_not v ss e)))

pub others_few : (ss : List (ℕ × ℕ)) (n : ℕ) → length (passing (λ v. not (eqb (voices_by ss v) 1)) n) ≤ length ss
others_few ss n =
    let test : ℕ → Bool = λ v. not (eqb (voices_by ss v) 1) in
    let few = nodup_le ℕ_discrete (passing test n) (marked_episodes ss) (passing_nodup test n) (λ v m. other_marked ss v (other v (passing_test test n m))) in
    omega (arith, few, length-map ss (λ (s : ℕ × ℕ). s.0))
  where
    other : (v : ℕ) → not (eqb (voices_by ss v) 1) ≡ true → voices_by ss v ≢ 1
    other v e = eqb-false (voices_by ss v) 1 (not-true (eqb (voices_by ss v) 1) e)
