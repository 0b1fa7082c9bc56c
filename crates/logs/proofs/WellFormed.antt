-- A log passes questions 1 to 10 and 18 to 21 exactly when it is well formed.
use mathlib.Core.Path.{◌≡◌, refl, ◌∙◌, sym, ap, subst}
use mathlib.Core.Logic.{◌≢◌, ◌⊎◌, inl, inr, ⊎_elim}
use mathlib.Core.Bool.{Bool, true, false, true≢false}
use mathlib.Core.List.Memᴰ
use mathlib.Core.List.{List, [], ◌∷◌, Memᴰ as Mem}
use Prim.Native.Nat.{ℕ, zero, suc, ◌+◌, ◌-◌, ◌<◌, ◌≤◌}
use native.Mathlib.Omega.{arith}
use native.Mathlib.Nat.{suc-add}
use native.Mathlib.Numerals.{add-one}
use lib.ListN.{length, get_or, drop, length-drop}
use lib.Seq.{get_or-drop, drop-drop}
use lib.Dec.{ltb}
use borrow.Author.Tests.{le-leb, ltb-true, ltb-false}
use Rattle.paths.specs.Graph.{EndsBelow}
use Rattle.logs.specs.Words.{kind, number, head_episodes, head_version}
use Rattle.logs.specs.Content.{Heard, joins, heard_graph}
use Rattle.logs.specs.Answer.{given}
use Rattle.logs.specs.Log.{figure, head_word, voices_onwards, questions, heard_from, marks_of, content_of, voices_count, PassedLog, PassesWith}
use Rattle.logs.specs.Places.{BehindVoices}
use Rattle.logs.specs.declared.Ceilings.{Ceilings}
use Rattle.logs.proofs.Words.{figure_from, figure_to}
use Rattle.logs.proofs.Asked.{behind, to_there, there_to, head_passed}
use Rattle.logs.proofs.Links.{to_words}
use Rattle.logs.proofs.Rest.{both_given, last_behind, Grouped, RestFormed, ends_below}
use Rattle.logs.proofs.Voices.{MarksTaken, no_marks}
use Rattle.logs.proofs.BehindHead.{BehindHead, behind_head, behind_passes, marks_front, marks_count, words_behind, heard_behind}

-- what stands at each place of a log with `n` episodes and `t` to words: behind the head its voices words, then the groups, and last the end
pub record WellFormed (m : Ceilings) (l : List ℕ) (n t : ℕ) : Type 0 where
  pub long : 2 ≤ length l
  pub head_kind : kind (get_or l 0 0) ≡ 1
  pub known_version : head_version (get_or l 0 0) ≤ 1
  pub episodes : head_episodes (get_or l 0 0) ≡ n
  pub few_episodes : n ≤ m.episodes
  pub voices : BehindVoices l (voices_count l + 1)
  pub marks : MarksTaken n (marks_of (drop 1 l))
  pub between : (p : ℕ) → voices_count l < p → p + 1 < length l → (kind (get_or l p 0) ≡ 2) ⊎ (kind (get_or l p 0) ≡ 3)
  pub below : (p : ℕ) → voices_count l < p → p + 1 < length l → figure (get_or l p 0) < n
  pub starts : voices_count l + 2 < length l → kind (get_or l (voices_count l + 1) 0) ≡ 2
  pub follows : (p : ℕ) → voices_count l < p → p + 1 < length l → kind (get_or l p 0) ≡ 2 → (p + 2 < length l) × (kind (get_or l (p + 1) 0) ≡ 3)
  pub end_kind : kind (get_or l (length l - 1) 0) ≡ 15
  pub end_number : number (get_or l (length l - 1) 0) ≡ t
  pub count : to_words (drop 1 l) ≡ t
  pub few_words : t ≤ m.words

-- a word behind the head that is no voices word stands behind all of these
pub behind_voices : {m : Ceilings} {l : List ℕ} {n t : ℕ} → WellFormed m l n t → (p : ℕ) → 0 < p → kind (get_or l p 0) ≢ 9 → voices_count l < p
behind_voices {l = l} f p o ne = by_place (ltb (voices_count l) p) refl
  where
    by_place : (b : Bool) → ltb (voices_count l) p ≡ b → voices_count l < p
    by_place true e = ltb-true (voices_count l) p e
    by_place false e = let few = ltb-false (voices_count l) p e in absurd (ne (f.voices.before p o (omega arith)))

-- the same, of the head `h` and of the words behind it
record Parts (m : Ceilings) (h : ℕ) (s : List ℕ) (n t : ℕ) : Type 0 where
  head_kind : kind h ≡ 1
  known_version : head_version h ≤ 1
  episodes : head_episodes h ≡ n
  few_episodes : n ≤ m.episodes
  voices_words : ℕ
  words : BehindHead n s [] voices_words t
  few_words : t ≤ m.words

-- a word behind the voices words, as a word of the words behind the head
module _ (n : ℕ) (s : List ℕ) (c : ℕ) where
  word_at : (j : ℕ) → c ≤ j → get_or (drop c s) (j - c) 0 ≡ get_or s j 0
  word_at j h = let e : c + (j - c) ≡ j = omega arith in get_or-drop c s (j - c) 0 ∙ ap (λ (i : ℕ). get_or s i 0) e

  rest_at : (j : ℕ) → c ≤ j → drop (j - c + 1) (drop c s) ≡ drop (j + 1) s
  rest_at j h = let e : c + (j - c + 1) ≡ j + 1 = omega arith in drop-drop (j - c + 1) c s ∙ ap (λ (i : ℕ). drop i s) e

  last_at : c < length s → get_or (drop c s) (length (drop c s) - 1) 0 ≡ get_or s (length s - 1) 0
  last_at h =
      let e : length (drop c s) - 1 ≡ length s - 1 - c = omega (arith, length-drop c s) in
      ap (λ (i : ℕ). get_or (drop c s) i 0) e ∙ word_at (length s - 1) (omega arith)

  grouped_at : (t : ℕ) → RestFormed n (drop c s) false 0 t → (j : ℕ) → c ≤ j → j + 1 < length s → Grouped n (get_or s j 0) (drop (j + 1) s)
  grouped_at t r j h g = rw (word_at j h, rest_at j h) at (r.grouped (j - c) (omega (arith, length-drop c s)))

module _ (m : Ceilings) (h w : ℕ) (rest : List ℕ) (n t : ℕ) where
  parts : questions m (h ∷ w ∷ rest) ≡ given (n, t) → Parts m h (w ∷ rest) n t
  unfolding questions
  parts e =
      let both = both_given (head_word m h) (voices_onwards m (head_episodes h) 1 w rest []) (n, t) e in
      let head = head_passed m h both.0.0 both.0.1 in
      let formed = behind_head m (head_episodes h) 1 w rest [] n t both.1 (no_marks (head_episodes h)) in
      record {
        head_kind = head.0;
        known_version = head.1;
        episodes = sym formed.0;
        few_episodes = rw formed.0 head.2;
        voices_words = formed.1.0;
        words = subst (λ (k : ℕ). BehindHead k (w ∷ rest) [] formed.1.0 t) (sym formed.0) formed.1.1;
        few_words = formed.2;
      }

  parts_pass : Parts m h (w ∷ rest) n t → questions m (h ∷ w ∷ rest) ≡ given (n, t)
  unfolding questions
  parts_pass r =
      rw (r.head_kind, le-leb (head_version h) 1 r.known_version, r.episodes, le-leb n m.episodes r.few_episodes)
      (behind_passes m n 1 (w ∷ rest) r.voices_words t r.words r.few_words)

  well_formed_parts : Parts m h (w ∷ rest) n t → WellFormed m (h ∷ w ∷ rest) n t
  well_formed_parts r =
      record {
        long = omega arith;
        head_kind = r.head_kind;
        known_version = r.known_version;
        episodes = r.episodes;
        few_episodes = r.few_episodes;
        voices = subst (λ (k : ℕ). BehindVoices (h ∷ s) (k + 1)) (sym same) voices;
        marks = subst (MarksTaken n) (sym (marks_front n s c t b.within b.kinds b.words)) b.marks;
        between = between;
        below = below;
        starts = subst (λ (k : ℕ). k + 2 < length (h ∷ s) → kind (get_or (h ∷ s) (k + 1) 0) ≡ 2) (sym same) (λ g. rw add-one (first_from (omega arith)));
        follows = follows;
        end_kind = rw (last_behind h w rest) (rw (last_at n s c b.within) at b.words.end_kind);
        end_number = rw (last_behind h w rest) (rw (last_at n s c b.within) at b.words.end_number);
        count = omega (arith, words_behind s c b.within b.kinds, b.words.count);
        few_words = r.few_words;
      }
    where
      s : List ℕ
      s = w ∷ rest

      c : ℕ
      c = r.voices_words

      b : BehindHead n (w ∷ rest) [] r.voices_words t
      b = r.words

      same : voices_count (h ∷ w ∷ rest) ≡ r.voices_words
      same = marks_count n s c t b.within b.kinds b.words

      first_from : r.voices_words + 1 < length (w ∷ rest) → kind (get_or (w ∷ rest) r.voices_words 0) ≡ 2
      first_from g =
          let first : get_or (drop c s) 0 0 ≡ get_or s c 0 = let z : c + 0 ≡ c = omega arith in get_or-drop c s 0 0 ∙ ap (λ (i : ℕ). get_or s i 0) z in
          rw first at (b.words.starts refl (omega (arith, length-drop c s)))

      before : (p : ℕ) → 0 < p → p < r.voices_words + 1 → kind (get_or (h ∷ w ∷ rest) p 0) ≡ 9
      before zero o g = absurd (omega arith)
      before (suc i) o g = b.kinds i (omega arith)

      voices : BehindVoices (h ∷ w ∷ rest) (r.voices_words + 1)
      voices =
          record {
            behind = omega arith;
            within = omega (arith, b.within);
            before = before;
            none = λ g. rw add-one (λ e. let two = first_from (omega arith) in absurd (omega arith));
          }

      between : (p : ℕ) → voices_count (h ∷ w ∷ rest) < p → p + 1 < length (h ∷ w ∷ rest)
          → (kind (get_or (h ∷ w ∷ rest) p 0) ≡ 2) ⊎ (kind (get_or (h ∷ w ∷ rest) p 0) ≡ 3)
      between zero o g = absurd (omega arith)
      between (suc j) o g = ⊎_elim (λ k. inl k.kind_from) (λ k. inr k.0) (grouped_at n s c t b.words j (omega (arith, same)) (omega arith))

      below : (p : ℕ) → voices_count (h ∷ w ∷ rest) < p → p + 1 < length (h ∷ w ∷ rest) → figure (get_or (h ∷ w ∷ rest) p 0) < n
      below zero o g = absurd (omega arith)
      below (suc j) o g =
          ⊎_elim (λ k. rw (figure_from _ k.kind_from) k.below) (λ k. rw (figure_to _ k.0) k.1)
          (grouped_at n s c t b.words j (omega (arith, same)) (omega arith))

      follows : (p : ℕ) → voices_count (h ∷ w ∷ rest) < p → p + 1 < length (h ∷ w ∷ rest) → kind (get_or (h ∷ w ∷ rest) p 0) ≡ 2
          → (p + 2 < length (h ∷ w ∷ rest)) × (kind (get_or (h ∷ w ∷ rest) (p + 1) 0) ≡ 3)
      follows zero o g k = absurd (omega arith)
      follows (suc j) o g k =
          ⊎_elim
          (λ i.
          let there = to_there (w ∷ rest) (j + 1) (sym (behind (w ∷ rest) (j + 1)) ∙ i.to_follows) in
          (omega (arith, there.0), rw suc-add there.1))
          (λ i. absurd (omega (arith, i.0)))
          (grouped_at n s c t b.words j (omega (arith, same)) (omega arith))

  parts_well_formed : WellFormed m (h ∷ w ∷ rest) n t → Parts m h (w ∷ rest) n t
  parts_well_formed f =
      record {
        head_kind = f.head_kind;
        known_version = f.known_version;
        episodes = f.episodes;
        few_episodes = f.few_episodes;
        voices_words = voices_count (h ∷ w ∷ rest);
        words = record { within = within; kinds = kinds; marks = subst (MarksTaken n) (marks_front n s c t within kinds formed) f.marks; words = formed };
        few_words = f.few_words;
      }
    where
      s : List ℕ
      s = w ∷ rest

      c : ℕ
      c = voices_count (h ∷ w ∷ rest)

      within : voices_count (h ∷ w ∷ rest) < length (w ∷ rest)
      within = omega (arith, f.voices.within)

      kinds : (i : ℕ) → i < voices_count (h ∷ w ∷ rest) → kind (get_or (w ∷ rest) i 0) ≡ 9
      kinds i g = f.voices.before (suc i) (omega arith) (omega arith)

      grouped_here : (j : ℕ) → voices_count (h ∷ w ∷ rest) ≤ j → j + 1 < length (w ∷ rest) → Grouped n (get_or (w ∷ rest) j 0) (drop (j + 1) (w ∷ rest))
      grouped_here j o g =
          ⊎_elim
          (λ k.
          let next = f.follows (suc j) (omega arith) (omega arith) k in
          inl (record {
            kind_from = k;
            to_follows = behind (w ∷ rest) (j + 1) ∙ there_to (w ∷ rest) (j + 1) (omega (arith, next.0)) (rw suc-add at next.1);
            below = rw (figure_from _ k) at (f.below (suc j) (omega arith) (omega arith));
          }))
          (λ k. inr (k, rw (figure_to _ k) at (f.below (suc j) (omega arith) (omega arith))))
          (f.between (suc j) (omega arith) (omega arith))

      grouped : (i : ℕ) → i + 1 < length (drop (voices_count (h ∷ w ∷ rest)) (w ∷ rest))
          → Grouped n (get_or (drop (voices_count (h ∷ w ∷ rest)) (w ∷ rest)) i 0) (drop (i + 1) (drop (voices_count (h ∷ w ∷ rest)) (w ∷ rest)))
      grouped i g =
          let e : c + (i + 1) ≡ c + i + 1 = omega arith in
          rw (get_or-drop c s i 0, drop-drop (i + 1) c s, e) (grouped_here (c + i) (omega arith) (omega (arith, length-drop c s)))

      formed : RestFormed n (drop (voices_count (h ∷ w ∷ rest)) (w ∷ rest)) false 0 t
      formed =
          let first : get_or (drop c s) 0 0 ≡ get_or s c 0 = let z : c + 0 ≡ c = omega arith in get_or-drop c s 0 0 ∙ ap (λ (i : ℕ). get_or s i 0) z in
          record {
            grouped = grouped;
            starts = λ e g. rw first (rw add-one at (f.starts (omega (arith, length-drop c s))));
            end_kind = rw (last_at n s c within) (rw (last_behind h w rest) at f.end_kind);
            end_number = rw (last_at n s c within) (rw (last_behind h w rest) at f.end_number);
            count = omega (arith, words_behind s c within kinds, f.count);
          }

pub well_formed : (m : Ceilings) (l : List ℕ) (n t : ℕ) → questions m l ≡ given (n, t) → WellFormed m l n t
unfolding questions
well_formed m [] n t e = let none : ◌≡◌ {A = ℕ} 0 1 = cc in absurd (omega arith)
well_formed m (h ∷ []) n t e = let none : ◌≡◌ {A = ℕ} 0 1 = cc in absurd (omega arith)
well_formed m (h ∷ w ∷ rest) n t e = well_formed_parts m h w rest n t (parts m h w rest n t e)

pub well_formed_passes : (m : Ceilings) (l : List ℕ) (n t : ℕ) → WellFormed m l n t → questions m l ≡ given (n, t)
well_formed_passes m [] n t f = let none : 2 ≤ 0 = f.long in absurd (omega arith)
well_formed_passes m (h ∷ []) n t f = let none : 2 ≤ 1 = f.long in absurd (omega arith)
well_formed_passes m (h ∷ w ∷ rest) n t f = parts_pass m h w rest n t (parts_well_formed m h w rest n t f)

pub heard_below : (m : Ceilings) (l : List ℕ) (n t : ℕ) → questions m l ≡ given (n, t) → EndsBelow (heard_graph (content_of l))
unfolding questions
heard_below m [] n t e = let none : ◌≡◌ {A = ℕ} 0 1 = cc in absurd (omega arith)
heard_below m (h ∷ []) n t e = let none : ◌≡◌ {A = ℕ} 0 1 = cc in absurd (omega arith)
heard_below m (h ∷ w ∷ rest) n t e =
    let r = parts m h w rest n t e in
    rw r.episodes
    (λ a b i.
    let (h, j, same) = Memᴰ.of_map joins (heard_from 0 (w ∷ rest)) i in
    let c : ℕ = r.voices_words in
    let behind = subst (λ (hs : List Heard). Mem h hs) (heard_behind (w ∷ rest) c r.words.within r.words.kinds 0) j in
    let (from, to) = ends_below n (drop c (w ∷ rest)) false 0 t 0 r.words.words (λ f. absurd (true≢false (sym f))) h behind in
    (omega (arith, ap (λ (v : ℕ × ℕ). v.0) same), omega (arith, ap (λ (v : ℕ × ℕ). v.1) same)))

-- what passes at some ceilings passes at its own figures
pub passes_own : (m : Ceilings) (l : List ℕ) (n t : ℕ) → questions m l ≡ given (n, t) → PassesWith l n t
passes_own m l n t e =
    let f = well_formed m l n t e in
    well_formed_passes (record { episodes = n; words = t }) l n t
    (record {
      long = f.long;
      head_kind = f.head_kind;
      known_version = f.known_version;
      episodes = f.episodes;
      few_episodes = omega arith;
      voices = f.voices;
      marks = f.marks;
      between = f.between;
      below = f.below;
      starts = f.starts;
      follows = f.follows;
      end_kind = f.end_kind;
      end_number = f.end_number;
      count = f.count;
      few_words = omega arith;
    })

-- where the voices words end, their count says
pub voices_counted : (m : Ceilings) (l : List ℕ) (n t start : ℕ) → questions m l ≡ given (n, t) → BehindVoices l start → voices_count l + 1 ≡ start
voices_counted m l n t start e r = by_less (ltb (voices_count l + 1) start) (ltb start (voices_count l + 1)) refl refl
  where
    f : WellFormed m l n t
    f = well_formed m l n t e

    by_less : (x y : Bool) → ltb (voices_count l + 1) start ≡ x → ltb start (voices_count l + 1) ≡ y → voices_count l + 1 ≡ start
    by_less true y d g =
        let less = ltb-true (voices_count l + 1) start d in
        let within = r.within in
        let nine = r.before (voices_count l + 1) (omega arith) less in
        absurd (f.voices.none (omega arith) nine)
    by_less false true d g =
        let less = ltb-true start (voices_count l + 1) g in
        let within = f.voices.within in
        let nine = f.voices.before start r.behind less in
        absurd (r.none (omega arith) nine)
    by_less false false d g =
        let le = ltb-false (voices_count l + 1) start d in
        let ge = ltb-false start (voices_count l + 1) g in
        omega arith

-- with 256 episodes at the most
pub passes_passed : (l : List ℕ) (n t : ℕ) → n ≤ 256 → PassesWith l n t → PassedLog l
passes_passed l n t few e = (record { episodes = n; words = t }, n, t, e, few)
