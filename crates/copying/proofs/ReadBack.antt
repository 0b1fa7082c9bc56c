-- A copy read back: it tells its version, the voices of its episodes and the links of its groups with their pauses, and it passes questions 1 to 10 and
-- 18 to 21.
use mathlib.Core.Path.{◌≡◌, refl, ◌∙◌, ap, ap₂, sym}
use mathlib.Core.Logic.{◌≢◌}
use mathlib.Core.Bool.{Bool, true, false, or-true}
use mathlib.Core.List.Memᴰ.{head as here}
use mathlib.Core.List.Memᴰ.{tail as there}
use mathlib.Core.List.{
  List,
  [],
  ◌∷◌,
  ◌++◌,
  map,
  map-map,
  map-id,
  map-append,
  append-nil,
  append_assoc,
}
use Prim.Native.Nat.{ℕ, zero, suc, ◌+◌, ◌^◌, ◌<◌, ◌≤◌}
use native.Mathlib.Nat.{add-zero}
use native.Mathlib.Omega.{arith}
use lib.ListN.{length, get_or, drop, length-append, length-map}
use borrow.Author.Tests.{le-leb}
use Rattle.order.specs.Order.{All}
use Rattle.paths.specs.Graph.{Graph, Link}
use Rattle.paths.proofs.Passing.{passing_nodup}
use Rattle.logs.specs.Words.{kind, word, head_episodes, head_of, to_word, Small}
use Rattle.logs.specs.Content.{Heard, joins, heard_graph}
use Rattle.logs.specs.Answer.{Answer, given, and_then}
use Rattle.logs.specs.Log.{
  most_with_voices,
  most_voices,
  head_word,
  onwards,
  questions,
  marks_of,
  voices_by,
  heard_from,
  content_of,
}
use Rattle.logs.specs.Groups.{last_from}
use Rattle.logs.specs.declared.Ceilings.{Ceilings}
use Rattle.logs.proofs.Words.{kind_word, number_word, head_kind, head_version_lem, head_episodes_lem, to_kind, to_episode_lem, to_pause_lem}
use Rattle.logs.proofs.Asked.{FromTaken, ToTaken, there_to, from_given, to_given, end_given}
use Rattle.logs.proofs.Marks.{marks_nil, marks_other, marks_append}
use Rattle.logs.proofs.Voices.{MarksTaken, questions_passed}
use Rattle.logs.proofs.Links.{heard_from_lem, heard_to, heard_end, heard_nil, heard_append}
use Rattle.copying.specs.FairCopy.{linked_to, group, groups, group_links, not_one, voices_words, copy_words}
use Rattle.copying.proofs.Linked.{linked_to_mem}
use Rattle.copying.proofs.GroupLinks.{links_of, length_group_links}
use Rattle.copying.proofs.VoicesWords.{
  others,
  marked_with,
  words_of,
  other_mem,
  FitsWord,
  words_kind,
  words_marks,
  words_heard,
  marks_taken,
  voices_told,
}

-- the version is known, the voices are those of a log, and the numbers of a graph and the pauses of its links fit the words of a log
pub record Fits (v : ℕ) (pause : ℕ → ℕ → ℕ) (g : Graph) : Type 0 where
  pub known : v ≤ 1
  pub few : g.n < 2 ^ 24
  pub voices : (u : ℕ) → u < g.n → g.voices u ≤ most_voices
  pub most : (u : ℕ) → u < g.n → g.voices u ≢ 1 → g.n ≤ most_with_voices
  pub count : Small (length g.links)
  pub links : (a b : ℕ) → Link g a b → (b < 2 ^ 16) × (pause a b < 2 ^ 12)

-- a link with its pause, as it is heard
abbrev pub paused : (ℕ → ℕ → ℕ) → ℕ × ℕ → Heard
paused pause l = record { from = l.0; to = l.1; pause = pause l.0 l.1 }

-- the to words behind a from word give its links, and so does a group, whatever stood before it
module _ (a : ℕ) (p : ℕ → ℕ) where
  to_heard : (bs : List ℕ) → All (λ b. (b < 2 ^ 16) × (p b < 2 ^ 12)) bs
      → heard_from a (map (λ (b : ℕ). to_word b (p b)) bs) ≡ map (λ (b : ℕ). record { from = a; to = b; pause = p b }) bs
  to_heard [] h = heard_nil a
  to_heard (b ∷ bs) h =
      let (low, short) = h b (here refl) in
      heard_to a (to_word b (p b)) (map (λ (c : ℕ). to_word c (p c)) bs) (to_kind b (p b) low short)
      ∙ rw (to_episode_lem b (p b) low short, to_pause_lem b (p b) low short)
      (ap (λ (hs : List Heard). record { from = a; to = b; pause = p b } ∷ hs) (to_heard bs (λ c m. h c (there m))))

  group_heard : (c : ℕ) (bs : List ℕ) → Small a → All (λ b. (b < 2 ^ 16) × (p b < 2 ^ 12)) bs
      → heard_from c (group a p bs) ≡ map (λ (b : ℕ). record { from = a; to = b; pause = p b }) bs
  unfolding group
  group_heard c [] s h = heard_nil c
  group_heard c (b ∷ bs) s h =
      heard_from_lem c (word 2 a) (map (λ (d : ℕ). to_word d (p d)) (b ∷ bs)) (kind_word 2 a s) ∙ rw (number_word 2 a s) (to_heard (b ∷ bs) h)

-- the words of a group give no marks
tos_unmarked : (p : ℕ → ℕ) (bs : List ℕ) → All (λ b. (b < 2 ^ 16) × (p b < 2 ^ 12)) bs → marks_of (map (λ (b : ℕ). to_word b (p b)) bs) ≡ []
tos_unmarked p [] h = marks_nil
tos_unmarked p (b ∷ bs) h =
    let (low, short) = h b (here refl) in
    let k = to_kind b (p b) low short in
    marks_other (to_word b (p b)) (map (λ (c : ℕ). to_word c (p c)) bs) (λ e. omega arith) ∙ tos_unmarked p bs (λ c m. h c (there m))

group_unmarked : (a : ℕ) (p : ℕ → ℕ) (bs : List ℕ) → Small a → All (λ b. (b < 2 ^ 16) × (p b < 2 ^ 12)) bs → marks_of (group a p bs) ≡ []
unfolding group
group_unmarked a p [] small h = marks_nil
group_unmarked a p (b ∷ bs) small h =
    let k = kind_word 2 a small in
    marks_other (word 2 a) (map (λ (c : ℕ). to_word c (p c)) (b ∷ bs)) (λ e. omega arith) ∙ tos_unmarked p (b ∷ bs) h

module _ (v : ℕ) (pause : ℕ → ℕ → ℕ) (g : Graph) (fits : Fits v pause g) where
  -- what is written of an episode with other voices than one fits
  pub others_fit : All (FitsWord g.voices) (others g.voices g.n)
  others_fit u m =
      let (low, ne) = other_mem g.voices g.n m in
      (omega (arith, fits.most u low ne), omega (arith, fits.voices u low))

  -- what is written of the links of an episode fits
  row_fits : (a : ℕ) → All (λ b. (b < 2 ^ 16) × (pause a b < 2 ^ 12)) (linked_to a g.links g.n)
  row_fits a b m = fits.links a b (linked_to_mem a g.links b g.n m).1

  groups_heard : (c k : ℕ) → k ≤ g.n → heard_from c (groups pause g k) ≡ map (paused pause) (group_links g k)
  unfolding groups group_links
  groups_heard c zero h = heard_nil c
  groups_heard c (suc k) h =
      let bs : List ℕ = linked_to k g.links g.n in
      let small = fits.few in
      heard_append c (groups pause g k) (group k (pause k) bs)
      ∙ ap₂ (λ (xs ys : List Heard). xs ++ ys) (groups_heard c k (omega arith))
      (group_heard k (pause k) (last_from c (groups pause g k)) bs (omega arith) (row_fits k)
      ∙ sym (map-map (paused pause) (λ (b : ℕ). (k, b)) bs))
      ∙ sym (map-append (paused pause) (group_links g k) (links_of k bs))

  groups_unmarked : (k : ℕ) → k ≤ g.n → marks_of (groups pause g k) ≡ []
  unfolding groups
  groups_unmarked zero h = marks_nil
  groups_unmarked (suc k) h =
      let bs : List ℕ = linked_to k g.links g.n in
      let small = fits.few in
      marks_append (groups pause g k) (group k (pause k) bs)
      ∙ ap₂ (λ (xs ys : List (ℕ × ℕ)). xs ++ ys) (groups_unmarked k (omega arith)) (group_unmarked k (pause k) bs (omega arith) (row_fits k))

  -- the count of its to words fits the end
  pub count_fits : Small (length (group_links g g.n))
  count_fits = omega (arith, fits.count, length_group_links g g.n)

  -- what the copy tells
  pub copy_version : (content_of (copy_words v pause g)).version ≡ v
  unfolding copy_words
  copy_version = head_version_lem v g.n (omega (arith, fits.known)) fits.few

  pub copy_episodes : (content_of (copy_words v pause g)).n ≡ g.n
  unfolding copy_words
  copy_episodes = head_episodes_lem v g.n (omega (arith, fits.known)) fits.few

  -- the marks of its voices words are the episodes with other voices than one
  pub copy_marks : marks_of (drop 1 (copy_words v pause g)) ≡ map (marked_with g.voices) (others g.voices g.n)
  unfolding copy_words voices_words
  copy_marks =
      let t : ℕ = length (group_links g g.n) in
      let vs : List ℕ = words_of g.voices (others g.voices g.n) in
      let k = kind_word 15 t count_fits in
      marks_append (vs ++ groups pause g g.n) (word 15 t ∷ [])
      ∙ ap₂ (λ (xs ys : List (ℕ × ℕ)). xs ++ ys)
      (marks_append vs (groups pause g g.n)
      ∙ ap₂ (λ (xs ys : List (ℕ × ℕ)). xs ++ ys) (words_marks g.voices (others g.voices g.n) others_fit) (groups_unmarked g.n (omega arith))
      ∙ append-nil (map (marked_with g.voices) (others g.voices g.n)))
      (marks_other (word 15 t) [] (λ e. omega arith) ∙ marks_nil)
      ∙ append-nil (map (marked_with g.voices) (others g.voices g.n))

  -- so its episodes have the voices that they had
  pub copy_voices : (u : ℕ) → u < g.n → (content_of (copy_words v pause g)).voices u ≡ g.voices u
  copy_voices u h = ap (λ (ms : List (ℕ × ℕ)). voices_by ms u) copy_marks ∙ voices_told g.voices u g.n h

  pub copy_heard : (content_of (copy_words v pause g)).heard ≡ map (paused pause) (group_links g g.n)
  unfolding copy_words voices_words
  copy_heard =
      let t : ℕ = length (group_links g g.n) in
      let c : ℕ = last_from 0 (groups pause g g.n) in
      ap (heard_from 0) (append_assoc (words_of g.voices (others g.voices g.n)) (groups pause g g.n) (word 15 t ∷ []))
      ∙ words_heard g.voices 0 (others g.voices g.n) (groups pause g g.n ++ word 15 t ∷ []) others_fit
      ∙ heard_append 0 (groups pause g g.n) (word 15 t ∷ [])
      ∙ rw (heard_end c (word 15 t) [] (kind_word 15 t count_fits), heard_nil, append-nil) (groups_heard 0 g.n (omega arith))

  pub copy_links : (heard_graph (content_of (copy_words v pause g))).links ≡ group_links g g.n
  copy_links = ap (map joins) copy_heard ∙ map-map joins (paused pause) (group_links g g.n) ∙ map-id (group_links g g.n)

-- questions 4 to 10 of the words `s` behind the head, of which there is one or more
abbrev over : Ceilings → ℕ → ℕ → List ℕ → Bool → ℕ → Answer (ℕ × ℕ)
over m n p [] before t = given (n, t)
over m n p (w ∷ rest) before t = onwards m n p w rest before t

module _ (m : Ceilings) (n : ℕ) where
  -- one word is passed over
  over_from : (p w : ℕ) (s : List ℕ) (before : Bool) (t : ℕ) → 0 < length s → FromTaken n w s
      → over m n p (w ∷ s) before t ≡ over m n (p + 1) s true t
  unfolding onwards
  over_from p w [] before t h k = absurd (omega arith)
  over_from p w (x ∷ rest) before t h k = rw (from_given m n p w (x ∷ rest) before t k, k.kind_from, or-true)

  over_to : (p w : ℕ) (s : List ℕ) (t : ℕ) → 0 < length s → ToTaken m n w true t
      → over m n p (w ∷ s) true t ≡ over m n (p + 1) s true (t + 1)
  unfolding onwards
  over_to p w [] t h k = absurd (omega arith)
  over_to p w (x ∷ rest) t h k = rw (to_given m n p w (x ∷ rest) true t k, k.kind_to)

  -- the words `s` answer `r` at any place, with `t` to words before them
  abbrev Answers : List ℕ → ℕ → Answer (ℕ × ℕ) → Type 0
  Answers s t r = (p : ℕ) (before : Bool) → over m n p s before t ≡ r

  -- so do the to words of a group with `s` behind them; then the group; then, below, all groups
  module _ (pause : ℕ → ℕ) where
    -- a link of the group joins episodes, and its figures fit the to word
    abbrev Written : ℕ → Type 0
    Written b = (b < n) × (b < 2 ^ 16) × (pause b < 2 ^ 12)

    over_tos : (bs s : List ℕ) (t : ℕ) (r : Answer (ℕ × ℕ)) → All Written bs → 0 < length s → t + length bs ≤ m.words
        → Answers s (t + length bs) r → (p : ℕ) → over m n p (map (λ (b : ℕ). to_word b (pause b)) bs ++ s) true t ≡ r
    over_tos [] s t r h l room more p = rw add-zero at (more p true)
    over_tos (b ∷ bs) s t r h l room more p =
        let (below, low, short) = h b (here refl) in
        let same : t + 1 + length bs ≡ t + suc (length bs) = omega arith in
        over_to p (to_word b (pause b)) (map (λ (c : ℕ). to_word c (pause c)) bs ++ s) t (simp length-append (omega arith))
        (record { kind_to = to_kind b (pause b) low short; from_before = refl; below = rw (to_episode_lem b (pause b) low short) below; room = omega arith })
        ∙ over_tos bs s (t + 1) r (λ c i. h c (there i)) l (omega arith) (rw same more) (p + 1)

    over_group : (a : ℕ) (bs s : List ℕ) (t : ℕ) (r : Answer (ℕ × ℕ)) → Small a → a < n → All Written bs → 0 < length s
        → t + length bs ≤ m.words → Answers s (t + length bs) r → Answers (group a pause bs ++ s) t r
    unfolding group
    over_group a [] s t r small i h l room more = rw add-zero at more
    over_group a (b ∷ bs) s t r small i h l room more =
        λ p before.
        let (below, low, short) = h b (here refl) in
        let tos : List ℕ = map (λ (c : ℕ). to_word c (pause c)) (b ∷ bs) ++ s in
        let long : 1 < length tos = simp length-append (omega arith) in
        over_from p (word 2 a) tos before t (omega arith)
        (record { kind_from = kind_word 2 a small; to_follows = there_to tos 0 long (to_kind b (pause b) low short); below = rw (number_word 2 a small) i })
        ∙ over_tos (b ∷ bs) s t r h l room more (p + 1)

module _ (m : Ceilings) (v : ℕ) (pause : ℕ → ℕ → ℕ) (g : Graph) (fits : Fits v pause g) where
  over_groups : (k : ℕ) → k ≤ g.n → length (group_links g k) ≤ m.words → (s : List ℕ) (r : Answer (ℕ × ℕ)) → 0 < length s
      → Answers m g.n s (length (group_links g k)) r → Answers m g.n (groups pause g k ++ s) 0 r
  unfolding groups group_links
  over_groups zero h room s r l more = more
  over_groups (suc k) h room s r l more =
      let bs : List ℕ = linked_to k g.links g.n in
      let small = fits.few in
      let same : length (group_links g (suc k)) ≡ length (group_links g k) + length bs = simp (length-append, length-map) in
      rw append_assoc
      (over_groups k (omega arith) (omega arith) (group k (pause k) bs ++ s) r (simp length-append (omega arith))
      (over_group m g.n (pause k) k bs s (length (group_links g k)) r (omega arith) (omega arith)
      (λ b i. let (low, short) = row_fits v pause g fits k b i in ((linked_to_mem k g.links b g.n i).0, low, short)) l (omega arith)
      (rw same at more)))

-- behind voices words stands a from word or the end
groups_first : (pause : ℕ → ℕ → ℕ) (g : Graph) (k : ℕ) (s : List ℕ) → k ≤ g.n → g.n < 2 ^ 24 → kind (get_or s 0 0) ≢ 9
    → kind (get_or (groups pause g k ++ s) 0 0) ≢ 9
unfolding groups group
groups_first pause g zero s h few ne = ne
groups_first pause g (suc k) s h few ne =
    rw append_assoc
    (groups_first pause g k (group k (pause k) (linked_to k g.links g.n) ++ s) (omega arith) few (first (linked_to k g.links g.n)))
  where
    first : (bs : List ℕ) → kind (get_or (group k (pause k) bs ++ s) 0 0) ≢ 9
    first [] = ne
    first (b ∷ bs) = λ e. omega (arith, kind_word 2 k (omega arith))

-- questions 1 to 10 and 18 to 21, of a head `w`, voices words `ws` whose marks are taken, and the words `s` behind these
over_head : (m : Ceilings) (w : ℕ) (ws s : List ℕ) → All (λ x. kind x ≡ 9) ws → MarksTaken (head_episodes w) (marks_of ws) → 0 < length s
    → kind (get_or s 0 0) ≢ 9 → questions m (w ∷ ws ++ s) ≡ and_then (head_word m w) (over m (head_episodes w) (1 + length ws) s false 0)
over_head m w ws [] k taken h ne = absurd (omega arith)
over_head m w ws (x ∷ rest) k taken h ne = questions_passed m w ws x rest k taken (λ long. ne)

-- a copy passes questions 1 to 10 and 18 to 21 where its episodes and links fit the ceilings
pub copy_passes : (m : Ceilings) (v : ℕ) (pause : ℕ → ℕ → ℕ) (g : Graph) → Fits v pause g → g.n ≤ m.episodes
    → length (group_links g g.n) ≤ m.words → questions m (copy_words v pause g) ≡ given (g.n, length (group_links g g.n))
unfolding copy_words voices_words onwards
copy_passes m v pause g fits fit room =
    let n : ℕ = g.n in
    let t : ℕ = length (group_links g n) in
    let few = fits.few in
    let small = count_fits v pause g fits in
    let high : v < 2 ^ 4 = omega (arith, fits.known) in
    let k = kind_word 15 t small in
    let end : List ℕ = word 15 t ∷ [] in
    let vs : List ℕ = others g.voices n in
    let ws : List ℕ = words_of g.voices vs in
    let last : Answers m n end t (given (n, t)) = λ p before. rw (end_given p (word 15 t) t k (number_word 15 t small)) in
    let taken : MarksTaken (head_episodes (head_of v n)) (marks_of ws) =
    rw (head_episodes_lem v n high few, words_marks g.voices vs (others_fit v pause g fits))
    (marks_taken g.voices n vs
    (λ u i. let (low, ne) = other_mem g.voices n i in (low, fits.voices u low, fits.most u low ne)) (passing_nodup (not_one g.voices) n)) in
    ap (λ (s : List ℕ). questions m (head_of v n ∷ s)) (append_assoc ws (groups pause g n) end)
    ∙ over_head m (head_of v n) ws (groups pause g n ++ end) (words_kind g.voices vs (others_fit v pause g fits)) taken
    (simp length-append (omega arith)) (groups_first pause g n end (omega arith) few (λ e. omega arith))
    ∙ rw (head_kind v n high few, head_version_lem v n high few, head_episodes_lem v n high few, le-leb v 1 fits.known, le-leb n m.episodes fit)
    (over_groups m v pause g fits n (omega arith) room end (given (n, t)) (omega arith) last (1 + length ws) false)
