-- The laws of a log `l` that passes questions 1 to 10 and 18 to 21 with `n` episodes and `t` to words: what other crates cite.
use mathlib.Core.Path.{◌≡◌, ◌∙◌, sym, ap}
use mathlib.Core.Logic.{◌↔◌}
use mathlib.Core.Bool.{not}
use mathlib.Core.List.{List, [], ◌∷◌, ◌++◌, map, Memᴰ as Mem, Nodup}
use Prim.Native.Nat.{ℕ, zero, suc, ◌+◌, ◌-◌, ◌<◌, ◌≤◌, ◌^◌}
use native.Mathlib.Omega.{arith}
use lib.Dec.{eqb}
use lib.ListN.{length, get_or, drop, length-map}
use Rattle.order.specs.Order.{All}
use Rattle.paths.specs.Graph.{Link, EndsBelow}
use Rattle.paths.specs.Passing.{passing}
use Rattle.logs.specs.Words.{kind, number, to_episode, to_pause, Small}
use Rattle.logs.specs.Content.{Heard, joins, heard_graph, short_enough, short_of}
use Rattle.logs.specs.Answer.{given}
use Rattle.logs.specs.Log.{questions, marks_of, content_of, graph_of, heard_count, voices_count, most_with_voices, most_voices}
use Rattle.logs.specs.Places.{BehindVoices}
use Rattle.logs.specs.Groups.{heard_before, short_links, short_before, nearest_from}
use Rattle.logs.specs.Hear.{where_short}
use Rattle.logs.specs.declared.Ceilings.{Ceilings}
use Rattle.logs.proofs.Words.{number_lt}
use Rattle.logs.proofs.Links as links
use Rattle.logs.proofs.Links.{heard_count_lem, heard_fits}
use Rattle.logs.proofs.Counts as counts
use Rattle.logs.proofs.Counts.{counted_heard, links_few, short_none, short_more, short_one}
use Rattle.logs.proofs.WellFormed as forms
use Rattle.logs.proofs.WellFormed.{WellFormed, behind_voices}
use Rattle.logs.proofs.Marks as marks
use Rattle.logs.proofs.Marks.{voices_one, voices_marked, voices_at_most, others_few}

module _ (m : Ceilings) (l : List ℕ) (n t : ℕ) where
  -- a log passes exactly when it is well formed: `WellFormed` says what stands at each place
  pub well_formed : questions m l ≡ given (n, t) → WellFormed m l n t
  well_formed = forms.well_formed m l n t

  pub well_formed_passes : WellFormed m l n t → questions m l ≡ given (n, t)
  well_formed_passes = forms.well_formed_passes m l n t

module _ (m : Ceilings) (l : List ℕ) (n t : ℕ) (e : questions m l ≡ given (n, t)) where
  -- `n` and `t` are at most the ceilings
  pub few_episodes : n ≤ m.episodes
  few_episodes = (forms.well_formed m l n t e).few_episodes

  pub few_words : t ≤ m.words
  few_words = (forms.well_formed m l n t e).few_words

  -- `t` is the number of a word, the end
  pub words_small : Small t
  words_small = rw (forms.well_formed m l n t e).end_number at (number_lt (get_or l (length l - 1) 0))

  -- the version is 0 or 1
  pub version_known : (content_of l).version ≤ 1
  version_known = (forms.well_formed m l n t e).known_version

  -- the graph has `n` episodes, `t` links were heard, and these join episodes
  pub graph_episodes : (graph_of l).n ≡ n
  graph_episodes = (forms.well_formed m l n t e).episodes

  pub heard_count_words : heard_count l ≡ t
  heard_count_words = heard_count_lem 0 (drop 1 l) ∙ (forms.well_formed m l n t e).count

  pub heard_links_count : length (heard_graph (content_of l)).links ≡ t
  heard_links_count = length-map (content_of l).heard joins ∙ heard_count_words

  pub heard_below : EndsBelow (heard_graph (content_of l))
  heard_below = forms.heard_below m l n t e

  -- the links that count are among them
  pub graph_links_few : length (graph_of l).links ≤ t
  graph_links_few = omega (arith, links_few (content_of l), heard_count_words)

  pub links_below : EndsBelow (graph_of l)
  links_below a b k = heard_below a b (counted_heard (content_of l) a b k)

  -- behind the head stand the voices words, and then the first group or the end
  pub voices_end : BehindVoices l (voices_count l + 1)
  voices_end = (forms.well_formed m l n t e).voices

  -- where there is a voices word, there are 120 episodes at the most
  pub voices_most : 1 ≤ voices_count l → n ≤ most_with_voices
  voices_most = (forms.well_formed m l n t e).marks.few

  -- a mark is of an episode, no episode is marked twice, and each has the voices of its mark, of which there are 2 at the most
  pub marks_below : All (λ s. s.0 < n) (marks_of (drop 1 l))
  marks_below = (forms.well_formed m l n t e).marks.below

  pub marks_few : All (λ s. s.1 ≤ most_voices) (marks_of (drop 1 l))
  marks_few = (forms.well_formed m l n t e).marks.voices

  pub marks_once : Nodup (map (λ s. s.0) (marks_of (drop 1 l)))
  marks_once = (forms.well_formed m l n t e).marks.once

  pub marks_voices : (s : ℕ × ℕ) → Mem s (marks_of (drop 1 l)) → (content_of l).voices s.0 ≡ s.1
  marks_voices = voices_marked (marks_of (drop 1 l)) marks_once

  -- so there are at most as many voices words as episodes
  pub voices_words_few : voices_count l ≤ n
  voices_words_few = marks.marks_most n (marks_of (drop 1 l)) marks_below marks_once

  pub voices_words_small : Small (voices_count l)
  voices_words_small = omega (arith, voices_words_few, graph_episodes)

  pub voices_few : (v : ℕ) → v < n → (content_of l).voices v ≤ 2
  voices_few v h = voices_at_most most_voices (marks_of (drop 1 l)) (omega arith) marks_few v

-- without a voices word each episode has one voice
pub voices_none : (l : List ℕ) → voices_count l ≡ 0 → (v : ℕ) → (content_of l).voices v ≡ 1
voices_none l = voices_one (marks_of (drop 1 l))

-- and so has an episode that none of them names
pub voices_else : (l : List ℕ) (v : ℕ) → (Mem v (map (λ s. s.0) (marks_of (drop 1 l))) → ⊥) → (content_of l).voices v ≡ 1
voices_else l = marks.voices_unmarked (marks_of (drop 1 l))

-- the episodes with voices other than 1 are at most as many as the voices words
pub others_marked : (l : List ℕ) (n : ℕ) → length (passing (λ v. not (eqb ((content_of l).voices v) 1)) n) ≤ voices_count l
others_marked l = others_few (marks_of (drop 1 l))

-- the episode and the pause of a link that was heard fit a to word
pub content_fits : (l : List ℕ) (h : Heard) → Mem h (content_of l).heard → (h.to < 2 ^ 16) × (h.pause < 2 ^ 12)
content_fits l = heard_fits 0 (drop 1 l)

-- Passing over the words behind the head, in order. Behind the head and the voices words no link has been heard; a from word changes the nearest from word, and a
-- to word adds its link; at the last word the links that have been heard are the log's. To the links that count by their own pause a to word
-- adds its link where its pause lets it.
pub before_head : (l : List ℕ) → 0 < length l → heard_before l 1 ≡ []
before_head = links.before_head

-- the voices words give none
pub before_groups : (l : List ℕ) (start : ℕ) → BehindVoices l start → heard_before l start ≡ []
before_groups l start b = go start b.behind b.within b.before
  where
    go : (p : ℕ) → 0 < p → p < length l → ((q : ℕ) → 0 < q → q < p → kind (get_or l q 0) ≡ 9) → heard_before l p ≡ []
    go zero o h k = absurd (omega arith)
    go (suc zero) o h k = before_head l (omega arith)
    go (suc (suc p)) o h k =
        let e : suc (suc p) ≡ suc p + 1 = omega arith in
        ap (heard_before l) e ∙ links.pass_voices l (suc p) (omega arith) (omega arith) (k (suc p) (omega arith) (omega arith))
        ∙ go (suc p) (omega arith) (omega arith) (λ q a b. k q a (omega arith))

pub no_links : (l : List ℕ) (start : ℕ) → BehindVoices l start → short_before l start ≡ []
no_links l start h = ap (map joins) (ap (short_of (content_of l).version) (before_groups l start h) ∙ short_none (content_of l).version)

module _ (l : List ℕ) (p : ℕ) (behind : 0 < p) (within : p < length l) where
  pub pass_from : kind (get_or l p 0) ≡ 2 → (heard_before l (p + 1) ≡ heard_before l p) × (nearest_from l (p + 1) ≡ number (get_or l p 0))
  pass_from = links.pass_from l p behind within

  pub pass_to : kind (get_or l p 0) ≡ 3
      → (heard_before l (p + 1)
      ≡ heard_before l p ++ record { from = nearest_from l p; to = to_episode (get_or l p 0); pause = to_pause (get_or l p 0) } ∷ [])
      × (nearest_from l (p + 1) ≡ nearest_from l p)
  pass_to = links.pass_to l p behind within

  pub links_from_lem : kind (get_or l p 0) ≡ 2 → short_before l (p + 1) ≡ short_before l p
  links_from_lem k = ap (λ (hs : List Heard). map joins (short_of (content_of l).version hs)) (pass_from k).0

  pub links_to : kind (get_or l p 0) ≡ 3
      → short_before l (p + 1)
      ≡ short_before l p ++ where_short (short_enough (content_of l).version (to_pause (get_or l p 0))) (nearest_from l p, to_episode (get_or l p 0))
  links_to k =
      let v = (content_of l).version in
      ap (λ (hs : List Heard). map joins (short_of v hs)) (pass_to k).0 ∙ short_more v (heard_before l p) _
      ∙ ap (λ (ls : List (ℕ × ℕ)). short_before l p ++ ls) (short_one v _)

module _ (m : Ceilings) (l : List ℕ) (n t : ℕ) (e : questions m l ≡ given (n, t)) where
  pub heard_passed : heard_before l (length l - 1) ≡ (content_of l).heard
  heard_passed =
      let f = forms.well_formed m l n t e in
      let all : length l - 1 + 1 ≡ length l = omega arith in
      sym (links.pass_end l (length l - 1) (omega arith) (omega arith) f.end_kind) ∙ rw all (links.before_all l)

  pub links_passed : short_before l (length l - 1) ≡ short_links l
  links_passed = ap (λ (hs : List Heard). map joins (short_of (content_of l).version hs)) heard_passed

-- these are the links of the graph
pub short_counts : (l : List ℕ) (a b : ℕ) → Mem {A = ℕ × ℕ} (a, b) (short_links l) ↔ Link (graph_of l) a b
short_counts l = counts.short_links_lem (content_of l)
