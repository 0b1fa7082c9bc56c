-- The theorems of the trimmed copy: of a log that passes questions 1 to 10 and 18 to 21 it passes them too, and it has the same voices and exactly the
-- links that stay; of a loop-free log it has the same ways, and two such logs have the same trimmed copy exactly when they have the same voices and
-- ways.
use mathlib.Core.Path.{◌≡◌, refl, ap, sym, subst, ◌∙◌}
use mathlib.Core.Logic.Iff
use mathlib.Core.Logic.{◌↔◌, ◌≢◌}
use mathlib.Core.List.{List, map, Memᴰ as Mem, Nodup, IsChain}
use Prim.Native.Nat.{ℕ, ◌<◌, ◌≤◌}
use native.Mathlib.Omega.{arith}
use lib.ListN.{length, drop, length-map}
use Rattle.paths.specs.Graph.{Graph, EndsBelow, Rising, SameLinks, Acyclic, Loop}
use Rattle.paths.specs.Trimmed.{SameWays, Trimmed}
use Rattle.paths.proofs.Same.{ways_sym, ways_trans, links_ways}
use Rattle.paths.proofs.Trimming.{trimmed_ends}
use Rattle.paths.proofs.Theorems.{trimmed_ways, ways_trimmed, loop_few}
use Rattle.logs.specs.Content.{HeardOf, heard_graph}
use Rattle.logs.specs.Answer.{given}
use Rattle.logs.specs.Log.{questions, marks_of, content_of, graph_of, voices_count}
use Rattle.logs.specs.declared.Ceilings.{Ceilings}
use Rattle.logs.proofs.Counts.{counted_heard, old_graph}
use Rattle.logs.proofs.Laws.{few_episodes, few_words, words_small, graph_episodes, graph_links_few, links_below}
use Rattle.writing.specs.Layout.{loop_words}
use Rattle.writing.proofs.Layouts.{length_loop}
use Rattle.copying.specs.FairCopy.{group_links, voices_words, fair_words, Precedes, fair_need}
use Rattle.copying.proofs.GroupLinks.{length_group_links, copy_words_fit}
use Rattle.copying.proofs.VoicesWords.{others, marked_with, length_voices}
use Rattle.copying.proofs.ReadBack.{Fits, copy_version, copy_marks, copy_passes}
use Rattle.copying.proofs.FairCopies.{log_fits, same_copy, copy_same_links, copy_marked, copy_marks_rising, copy_nodup, copy_rising, copy_pause, fair_again, voices_words_fit, copy_same, copy_read}
use Rattle.trimming.specs.TrimmedCopy.{trimmed, no_pause, trimmed_words}
use Rattle.trimming.proofs.Kept.{trimmed_is, trimmed_few}

-- graphs with the same voices and ways have the same trimmed copy
ways_copy : (g h : Graph) → EndsBelow g → EndsBelow h → SameWays g h → trimmed_words g ≡ trimmed_words h
ways_copy g h ge he s = same_copy 0 no_pause (trimmed g) (trimmed h) (ways_trimmed ge he s (trimmed_is g) (trimmed_is h))

-- the trimmed copy has the voices words of the graph
kept_voices_words : (g : Graph) → length (voices_words (trimmed g).voices (trimmed g).n) ≡ length (voices_words g.voices g.n)
unfolding trimmed
kept_voices_words g = refl

-- the trimmed copy of a log `l` that passes with `n` episodes and `t` to words
module _ (m : Ceilings) (l : List ℕ) (n t : ℕ) (e : questions m l ≡ given (n, t)) where
  ends : EndsBelow (graph_of l)
  ends = links_below m l n t e

  kept_below : (v : ℕ) → v < (trimmed (graph_of l)).n → v < (graph_of l).n
  kept_below v i = omega (arith, (trimmed_is (graph_of l)).episodes)

  fits : Fits 0 no_pause (trimmed (graph_of l))
  fits =
      let log = log_fits m l n t e in
      record {
        known = omega arith;
        few = omega (arith, log.few, (trimmed_is (graph_of l)).episodes);
        voices = λ v i. let h : v < (graph_of l).n = kept_below v i in omega (arith, (trimmed_is (graph_of l)).voices v h, log.voices v h);
        most = λ v i ne.
            let h : v < (graph_of l).n = kept_below v i in
            omega (arith, (trimmed_is (graph_of l)).episodes, log.most v h (λ e. ne ((trimmed_is (graph_of l)).voices v h ∙ e)));
        count = omega (arith, words_small m l n t e, graph_links_few m l n t e, trimmed_few (graph_of l));
        links = λ a b k.
            let heard = counted_heard (content_of l) a b (((trimmed_is (graph_of l)).links a b).0 k).link in
            ((log.links a b heard).0, omega arith);
      }

  episodes : (trimmed (graph_of l)).n ≡ n
  episodes = (trimmed_is (graph_of l)).episodes ∙ graph_episodes m l n t e

  -- it passes, with the same episodes and one to word for each link that stays
  pub trim_read : questions m (trimmed_words (graph_of l)) ≡ given (n, length (group_links (trimmed (graph_of l)) n))
  trim_read =
      let less = length_group_links (trimmed (graph_of l)) (trimmed (graph_of l)).n in
      copy_passes m 0 no_pause (trimmed (graph_of l)) fits (omega (arith, episodes, few_episodes m l n t e))
      (omega (arith, trimmed_few (graph_of l), graph_links_few m l n t e, few_words m l n t e))
      ∙ ap (λ (k : ℕ). given (k, length (group_links (trimmed (graph_of l)) k))) episodes

  -- it is of version 0, so all its links count
  pub trim_version : (content_of (trimmed_words (graph_of l))).version ≡ 0
  trim_version = copy_version 0 no_pause (trimmed (graph_of l)) fits

  all : graph_of (trimmed_words (graph_of l)) ≡ heard_graph (content_of (trimmed_words (graph_of l)))
  all = old_graph (content_of (trimmed_words (graph_of l))) trim_version

  -- it has the links that stay, and no others
  same : SameLinks (trimmed (graph_of l)) (graph_of (trimmed_words (graph_of l)))
  same = rw all (copy_same_links 0 no_pause (trimmed (graph_of l)) fits (trimmed_ends (trimmed_is (graph_of l)) ends))

  pub trim_is : Trimmed (graph_of l) (graph_of (trimmed_words (graph_of l)))
  trim_is =
      record {
        episodes = sym same.episodes ∙ (trimmed_is (graph_of l)).episodes;
        voices = λ v i. sym (same.voices v (omega (arith, (trimmed_is (graph_of l)).episodes))) ∙ (trimmed_is (graph_of l)).voices v i;
        links = λ a b. Iff.trans (Iff.symm (same.links a b)) ((trimmed_is (graph_of l)).links a b);
      }

  -- its voices words are of the episodes with other voices than one, each with its voices; they rise, and are no more than were read
  pub trim_marked : (v c : ℕ) → Mem {A = ℕ × ℕ} (v, c) (marks_of (drop 1 (trimmed_words (graph_of l))))
      ↔ ((v < (graph_of l).n) × ((graph_of l).voices v ≡ c) × (c ≢ 1))
  unfolding trimmed
  trim_marked = copy_marked 0 no_pause (trimmed (graph_of l)) fits

  pub trim_marks_rising : Rising (map (λ (s : ℕ × ℕ). s.0) (marks_of (drop 1 (trimmed_words (graph_of l)))))
  trim_marks_rising = copy_marks_rising 0 no_pause (trimmed (graph_of l)) fits

  pub trim_voices_few : voices_count (trimmed_words (graph_of l)) ≤ voices_count l
  trim_voices_few =
      omega (
        arith,
        ap length (copy_marks 0 no_pause (trimmed (graph_of l)) fits),
        length-map (others (trimmed (graph_of l)).voices (trimmed (graph_of l)).n) (marked_with (trimmed (graph_of l)).voices),
        length_voices (trimmed (graph_of l)).voices (trimmed (graph_of l)).n,
        kept_voices_words (graph_of l),
        voices_words_fit m l n t e,
      )

  -- none of its links twice
  pub trim_once : Nodup (graph_of (trimmed_words (graph_of l))).links
  trim_once = subst (λ (g : Graph). Nodup g.links) (sym all) (copy_nodup 0 no_pause (trimmed (graph_of l)) fits)

  -- they rise, by the earlier episode and then by the later one
  pub trim_rising : IsChain Precedes (graph_of (trimmed_words (graph_of l))).links
  trim_rising = subst (λ (g : Graph). IsChain Precedes g.links) (sym all) (copy_rising 0 no_pause (trimmed (graph_of l)) fits)

  -- each with pause 0
  pub trim_pause : (a b p : ℕ) → HeardOf (content_of (trimmed_words (graph_of l))) a b p → p ≡ 0
  trim_pause = copy_pause 0 no_pause (trimmed (graph_of l)) fits

  -- its own fair copy is the same words, and the trimmed copy of the fair copy too
  pub trim_fair : fair_words (content_of (trimmed_words (graph_of l))) ≡ trimmed_words (graph_of l)
  trim_fair = fair_again 0 no_pause (trimmed (graph_of l)) fits

  pub fair_trim : trimmed_words (graph_of (fair_words (content_of l))) ≡ trimmed_words (graph_of l)
  fair_trim =
      ways_copy (graph_of (fair_words (content_of l))) (graph_of l) (links_below m (fair_words (content_of l)) _ _ (copy_read m l n t e)) ends
      (ways_sym (links_ways (copy_same m l n t e)))

  -- it needs no more words than `fair_need` says, and neither does a loop
  pub trim_fits : length (trimmed_words (graph_of l)) ≤ fair_need t (voices_count l)
  trim_fits =
      omega (
        arith,
        copy_words_fit (trimmed (graph_of l)) 0 no_pause,
        trimmed_few (graph_of l),
        graph_links_few m l n t e,
        kept_voices_words (graph_of l),
        voices_words_fit m l n t e,
      )

  pub trim_loop_fits : (c : List ℕ) → Loop (graph_of l) c → length (loop_words c) ≤ fair_need t (voices_count l)
  trim_loop_fits c o = omega (arith, length_loop c, loop_few o, graph_links_few m l n t e)

  -- of a loop-free log it has the same ways, so its own trimmed copy is the same words
  module _ (acyclic : Acyclic (graph_of l)) where
    pub trim_ways : SameWays (graph_of l) (graph_of (trimmed_words (graph_of l)))
    trim_ways = trimmed_ways ends acyclic trim_is

    pub trim_again : trimmed_words (graph_of (trimmed_words (graph_of l))) ≡ trimmed_words (graph_of l)
    trim_again = ways_copy (graph_of (trimmed_words (graph_of l))) (graph_of l) (trimmed_ends trim_is ends) ends (ways_sym trim_ways)

-- two loop-free logs that pass, at any ceilings, have the same trimmed copy exactly when they have the same voices and ways
pub trims_equal : (m m' : Ceilings) (l l' : List ℕ) (n n' t t' : ℕ) → questions m l ≡ given (n, t) → questions m' l' ≡ given (n', t')
    → Acyclic (graph_of l) → Acyclic (graph_of l')
    → (trimmed_words (graph_of l) ≡ trimmed_words (graph_of l')) ↔ SameWays (graph_of l) (graph_of l')
trims_equal m m' l l' n n' t t' e e' a a' = (
  λ same. ways_trans (rw same at (trim_ways m l n t e a)) (ways_sym (trim_ways m' l' n' t' e' a')),
  ways_copy (graph_of l) (graph_of l') (links_below m l n t e) (links_below m' l' n' t' e'),
)
