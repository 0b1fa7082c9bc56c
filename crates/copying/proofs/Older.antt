-- The fair copy of an older log is the one that it had.
use mathlib.Core.Path.{◌≡◌, refl, ◌∙◌, ap, ap₂, sym}
use mathlib.Core.List.{List, [], ◌∷◌, ◌++◌, map_congr_left}
use Prim.Native.Nat.{ℕ, zero, suc}
use Rattle.paths.specs.Graph.{Graph, Link, SameLinks}
use Rattle.paths.specs.OneVoice.{OneVoice}
use Rattle.logs.specs.Words.{word, to_word}
use Rattle.logs.specs.Content.{heard_graph, SameContent, least_pause}
use Rattle.logs.specs.Log.{content_of, graph_of}
use Rattle.logs.specs.Earlier.{Older}
use Rattle.logs.specs.Earlier as log-earlier
use Rattle.logs.proofs.Words.{head_unversioned, to_unpaused_lem}
use Rattle.logs.proofs.Pauses.{least_pause_lem, link_heard, content_same}
use Rattle.logs.proofs.Counts.{old_graph}
use Rattle.logs.proofs.Laws.{voices_none}
use Rattle.logs.proofs.Older.{version_older, no_voices_older, graph_older, no_pause_lem}
use Rattle.copying.specs.FairCopy.{linked_to, group, groups, copy_words, fair_words}
use Rattle.copying.specs.Earlier as earlier
use Rattle.copying.proofs.VoicesWords.{voices_words_none}
use Rattle.copying.proofs.FairCopies.{copy_by_links}

-- a copy of version 0 in which every pause is 0 and every episode has one voice is laid out as it was
group_earlier : (a : ℕ) (bs : List ℕ) → group a (λ b. 0) bs ≡ earlier.group a bs
unfolding group earlier.group
group_earlier a [] = refl
group_earlier a (b ∷ bs) =
    ap (λ (ws : List ℕ). word 2 a ∷ ws) (map_congr_left {f = λ (c : ℕ). to_word c 0} {g = word 3} {l = b ∷ bs} (λ c i. to_unpaused_lem c))

groups_earlier : (g : Graph) (k : ℕ) → groups (λ a b. 0) g k ≡ earlier.groups g k
unfolding groups earlier.groups
groups_earlier g zero = refl
groups_earlier g (suc k) =
    ap₂ (λ (xs ys : List ℕ). xs ++ ys) (groups_earlier g k) (group_earlier k (linked_to k g.links g.n))

pub copy_earlier : (g : Graph) → OneVoice g → copy_words 0 (λ a b. 0) g ≡ earlier.fair_words g
unfolding copy_words earlier.fair_words
copy_earlier g one = rw (voices_words_none g.voices g.n one, groups_earlier g g.n, head_unversioned g.n)

-- the least pauses of an older log are 0
module _ (l : List ℕ) (older : Older l) where
  least_older : (a b : ℕ) → Link (heard_graph (content_of l)) a b → least_pause (content_of l) a b ≡ 0
  least_older a b k = no_pause_lem l older _ (least_pause_lem (content_of l) a b ((link_heard (content_of l) a b).0 k)).heard

  unpaused : fair_words (content_of l) ≡ copy_words 0 (λ a b. 0) (heard_graph (content_of l))
  unpaused =
      copy_by_links (least_pause (content_of l)) (λ a b. 0) (heard_graph (content_of l)) (heard_graph (content_of l)) refl (λ v i. refl)
      (λ a b i j. (λ k. k, λ k. k))
      (λ a b i j k. least_older a b k) (content_of l).version
      ∙ ap (λ (v : ℕ). copy_words v (λ a b. 0) (heard_graph (content_of l))) (version_older l older)

  -- and each episode has one voice
  one_older : OneVoice (graph_of l)
  one_older v h = voices_none l (no_voices_older l older) v

  pub fair_older : fair_words (content_of l) ≡ earlier.fair_words (log-earlier.graph_of l)
  fair_older =
      unpaused ∙ copy_earlier (heard_graph (content_of l)) one_older
      ∙ ap earlier.fair_words (sym (old_graph (content_of l) (version_older l older)) ∙ graph_older l older)

-- two older logs with the same links agree in their least pauses
pub older_same : (l l' : List ℕ) → Older l → Older l' → SameLinks (graph_of l) (graph_of l') → SameContent (content_of l) (content_of l')
older_same l l' older older' same =
    let heard : SameLinks (heard_graph (content_of l)) (heard_graph (content_of l')) =
    rw (old_graph (content_of l) (version_older l older), old_graph (content_of l') (version_older l' older')) at same in
    content_same (version_older l older ∙ sym (version_older l' older')) heard
    (λ a b k. least_older l older a b k ∙ sym (least_older l' older' a b ((heard.links a b).0 k)))
