-- The theorems of copies and of the fair copy. A copy tells its version, the voices of its episodes and the links that it is made of, each with the
-- pause that is written; the fair copy of a copy is the same words; two contents have the same fair copy exactly when they agree in version, episodes,
-- voices, links and least pauses. The fair copy of a log that passes questions 1 to 10 and 18 to 21 passes them.
use mathlib.Core.Path.{◌≡◌, refl, ◌∙◌, ap, ap₂, sym, subst}
use mathlib.Core.Logic.{◌↔◌, ◌≢◌}
use mathlib.Core.List.Memᴰ
use mathlib.Core.List.{List, ◌++◌, map, Memᴰ as Mem, Nodup, IsChain}
use Prim.Native.Nat.{ℕ, zero, suc, ◌<◌, ◌≤◌}
use native.Mathlib.Omega.{arith}
use native.Mathlib.Decide.{dec_le}
use lib.ListN.{length, drop, length-map}
use Rattle.paths.specs.Graph.{Graph, Link, EndsBelow, Rising, SameLinks}
use Rattle.paths.specs.Links.{linked, link_count}
use Rattle.paths.proofs.Numbers.{rising_equal}
use Rattle.paths.proofs.Passing.{passing_rising}
use Rattle.logs.specs.Content.{Heard, Content, heard_graph, HeardOf, LeastPause, SameContent, least_pause}
use Rattle.logs.specs.Answer.{given}
use Rattle.logs.specs.Log.{questions, marks_of, content_of, graph_of, voices_count}
use Rattle.logs.specs.declared.Ceilings.{Ceilings}
use Rattle.logs.proofs.Pauses.{least_pause_lem, link_heard, same_heards, same_least, content_same, content_sym, content_trans}
use Rattle.logs.proofs.Counts.{same_links}
use Rattle.logs.proofs.Laws.{
  version_known,
  words_small,
  few_episodes,
  few_words,
  graph_episodes,
  heard_links_count,
  heard_below,
  content_fits,
  voices_few,
  voices_none,
  voices_most,
  others_marked,
}
use Rattle.copying.specs.FairCopy.{linked_to, group, groups, group_links, voices_words, copy_words, fair_words, Precedes, fair_need}
use Rattle.copying.proofs.Linked.{linked_to_mem, mem_linked_to, group_same}
use Rattle.copying.proofs.VoicesWords.{others, marked_with, length_voices, other_marks, other_marks_rising, voices_words_equal}
use Rattle.copying.proofs.GroupLinks.{links_of, group_links_mem, mem_group_links, group_links_nodup, group_links_rising, length_group_links, group_links_count, copy_words_fit}
use Rattle.copying.proofs.ReadBack.{Fits, paused, copy_version, copy_episodes, copy_marks, copy_voices, copy_heard, copy_links, copy_passes}

-- a copy depends only on the episodes, on their voices, on the links between them and on the pauses of these
module _ (p q : ℕ → ℕ → ℕ) (g h : Graph) (episodes : g.n ≡ h.n) (marks : (v : ℕ) → v < g.n → g.voices v ≡ h.voices v)
    (same : (a b : ℕ) → a < g.n → b < g.n → Link g a b ↔ Link h a b) (equal : (a b : ℕ) → a < g.n → b < g.n → Link g a b → p a b ≡ q a b)
  where
    linked_to_equal : (a : ℕ) → a < g.n → linked_to a g.links g.n ≡ linked_to a h.links h.n
    linked_to_equal a i =
        rw (← episodes)
        (rising_equal (linked_to a g.links g.n) (linked_to a h.links g.n)
        (passing_rising (λ b. linked a b g.links) g.n) (passing_rising (λ b. linked a b h.links) g.n)
        (λ b m. let r = linked_to_mem a g.links b g.n m in mem_linked_to a h.links b g.n r.0 ((same a b i r.0).0 r.1))
        (λ b m. let r = linked_to_mem a h.links b g.n m in mem_linked_to a g.links b g.n r.0 ((same a b i r.0).1 r.1)))

    groups_equal : (k : ℕ) → k ≤ g.n → groups p g k ≡ groups q h k
    unfolding groups
    groups_equal zero i = refl
    groups_equal (suc k) i =
        let bs : List ℕ = linked_to k g.links g.n in
        ap₂ (λ (xs ys : List ℕ). xs ++ ys) (groups_equal k (omega arith))
        (group_same k (p k) (q k) bs (λ b m. let r = linked_to_mem k g.links b g.n m in equal k b (omega arith) r.0 r.1)
        ∙ ap (group k (q k)) (linked_to_equal k (omega arith)))

    group_links_equal : (k : ℕ) → k ≤ g.n → group_links g k ≡ group_links h k
    unfolding group_links
    group_links_equal zero i = refl
    group_links_equal (suc k) i =
        ap₂ (λ (xs ys : List (ℕ × ℕ)). xs ++ ys) (group_links_equal k (omega arith)) (ap (links_of k) (linked_to_equal k (omega arith)))

    pub copy_by_links : (v : ℕ) → copy_words v p g ≡ copy_words v q h
    unfolding copy_words
    copy_by_links v =
        rw (voices_words_equal g.voices h.voices g.n marks, groups_equal g.n (omega arith), group_links_equal g.n (omega arith), episodes)

-- the same voices, and the same links with the same pauses, have the same copy
pub same_copy : (v : ℕ) (pause : ℕ → ℕ → ℕ) (g h : Graph) → SameLinks g h → copy_words v pause g ≡ copy_words v pause h
same_copy v pause g h s = copy_by_links pause pause g h s.episodes s.voices (λ a b i j. s.links a b) (λ a b i j k. refl) v

-- contents that agree have the same fair copy
pub same_fair : (c d : Content) → SameContent c d → fair_words c ≡ fair_words d
same_fair c d s =
    copy_by_links (least_pause c) (least_pause d) (heard_graph c) (heard_graph d) s.episodes s.voices (λ a b i j. (same_heards s).links a b)
    (λ a b i j k. same_least s a b k) c.version
    ∙ ap (λ (v : ℕ). copy_words v (least_pause d) (heard_graph d)) s.versions

-- what a copy tells
module _ (v : ℕ) (pause : ℕ → ℕ → ℕ) (g : Graph) (fits : Fits v pause g) where
  abbrev copy : Content
  copy = content_of (copy_words v pause g)

  -- its links are those of the graph that join episodes
  pub copy_link : (a b : ℕ) → Link (heard_graph copy) a b → (a < g.n) × (b < g.n) × Link g a b
  copy_link a b l = group_links_mem g g.n a b (rw (copy_links v pause g fits) at l)

  pub link_copy : (a b : ℕ) → a < g.n → b < g.n → Link g a b → Link (heard_graph copy) a b
  link_copy a b i j l = rw (copy_links v pause g fits) (mem_group_links g g.n a b i j l)

  -- each with the pause that is written with it
  pub copy_pause : (a b p : ℕ) → HeardOf copy a b p → p ≡ pause a b
  copy_pause a b p m =
      let (l, i, e) = Memᴰ.of_map (paused pause) (group_links g g.n) (rw (copy_heard v pause g fits) at m) in
      let from : l.0 ≡ a = ap (λ (h : Heard). h.from) e in
      let to : l.1 ≡ b = ap (λ (h : Heard). h.to) e in
      sym (ap (λ (h : Heard). h.pause) e) ∙ ap₂ pause from to

  pub copy_least : (a b : ℕ) → Link (heard_graph copy) a b → least_pause copy a b ≡ pause a b
  copy_least a b l = copy_pause a b (least_pause copy a b) (least_pause_lem copy a b ((link_heard copy a b).0 l)).heard

  -- its own fair copy is the same words
  pub fair_again : fair_words (content_of (copy_words v pause g)) ≡ copy_words v pause g
  fair_again =
      copy_by_links (least_pause copy) pause (heard_graph copy) g (copy_episodes v pause g fits)
      (λ u i. copy_voices v pause g fits u (rw (copy_episodes v pause g fits) at i))
      (λ a b i j. (λ l. (copy_link a b l).2, link_copy a b (rw (copy_episodes v pause g fits) at i) (rw (copy_episodes v pause g fits) at j)))
      (λ a b i j l. copy_least a b l) copy.version
      ∙ ap (λ (k : ℕ). copy_words k pause g) (copy_version v pause g fits)

  -- where all links join episodes, it has the same links
  pub copy_same_links : EndsBelow g → SameLinks g (heard_graph copy)
  copy_same_links ends =
      record {
        episodes = sym (copy_episodes v pause g fits);
        voices = λ u i. sym (copy_voices v pause g fits u i);
        links = λ a b. (λ l. let e = ends a b l in link_copy a b e.0 e.1 l, λ l. (copy_link a b l).2);
      }

  -- its voices words are of the episodes with other voices than one, each with its voices, and they rise
  pub copy_marked : (u c : ℕ) → Mem {A = ℕ × ℕ} (u, c) (marks_of (drop 1 (copy_words v pause g))) ↔ ((u < g.n) × (g.voices u ≡ c) × (c ≢ 1))
  copy_marked u c = rw (copy_marks v pause g fits) (other_marks g.voices g.n u c)

  pub copy_marks_rising : Rising (map (λ (s : ℕ × ℕ). s.0) (marks_of (drop 1 (copy_words v pause g))))
  copy_marks_rising = rw (copy_marks v pause g fits) (other_marks_rising g.voices g.n)

  -- it repeats no link
  pub copy_nodup : Nodup (heard_graph copy).links
  copy_nodup = rw (copy_links v pause g fits) (group_links_nodup g g.n)

  -- its links rise, by the earlier episode and then by the later one
  pub copy_rising : IsChain Precedes (heard_graph copy).links
  copy_rising = rw (copy_links v pause g fits) (group_links_rising g g.n)

-- a content and its fair copy agree, where all links join episodes
module _ (c : Content) (fits : Fits c.version (least_pause c) (heard_graph c)) (ends : EndsBelow (heard_graph c)) where
  pub fair_same : SameContent c (content_of (fair_words c))
  fair_same =
      let same = copy_same_links c.version (least_pause c) (heard_graph c) fits ends in
      content_same (sym (copy_version c.version (least_pause c) (heard_graph c) fits)) same
      (λ a b l. sym (copy_least c.version (least_pause c) (heard_graph c) fits a b ((same.links a b).0 l)))

-- two contents have the same fair copy exactly when they agree
pub fair_equal : (c d : Content) → Fits c.version (least_pause c) (heard_graph c) → EndsBelow (heard_graph c)
    → Fits d.version (least_pause d) (heard_graph d) → EndsBelow (heard_graph d)
    → (fair_words c ≡ fair_words d) ↔ SameContent c d
fair_equal c d cf ce df de =
    (λ e. content_trans (rw e at (fair_same c cf ce)) (content_sym (fair_same d df de)), same_fair c d)

-- where an episode has other voices than one, there is a voices word
pub marked_some : (l : List ℕ) (v : ℕ) → (content_of l).voices v ≢ 1 → 1 ≤ voices_count l
marked_some l v ne = go (dec_le 1 (voices_count l))
  where
    go : Dec (1 ≤ voices_count l) → 1 ≤ voices_count l
    go (yes h) = h
    go (no none) = absurd (ne (voices_none l (omega (arith, none)) v))

-- a log has at least as many voices words as its copy
pub voices_words_fit : (m : Ceilings) (l : List ℕ) (n t : ℕ) → questions m l ≡ given (n, t)
    → length (voices_words (content_of l).voices (content_of l).n) ≤ voices_count l
voices_words_fit m l n t e =
    let same : length (others (content_of l).voices (content_of l).n) ≡ length (others (content_of l).voices n) =
    ap (λ (k : ℕ). length (others (content_of l).voices k)) (graph_episodes m l n t e) in
    omega (arith, length_voices (content_of l).voices (content_of l).n, others_marked l n)

-- the fair copy of a log `l` that passes with `n` episodes and `t` to words
module _ (m : Ceilings) (l : List ℕ) (n t : ℕ) (e : questions m l ≡ given (n, t)) where
  -- what it tells fits its words
  pub log_fits : Fits (content_of l).version (least_pause (content_of l)) (heard_graph (content_of l))
  log_fits =
      record {
        known = version_known m l n t e;
        few = omega arith;
        voices = λ v i. voices_few m l n t e v (rw (graph_episodes m l n t e) at i);
        most = λ v i ne. omega (arith, graph_episodes m l n t e, voices_most m l n t e (marked_some l v ne));
        count = omega (arith, heard_links_count m l n t e, words_small m l n t e);
        links = λ a b k.
            let least = least_pause_lem (content_of l) a b ((link_heard (content_of l) a b).0 k) in
            content_fits l _ least.heard;
      }

  -- the copy passes, with the same episodes and one to word for each link
  pub copy_read : questions m (fair_words (content_of l)) ≡ given (n, length (group_links (heard_graph (content_of l)) n))
  copy_read =
      let fit : (graph_of l).n ≤ m.episodes = omega (arith, graph_episodes m l n t e, few_episodes m l n t e) in
      let heard : Graph = heard_graph (content_of l) in
      let less = length_group_links heard (graph_of l).n in
      let room : length (group_links heard (graph_of l).n) ≤ m.words = omega (arith, heard_links_count m l n t e, few_words m l n t e) in
      copy_passes m (content_of l).version (least_pause (content_of l)) heard log_fits fit room
      ∙ ap (λ (k : ℕ). given (k, length (group_links heard k))) (graph_episodes m l n t e)

  -- that is one for each different link that was heard
  pub copy_count : questions m (fair_words (content_of l)) ≡ given (n, link_count (heard_graph (content_of l)))
  copy_count =
      let heard : Graph = heard_graph (content_of l) in
      copy_read
      ∙ ap (λ (k : ℕ). given (n, k))
      (ap (λ (k : ℕ). length (group_links heard k)) (sym (graph_episodes m l n t e)) ∙ group_links_count heard (heard_below m l n t e))

  -- it has no more voices words than were read
  copy_voices_count : voices_count (fair_words (content_of l)) ≡ length (others (content_of l).voices n)
  copy_voices_count =
      ap length (copy_marks (content_of l).version (least_pause (content_of l)) (heard_graph (content_of l)) log_fits)
      ∙ length-map (others (content_of l).voices (content_of l).n) (marked_with (content_of l).voices)
      ∙ ap (λ (k : ℕ). length (others (content_of l).voices k)) (graph_episodes m l n t e)

  pub copy_voices_few : voices_count (fair_words (content_of l)) ≤ voices_count l
  copy_voices_few = omega (arith, copy_voices_count, others_marked l n)

  -- it tells the same version, the same voices and the same links with the same least pauses; so the same links count
  pub copy_content : SameContent (content_of l) (content_of (fair_words (content_of l)))
  copy_content = fair_same (content_of l) log_fits (heard_below m l n t e)

  -- each link is written with its least pause and no other
  pub copy_pauses : (a b p : ℕ) → HeardOf (content_of (fair_words (content_of l))) a b p ↔ LeastPause (content_of l) a b p
  copy_pauses a b p = (
    λ k.
        let one : (q : ℕ) × HeardOf (content_of (fair_words (content_of l))) a b q = (p, k) in
        let same = copy_pause (content_of l).version (least_pause (content_of l)) (heard_graph (content_of l)) log_fits a b p k in
        subst (LeastPause (content_of l) a b) (sym same) (least_pause_lem (content_of l) a b ((copy_content.links a b).1 one)),
    λ r. ((copy_content.pauses a b p).0 r).heard,
  )

  pub copy_same : SameLinks (graph_of l) (graph_of (fair_words (content_of l)))
  copy_same = same_links copy_content

  -- it repeats no link
  pub copy_once : Nodup (heard_graph (content_of (fair_words (content_of l)))).links
  copy_once = copy_nodup (content_of l).version (least_pause (content_of l)) (heard_graph (content_of l)) log_fits

  -- its own fair copy is the same words
  pub copy_again : fair_words (content_of (fair_words (content_of l))) ≡ fair_words (content_of l)
  copy_again = fair_again (content_of l).version (least_pause (content_of l)) (heard_graph (content_of l)) log_fits

  -- it needs no more words than `fair_need` says
  pub copy_fits : length (fair_words (content_of l)) ≤ fair_need t (voices_count l)
  copy_fits =
      omega (
        arith,
        copy_words_fit (heard_graph (content_of l)) (content_of l).version (least_pause (content_of l)),
        heard_links_count m l n t e,
        voices_words_fit m l n t e,
      )

-- two logs that pass, at any ceilings, have the same fair copy exactly when they agree in version, episodes, voices, links and least pauses
pub copies_equal : (m m' : Ceilings) (l l' : List ℕ) (n n' t t' : ℕ) → questions m l ≡ given (n, t) → questions m' l' ≡ given (n', t')
    → (fair_words (content_of l) ≡ fair_words (content_of l')) ↔ SameContent (content_of l) (content_of l')
copies_equal m m' l l' n n' t t' e e' =
    fair_equal (content_of l) (content_of l') (log_fits m l n t e) (heard_below m l n t e) (log_fits m' l' n' t' e') (heard_below m' l' n' t' e')
