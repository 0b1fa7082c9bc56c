-- The groups in the output, episode by episode, and the whole copy.
use mathlib.Core.Path.{◌≡◌, refl, sym, ap, subst, ◌∙◌}
use mathlib.Core.List.{List, [], ◌∷◌, ◌++◌, map, append_assoc, append-nil}
use Prim.Native.Nat.{ℕ, zero, suc, ◌+◌, ◌-◌, ◌≤◌, ◌<◌, ◌^◌}
use native.Mathlib.Numerals.{add-one}
use native.Mathlib.Omega.{arith}
use lib.ListN.{length, get_or, set, take, drop, length-append, length-map, length-drop}
use lib.Seq.{length-take-le}
use Rattle.std.proofs.lemmas.List.{take-append-drop}
use Rattle.std.proofs.lemmas.Slice.{drop-append-drop}
use Rattle.paths.specs.Graph.{Graph}
use Rattle.paths.specs.Links.{linked}
use Rattle.paths.proofs.Passing.{length_passing}
use Rattle.logs.specs.Words.{word, head_of, to_word}
use Rattle.logs.specs.Content.{heard_graph}
use Rattle.logs.specs.Log.{content_of, graph_of, PassedLog}
use Rattle.logs.proofs.Laws.{words_small, heard_links_count}
use Rattle.writing.specs.Layout.{BeginsWith}
use Rattle.writing.proofs.Buffers.{begins_words, begins_first, begins_more, begins_length, begins_part, lent_part, lent_rest}
use Rattle.copying.specs.FairCopy.{linked_to, group, groups, group_links, voices_words, copy_words, copy_length}
use Rattle.copying.specs.Copying.{group_length, LinksWritten, GroupWritten, GroupsWritten, VoicesWritten}
use Rattle.copying.proofs.Linked.{length_group, groups_more, length_copy, group_room}
use Rattle.copying.proofs.GroupLinks.{links_of}

-- a buffer begins with its own first words
begins_taken : (k : ℕ) (o : List ℕ) → k ≤ length o → BeginsWith (take k o) o o
begins_taken k o h =
    let size = length-take-le k o h in (omega arith, rw size (sym (take-append-drop k o)))

-- what begins with its own first words and others, begins with the words that these were
begins_on : (ws o o₁ : List ℕ) → BeginsWith ws o o₁ → (vs o₂ : List ℕ) (k : ℕ) → k ≡ length ws → BeginsWith (take k o₁ ++ vs) o₁ o₂
    → BeginsWith (ws ++ vs) o o₂
begins_on ws o o₁ b vs o₂ k e c =
    let (front, rest) = begins_words ws o o₁ b k (sym e) in
    let size = begins_length ws o o₁ b in
    let whole : BeginsWith (ws ++ vs) o₁ o₂ = rw front at c in
    let n = length (ws ++ vs) in (
      omega (arith, whole.0),
      whole.1
          ∙ ap (λ (r : List ℕ). (ws ++ vs) ++ r)
          (ap (λ (r : List ℕ). drop n r) b.1 ∙ drop-append-drop (length ws) o ws n (omega (arith, length-append ws vs)) refl),
    )

-- the numbers of a log that passes fit its words
pub episodes_few : (l : List ℕ) → (graph_of l).n < 2 ^ 24
episodes_few l = omega arith

pub version_small : (l : List ℕ) → (content_of l).version < 2 ^ 4
version_small l = omega arith

pub links_small : (l : List ℕ) → PassedLog l → length (heard_graph (content_of l)).links < 2 ^ 28
links_small l (m, n, t, e, few) = omega (arith, words_small m l n t e, heard_links_count m l n t e)

-- one episode of few has few links
pub few_links : (ls : List (ℕ × ℕ)) (n a : ℕ) {pause : ℕ → ℕ} {o o' : List ℕ} {r : ℕ} → n < 2 ^ 28 → LinksWritten pause (linked_to a ls n) o o' r → r < 2 ^ 28
few_links ls n a few g = omega (arith, g.count, length_passing (λ b. linked a b ls) n)

-- links are written in as many words as there were
pub links_room : {pause : ℕ → ℕ} {bs o o' : List ℕ} {r : ℕ} → LinksWritten pause bs o o' r → length o' ≡ length o
links_room {pause} {bs} {o} {o'} s = begins_length (get_or o 0 0 ∷ map (λ (b : ℕ). to_word b (pause b)) bs) o o' s.words

group_links_more : (g : Graph) (a : ℕ) → group_links g (a + 1) ≡ group_links g a ++ links_of a (linked_to a g.links g.n)
unfolding group_links
group_links_more g a = rw (add-one, group_links)

-- a group of few links has few words
pub group_length_few : (k : ℕ) → group_length k ≤ k + 1
group_length_few zero = omega arith
group_length_few (suc k) = omega arith

-- the groups of the episodes below `a` stand behind the first `start` words: `words` counts all words, `links` the links
pub record Copying (pause : ℕ → ℕ → ℕ) (g : Graph) (start : ℕ) (o o' : List ℕ) (words links a : ℕ) : Type 0 where
  pub item : a ≤ g.n
  pub size : words ≡ start + length (groups pause g a)
  pub count : links ≡ length (group_links g a)
  pub begins : BeginsWith (take start o ++ groups pause g a) o o'

pub copying_none : (pause : ℕ → ℕ → ℕ) (g : Graph) (start : ℕ) (o : List ℕ) → start ≤ length o → Copying pause g start o o start 0 0
unfolding groups group_links
copying_none pause g start o h =
    record { item = omega arith; size = omega arith; count = refl; begins = rw append-nil (begins_taken start o h) }

module _ {pause : ℕ → ℕ → ℕ} {g : Graph} {start : ℕ} {o o' : List ℕ} {words links a : ℕ} (s : Copying pause g start o o' words links a)
    (fits : start + length (groups pause g g.n) < length o) where
  pub copying_length : length o' ≡ length o
  copying_length = begins_length (take start o ++ groups pause g a) o o' s.begins

  -- as many words stand before the next group
  written : length (take start o ++ groups pause g a) ≡ words
  written = omega (arith, length-append (take start o) (groups pause g a), length-take-le start o (omega arith), s.size)

  pub copying_at : words ≤ length o'
  copying_at = omega (arith, written, copying_length, s.begins.0)

  module _ (n : ℕ) (count : g.n ≡ n) (h : a < n) where
    -- the part behind them has room for the next group, and for the end
    pub copying_room : length (group a (pause a) (linked_to a g.links n)) < length (take (length o' - words) (drop words o'))
    copying_room =
        let z = s.size in
        let e = copying_length in
        let d = length-drop words o' in
        let same = ap (λ (k : ℕ). length (group a (pause a) (linked_to a g.links k))) count in
        rw (lent_part o' words) (omega (arith, group_room pause g a (omega arith)))

    -- the next group is written there
    pub copying_on : {p o'' : List ℕ} {r more : ℕ} → GroupWritten a (pause a) (linked_to a g.links n) (take (length o' - words) (drop words o')) p r
        → o'' ≡ take words o' ++ (p ++ drop (length o' - words) (drop words o')) → more ≡ group_length r
        → Copying pause g start o o'' (words + more) (links + r) (a + 1)
    copying_on {p} {o''} {r} {more} t new long =
        let bs : List ℕ = linked_to a g.links g.n in
        let r-count : r ≡ length bs = rw (← count) at t.count in
        let part : BeginsWith (group a (pause a) (linked_to a g.links n)) (drop words o') p = rw (lent_part o' words) at t.words in
        record {
          item = omega arith;
          size =
              let next = ap length (groups_more pause g a) in
              let both = length-append (groups pause g a) (group a (pause a) bs) in
              let size = length_group a (pause a) bs in
              let same : group_length r ≡ group_length (length bs) = ap group_length r-count in
              let z = s.size in
              omega arith;
          count =
              let next = ap length (group_links_more g a) in
              let both = length-append (group_links g a) (links_of a bs) in
              let size = length-map {B = ℕ × ℕ} bs (λ (b : ℕ). (a, b)) in
              let z = s.count in
              omega arith;
          begins =
              rw (new, lent_rest o' p words)
              (subst (λ (ws : List ℕ). BeginsWith ws o (take words o' ++ p))
              (append_assoc (take start o) (groups pause g a) (group a (pause a) bs) ∙ ap (λ (ws : List ℕ). take start o ++ ws) (sym (groups_more pause g a)))
              (begins_part (take start o ++ groups pause g a) o o' s.begins (group a (pause a) bs) p words (sym written) (rw (← count) at part)));
        }

-- where the voices words are written there is room for the groups behind them, and for the end
pub groups_room : (pause : ℕ → ℕ → ℕ) (g : Graph) {o o' : List ℕ} {start : ℕ} → VoicesWritten g.voices g.n o o' start → copy_length pause g ≤ length o
    → start + length (groups pause g g.n) < length o'
groups_room pause g {o} {o'} v h = omega (arith, v.place, begins_length (get_or o 0 0 ∷ voices_words g.voices g.n) o o' v.words)

-- there is room for a copy of any version where there is for one
pub room_any_version : (v : ℕ) (pause : ℕ → ℕ → ℕ) (g : Graph) (o : List ℕ) → length (copy_words v pause g) ≤ length o → copy_length pause g ≤ length o
room_any_version v pause g o h = omega (arith, length_copy pause g v)

-- the head and the end are written, before and behind the voices words and the groups
module _ (pause : ℕ → ℕ → ℕ) (g : Graph) (o o₁ o₂ : List ℕ) (start words links : ℕ) (h : copy_length pause g ≤ length o)
    (v : VoicesWritten g.voices g.n o o₁ start) (s : GroupsWritten pause g start o₁ o₂ words links) where
  abbrev front : List ℕ
  front = get_or o 0 0 ∷ voices_words g.voices g.n

  same_length : length o₁ ≡ length o
  same_length = begins_length front o o₁ v.words

  begins : BeginsWith (front ++ groups pause g g.n) o o₂
  begins = begins_on front o o₁ v.words (groups pause g g.n) o₂ start (omega (arith, v.place)) s.begins

  pub end_room : words < length o₂
  end_room = omega (arith, v.place, s.count, begins_length (front ++ groups pause g g.n) o o₂ begins)

  pub copy_whole : (k n : ℕ) → g.n ≡ n
      → (words + 1 ≡ length (copy_words k pause g)) × BeginsWith (copy_words k pause g) o (set (set o₂ 0 (head_of k n)) words (word 15 links))
  unfolding copy_words
  copy_whole k n e =
      let body : List ℕ = voices_words g.voices g.n ++ groups pause g g.n in
      let whole : BeginsWith (head_of k g.n ∷ body) o (set o₂ 0 (head_of k n)) = rw (← e) (begins_first (get_or o 0 0) (head_of k g.n) body o o₂ begins) in
      let size : length body ≡ length (voices_words g.voices g.n) + length (groups pause g g.n) =
      length-append (voices_words g.voices g.n) (groups pause g g.n) in (
        omega (arith, v.place, s.count, length_copy pause g k),
        subst (λ (t : ℕ). BeginsWith (head_of k g.n ∷ body ++ word 15 t ∷ []) o (set (set o₂ 0 (head_of k n)) words (word 15 links)))
            s.link_count
            (begins_more (head_of k g.n ∷ body) o (set o₂ 0 (head_of k n)) whole words (word 15 links) (omega (arith, v.place, s.count)) (omega (arith, v.place, s.count))),
      )
