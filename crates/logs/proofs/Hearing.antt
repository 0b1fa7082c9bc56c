-- Hearing the links of a log while its groups are passed over: what holds where a group begins or the log ends, and what holds among the to
-- words of a group. `heard` says which links a hearer has heard, `row_of` gives the rows of the episodes.
use mathlib.Core.Path.{◌≡◌, refl, ◌∙◌, ap, sym}
use mathlib.Core.Logic.{⊎_elim}
use mathlib.Core.Bool.{Bool, true, false}
use mathlib.Core.List.{List, [], ◌++◌}
use Rattle.std.specs.Prelude.{Result, Ok}
use Prim.Native.Nat.{ℕ, ◌+◌, ◌-◌, ◌<◌, ◌≤◌, ◌^◌}
use native.Mathlib.Omega.{arith}
use lib.Dec.{ltb}
use Rattle.std.proofs.lemmas.Bool.{lt-ltb}
use lib.ListN.{length, get_or, drop, length-append}
use Rattle.logs.specs.Words.{kind, number, to_episode, to_pause}
use Rattle.logs.specs.Content.{short_enough}
use Rattle.logs.specs.Answer.{given, question, result_answer, to_figures, word_answer}
use Rattle.logs.specs.Log.{to_before_last, head_word, group_word, questions, content_of, voices_count}
use Rattle.logs.specs.Places.{log_word_at, BehindVoices, VoicesEnd, Stopped}
use Rattle.logs.specs.Groups.{short_links, short_before, nearest_from}
use Rattle.logs.specs.Hear.{Next, where_short}
use Rattle.logs.specs.declared.Ceilings.{Ceilings}
use Rattle.logs.specs.declared.ToWord.{ToWord}
use Rattle.logs.specs.declared.LogWord.{LogWord}
use Rattle.logs.specs.declared.Refusal.{Refusal}
use Rattle.logs.proofs.Asked.{to_there, head_passed, not_both}
use Rattle.logs.proofs.Groups.{AtGroup, InGroup, first_group, from_taken, from_episode, to_taken, to_read, group_ends, group_by_others}
use Rattle.logs.proofs.Laws.{no_links, pass_from, pass_to, links_from_lem, links_to, links_passed}
use Rattle.logs.proofs.WellFormed.{voices_counted}
use Rattle.logs.proofs.Whole.{word_stopped}

-- a to word gives one link at most that is heard
one_at_most : (b : Bool) (link : ℕ × ℕ) → length (where_short b link) ≤ 1
one_at_most true link = omega arith
one_at_most false link = omega arith

-- at `p`, before which `others` words are no to words, a group begins or the last word stands, and the links before it that
-- count by their own pause were heard
pub record HeardAt (heard : List (ℕ × ℕ) → Type 0) (m : Ceilings) (l : List ℕ) (n start p others : ℕ) : Type 0 where
  pub group : AtGroup m l n start p (p - others)
  pub others_some : 0 < others
  pub others_few : others ≤ p
  pub links : heard (short_before l p)
  pub few : length (short_before l p) ≤ p - others
  pub moved : ltb others p ≡ ltb start p

-- at `p` a to word stands behind the from word of its group, whose row is `row`, and the links before it that count by their own
-- pause were heard
pub record HeardIn (heard : List (ℕ × ℕ) → Type 0) (row_of : ℕ → ℕ) (m : Ceilings) (l : List ℕ) (n start p others row : ℕ) : Type 0 where
  pub group : InGroup m l n start p (p - others)
  pub to_here : to_before_last l p ≡ true
  pub others_some : 0 < others
  pub others_few : others ≤ p
  pub links : heard (short_before l p)
  pub few : length (short_before l p) ≤ p - others
  pub its_row : row ≡ row_of (nearest_from l p)
  pub from_below : nearest_from l p < n

module _ (heard : List (ℕ × ℕ) → Type 0) (m : Ceilings) (l : List ℕ) (n start : ℕ) where
  pub heard_none : BehindVoices l start → heard [] → HeardAt heard m l n start start start
  heard_none b h =
      let none = no_links l start b in
      let zero : start - start ≡ 0 = omega arith in
      record {
        group = rw zero (first_group m l n start b.behind b.within);
        others_some = b.behind;
        others_few = omega arith;
        links = rw none h;
        few = rw none (omega arith);
        moved = refl;
      }

  -- behind the from word of a group
  pub heard_from : (row_of : ℕ → ℕ) (p others row : ℕ) → HeardAt heard m l n start p others → p + 1 < length l → (r : Result LogWord Refusal)
      → word_answer r ≡ group_word m n p (get_or l p 0) (drop (p + 1) l) (ltb start p) (p - others) → (w : LogWord) → r ≡ Ok w → row ≡ row_of (number (get_or l p 0))
      → HeardIn heard row_of m l n start (p + 1) (others + 1) row
  heard_from row_of p others row h inner r e w is its_row =
      let g = h.group in
      let others_few = h.others_few in
      let behind : 0 < p = omega (arith, g.behind_head, g.from_start) in
      let (in_group, to_here) = from_taken m l n start p (p - others) g inner r e w is in
      let (from_kind, below) = from_episode m l n start p (p - others) g inner r e w is in
      let near = (pass_from l p behind g.within from_kind).1 in
      let links = links_from_lem l p behind g.within from_kind in
      let words : p - others ≡ p + 1 - (others + 1) = omega arith in
      record {
        group = rw words at in_group;
        to_here = to_here;
        others_some = omega arith;
        others_few = omega arith;
        links = rw links h.links;
        few = rw links (omega (arith, h.few));
        its_row = rw near its_row;
        from_below = rw near below;
      }

-- A to word behind the from word of its group that is taken as `w`: its link is the next one, and it is heard where its pause lets it count.
module _ (heard : List (ℕ × ℕ) → Type 0) (takes : ℕ → Type 0) (row_of : ℕ → ℕ) (m : Ceilings) (l : List ℕ) (n start p others row : ℕ)
    (h : HeardIn heard row_of m l n start p others row) (taken : takes m.episodes) (few : n ≤ m.episodes) (r : Result ToWord Refusal)
    (e : result_answer to_figures r
    ≡ question 7 p (ltb (to_episode (get_or l p 0)) n)
    (question 8 p (ltb (p - others) m.words) (given (3, to_episode (get_or l p 0), to_pause (get_or l p 0))))) (w : ToWord) (is : r ≡ Ok w) where
  pub next_link : p < 2 ^ 64 → Next takes row_of heard row w.episode
  next_link short =
      let episode = to_read m l n start p (p - others) h.group h.to_here r e w is in
      record {
        n = m.episodes;
        from = nearest_from l p;
        links = short_before l p;
        taken = taken;
        from_below = omega (arith, h.from_below);
        to_below = omega (arith, episode.2);
        its_row = h.its_row;
        before = h.links;
        room = omega (arith, h.few, h.others_some);
      }

  module _ (heard' : List (ℕ × ℕ) → Type 0) (version : ℕ) (its_version : version ≡ (content_of l).version)
      (hears : (next : Next takes row_of heard row w.episode) → heard' (next.links ++ where_short (short_enough version w.pause) (next.from, w.episode)))
      (short : p < 2 ^ 64) where
    kind_to : kind (get_or l p 0) ≡ 3
    kind_to = (to_there l p h.to_here).1

    behind : 0 < p
    behind = omega (arith, h.group.behind_from)

    more : short_before l (p + 1) ≡ short_before l p ++ where_short (short_enough version w.pause) (nearest_from l p, w.episode)
    more =
        let read = to_read m l n start p (p - others) h.group h.to_here r e w is in
        links_to l p behind h.group.within kind_to ∙ rw (read.0, read.1, its_version)

    near : nearest_from l (p + 1) ≡ nearest_from l p
    near = (pass_to l p behind h.group.within kind_to).1

    all_heard : heard' (short_before l (p + 1))
    unfolding next_link
    all_heard = rw more (hears (next_link short))

    all_few : length (short_before l (p + 1)) ≤ p + 1 - others
    all_few =
        let others_few = h.others_few in
        rw (more, length-append) (omega (arith, h.few, one_at_most (short_enough version w.pause) (nearest_from l p, w.episode)))

    group : InGroup m l n start (p + 1) (p + 1 - others)
    group = group_by_others m l n start p others h.others_few (to_taken m l n start p (p - others) h.group h.to_here r e w is)

    pub heard_on : to_before_last l (p + 1) ≡ true → HeardIn heard' row_of m l n start (p + 1) others row
    heard_on on =
        let others_few = h.others_few in
        record {
          group = group;
          to_here = on;
          others_some = h.others_some;
          others_few = omega arith;
          links = all_heard;
          few = all_few;
          its_row = rw near h.its_row;
          from_below = rw near h.from_below;
        }

    pub heard_behind : to_before_last l (p + 1) ≡ false → HeardAt heard' m l n start (p + 1) others
    heard_behind other =
        let others_few = h.others_few in
        record {
          group = group_ends m l n start (p + 1) (p + 1 - others) group other;
          others_some = h.others_some;
          others_few = omega arith;
          links = all_heard;
          few = all_few;
          moved = lt-ltb others (p + 1) (omega arith) ∙ sym (lt-ltb start (p + 1) group.behind_from);
        }

-- where the questions stop at a word that is taken, the log passes, the links before it are those of the log, and its voices words stand before `start`
module _ (m : Ceilings) (l : List ℕ) (n v start place count : ℕ) (a : ℕ × ℕ × ℕ) (long : 2 ≤ length l)
    (head : head_word m (get_or l 0 0) ≡ given (1, n, v)) (voices : VoicesEnd m l n (Ok start)) (stop : Stopped m l n start place count)
    (e : log_word_at m l n place (ltb start place) count ≡ given a) where
  stop_passed : questions m l ≡ given (n, count)
  stop_passed = word_stopped m l n v start place count long head voices.1 stop ∙ rw e

  pub all_links : short_before l place ≡ short_links l
  all_links =
      let last : place ≡ length l - 1 =
      ⊎_elim (λ end. omega arith) (λ (j, x, no_end). absurd (not_both _ a j x e no_end)) stop.ended in
      rw last (links_passed m l n count stop_passed)

  pub all_voices : start - 1 ≡ voices_count l
  all_voices = let counted = voices_counted m l n count start stop_passed voices.0 in omega arith

-- the version of a head that is taken is that of the log
pub its_version : (m : Ceilings) (l : List ℕ) (n v : ℕ) → head_word m (get_or l 0 0) ≡ given (1, n, v) → v ≡ (content_of l).version
its_version m l n v head = sym (ap (λ (w : ℕ × ℕ × ℕ). w.2) (head_passed m (get_or l 0 0) (1, n, v) head).3)
