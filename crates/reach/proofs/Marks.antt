-- Marking links that count by their own pause: those of the to words of a group, and those of a log group by group.
use mathlib.Core.Path.{◌≡◌, refl, sym, ap, subst, ◌∙◌}
use mathlib.Core.Bool.{Bool, true, false}
use mathlib.Core.List.{List, [], ◌∷◌, ◌++◌, map, append-nil, append_assoc, map-append}
use Prim.Native.Nat.{ℕ, ◌+◌, ◌-◌, ◌*◌, ◌<◌}
use native.Mathlib.Omega.{arith}
use native.Mathlib.Numerals.{add-one}
use lib.ListN.{length, get_or, take}
use lib.Seq.{take-suc}
use Rattle.logs.specs.Words.{to_episode, to_pause}
use Rattle.logs.specs.Content.{joins, short_enough, short_of}
use Rattle.logs.specs.Groups.{short_before, told, EpisodesBelow}
use Rattle.logs.specs.Log.{content_of, voices_count}
use Rattle.logs.specs.Hear.{where_short}
use Rattle.logs.specs.Passing.{Given}
use Rattle.logs.specs.declared.passed.Log.{Log}
use Rattle.logs.specs.declared.passed.Group.{Group}
use Rattle.logs.specs.declared.passed.Groups.{Groups}
use Rattle.logs.proofs.Counts.{short_more, short_one}
use Rattle.logs.proofs.Laws.{no_links, voices_end, links_passed, short_counts}
use Rattle.logs.proofs.Passing.{links_group}
use Rattle.bits.specs.Bits.{SetWhere}
use Rattle.bits.specs.Work.{links_at, ways_at, Outside, items_at}
use Rattle.bits.proofs.Frames.{outside_none, outside_then, outside_wider, set_outside}
use Rattle.bits.proofs.Pairs.{no_pairs, one_pair_more}
use Rattle.reach.specs.Reach.{Marked, links_of, GroupMarked, LinksMarked}

-- before the first to word of a group nothing is marked
pub group_first : (v a : ℕ) (ws w : List ℕ) → GroupMarked v a (take 0 ws) w w
unfolding short_of
group_first v a ws w = record { outside = outside_none links_at ways_at w; links = λ ls m. rw append-nil m }

-- the link of the next to word is marked where its pause lets it count
pub group_more : (v a : ℕ) (ws : List ℕ) (i : ℕ) {w w' w'' : List ℕ} → a < 256 → EpisodesBelow 256 ws → i < length ws → GroupMarked v a (take i ws) w w'
    → SetWhere (short_enough v (to_pause (get_or ws i 0))) w' w'' (links_at + 8 * a) (to_episode (get_or ws i 0)) → GroupMarked v a (take (i + 1) ws) w w''
group_more v a ws i {w} {w'} {w''} low below h s d = by_pause (short_enough v (to_pause x)) refl d
  where
    x : ℕ
    x = get_or ws i 0

    more : links_of v a (take (i + 1) ws) ≡ links_of v a (take i ws) ++ where_short (short_enough v (to_pause x)) (a, to_episode x)
    more =
        ap (links_of v a) (rw add-one (take-suc ws i 0 h)) ∙ ap (λ hs. map joins (short_of v hs)) (map-append (told a) (take i ws) (x ∷ []))
        ∙ short_more v (map (told a) (take i ws)) (told a x ∷ [])
        ∙ ap (λ q. links_of v a (take i ws) ++ q) (short_one v (told a x))

    by_pause : (b : Bool) → short_enough v (to_pause x) ≡ b → SetWhere b w' w'' (links_at + 8 * a) (to_episode x) → GroupMarked v a (take (i + 1) ws) w w''
    by_pause true e set =
        record {
          outside = outside_then s.outside (outside_wider (omega arith) (omega arith) (set_outside (links_at + 8 * a) _ (below i h) set));
          links = λ ls m.
              let same : ls ++ links_of v a (take (i + 1) ws) ≡ ls ++ links_of v a (take i ws) ++ (a, to_episode x) ∷ [] =
              ap (λ q. ls ++ q) (more ∙ rw e) ∙ sym (append_assoc ls (links_of v a (take i ws)) ((a, to_episode x) ∷ [])) in
              subst (λ q. Marked q w'') (sym same) (one_pair_more links_at (ls ++ links_of v a (take i ws)) a (to_episode x) (below i h) (s.links ls m) set);
        }
    by_pause false e none =
        record {
          outside = rw none s.outside;
          links = λ ls m.
              let same : links_of v a (take (i + 1) ws) ≡ links_of v a (take i ws) = more ∙ rw (e, append-nil) in
              rw (none, same) (s.links ls m);
        }

-- before the group at `s` the links of the words there that count by their own pause are marked
pub record Marking (w w' : List ℕ) (s : Groups) : Type 0 where
  pub outside : Outside links_at ways_at w w'
  pub links : Marked (short_before s.log.words.now s.at) w'

-- before the first group there is none, and no bit is set
pub marking_start : (s : Groups) (w : List ℕ) → s.at ≡ s.log.voices_words + 1 → ((i : ℕ) → i < items_at → get_or w i 0 ≡ 0) → Marking w w s
marking_start s w first zeros =
    let l = s.log.words.now in
    let start : s.at ≡ voices_count l + 1 = omega (arith, s.log.voices) in
    let none : short_before l s.at ≡ [] =
    ap (short_before l) start ∙ no_links l (voices_count l + 1) (voices_end _ l s.log.episodes s.log.to_words s.log.passes) in
    record {
      outside = outside_none links_at ways_at w;
      links = subst (λ q. Marked q w) (sym none) (no_pairs links_at w (λ i h. zeros i (omega arith)));
    }

pub marking_on : {w w' w'' : List ℕ} {s : Groups} {g : Group} {t : Groups} → Marking w w' s → Given s g t
    → GroupMarked (content_of s.log.words.now).version g.from g.to_words.now w' w'' → Marking w w'' t
marking_on {w'' = w''} {s} {g} {t} m d k =
    record {
      outside = outside_then m.outside k.outside;
      links =
          subst (λ q. Marked q w'') (sym (ap (λ (l : Log). short_before l.words.now t.at) d.same ∙ links_group s g t d)) (k.links _ m.links);
    }

-- at the last word the matrix holds the links of the log that count
pub marking_end : {w w' : List ℕ} (s : Groups) → Marking w w' s → s.at + 1 ≡ length s.log.words.now → LinksMarked s.log.words.now w w'
marking_end {w' = w'} s m h =
    let l = s.log.words.now in
    let last : s.at ≡ length l - 1 = omega arith in
    let marked = subst (λ q. Marked q w') (ap (short_before l) last ∙ links_passed _ l s.log.episodes s.log.to_words s.log.passes) m.links in
    record {
      outside = m.outside;
      links =
          record {
            sound = λ a b x y o. (short_counts l a b).0 (marked.sound a b x y o);
            complete = λ a b x y k. marked.complete a b x y ((short_counts l a b).1 k);
          };
    }
