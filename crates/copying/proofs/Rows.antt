-- The rows of a block of episodes: their marks, group by group of the log, and the links that are marked in a row.
use mathlib.Core.Path.{◌≡◌, refl, ap, sym, subst, ◌∙◌}
use mathlib.Core.Logic.{◌≢◌}
use mathlib.Core.Bool.{Bool, true, false, not, true≢false}
use mathlib.Core.List.Memᴰ.{head as here}
use mathlib.Core.List.Memᴰ.{not-nil}
use mathlib.Core.List.{List, [], ◌∷◌, ◌++◌, map, append-nil, append_assoc, map-append, Memᴰ as Mem}
use Prim.Native.Nat.{ℕ, suc, ◌+◌, ◌-◌, ◌/◌, ◌%◌, ◌≤◌, ◌<◌, ◌^◌}
use native.Mathlib.Decide.{ℕ_discrete}
use native.Mathlib.Numerals.{add-one}
use native.Mathlib.Omega.{arith}
use lib.Dec.{eqb}
use lib.ListN.{length, get_or, take, drop, replicate, length-drop, length-replicate, get_or-replicate}
use lib.Seq.{take-suc, length-take-le, get_or-take, get_or-drop}
use borrow.Author.Tests.{ne_eqb}
use Rattle.std.proofs.lemmas.List.{get_or_past}
use Rattle.order.specs.Order.{All}
use Rattle.paths.proofs.Passing.{passing_equal}
use Rattle.paths.specs.Links.{linked}
use Rattle.paths.proofs.Links.{linked_mem, mem_linked}
use Rattle.logs.specs.Words.{to_episode, to_pause, to_word}
use Rattle.logs.specs.Content.{Heard, Content, joins, pauses_of, least, least_pause}
use Rattle.logs.specs.Log.{content_of, voices_count}
use Rattle.logs.specs.Groups.{heard_before, told, EpisodesBelow}
use Rattle.logs.specs.Passing.{Given}
use Rattle.logs.specs.declared.passed.Log.{Log}
use Rattle.logs.specs.declared.passed.Group.{Group}
use Rattle.logs.specs.declared.passed.Groups.{Groups}
use Rattle.logs.proofs.Pauses.{pauses_append, pauses_one, pauses_none, pauses_heard, heard_pauses, link_heard, least_mem, least_more}
use Rattle.logs.proofs.Laws.{graph_episodes, voices_end, before_groups, heard_passed}
use Rattle.logs.proofs.Passing.{heard_group}
use Rattle.writing.specs.Layout.{BeginsWith}
use Rattle.copying.specs.FairCopy.{linked_to}
use Rattle.copying.specs.Copying.{
  mark,
  lowered,
  block_words,
  row_at,
  RowMarks,
  BlockMarks,
  Lowered,
  GroupTaken,
  marked_at,
  marked,
  pause_at,
  LinksWritten,
}
use Rattle.copying.proofs.Linked.{linked_to_mem, links_same}

-- the mark of a link that is heard once more, with the pause `q`
mark_more : (ps : List ℕ) (q : ℕ) → mark (ps ++ q ∷ []) ≡ lowered (mark ps) q
unfolding least
mark_more [] q = refl
mark_more (p ∷ ps) q = ap suc (least_more p ps q)

mark_less : (ps : List ℕ) → mark ps - 1 ≡ least ps
unfolding least
mark_less [] = refl
mark_less (p ∷ ps) = omega arith

mark_short : (ps : List ℕ) → All (λ p. p < 2 ^ 12) ps → mark ps ≤ 2 ^ 12
mark_short [] h = omega arith
mark_short (p ∷ ps) h = h (least (p ∷ ps)) (least_mem p ps)

-- the pauses of the link from `a` to `b`, once `h` is heard
pauses_here : (h : Heard) (hs : List Heard) → pauses_of h.from h.to (hs ++ h ∷ []) ≡ pauses_of h.from h.to hs ++ h.pause ∷ []
pauses_here h hs =
    pauses_append h.from h.to hs (h ∷ [])
    ∙ ap (λ (ps : List ℕ). pauses_of h.from h.to hs ++ ps) (pauses_one h.from h.to h (refl, refl))

pauses_other : (a b : ℕ) (h : Heard) (hs : List Heard) → ((a ≡ h.from) × (b ≡ h.to) → ⊥) → pauses_of a b (hs ++ h ∷ []) ≡ pauses_of a b hs
pauses_other a b h hs ne =
    pauses_append a b hs (h ∷ []) ∙ ap (λ (ps : List ℕ). pauses_of a b hs ++ ps) (pauses_none a b h ne) ∙ append-nil (pauses_of a b hs)

-- words that are zero mark no link
marks_none : (block n : ℕ) (w : List ℕ) → w ≡ replicate (length w) 0 → RowMarks block n [] w
unfolding pauses_of
marks_none block n w zeros a b h l = rw zeros (zero (length w) (row_at a + b))
  where
    zero : (k i : ℕ) → get_or {A = ℕ} (replicate k 0) i 0 ≡ 0
    zero k i = grind (arith, get_or-replicate, get_or_past, length-replicate)

-- a link from an episode of the block is marked in its row
marks_here : (block n : ℕ) (k : Heard) (hs : List Heard) (w w' : List ℕ) → n ≤ 256 → k.to < 256 → k.from / 64 ≡ block
    → RowMarks block n hs w → Lowered (row_at k.from + k.to) k.pause w w' → RowMarks block n (hs ++ k ∷ []) w'
marks_here block n k hs w w' few low hf m d a b h l = go (ℕ_discrete a k.from) (ℕ_discrete b k.to)
  where
    other : row_at a + b ≢ row_at k.from + k.to → ((a ≡ k.from) × (b ≡ k.to) → ⊥)
        → get_or w' (row_at a + b) 0 ≡ mark (pauses_of a b (hs ++ k ∷ []))
    other ne apart = rw (pauses_other a b k hs apart) (d.other (row_at a + b) ne ∙ m a b h l)

    go : Dec (a ≡ k.from) → Dec (b ≡ k.to) → get_or w' (row_at a + b) 0 ≡ mark (pauses_of a b (hs ++ k ∷ []))
    go (yes e) (yes f) =
        let before : get_or w (row_at k.from + k.to) 0 ≡ mark (pauses_of k.from k.to hs) = rw (e, f) at (m a b h l) in
        rw (e, f, pauses_here k hs, mark_more (pauses_of k.from k.to hs) k.pause, ← before) d.here
    go (no ne) f = other (λ q. ne (omega arith)) (λ q. ne q.0)
    go (yes e) (no ne) = other (λ q. ne (omega arith)) (λ q. ne q.1)

-- a link from another episode is not marked
marks_other : (block n : ℕ) (k : Heard) (hs : List Heard) (w : List ℕ) → k.from / 64 ≢ block → RowMarks block n hs w
    → RowMarks block n (hs ++ k ∷ []) w
marks_other block n k hs w ne m a b h l = rw (pauses_other a b k hs (λ q. ne (omega (arith, q.0)))) (m a b h l)

-- one link more behind others
told_more : (a i : ℕ) (ws : List ℕ) (hs : List Heard) → i < length ws
    → hs ++ map (told a) (take (i + 1) ws) ≡ hs ++ map (told a) (take i ws) ++ told a (get_or ws i 0) ∷ []
told_more a i ws hs h =
    ap (λ q. hs ++ map (told a) q) (rw add-one (take-suc ws i 0 h)) ∙ ap (λ q. hs ++ q) (map-append (told a) (take i ws) (get_or ws i 0 ∷ []))
    ∙ sym (append_assoc hs (map (told a) (take i ws)) (told a (get_or ws i 0) ∷ []))

-- in a group from the block, the link of the next to word is marked in its row
pub group_more : (a : ℕ) (ws : List ℕ) (i : ℕ) {w w' w'' : List ℕ} → EpisodesBelow 256 ws → i < length ws → GroupTaken (a / 64) a (take i ws) w w'
    → Lowered (row_at a + to_episode (get_or ws i 0)) (to_pause (get_or ws i 0)) w' w'' → GroupTaken (a / 64) a (take (i + 1) ws) w w''
group_more a ws i {w' = w'} {w'' = w''} below h s d =
    record {
      same_length = d.same_length ∙ s.same_length;
      marks = λ n hs few m.
          let more = marks_here (a / 64) n (told a (get_or ws i 0)) (hs ++ map (told a) (take i ws)) w' w'' few (below i h) refl (s.marks n hs few m) d in
          subst (λ q. RowMarks (a / 64) n q w'') (sym (told_more a i ws hs h)) more;
    }

-- those of a group from another block are passed over
pub group_passed : (block a : ℕ) (ws w : List ℕ) → a / 64 ≢ block → GroupTaken block a ws w w
group_passed block a ws w other = record { same_length = refl; marks = λ n hs few m. none n ws hs m }
  where
    none : (n : ℕ) (vs : List ℕ) (hs : List Heard) → RowMarks block n hs w → RowMarks block n (hs ++ map (told a) vs) w
    none n [] hs m = rw append-nil m
    none n (x ∷ vs) hs m =
        rw append_assoc at (none n vs (hs ++ told a x ∷ []) (marks_other block n (told a x) hs w other m))

-- before the group at `s` the block marks the links of the words there
pub record Marking (w : List ℕ) (block : ℕ) (s : Groups) : Type 0 where
  pub few : s.log.episodes ≤ 256
  pub marks : RowMarks block s.log.episodes (heard_before s.log.words.now s.at) w

pub marking_start : (s : Groups) (w : List ℕ) (block : ℕ) → s.at ≡ s.log.voices_words + 1 → s.log.episodes ≤ 256
    → w ≡ replicate (length w) 0 → Marking w block s
marking_start s w block first few zeros =
    let l = s.log.words.now in
    let none : heard_before l s.at ≡ [] =
    ap (heard_before l) (first ∙ ap (λ (k : ℕ). k + 1) s.log.voices)
    ∙ before_groups l (voices_count l + 1) (voices_end _ l s.log.episodes s.log.to_words s.log.passes) in
    record { few = few; marks = subst (λ q. RowMarks block s.log.episodes q w) (sym none) (marks_none block s.log.episodes w zeros) }

pub marking_on : {w w' : List ℕ} {block : ℕ} {s : Groups} {g : Group} {t : Groups} → Marking w block s → Given s g t
    → GroupTaken block g.from g.to_words.now w w' → Marking w' block t
marking_on {w' = w'} {block} {s} {g} {t} m d k =
    record {
      few = rw d.same m.few;
      marks =
          subst (λ (l : Log). RowMarks block l.episodes (heard_before l.words.now t.at) w') (sym d.same)
          (subst (λ q. RowMarks block s.log.episodes q w') (sym (heard_group s g t d)) (k.marks s.log.episodes _ m.few m.marks));
    }

-- at the last word the block marks the links of the log
pub marking_end : {w : List ℕ} {block : ℕ} (s : Groups) → Marking w block s → s.at + 1 ≡ length s.log.words.now
    → BlockMarks block (content_of s.log.words.now) w
marking_end {w} {block} s m h =
    let l = s.log.words.now in
    let last : s.at ≡ length l - 1 = omega arith in
    let heard = ap (heard_before l) last ∙ heard_passed _ l s.log.episodes s.log.to_words s.log.passes in
    let n = graph_episodes _ l s.log.episodes s.log.to_words s.log.passes in
    subst (λ (k : ℕ). RowMarks block k (content_of l).heard w) (sym n) (subst (λ q. RowMarks block s.log.episodes q w) heard m.marks)

-- the row holds the mark of each link from `a`
abbrev Marks : ℕ → List Heard → List ℕ → Type 0
Marks a hs row = (b : ℕ) → b < length row → get_or row b 0 ≡ mark (pauses_of a b hs)

-- a log with these links
abbrev told_of : List Heard → Content
told_of hs = record { version = 0; n = 0; voices = λ v. 1; heard = hs }

-- a link is marked exactly where it was heard
mark_linked : (a b : ℕ) (hs : List Heard) → not (eqb (mark (pauses_of a b hs)) 0) ≡ linked a b (map joins hs)
mark_linked a b hs = go (pauses_of a b hs) refl (linked a b (map joins hs)) refl
  where
    go : (ps : List ℕ) → pauses_of a b hs ≡ ps → (x : Bool) → linked a b (map joins hs) ≡ x → not (eqb (mark ps) 0) ≡ x
    go [] e true f =
        let (p, h) = (link_heard (told_of hs) a b).0 (linked_mem a b (map joins hs) f) in
        absurd (not-nil (rw e at (heard_pauses a b p hs h)))
    go [] e false f = refl
    go (p ∷ ps) e true f = rw (ne_eqb (mark (p ∷ ps)) 0 (λ q. omega arith))
    go (p ∷ ps) e false f =
        let h = pauses_heard a b p hs (rw e (here refl)) in
        absurd (true≢false (sym (mem_linked a b (map joins hs) ((link_heard (told_of hs) a b).1 (p, h))) ∙ f))

module _ (a : ℕ) (hs : List Heard) (row : List ℕ) (m : Marks a hs row) where
  -- what is marked is what `a` is linked to
  marked_linked : (k : ℕ) → k ≤ length row → marked row k ≡ linked_to a (map joins hs) k
  marked_linked k h =
      passing_equal (marked_at row) (λ b. linked a b (map joins hs)) k (λ b l. rw (m b (omega arith)) (mark_linked a b hs))

  -- and the mark holds the least pause
  marked_pause : (b : ℕ) → b < length row → pause_at row b ≡ least (pauses_of a b hs)
  marked_pause b h = rw (m b h) (mark_less (pauses_of a b hs))

-- the row of `a` in its block, as it is lent
abbrev pub row_of : ℕ → ℕ → List ℕ → List ℕ
row_of a n w = take (row_at a + n - row_at a) (drop (row_at a) w)

module _ (c : Content) (a n : ℕ) (w : List ℕ) (e : c.n ≡ n) (few : n ≤ 256) (long : length w ≡ block_words) (m : BlockMarks (a / 64) c w) where
  pub row_length : length (row_of a n w) ≡ n
  row_length =
      let rest : length (drop (row_at a) w) ≡ length w - row_at a = length-drop (row_at a) w in
      length-take-le (row_at a + n - row_at a) (drop (row_at a) w) (omega arith) ∙ omega arith

  row_holds : Marks a c.heard (row_of a n w)
  row_holds b h =
      get_or-take (row_at a + n - row_at a) (drop (row_at a) w) b 0 (omega (arith, row_length)) ∙ get_or-drop (row_at a) w b 0 ∙ m a b refl (omega (arith, row_length))

  pub row_marks : marked (row_of a n w) (length (row_of a n w)) ≡ linked_to a (map joins c.heard) n
  row_marks =
      marked_linked a c.heard (row_of a n w) row_holds (length (row_of a n w)) (omega arith)
      ∙ ap (linked_to a (map joins c.heard)) row_length

  -- a mark is at most 4,096
  pub row_short : ((h : Heard) → Mem h c.heard → h.pause < 2 ^ 12) → (b : ℕ) → b < length (row_of a n w) → get_or (row_of a n w) b 0 ≤ 2 ^ 12
  row_short short b h = rw (row_holds b h) (mark_short (pauses_of a b c.heard) (λ p i. short _ (pauses_heard a b p c.heard i)))

  -- so links that are written from the row are those of `a` with their least pauses
  pub row_written : {o o' : List ℕ} {r : ℕ} → LinksWritten (pause_at (row_of a n w)) (marked (row_of a n w) (length (row_of a n w))) o o' r
      → LinksWritten (least_pause c a) (linked_to a (map joins c.heard) n) o o' r
  row_written {o} {o'} d =
      record {
        count = d.count ∙ ap length row_marks;
        words = subst (λ (ws : List ℕ). BeginsWith (get_or o 0 0 ∷ ws) o o') same d.words;
      }
    where
      same : map (λ (b : ℕ). to_word b (pause_at (row_of a n w) b)) (marked (row_of a n w) (length (row_of a n w)))
          ≡ map (λ (b : ℕ). to_word b (least_pause c a b)) (linked_to a (map joins c.heard) n)
      same =
          ap (map (λ (b : ℕ). to_word b (pause_at (row_of a n w) b))) row_marks
          ∙ links_same (pause_at (row_of a n w)) (least_pause c a) (linked_to a (map joins c.heard) n)
          (λ b i.
          let below = (linked_to_mem a (map joins c.heard) b n i).0 in
          marked_pause a c.heard (row_of a n w) row_holds b (omega (arith, row_length)))

-- the block of `a` is that of the next episode too, unless that one is the first of its block
pub next_block : (a : ℕ) (c : Content) (w : List ℕ) → BlockMarks (a / 64) c w → (a + 1) % 64 ≢ 0 → BlockMarks ((a + 1) / 64) c w
next_block a c w m ne x b h l = let same : (a + 1) / 64 ≡ a / 64 = go (ℕ_discrete ((a + 1) % 64) 0) in m x b (h ∙ same) l
  where
    go : Dec ((a + 1) % 64 ≡ 0) → (a + 1) / 64 ≡ a / 64
    go (yes e) = absurd (ne e)
    go (no f) = omega arith
