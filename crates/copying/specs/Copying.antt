-- What the steps to a fair copy leave.
use Rattle.std.specs.Prelude.{◌≡◌, ◌≢◌, Bool, not, List, [], ◌∷◌, ◌++◌, map, ℕ, zero, suc, ◌+◌, ◌-◌, ◌*◌, ◌/◌, ◌%◌, ◌≤◌, ◌<◌, min, eqb, length, get_or, take}
use Rattle.paths.specs.Graph.{Graph}
use Rattle.paths.specs.Passing.{passing}
use Rattle.logs.specs.Words.{to_word}
use Rattle.logs.specs.Content.{Heard, Content, pauses_of, least}
use Rattle.logs.specs.Groups.{told}
use Rattle.copying.specs.FairCopy.{group, groups, group_links, voices_words}
use Rattle.writing.specs.Layout.{BeginsWith}

-- the mark of a link by the pauses that were heard of it: the least plus one, 0 where there are none
abbrev pub mark : List ℕ → ℕ
mark [] = 0
mark (p ∷ ps) = suc (least (p ∷ ps))

-- the mark of a link once it is heard with the pause `p` too
abbrev pub lowered : ℕ → ℕ → ℕ
lowered zero p = suc p
lowered (suc m) p = suc (min m p)

-- the words of a block: a row of 256 words for each of 64 episodes
abbrev pub block_words : ℕ
block_words = 16384

-- where the row of `a` starts in its block
abbrev pub row_at : ℕ → ℕ
row_at a = a % 64 * 256

-- the rows of the episodes of the block hold the marks of the links from them to episodes below `n`, of those that were heard
abbrev pub RowMarks : ℕ → ℕ → List Heard → List ℕ → Type 0
RowMarks block n hs w = (a b : ℕ) → a / 64 ≡ block → b < n → get_or w (row_at a + b) 0 ≡ mark (pauses_of a b hs)

-- the same, of a log
abbrev pub BlockMarks : ℕ → Content → List ℕ → Type 0
BlockMarks block c w = RowMarks block c.n c.heard w

-- the mark at `at` is lowered by the pause `p`
pub record Lowered (at p : ℕ) (w w' : List ℕ) : Type 0 where
  pub same_length : length w' ≡ length w
  pub here : get_or w' at 0 ≡ lowered (get_or w at 0) p
  pub other : (i : ℕ) → i ≢ at → get_or w' i 0 ≡ get_or w i 0

-- the links that the to words `ws` of a group of `a` give are marked where `a` is in the block, and `hs` were heard before
pub record GroupTaken (block a : ℕ) (ws w w' : List ℕ) : Type 0 where
  pub same_length : length w' ≡ length w
  pub marks : (n : ℕ) (hs : List Heard) → n ≤ 256 → RowMarks block n hs w → RowMarks block n (hs ++ map (told a) ws) w'

-- whether the row has a mark at `b`
abbrev pub marked_at : List ℕ → ℕ → Bool
marked_at row b = not (eqb (get_or row b 0) 0)

-- the numbers below `k` that are marked in the row, rising
abbrev pub marked : List ℕ → ℕ → List ℕ
marked row k = passing (marked_at row) k

-- the pause that the mark at `b` holds
abbrev pub pause_at : List ℕ → ℕ → ℕ
pause_at row b = get_or row b 0 - 1

-- how many words a group of `k` links has
abbrev pub group_length : ℕ → ℕ
group_length zero = 0
group_length (suc k) = k + 2

-- behind the first word the to words of links to `bs` with their pauses are written; `r` counts them
pub record LinksWritten (pause : ℕ → ℕ) (bs o o' : List ℕ) (r : ℕ) : Type 0 where
  pub count : r ≡ length bs
  pub words : BeginsWith (get_or o 0 0 ∷ map (λ (b : ℕ). to_word b (pause b)) bs) o o'

-- the group of `a` with the links to `bs` and their pauses is written; `r` counts them
pub record GroupWritten (a : ℕ) (pause : ℕ → ℕ) (bs o o' : List ℕ) (r : ℕ) : Type 0 where
  pub count : r ≡ length bs
  pub words : BeginsWith (group a pause bs) o o'

-- behind the first `start` words the groups of all episodes are written: `words` counts all words, `links` the links
pub record GroupsWritten (pause : ℕ → ℕ → ℕ) (g : Graph) (start : ℕ) (o o' : List ℕ) (words links : ℕ) : Type 0 where
  pub count : words ≡ start + length (groups pause g g.n)
  pub link_count : links ≡ length (group_links g g.n)
  pub begins : BeginsWith (take start o ++ groups pause g g.n) o o'

-- the voices of an episode as a table says
abbrev pub said : List ℕ → ℕ → ℕ
said table v = get_or table v 0

-- behind the first word the voices words of `n` episodes are written; `r` is the place behind them
pub record VoicesWritten (voices : ℕ → ℕ) (n : ℕ) (o o' : List ℕ) (r : ℕ) : Type 0 where
  pub place : r ≡ 1 + length (voices_words voices n)
  pub words : BeginsWith (get_or o 0 0 ∷ voices_words voices n) o o'
