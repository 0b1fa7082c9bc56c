-- A table of voices that is written as voices words: that of a log has the voices of its episodes.
use mathlib.Core.Path.{◌≡◌, sym, ap, subst, ◌∙◌}
use mathlib.Core.List.{List, ◌∷◌}
use Prim.Native.Nat.{ℕ, ◌+◌, ◌<◌, ◌≤◌, ◌^◌}
use native.Mathlib.Omega.{arith}
use lib.ListN.{length, get_or, take}
use lib.Seq.{length-take-le, get_or-take}
use Rattle.logs.specs.Words.{voices_word}
use Rattle.logs.specs.Content.{Content, heard_graph, least_pause}
use Rattle.logs.specs.Log.{content_of}
use Rattle.logs.specs.Voices.{VoicesRead}
use Rattle.logs.specs.declared.passed.Log.{Log}
use Rattle.logs.proofs.Laws.{graph_episodes, voices_few}
use Rattle.writing.specs.Layout.{BeginsWith}
use Rattle.writing.proofs.Listing.{Listing}
use Rattle.copying.specs.FairCopy.{not_one, voices_words, fair_words}
use Rattle.copying.specs.Copying.{said, VoicesWritten}
use Rattle.copying.proofs.VoicesWords.{length_voices, voices_words_equal}
use Rattle.copying.proofs.Linked.{length_copy}

-- the voices words of all episodes are listed
pub listed_voices : (voices : ℕ → ℕ) (n : ℕ) {o o' : List ℕ} {k : ℕ} → Listing (not_one voices) (λ v. voices_word v (voices v)) o o' n k n
    → VoicesWritten voices n o o' (k + 1)
unfolding voices_words
listed_voices voices n s = record { place = omega (arith, s.size, length_voices voices n); words = s.words }

-- the table has the voices of `n` episodes
module _ (voices : ℕ → ℕ) (n : ℕ) (table : List ℕ) (size : length table ≡ n) (same : (v : ℕ) → v < n → get_or table v 0 ≡ voices v) where
  pub table_words : voices_words (said table) (length table) ≡ voices_words voices n
  table_words = ap (voices_words (said table)) size ∙ voices_words_equal (said table) voices n same

  pub table_written : {o o' : List ℕ} {r : ℕ} → VoicesWritten (said table) (length table) o o' r → VoicesWritten voices n o o' r
  table_written {o} {o'} s =
      record {
        place = s.place ∙ ap (λ (ws : List ℕ). 1 + length ws) table_words;
        words = subst (λ (ws : List ℕ). BeginsWith (get_or o 0 0 ∷ ws) o o') table_words s.words;
      }

-- where there is room for a fair copy there is room for its voices words
pub voices_fit : (c : Content) (o : List ℕ) → length (fair_words c) ≤ length o → length (voices_words c.voices c.n) + 2 ≤ length o
voices_fit c o h = omega (arith, length_copy (least_pause c) (heard_graph c) c.version)

-- the voices of the log `l` are read to the front of the words `w'`
module _ (l : Log) (w w' : List ℕ) (room : l.episodes ≤ length w)
    (read : VoicesRead (content_of l.words.now).voices l.episodes w w') where
  abbrev voices : ℕ → ℕ
  voices = (content_of l.words.now).voices

  count : (content_of l.words.now).n ≡ l.episodes
  count = graph_episodes _ l.words.now l.episodes l.to_words l.passes

  pub size : length (take l.episodes w') ≡ l.episodes
  size = length-take-le l.episodes w' (omega (arith, read.same_length))

  same : (v : ℕ) → v < l.episodes → get_or (take l.episodes w') v 0 ≡ (content_of l.words.now).voices v
  same v h = get_or-take l.episodes w' v 0 h ∙ read.here v h

  -- each is a small number
  pub voices_short : (v : ℕ) → v < length (take l.episodes w') → get_or (take l.episodes w') v 0 < 2 ^ 12
  voices_short v h =
      omega (arith, same v (omega (arith, size)), voices_few _ l.words.now l.episodes l.to_words l.passes v (omega (arith, size)))

  pub words_same : voices_words (said (take l.episodes w')) (length (take l.episodes w'))
      ≡ voices_words (content_of l.words.now).voices (content_of l.words.now).n
  words_same = table_words voices l.episodes (take l.episodes w') size same ∙ ap (voices_words voices) (sym count)

  pub log_voices : {o o' : List ℕ} {r : ℕ} → VoicesWritten (said (take l.episodes w')) (length (take l.episodes w')) o o' r
      → VoicesWritten (content_of l.words.now).voices (content_of l.words.now).n o o' r
  log_voices s = rw count (table_written voices l.episodes (take l.episodes w') size same s)
