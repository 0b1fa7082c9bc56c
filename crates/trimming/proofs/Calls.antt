-- Calls that write the links of a trimmed copy, episode by episode, and the table that its voices words are written from.
use mathlib.Core.Path.{◌≡◌, refl, sym, ap, ◌∙◌}
use mathlib.Core.List.{List}
use Prim.Native.Nat.{ℕ, ◌+◌, ◌-◌, ◌<◌, ◌≤◌, ◌^◌}
use native.Mathlib.Omega.{arith}
use lib.ListN.{length, get_or, take, drop, length-drop}
use lib.Seq.{length-take-le, get_or-take, get_or-drop}
use Rattle.std.proofs.Common.{Bor, MutBor}
use Rattle.paths.specs.Graph.{Graph}
use Rattle.bits.specs.Work.{voices_at}
use Rattle.copying.specs.FairCopy.{linked_to, voices_words}
use Rattle.copying.specs.Copying.{LinksWritten, said, VoicesWritten}
use Rattle.copying.specs.Calls.{RoomFor, WritesLinks}
use Rattle.copying.proofs.Linked.{length_copy}
use Rattle.copying.proofs.Tables.{table_words, table_written}
use Rattle.copying.proofs.Calls.{writes_links}
use Rattle.trimming.specs.TrimmedCopy.{trimmed, no_pause, trimmed_words}
use Rattle.trimming.specs.Trimming.{Held}
use Rattle.trimming.proofs.Kept.{trimmed_is}

-- what the calls hold: the work words, and the count of episodes
abbrev pub Carried : Type 0
Carried = Bor (List ℕ) × Bor ℕ

-- what they need for the group of `a`
pub record Asked (f : Carried) (a : ℕ) (o : List ℕ) : Type 0 where
  pub graph : Graph
  pub held : Held graph f.1.now f.0.now
  pub below : a < f.1.now
  pub room : RoomFor no_pause (record { n = f.1.now; links = (trimmed graph).links; voices = graph.voices }) a o

-- and what they leave
pub record Left (f : Carried) (a : ℕ) (o : List ℕ) (r : ℕ) (o' : List ℕ) (f' : Carried) : Type 0 where
  pub work : f'.0.now ≡ f.0.now
  pub count : f'.1.now ≡ f.1.now
  pub links : (g : Graph) → Held g f.1.now f.0.now → LinksWritten (no_pause a) (linked_to a (trimmed g).links f.1.now) o o' r

pub count_kept : {g : Graph} {n : ℕ} {w : List ℕ} → Held g n w → (trimmed g).n ≡ n
count_kept {g} held = (trimmed_is g).episodes ∙ held.count

-- then they write the links that stay
pub trimmed_links : (pre : Carried → ℕ → MutBor (List ℕ) → Type 0) (step : Carried → ℕ → MutBor (List ℕ) → ℕ → MutBor (List ℕ) → Carried → Type 0)
    → ((a : ℕ) (f : Carried) (o : MutBor (List ℕ)) → Asked f a o.now → pre f a o)
    → ((a r : ℕ) (f f' : Carried) (o o' : MutBor (List ℕ)) → step f a o r o' f' → Left f a o.now r o'.now f')
    → (f : Carried) (g : Graph) → Held g f.1.now f.0.now → WritesLinks pre step no_pause (trimmed g) f
trimmed_links pre step may leave f g held =
    let count : (trimmed g).n ≡ f.1.now = count_kept held in
    writes_links pre step no_pause (trimmed g) (λ a e. (e.0.now ≡ f.0.now) × (e.1.now ≡ f.1.now))
    (λ a e o h s room.
    may a e o (record { graph = g; held = rw (s.0, s.1) held; below = omega arith; room = rw (s.1, ← count) room }))
    (λ a r e e' o o' h s room d.
    let left = leave a r e e' o o' d in
    ((left.work ∙ s.0, left.count ∙ s.1), rw (s.1, ← count) at (left.links g (rw (s.0, s.1) held))))
    f (refl, refl)

-- the table of voices in the work words, as it is lent
abbrev pub table_of : ℕ → List ℕ → List ℕ
table_of n w = take (voices_at + n - voices_at) (drop voices_at w)

module _ {g : Graph} {n : ℕ} {w : List ℕ} (held : Held g n w) where
  pub table_size : length (table_of n w) ≡ n
  table_size =
      let rest : length (drop voices_at w) ≡ length w - voices_at = length-drop voices_at w in
      length-take-le (voices_at + n - voices_at) (drop voices_at w) (omega (arith, held.few, held.long)) ∙ omega arith

  table_says : (v : ℕ) → v < n → get_or (table_of n w) v 0 ≡ g.voices v
  table_says v h =
      get_or-take (voices_at + n - voices_at) (drop voices_at w) v 0 (omega arith) ∙ get_or-drop voices_at w v 0 ∙ held.voices v h

  -- each is a small number
  pub table_short : (v : ℕ) → v < length (table_of n w) → get_or (table_of n w) v 0 < 2 ^ 12
  table_short v h =
      let below : v < n = omega (arith, table_size) in
      omega (arith, table_says v below, held.small_voices v below)

  table_kept : (v : ℕ) → v < n → get_or (table_of n w) v 0 ≡ (trimmed g).voices v
  table_kept v h = table_says v h ∙ sym ((trimmed_is g).voices v (omega (arith, held.count)))

  -- the voices words of the trimmed graph are written from it
  pub kept_words : voices_words (said (table_of n w)) (length (table_of n w)) ≡ voices_words (trimmed g).voices (trimmed g).n
  kept_words = table_words (trimmed g).voices n (table_of n w) table_size table_kept ∙ ap (voices_words (trimmed g).voices) (sym (count_kept held))

  pub kept_written : {o o' : List ℕ} {r : ℕ} → VoicesWritten (said (table_of n w)) (length (table_of n w)) o o' r
      → VoicesWritten (trimmed g).voices (trimmed g).n o o' r
  kept_written s = rw (count_kept held) (table_written (trimmed g).voices n (table_of n w) table_size table_kept s)

  -- where there is room for the trimmed copy there is room for them
  pub kept_fit : (o : List ℕ) → length (trimmed_words g) ≤ length o → length (voices_words (trimmed g).voices (trimmed g).n) < length o
  kept_fit o h = omega (arith, length_copy no_pause (trimmed g) 0)
