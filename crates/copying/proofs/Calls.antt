-- Calls that write the links of a graph, episode by episode.
use mathlib.Core.Path.{◌≡◌, refl, ap, subst, ◌∙◌}
use mathlib.Core.Logic.{◌≢◌}
use mathlib.Core.List.{List}
use Prim.Native.Nat.{ℕ, zero, suc, ◌+◌, ◌-◌, ◌/◌, ◌%◌, ◌≤◌, ◌<◌, ◌^◌}
use native.Mathlib.Omega.{arith}
use native.Mathlib.Numerals.{add-one}
use lib.ListN.{length, take, drop}
use Rattle.std.proofs.Common.{Bor, MutBor}
use Rattle.paths.specs.Graph.{Graph}
use Rattle.logs.specs.Content.{heard_graph, least_pause}
use Rattle.logs.specs.Log.{content_of}
use Rattle.logs.specs.declared.passed.Log.{Log}
use Rattle.logs.proofs.Laws.{graph_episodes}
use Rattle.copying.specs.FairCopy.{linked_to, group, groups}
use Rattle.copying.specs.Copying.{BlockMarks, LinksWritten}
use Rattle.copying.specs.Calls.{RoomFor, CalledBelow, WritesLinks}
use Rattle.copying.proofs.Rows.{next_block}
use Rattle.copying.proofs.Copies.{Copying, copying_room, few_links, links_room}

-- calls write the links if what they need before those of an episode, they leave for the next
module _ {F : Type 0} (pre : F → ℕ → MutBor (List ℕ) → Type 0) (step : F → ℕ → MutBor (List ℕ) → ℕ → MutBor (List ℕ) → F → Type 0)
    (pause : ℕ → ℕ → ℕ) (g : Graph) (Ready : ℕ → F → Type 0)
    (may : (a : ℕ) (f : F) (o : MutBor (List ℕ)) → a < g.n → Ready a f → RoomFor pause g a o.now → pre f a o)
    (writes : (a r : ℕ) (f f' : F) (o o' : MutBor (List ℕ)) → a < g.n → Ready a f → RoomFor pause g a o.now → step f a o r o' f'
    → Ready (a + 1) f' × LinksWritten (pause a) (linked_to a g.links g.n) o.now o'.now r) where
  ready : (a : ℕ) (f f' : F) → Ready 0 f → a ≤ g.n → CalledBelow pre step pause g f a f' → Ready a f'
  ready zero f f' first h e = subst (Ready 0) e first
  ready (suc a) f f' first h (e, o, o', r, before, room, s) =
      rw (← add-one) (writes a r e f' o o' (omega arith) (ready a f e first (omega arith) before) room s).0

  pub writes_links : (f : F) → Ready 0 f → WritesLinks pre step pause g f
  writes_links f first =
      record {
        may = λ a e o before h room. may a e o h (ready a f e first (omega arith) before) room;
        writes = λ a r e e' o o' before h room s. (writes a r e e' o o' h (ready a f e first (omega arith) before) room s).1;
      }

-- the next call, for the group of `a`, behind those below
module _ {F : Type 0} {pre : F → ℕ → MutBor (List ℕ) → Type 0} {step : F → ℕ → MutBor (List ℕ) → ℕ → MutBor (List ℕ) → F → Type 0}
    {pause : ℕ → ℕ → ℕ} {g : Graph} {f e : F} {start : ℕ} {o o' : List ℕ} {words links a : ℕ} (calls : WritesLinks pre step pause g f)
    (fits : start + length (groups pause g g.n) < length o) (before : CalledBelow pre step pause g f a e)
    (s : Copying pause g start o o' words links a) (h : a < g.n)
  where
    pub next_may : (p : MutBor (List ℕ)) → p.now ≡ take (length o' - words) (drop words o') → pre e a p
    next_may p at = calls.may a e p before h (rw at (copying_room s fits _ refl h))

    module _ {r : ℕ} {p p' : MutBor (List ℕ)} {e' : F} (at : p.now ≡ take (length o' - words) (drop words o')) (call : step e a p r p' e') where
      pub next_written : LinksWritten (pause a) (linked_to a g.links g.n) p.now p'.now r
      next_written = calls.writes a r e e' p p' before h (rw at (copying_room s fits _ refl h)) call

      pub next_called : CalledBelow pre step pause g f (a + 1) e'
      next_called = rw add-one (e, p, p', r, before, rw at (copying_room s fits _ refl h), call)

      -- few links are written, and the part is as long as it was
      pub next_few : g.n < 2 ^ 28 → r < 2 ^ 28
      next_few few = few_links g.links g.n a few next_written

      pub next_room : 0 < length p'.now
      next_room = let room = copying_room s fits _ refl h in omega (arith, links_room next_written, ap length at)

-- what the calls for a fair copy hold: the log, and the marks of a block
abbrev pub Held : Type 0
Held = Bor Log × MutBor (List ℕ)

-- what they need for the group of `a`
pub record Asked (f : Held) (a : ℕ) (o : List ℕ) : Type 0 where
  pub few : f.0.now.episodes ≤ 256
  pub marks : a % 64 ≢ 0 → BlockMarks (a / 64) (content_of f.0.now.words.now) f.1.now
  pub below : a < f.0.now.episodes
  pub room : let l = f.0.now.words.now in
      length (group a (least_pause (content_of l) a) (linked_to a (heard_graph (content_of l)).links f.0.now.episodes)) < length o

-- and what they leave
pub record Left (f : Held) (a : ℕ) (o : List ℕ) (r : ℕ) (o' : List ℕ) (f' : Held) : Type 0 where
  pub log : f'.0.now ≡ f.0.now
  pub marks : BlockMarks (a / 64) (content_of f.0.now.words.now) f'.1.now
  pub links : let l = f.0.now.words.now in
      LinksWritten (least_pause (content_of l) a) (linked_to a (heard_graph (content_of l)).links f.0.now.episodes) o o' r

-- what stands before the group of `a`
record Ready (l : Log) (a : ℕ) (f : Held) : Type 0 where
  log : f.0.now ≡ l
  marks : a % 64 ≢ 0 → BlockMarks (a / 64) (content_of l.words.now) f.1.now

-- then they write the links that were heard
pub fair_links : (pre : Held → ℕ → MutBor (List ℕ) → Type 0) (step : Held → ℕ → MutBor (List ℕ) → ℕ → MutBor (List ℕ) → Held → Type 0)
    → ((a : ℕ) (f : Held) (o : MutBor (List ℕ)) → Asked f a o.now → pre f a o)
    → ((a r : ℕ) (f f' : Held) (o o' : MutBor (List ℕ)) → step f a o r o' f' → Left f a o.now r o'.now f')
    → (f : Held) → f.0.now.episodes ≤ 256
    → WritesLinks pre step (least_pause (content_of f.0.now.words.now)) (heard_graph (content_of f.0.now.words.now)) f
fair_links pre step may leave f few =
    let l = f.0.now in
    let count : (content_of l.words.now).n ≡ l.episodes = graph_episodes _ l.words.now l.episodes l.to_words l.passes in
    writes_links pre step (least_pause (content_of l.words.now)) (heard_graph (content_of l.words.now)) (Ready l)
    (λ a e o h s room.
    may a e o
    (record {
      few = rw s.log few;
      marks = rw s.log s.marks;
      below = rw (s.log, ← count) h;
      room = rw (s.log, ← count) room;
    }))
    (λ a r e e' o o' h s room d.
    let left = leave a r e e' o o' d in (
      record {
        log = left.log ∙ s.log;
        marks = next_block a (content_of l.words.now) e'.1.now (rw s.log at left.marks);
      },
      rw (s.log, ← count) at left.links,
    ))
    f (record { log = refl; marks = λ ne. absurd (ne refl) })
