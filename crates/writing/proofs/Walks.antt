-- A loop in the buffer, episode by episode.
use mathlib.Core.Path.{◌≡◌, refl, sym, ◌∙◌, subst}
use mathlib.Core.Logic.{◌≢◌}
use mathlib.Core.List.{List, [], ◌∷◌, ◌++◌, map}
use Prim.Native.Nat.{ℕ, ◌+◌, ◌-◌, ◌≤◌, ◌<◌}
use native.Mathlib.Omega.{arith}
use lib.ListN.{length, get_or, set, length-append, length-map, length-set}
use Rattle.paths.specs.Graph.{Graph, Link, Loop}
use Rattle.logs.specs.Words.{word}
use Rattle.bits.specs.Work.{next_at}
use Rattle.searching.specs.Items.{Shrunk}
use Rattle.chains.specs.Cycles.{Selves, Walking}
use Rattle.searching.specs.State.{tables}
use Rattle.chains.proofs.Cycle.{shrunk_next, walk_start, walk_on, walk_short, walk_end, walk_closes}
use Rattle.writing.specs.Layout.{BeginsWith, loop_words}
use Rattle.writing.specs.Writing.{Looping, LoopWritten}
use Rattle.writing.proofs.Buffers.{begins_second, begins_over, begins_first, begins_word}

-- the first word is left, and `count` episodes of the loop are written behind it, the last of them `at`
pub record Written (w o o' : List ℕ) (v count at : ℕ) : Type 0 where
  pub g : Graph
  pub n : ℕ
  pub looping : Looping g n v w
  pub below : at < n
  pub some : 1 ≤ count
  pub few : count ≤ n
  pub room : (c : List ℕ) → Loop g c → length c + 1 ≤ length o'
  pub same_length : length o' ≡ length o
  pub first : ℕ
  pub loop : List ℕ
  pub size : count ≡ length loop
  pub words : BeginsWith (first ∷ map (word 7) loop) o o'
  pub walk : (g : Graph) (n : ℕ) → Looping g n v w → (x : ℕ) → (tables w).next at ≡ x + 1 → Walking g (tables w) v loop x

selves_of : {g : Graph} {n v : ℕ} {w : List ℕ} (l : Looping g n v w) → Selves g.n l.selves v
selves_of {v = v} l = subst (λ (m : ℕ). Selves m l.selves v) (sym l.count) l.selves_are

shrunk_of : {g : Graph} {n v : ℕ} {w : List ℕ} (l : Looping g n v w) → Shrunk g.n (Link g) l.selves (tables w)
shrunk_of {g} {w = w} l = subst (λ (m : ℕ). Shrunk m (Link g) l.selves (tables w)) (sym l.count) l.shrunk

module _ {g : Graph} {n v : ℕ} {w : List ℕ} (l : Looping g n v w) where
  -- what a walk has written is a part of a loop
  closes : {c : List ℕ} {x : ℕ} → Walking g (tables w) v c x → (whole : List ℕ) × Loop g whole × (length c ≤ length whole)
  closes = walk_closes (selves_of l) (shrunk_of l) (g.n + 1) (omega arith)

  -- each episode has one behind it
  pub loop_next : (x : ℕ) → x < n → (0 < get_or w (next_at + x) 0) × (get_or w (next_at + x) 0 ≤ n)
  loop_next x h = (shrunk_next l.selves_are l.shrunk x h, l.shrunk.matching.next_le x h)

  first_walk : Walking g (tables w) v (v ∷ []) (get_or w (next_at + v) 0 - 1)
  first_walk = let p = loop_next v l.selves_are.below in walk_start (selves_of l) (shrunk_of l) (omega arith)

  -- where every loop fits, there is room for one episode
  pub loop_room : (k : ℕ) → ((c : List ℕ) → Loop g c → length c + 1 ≤ k) → 2 ≤ k
  loop_room k room = let (whole, loop, le) = closes first_walk in omega (arith, room whole loop)

  pub walk_first : (o : List ℕ) → ((c : List ℕ) → Loop g c → length c + 1 ≤ length o)
      → Written w (set o 1 (word 7 v)) (set o 1 (word 7 v)) v 1 v
  walk_first o h =
      let below = l.selves_are.below in
      record {
        g = g;
        n = n;
        looping = l;
        below = below;
        some = omega arith;
        few = omega arith;
        room = λ c k. rw (length-set o 1 (word 7 v)) (h c k);
        same_length = refl;
        first = get_or o 0 0;
        loop = v ∷ [];
        size = refl;
        words = begins_second (word 7 v) o (omega (arith, loop_room (length o) h));
        walk = λ g n k x e. walk_start (selves_of k) (shrunk_of k) e;
      }

module _ {w o o' : List ℕ} {v count at x : ℕ} (s : Written w o o' v count at) (e : (tables w).next at ≡ x + 1) where
  module _ (ne : x ≢ v) where
    pub walk_room : count < s.n
    walk_room = let h = walk_short (s.walk s.g s.n s.looping x e) ne in omega arith

    below : x < s.n
    below = omega (arith, loop_next s.looping at s.below)

    -- the next episode has room in the buffer, since the loop has
    pub walk_fits : count + 1 < length o'
    walk_fits =
        let l = s.looping in
        let p = loop_next l x below in
        let on : Walking s.g (tables w) v (s.loop ++ x ∷ []) (get_or w (next_at + x) 0 - 1) =
        walk_on (selves_of l) (shrunk_of l) (s.walk s.g s.n l x e) ne (omega arith) in
        let (whole, loop, le) = closes l on in
        omega (arith, s.room whole loop, length-append s.loop (x ∷ []))

    pub walk_more : Written w o (set o' (count + 1) (word 7 x)) v (count + 1) x
    walk_more =
        let same = length-set o' (count + 1) (word 7 x) in
        let r = walk_room in
        let f = walk_fits in
        record {
          g = s.g;
          n = s.n;
          looping = s.looping;
          below = below;
          some = omega arith;
          few = omega arith;
          room = λ c o. rw same (s.room c o);
          same_length = omega arith;
          first = s.first;
          loop = s.loop ++ x ∷ [];
          size = sym (length-append s.loop (x ∷ []) ∙ omega arith);
          words = begins_word (word 7) s.first x (count + 1) s.loop o o' s.words (omega arith) (omega arith);
          walk = λ g n k y f. walk_on (selves_of k) (shrunk_of k) (s.walk g n k x e) ne f;
        }

pub walk_done : {w o o' : List ℕ} {v count at : ℕ} (y : ℕ) → Written w (set o 1 y) o' v count at → (tables w).next at ≡ v + 1
    → LoopWritten w o (set o' 0 (word 8 count)) v count
unfolding loop_words
walk_done {w} {o} {o'} {v} {count} y s e =
    record {
      loop = s.loop;
      size = s.size;
      words =
          begins_over (word 8 (length s.loop) ∷ map (word 7) s.loop) o (set o' 0 (word 8 count)) 1 y
          (let l = length-map s.loop (word 7) in omega arith)
          (subst (λ (k : ℕ). BeginsWith (word 8 k ∷ map (word 7) s.loop) (set o 1 y) (set o' 0 (word 8 count))) s.size
          (begins_first s.first (word 8 count) (map (word 7) s.loop) (set o 1 y) o' s.words));
      of = λ g n k. walk_end (s.walk g n k v e);
    }
