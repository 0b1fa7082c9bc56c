-- A path that is being written: its steps so far, from which any thread from the last one leads on.
use Rattle.std.proofs.Math.Logic.{∥∥₁_elim}
use Rattle.std.proofs.Props.{props}
use mathlib.Core.Path.{◌≡◌, subst}
use mathlib.Core.List.{List, [], ◌∷◌, ◌++◌, map, map-append, append_assoc}
use Prim.Native.Nat.{ℕ, ◌+◌, ◌≤◌, ◌<◌}
use native.Mathlib.Omega.{arith}
use lib.ListN.{length, set, length-map}
use Rattle.paths.specs.Graph.{Graph, Link, Thread}
use Rattle.paths.proofs.Threads.{thread_single, thread_cons}
use Rattle.paths.proofs.Fits.{thread_nodup}
use Rattle.paths.proofs.Numbers.{nodup_below}
use Rattle.logs.specs.Words.{word}
use Rattle.writing.specs.Layout.{BeginsWith}
use Rattle.writing.specs.Path.{PathWritten}
use Rattle.writing.specs.Writing.{Solved, IsSolved, HopTo}
use Rattle.writing.proofs.Buffers.{length_snoc, begins_length, begins_more}

-- The words are the steps behind `c` of a path from `c` to `at`.
pub record Stepping (w : List ℕ) (n m c : ℕ) (o o' : List ℕ) (at count : ℕ) : Type 0 where
  pub steps : List ℕ
  pub size : count ≡ length steps
  pub words : BeginsWith (map (word 7) steps) o o'
  pub below : at < n
  pub joins : (g : Graph) → Solved g n m w → (p : List ℕ) → Thread g (at ∷ p) → Thread g (c ∷ (steps ++ p))

module _ {w : List ℕ} {n m c : ℕ} {o o' : List ℕ} {at count : ℕ} (s : Stepping w n m c o o' at count) where
  pub stepping_length : length o' ≡ length o
  stepping_length = begins_length (map (word 7) s.steps) o o' s.words

  -- one step more is written
  stepping_words : (r : ℕ) → count < length o → BeginsWith (map (word 7) (s.steps ++ (r ∷ []))) o (set o' count (word 7 r))
  stepping_words r l =
      rw (map-append (word 7) s.steps (r ∷ []))
      (begins_more (map (word 7) s.steps) o o' s.words count (word 7 r)
      (let e = s.size in let d = length-map s.steps (word 7) in omega arith) l)

  module _ {b r : ℕ} (solved : IsSolved n m w) (h : HopTo w at b r) where
    module _ {g : Graph} (q : Solved g n m w) where
      hop_link : Link g at r
      hop_link = q.links.sound at r (let few = q.few in let l = s.below in omega arith) h.below h.link

      hop_below : r < n
      hop_below = let e = q.count in let l : r < g.n = (q.ends at r hop_link).1 in omega arith

      hop_joins : (p : List ℕ) → Thread g (r ∷ p) → Thread g (c ∷ (s.steps ++ (r ∷ p)))
      hop_joins p t = s.joins g q (r ∷ p) (thread_cons (q.ends at r hop_link).0 hop_link t)

      -- the path with that step
      longer : Thread g (c ∷ (s.steps ++ (r ∷ [])))
      longer = hop_joins [] (thread_single (q.ends at r hop_link).1)

      -- it fits where every path does
      fits : ((p : List ℕ) → Thread g (c ∷ p) → length p ≤ length o) → count < length o
      fits room =
          let le = room (s.steps ++ (r ∷ [])) longer in
          let e = length_snoc s.steps r in
          let z = s.size in
          omega arith

      -- and has at most as many steps as there are episodes
      less : count < n
      less =
          let le : length (c ∷ (s.steps ++ (r ∷ []))) ≤ g.n = nodup_below g.n _ (thread_nodup q.acyclic longer) longer.episodes in
          let e = length_snoc s.steps r in
          let z = s.size in
          let k = q.count in
          omega arith

    pub stepping_room : ((g : Graph) → Solved g n m w → (p : List ℕ) → Thread g (c ∷ p) → length p ≤ length o) → count < length o
    stepping_room room = ∥∥₁_elim solved (search props) (λ (g, q). fits q (room g q))

    pub stepping_less : count < n
    stepping_less = ∥∥₁_elim solved (search props) (λ (g, q). less q)

    -- a step that is not the last
    pub stepping_more : count < length o → Stepping w n m c o (set o' count (word 7 r)) r (count + 1)
    stepping_more l =
        record {
          steps = s.steps ++ (r ∷ []);
          size = let e = length_snoc s.steps r in let z = s.size in omega arith;
          words = stepping_words r l;
          below = ∥∥₁_elim solved (search props) (λ (g, q). hop_below q);
          joins = λ g' q' p t. rw (append_assoc s.steps (r ∷ []) p) (hop_joins q' p t);
        }

    -- the last
    pub stepping_ends : r ≡ b → count < length o → PathWritten w o (set o' count (word 7 r)) n m c b (count + 1)
    stepping_ends e l =
        subst (λ (x : ℕ). PathWritten w o (set o' count (word 7 r)) n m c x (count + 1)) e
        (record {
          between = s.steps;
          size = let z = s.size in omega arith;
          words = stepping_words r l;
          of = λ g q. longer q;
        })
