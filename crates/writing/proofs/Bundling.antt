-- Threads that are being written, one for each member of the antichain, and the room that they take.
use mathlib.Core.Path.{◌≡◌, refl, sym, ap, subst, ◌∙◌}
use mathlib.Core.Bool.{true, false}
use mathlib.Core.List.{List, [], ◌∷◌, ◌++◌}
use Prim.Native.Nat.{ℕ, ◌+◌, ◌-◌, ◌*◌, ◌≤◌, ◌<◌}
use native.Mathlib.Nat.{add-mul, suc-mul, mul-le-mul_right}
use native.Mathlib.Omega.{arith}
use lib.ListN.{length, take, drop, length-append, length-drop}
use Rattle.paths.specs.Graph.{Graph, Thread}
use Rattle.searching.specs.Items.{member_test, members}
use Rattle.searching.specs.State.{tables}
use Rattle.chains.specs.Threads.{ThreadsOf}
use Rattle.paths.specs.Passing.{passing}
use Rattle.paths.proofs.Passing.{passing_more, passing_same, length_passing, passing_le}
use Rattle.chains.proofs.Threads.{threads_none, threads_snoc}
use Rattle.writing.specs.Layout.{BeginsWith, thread_words, threads_words}
use Rattle.writing.specs.Writing.{Solved, apart_test, apart_in, ThreadWritten}
use Rattle.writing.proofs.Solved.{solved_short}
use Rattle.writing.proofs.Layouts.{threads_words_snoc, length_thread}
use Rattle.writing.proofs.Buffers.{length_snoc, begins_none, begins_length, begins_part, lent_part, lent_rest}

-- the words that a thread has at most
abbrev pub thread_need : List ℕ → ℕ → ℕ
thread_need w n = n + 2 - length (apart_in w n)

-- a thread's words are at most so many
thread_need_lem : {g : Graph} {n m : ℕ} {w : List ℕ} → Solved g n m w → (th : List ℕ) → Thread g th → length th + 1 ≤ thread_need w n
thread_need_lem {n = n} {w = w} q th t =
    let k : length (apart_in w n) ≤ n = length_passing (apart_test w) n in
    let h : length th + length (apart_in w n) ≤ n + 1 = solved_short q th t in
    omega arith

-- threads of some items have at most so many words for each
pub threads_need : {g : Graph} {n m : ℕ} {w : List ℕ} → Solved g n m w → (next : ℕ → ℕ) (vs : List ℕ) (ts : List (List ℕ))
    → ThreadsOf g next vs ts → length (threads_words ts) ≤ length vs * thread_need w n
unfolding ThreadsOf threads_words
threads_need q next [] [] h = omega arith
threads_need q next [] (t ∷ ts) h = absurd h
threads_need q next (v ∷ vs) [] h = absurd h
threads_need {n = n} {w = w} q next (v ∷ vs) (t ∷ ts) h =
    let rest = threads_need q next vs ts h.1 in
    let one = thread_need_lem q t h.0.thread in
    let l = length_thread t in
    let e = length-append (thread_words t) (threads_words ts) in
    let m = suc-mul (length vs) (thread_need w n) in
    omega arith

-- The first words are the threads of the members below `v`.
pub record Bundling (w : List ℕ) (n m : ℕ) (o o' : List ℕ) (at v : ℕ) : Type 0 where
  pub threads : List (List ℕ)
  pub size : at ≡ length (threads_words threads)
  pub words : BeginsWith (threads_words threads) o o'
  pub of : (g : Graph) → Solved g n m w → ThreadsOf g (tables w).next (members (tables w) v) threads
  pub v_le : v ≤ m

pub bundling_none : (w : List ℕ) (n m : ℕ) (o : List ℕ) → Bundling w n m o o 0 0
unfolding threads_words passing
bundling_none w n m o =
    record {
      threads = [];
      size = refl;
      words = begins_none o;
      of = λ g q. threads_none g (tables w).next;
      v_le = omega arith;
    }

module _ {w : List ℕ} {n m : ℕ} {o o' : List ℕ} {at v : ℕ} (b : Bundling w n m o o' at v) where
  pub bundling_length : length o' ≡ length o
  bundling_length = begins_length (threads_words b.threads) o o' b.words

  -- `v` is not a member
  pub bundling_same : v < m → member_test (tables w) v ≡ false → Bundling w n m o o' at (v + 1)
  bundling_same h e =
      let same : members (tables w) (v + 1) ≡ members (tables w) v = passing_same (member_test (tables w)) v e in
      record {
        threads = b.threads;
        size = b.size;
        words = b.words;
        of = λ g q. rw same (b.of g q);
        v_le = omega arith;
      }

  module _ (h : v < m) (e : member_test (tables w) v ≡ true) where
    more : length (members (tables w) (v + 1)) ≡ length (members (tables w) v) + 1
    more = ap length (passing_more (member_test (tables w)) v e) ∙ length_snoc (members (tables w) v) v

    -- `v` is a member: there is room for one thread more
    bundling_room : length (members (tables w) m) * thread_need w n ≤ length o → (g : Graph) → Solved g n m w → at + thread_need w n ≤ length o
    bundling_room room g q =
        let s : length (threads_words b.threads) ≤ length (members (tables w) v) * thread_need w n =
        threads_need q (tables w).next (members (tables w) v) b.threads (b.of g q) in
        let a = b.size in
        let one = more in
        let le : length (members (tables w) (v + 1)) ≤ length (members (tables w) m) = passing_le (member_test (tables w)) (v + 1) m (omega arith) in
        let p : (length (members (tables w) v) + 1) * thread_need w n ≤ length (members (tables w) m) * thread_need w n =
        mul-le-mul_right (thread_need w n) (omega arith) in
        let d = add-mul (length (members (tables w) v)) 1 (thread_need w n) in
        omega arith

    -- in the part that is lent
    pub bundling_fits : length (members (tables w) m) * thread_need w n ≤ length o → (g : Graph) → Solved g n m w → (th : List ℕ) → Thread g th
        → length th + 1 ≤ length (take (length o' - at) (drop at o'))
    bundling_fits room g q th t =
        let r = bundling_room room g q in
        let s = bundling_length in
        let m = thread_need_lem q th t in
        let d = length-drop at o' in
        rw (lent_part o' at) (omega arith)

    -- the thread of `v` is written behind the others
    bundling_more : (p : List ℕ) (r : ℕ) → ThreadWritten w (drop at o') p n m v r
        → Bundling w n m o (take at o' ++ p) (at + r) (v + 1)
    bundling_more p r t =
        record {
          threads = b.threads ++ (t.thread ∷ []);
          size =
              let f = ap length snoc in
              let l = length-append (threads_words b.threads) (thread_words t.thread) in
              let a = b.size in
              let c = t.size in
              omega arith;
          words =
              subst (λ (ws : List ℕ). BeginsWith ws o (take at o' ++ p)) (sym snoc)
              (begins_part (threads_words b.threads) o o' b.words (thread_words t.thread) p at b.size t.words);
          of = λ g q. rw (passing_more (member_test (tables w)) v e)
              (threads_snoc g (tables w).next (members (tables w) v) b.threads (b.of g q) (t.of g q));
          v_le = omega arith;
        }
      where
        snoc : threads_words (b.threads ++ (t.thread ∷ [])) ≡ threads_words b.threads ++ thread_words t.thread
        snoc = threads_words_snoc b.threads t.thread

    -- the same, as the part that was lent comes back
    pub bundling_lent : {p o'' : List ℕ} {r at' : ℕ} → ThreadWritten w (take (length o' - at) (drop at o')) p n m v r
        → o'' ≡ take at o' ++ (p ++ drop (length o' - at) (drop at o')) → at' ≡ at + r → Bundling w n m o o'' at' (v + 1)
    bundling_lent {p} {o''} {r} {at'} t k l =
        rw (k, l, lent_rest o' p at) (bundling_more p r (rw (lent_part o' at) at t))
