-- Laws of the layout: how long a report is, how its words grow, and that its apart set and its threads are read back from them.
use mathlib.Core.Path.{◌≡◌, refl, sym, ap, ap₂, ◌∙◌}
use mathlib.Core.Logic.{⊎_elim, ◌≢◌}
use mathlib.Core.List.Memᴰ
use mathlib.Core.List.Memᴰ.{append_cases}
use mathlib.Core.List.Memᴰ.{eq_of_singleton}
use mathlib.Core.List.Memᴰ.{head as here}
use mathlib.Core.List.Memᴰ.{tail as there}
use mathlib.Core.List.{
  List,
  [],
  ◌∷◌,
  ◌++◌,
  map,
  append-nil,
  append_assoc,
}
use Prim.Native.Nat.{ℕ, ◌+◌, ◌≤◌}
use native.Mathlib.Omega.{arith}
use lib.ListN.{length, take, get_or, length-append, length-map}
use lib.Seq.{take_at}
use borrow.Author.Tests.{eq-eqb, ne_eqb}
use Rattle.order.specs.Order.{All}
use Rattle.order.proofs.Lists.{all_nil, all_cons}
use Rattle.paths.specs.Graph.{Graph, Acyclic, Cover, Apart, weight, total_steps}
use Rattle.paths.proofs.Theorems.{report_fits_one, report_fits_two}
use Rattle.logs.specs.Words.{kind, number, word, Small}
use Rattle.logs.proofs.Words.{kind_word, number_word}
use Rattle.writing.specs.Layout.{thread_words, threads_words, ended, report_words, loop_words, SmallThread, apart_of, threads_of}
use Rattle.writing.specs.Writing.{ReportRoom}

-- One more thread.
pub threads_words_snoc : (ts : List (List ℕ)) (t : List ℕ) → threads_words (ts ++ t ∷ []) ≡ threads_words ts ++ thread_words t
unfolding threads_words
threads_words_snoc [] t = append-nil (thread_words t)
threads_words_snoc (u ∷ ts) t = rw (threads_words_snoc ts t) (sym (append_assoc (thread_words u) (threads_words ts) (thread_words t)))

-- Lengths, in words.
pub length_thread : (t : List ℕ) → length (thread_words t) ≡ 1 + length t
unfolding thread_words
length_thread t = omega (arith, length-map t (word 7))

length_threads : (ts : List (List ℕ)) → length (threads_words ts) ≡ length ts + total_steps ts
unfolding threads_words total_steps
length_threads [] = refl
length_threads (t ∷ ts) =
    omega (arith, length-append (thread_words t) (threads_words ts), length_thread t, length_threads ts)

length_ended : (ws : List ℕ) → length (ended ws) ≡ length ws + 1
unfolding ended
length_ended ws = length-append ws (word 15 (length ws) ∷ [])

pub length_loop : (c : List ℕ) → length (loop_words c) ≡ 1 + length c
unfolding loop_words
length_loop c = omega (arith, length-map c (word 7))

pub length_report : (apart : List ℕ) (threads : List (List ℕ))
    → length (report_words apart threads) ≡ 1 + length apart + (length threads + total_steps threads) + 1
unfolding report_words
length_report apart threads =
    let front : List ℕ = word 4 (length threads) ∷ map (word 5) apart in
    omega (
      arith,
      length_ended (front ++ threads_words threads),
      length-append front (threads_words threads),
      length-map apart (word 5),
      length_threads threads,
    )

-- A report on an acyclic graph fits words that have room for one.
pub report_fits_need : {g : Graph} {k : ℕ} → Acyclic g → (apart : List ℕ) (threads : List (List ℕ)) → Cover g threads → Apart g apart
    → length threads ≡ weight g apart → ReportRoom g k → length (report_words apart threads) ≤ k
report_fits_need acyclic apart threads cover is_apart same room =
    rw (length_report apart threads)
    (⊎_elim (λ (one, enough). omega (arith, report_fits_one acyclic threads apart one cover is_apart same))
    (λ (two, enough). omega (arith, report_fits_two acyclic threads apart two cover is_apart same)) room)

-- Word 0 is of kind 4 and has the number of threads.
pub report_head : (apart : List ℕ) (threads : List (List ℕ)) → get_or (report_words apart threads) 0 0 ≡ word 4 (length threads)
unfolding report_words ended
report_head apart threads = refl

-- One word more in front of those that are read.
pub apart_of_five : (w : ℕ) (ws : List ℕ) → kind w ≡ 5 → apart_of (w ∷ ws) ≡ number w ∷ apart_of ws
unfolding apart_of
apart_of_five w ws e = rw (eq-eqb (kind w) 5 e, apart_of)

pub apart_of_other : (w : ℕ) (ws : List ℕ) → kind w ≢ 5 → apart_of (w ∷ ws) ≡ apart_of ws
unfolding apart_of
apart_of_other w ws ne = rw (ne_eqb (kind w) 5 ne, apart_of)

pub threads_of_six : (w : ℕ) (ws : List ℕ) → kind w ≡ 6 → threads_of (w ∷ ws) ≡ map number (take (number w) ws) ∷ threads_of ws
unfolding threads_of
threads_of_six w ws e = rw (eq-eqb (kind w) 6 e, threads_of)

pub threads_of_other : (w : ℕ) (ws : List ℕ) → kind w ≢ 6 → threads_of (w ∷ ws) ≡ threads_of ws
unfolding threads_of
threads_of_other w ws ne = rw (ne_eqb (kind w) 6 ne, threads_of)

-- Words of no such kind give nothing.
apart_of_none : (ws : List ℕ) → All (λ w. kind w ≢ 5) ws → apart_of ws ≡ []
unfolding apart_of
apart_of_none [] h = refl
apart_of_none (w ∷ ws) h = apart_of_other w ws (h w (here refl)) ∙ apart_of_none ws (λ x m. h x (there m))

threads_of_none : (ws rest : List ℕ) → All (λ w. kind w ≢ 6) ws → threads_of (ws ++ rest) ≡ threads_of rest
threads_of_none [] rest h = refl
threads_of_none (w ∷ ws) rest h = threads_of_other w (ws ++ rest) (h w (here refl)) ∙ threads_of_none ws rest (λ x m. h x (there m))

-- the numbers and the kinds of words of one kind
pub numbers_of : (k : ℕ) (s : List ℕ) → All Small s → map number (map (word k) s) ≡ s
numbers_of k [] h = refl
numbers_of k (x ∷ s) h =
    ap₂ (λ (y : ℕ) (r : List ℕ). y ∷ r) (number_word k x (h x (here refl))) (numbers_of k s (λ y m. h y (there m)))

kinds_of : (k : ℕ) (s : List ℕ) → All Small s → All (λ w. kind w ≡ k) (map (word k) s)
kinds_of k s h w m =
    let r = Memᴰ.of_map (word k) s m in
    rw (← r.2) (kind_word k r.0 (h r.0 r.1))

-- The apart set's words give the apart set.
apart_of_fives : (s rest : List ℕ) → All Small s → apart_of (map (word 5) s ++ rest) ≡ s ++ apart_of rest
apart_of_fives [] rest h = refl
apart_of_fives (x ∷ s) rest h =
    let small : Small x = h x (here refl) in
    apart_of_five (word 5 x) (map (word 5) s ++ rest) (kind_word 5 x small)
    ∙ ap₂ (λ (y : ℕ) (r : List ℕ). y ∷ r) (number_word 5 x small) (apart_of_fives s rest (λ y m. h y (there m)))

-- A thread's words give the thread.
threads_of_thread : (t rest : List ℕ) → SmallThread t → threads_of (thread_words t ++ rest) ≡ t ∷ threads_of rest
unfolding thread_words
threads_of_thread t rest (small, steps) =
    let sevens : List ℕ = map (word 7) t in
    let c : number (word 6 (length t)) ≡ length t = number_word 6 (length t) small in
    let first : map number (take (number (word 6 (length t))) (sevens ++ rest)) ≡ t =
    rw (c, take_at sevens rest (length t) (length-map t (word 7))) (numbers_of 7 t steps) in
    let others : threads_of (sevens ++ rest) ≡ threads_of rest =
    threads_of_none sevens rest (λ w m. let k = kinds_of 7 t steps w m in λ e. omega arith) in
    threads_of_six (word 6 (length t)) (sevens ++ rest) (kind_word 6 (length t) small)
    ∙ ap₂ (λ (u : List ℕ) (us : List (List ℕ)). u ∷ us) first others

-- The threads' words give the threads.
threads_of_threads : (ts : List (List ℕ)) (rest : List ℕ) → All SmallThread ts
    → threads_of (threads_words ts ++ rest) ≡ ts ++ threads_of rest
unfolding threads_words
threads_of_threads [] rest h = refl
threads_of_threads (t ∷ ts) rest h =
    rw (append_assoc (thread_words t) (threads_words ts) rest)
    (threads_of_thread t (threads_words ts ++ rest) (h t (here refl))
    ∙ ap (λ (us : List (List ℕ)). t ∷ us) (threads_of_threads ts rest (λ u m. h u (there m))))

-- no word of the threads is of kind 5
threads_kinds : (ts : List (List ℕ)) → All SmallThread ts → All (λ w. 6 ≤ kind w) (threads_words ts)
unfolding threads_words thread_words
threads_kinds [] h = all_nil _
threads_kinds (t ∷ ts) h =
    let s = h t (here refl) in
    let first : All (λ w. 6 ≤ kind w) (thread_words t) =
    all_cons (omega (arith, kind_word 6 (length t) s.0)) (λ x n. omega (arith, kinds_of 7 t s.1 x n)) in
    let others = threads_kinds ts (λ u n. h u (there n)) in
    λ w m. ⊎_elim (first w) (others w) (append_cases (thread_words t) m)

-- Where its numbers are small, a report's words give back its apart set and its threads.
module _ (apart : List ℕ) (threads : List (List ℕ)) (few : Small (length threads)) (small : All Small apart) (steps : All SmallThread threads) where
  -- the end's number may be any
  pub apart_of_report : apart_of (report_words apart threads) ≡ apart
  unfolding report_words ended
  apart_of_report =
      let fives : List ℕ = map (word 5) apart in
      let c : ℕ = length (word 4 (length threads) ∷ fives ++ threads_words threads) in
      let end : List ℕ = word 15 c ∷ [] in
      let none : apart_of (threads_words threads ++ end) ≡ [] =
      apart_of_none (threads_words threads ++ end)
      (λ w m e.
      ⊎_elim (λ n. let k = threads_kinds threads steps w n in omega arith)
      (λ n. let same = ap kind (eq_of_singleton n) in omega arith)
      (append_cases (threads_words threads) m)) in
      apart_of_other (word 4 (length threads)) (fives ++ threads_words threads ++ end) (λ e. omega (arith, kind_word 4 (length threads) few))
      ∙ ap apart_of (append_assoc fives (threads_words threads) end)
      ∙ apart_of_fives apart (threads_words threads ++ end) small
      ∙ rw none (append-nil apart)

  pub threads_of_report : threads_of (report_words apart threads) ≡ threads
  unfolding report_words ended threads_of
  threads_of_report =
      let fives : List ℕ = map (word 5) apart in
      let c : ℕ = length (word 4 (length threads) ∷ fives ++ threads_words threads) in
      let end : List ℕ = word 15 c ∷ [] in
      let last : threads_of end ≡ [] = threads_of_none end [] (λ w m e. let same = ap kind (eq_of_singleton m) in omega arith) in
      threads_of_other (word 4 (length threads)) (fives ++ threads_words threads ++ end) (λ e. omega (arith, kind_word 4 (length threads) few))
      ∙ ap threads_of (append_assoc fives (threads_words threads) end)
      ∙ threads_of_none fives (threads_words threads ++ end) (λ w m e. omega (arith, kinds_of 5 apart small w m))
      ∙ threads_of_threads threads end steps
      ∙ rw last (append-nil threads)
