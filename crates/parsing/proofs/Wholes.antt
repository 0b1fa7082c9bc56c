-- A whole report and its words, both ways: what stands where in one, and that words in which all that stands are one.
use mathlib.Core.Path.{◌≡◌, refl, sym, ap, ap₂, subst, ◌∙◌}
use mathlib.Core.Bool.{false, true≢false}
use mathlib.Core.List.{List, [], ◌∷◌, ◌++◌, map, append_assoc}
use Prim.Native.Nat.{ℕ, suc, ◌+◌, ◌-◌, ◌≤◌, ◌<◌}
use native.Mathlib.Omega.{arith}
use borrow.Author.Tests.{eqb-true, eq-eqb, ne_eqb}
use lib.Dec.{eqb}
use lib.ListN.{length, get_or, take, drop, length-append, length-map, length-drop, drop_of_length-le}
use lib.Seq.{drop-cons, take_at, get_or-drop}
use Rattle.std.proofs.lemmas.List.Sums.{prefix_len_is, prefix_len_passes}
use Rattle.order.specs.Order.{All}
use Rattle.logs.specs.Words.{kind, number, word, Small}
use Rattle.writing.specs.Layout.{thread_words, threads_words, ended, report_words, SmallThread, apart_of, threads_of}
use Rattle.writing.proofs.Layouts.{apart_of_report, threads_of_report}
use Rattle.parsing.specs.Whole.{IsReport, Whole, thread_place}
use Rattle.parsing.specs.Parsing.{OfKind, apart_count, ThreadsEnd, WholeTest, ThreadAt, Room}
use Rattle.parsing.proofs.Runs.{run_words, run_kinds}
use Rattle.parsing.proofs.ThreadParse.{
  drop_behind,
  get_d_first,
  length_behind,
  ThreadHere,
  thread_here,
  fit_at,
  thread_behind,
}

-- the place of the end, and its word
abbrev end_at : List ℕ → List (List ℕ) → ℕ
end_at apart threads = length apart + 1 + length (threads_words threads)

abbrev the_end : List ℕ → List (List ℕ) → List ℕ
the_end apart threads = word 15 (end_at apart threads) ∷ []

-- the apart words, then the threads' words, then the end
abbrev behind_head : List ℕ → List (List ℕ) → ℕ → List ℕ
behind_head apart threads end = map (word 5) apart ++ (threads_words threads ++ word 15 end ∷ [])

report_shape : (apart : List ℕ) (threads : List (List ℕ)) (end : ℕ) → end ≡ end_at apart threads
    → report_words apart threads ≡ word 4 (length threads) ∷ behind_head apart threads end
unfolding report_words ended
report_shape apart threads end e =
    let head : ℕ = word 4 (length threads) in
    let fives : List ℕ = map (word 5) apart in
    let count : length (head ∷ fives ++ threads_words threads) ≡ end =
    omega (arith, length-append fives (threads_words threads), length-map apart (word 5)) in
    ap (λ (l : List ℕ). head ∷ l)
    (append_assoc fives (threads_words threads) (word 15 (length (head ∷ fives ++ threads_words threads)) ∷ [])
    ∙ ap (λ (x : ℕ). fives ++ (threads_words threads ++ word 15 x ∷ [])) count)

-- What stands behind the apart words is of kind 6, the first thread's word, or of kind 15, the end.
first_behind : (threads : List (List ℕ)) (end : ℕ) → 6 ≤ kind (get_or (threads_words threads ++ word 15 end ∷ []) 0 0)
unfolding threads_words thread_words
first_behind [] end = omega arith
first_behind (t ∷ ts) end = omega arith

-- each thread has words
threads_count : (threads : List (List ℕ)) → length threads ≤ length (threads_words threads)
unfolding threads_words thread_words
threads_count [] = omega arith
threads_count (t ∷ ts) = let rest = threads_count ts in omega (arith, rest, length-append (thread_words t) (threads_words ts))

-- What stands where in a whole report.
module _ (ws apart : List ℕ) (threads : List (List ℕ)) (report : IsReport ws apart threads) where
  report_words_lem : ws ≡ word 4 (length threads) ∷ behind_head apart threads (end_at apart threads)
  report_words_lem = report.words ∙ report_shape apart threads (end_at apart threads) refl

  -- k, the number of threads
  report_first : get_or ws 0 0 ≡ word 4 (length threads)
  report_first = ap (λ (l : List ℕ). get_or l 0 0) report_words_lem

  pub report_head : (kind (get_or ws 0 0) ≡ 4) × (number (get_or ws 0 0) ≡ length threads)
  report_head =
      let first = report_first in
      let few = report.width_fits in
      (omega arith, omega arith)

  report_behind : drop 1 ws ≡ behind_head apart threads (end_at apart threads)
  report_behind = ap (drop 1) report_words_lem

  -- the threads
  report_threads : drop (length apart + 1) ws ≡ threads_words threads ++ the_end apart threads
  report_threads =
      let fives : List ℕ = map (word 5) apart in
      let there : length apart + 1 ≡ 1 + length fives = omega (arith, length-map apart (word 5)) in
      ap (λ (x : ℕ). drop x ws) there
      ∙ drop_behind ws 1 fives (threads_words threads ++ the_end apart threads) report_behind

  -- the end, and nothing behind it
  report_end : drop (end_at apart threads) ws ≡ the_end apart threads
  report_end = drop_behind ws (length apart + 1) (threads_words threads) (the_end apart threads) report_threads

  report_long : length ws ≡ end_at apart threads + 1
  report_long =
      omega (arith, length_behind ws (end_at apart threads) (the_end apart threads) [] (omega arith) report_end)

  -- there is room for the head, the apart set and the end
  pub report_room : length apart + 2 ≤ length ws
  report_room = omega (arith, report_long)

  -- there are as many words as threads, and more
  pub report_wide : length threads ≤ length ws
  report_wide = omega (arith, report_long, threads_count threads)

  -- the apart words end where the first thread or the end stands
  pub report_apart : apart_count ws ≡ length apart
  report_apart =
      let fives = run_kinds 5 ws 1 apart (threads_words threads ++ the_end apart threads) report.apart_fits report_behind in
      let same : 1 + length apart ≡ length apart + 1 + 0 = omega arith in
      let next : get_or (drop 1 ws) (length apart) 0 ≡ get_or (threads_words threads ++ the_end apart threads) 0 0 =
      get_or-drop 1 ws (length apart) 0 ∙ ap (λ (x : ℕ). get_or ws x 0) same ∙ sym (get_or-drop (length apart + 1) ws 0 0)
      ∙ ap (λ (l : List ℕ). get_or l 0 0) report_threads in
      prefix_len_is (λ w. eqb (kind w) 5) (drop 1 ws) (length apart) 0
      (omega (arith, length-drop 1 ws, report_long))
      (λ j lt. eq-eqb (kind (get_or (drop 1 ws) j 0)) 5 (ap kind (get_or-drop 1 ws j 0) ∙ fives (1 + j) (omega arith) (omega arith)))
      (λ lt. ne_eqb (kind (get_or (drop 1 ws) (length apart) 0)) 5
      (λ e. omega (arith, ap kind next, first_behind threads (end_at apart threads))))

  pub report_last : (end : ℕ) → end + 1 ≡ length ws → (kind (get_or ws end 0) ≡ 15) × (number (get_or ws end 0) ≡ end)
  report_last end e =
      let there : end_at apart threads ≡ end = omega (arith, report_long) in
      let last : get_or ws end 0 ≡ word 15 end =
      subst (λ (x : ℕ). get_or ws x 0 ≡ word 15 x) there (get_d_first ws (end_at apart threads) (word 15 (end_at apart threads)) [] report_end) in
      let small : Small end = omega (arith, report.count_fits) in
      (omega arith, omega arith)

  -- the threads, from the place on that the count of the apart words gives
  from_threads : (n : ℕ) → n ≡ apart_count ws → drop (n + 1) ws ≡ threads_words threads ++ the_end apart threads
  from_threads n is =
      subst (λ (x : ℕ). drop (x + 1) ws ≡ threads_words threads ++ the_end apart threads) (sym (is ∙ report_apart)) report_threads

  pub report_ends : (n k end : ℕ) → n ≡ apart_count ws → number (get_or ws 0 0) ≡ k → ThreadsEnd ws (n + 1) k end → end + 1 ≡ length ws
  report_ends n k end is width ends =
      let same : length threads ≡ k = omega (arith, report_head.1) in
      let last = ends.behind threads (the_end apart threads) same report.threads_fit (from_threads n is) in
      omega (arith, report_long, report_apart)

  -- thread `i` stands behind the `i` threads before it
  pub report_thread : (n i r : ℕ) → n ≡ apart_count ws → ThreadsEnd ws (n + 1) i r → i < length threads
      → (r ≡ thread_place apart threads i) × (rest : List ℕ) × (drop r ws ≡ thread_words (get_or threads i []) ++ rest)
  report_thread n i r is ends lt =
      let behind = thread_behind ws (n + 1) i r ends threads (the_end apart threads) lt report.threads_fit (from_threads n is) in
      (omega (arith, behind.0, report_apart), threads_words (drop (suc i) threads) ++ the_end apart threads, behind.1)

-- A whole report is one in one way only: its apart set and its threads are those that its words give back.
pub report_read : (ws apart : List ℕ) (threads : List (List ℕ)) → IsReport ws apart threads
    → (apart_of ws ≡ apart) × (threads_of ws ≡ threads)
report_read ws apart threads report =
    let small : All SmallThread threads = λ t m. (report.threads_fit t m).1 in (
      ap apart_of report.words ∙ apart_of_report apart threads report.width_fits report.apart_fits small,
      ap threads_of report.words ∙ threads_of_report apart threads report.width_fits report.apart_fits small,
    )

-- Words in which all that stands are a whole report.
words_found : (ws apart : List ℕ) (threads : List (List ℕ)) (end : ℕ) → end + 1 ≡ length ws → get_or ws 0 0 ≡ word 4 (length threads)
    → drop 1 ws ≡ map (word 5) apart ++ drop (1 + length apart) ws → drop (1 + length apart) ws ≡ threads_words threads ++ drop end ws
    → get_or ws end 0 ≡ word 15 end → ws ≡ report_words apart threads
words_found ws apart threads end long first apart_words threads-words last =
    let end-words : drop end ws ≡ word 15 end ∷ [] =
    drop-cons ws end 0 (omega arith) ∙ ap₂ (λ (x : ℕ) (l : List ℕ). x ∷ l) last (drop_of_length-le ws {i = suc end} (omega arith)) in
    let words : ws ≡ word 4 (length threads) ∷ behind_head apart threads end =
    drop-cons ws 0 0 (omega arith)
    ∙ ap₂ (λ (x : ℕ) (l : List ℕ). x ∷ l) first
    (apart_words
    ∙ ap (λ (l : List ℕ). map (word 5) apart ++ l) (threads-words ∙ ap (λ (l : List ℕ). threads_words threads ++ l) end-words)) in
    let at-end : end ≡ end_at apart threads =
    omega (
      arith,
      ap length words,
      length-append (map (word 5) apart) (threads_words threads ++ word 15 end ∷ []),
      length-append (threads_words threads) (word 15 end ∷ []),
      length-map apart (word 5),
    ) in
    words ∙ sym (report_shape apart threads end at-end)

-- the words that the count of the apart words counts are of kind 5
counted_fives : (ws : List ℕ) → OfKind ws 1 (apart_count ws + 1) 5
counted_fives ws j le lt =
    let same : 1 + (j - 1) ≡ j = omega arith in
    eqb-true (kind (get_or ws j 0)) 5
    (ap (λ (x : ℕ). eqb (kind (get_or ws x 0)) 5) (sym same) ∙ ap (λ (x : ℕ). eqb (kind x) 5) (sym (get_or-drop 1 ws (j - 1) 0))
    ∙ prefix_len_passes (λ w. eqb (kind w) 5) (drop 1 ws) (j - 1) 0 (omega arith))

-- words that pass all tests are a whole report
pub whole_found : (ws : List ℕ) (n k end : ℕ) → kind (get_or ws 0 0) ≡ 4 → number (get_or ws 0 0) ≡ k → n ≡ apart_count ws → n ≤ k
    → n + 1 ≤ length ws → ThreadsEnd ws (n + 1) k end → 0 < end → end + 1 ≡ length ws → kind (get_or ws end 0) ≡ 15 → number (get_or ws end 0) ≡ end
    → Whole ws
whole_found ws n k end four width is few long ends some long-end fifteen count =
    let fives = counted_fives ws in
    let (apart, size, small, apart_words) = run_words 5 n ws 1 (omega arith) (λ j le lt. fives j le (omega arith)) in
    let (threads, same, fit, threads-words) = ends.found (omega arith) in
    let there : 1 + n ≡ 1 + length apart = omega arith in
    let here : n + 1 ≡ 1 + length apart = omega arith in (
      apart,
      threads,
      record {
        words =
            words_found ws apart threads end long-end (omega arith) (rw (there) at apart_words) (rw (here) at threads-words) (omega arith);
        few = omega arith;
        width_fits = omega arith;
        apart_fits = small;
        threads_fit = fit;
        count_fits = omega arith;
      },
    )

-- where the count at the end decides
pub count_test : (ws : List ℕ) (count end : ℕ) → (count ≡ end → Whole ws) → (Whole ws → count ≡ end) → WholeTest ws (eqb count end)
count_test ws count end whole counted =
    record {
      whole = λ e. whole (eqb-true count end e);
      not_whole = λ e found. true≢false (sym (eq-eqb count end (counted found)) ∙ e);
    }

-- the answer no
pub not_whole : (ws : List ℕ) → ((apart : List ℕ) (threads : List (List ℕ)) → IsReport ws apart threads → ⊥) → WholeTest ws false
not_whole ws none =
    record { whole = λ e. absurd (true≢false (sym e)); not_whole = λ e found. none found.0 found.1 found.2 }

-- Thread `i` of a whole report, where it stands.
module _ (ws apart : List ℕ) (threads : List (List ℕ)) (report : IsReport ws apart threads) (i r : ℕ) (lt : i < length threads)
    (there : ThreadAt ws i r) where
  thread_stands : ThreadHere ws r (length (get_or threads i []))
  thread_stands =
      let (place, rest, words) = there apart threads report lt in
      thread_here ws r (get_or threads i []) rest (fit_at threads i lt report.threads_fit) words

  pub thread_room : Room ws r
  thread_room =
      let count = thread_stands.count in
      (omega (arith, thread_stands.some), omega (arith, thread_stands.fits))

  -- its steps' words
  pub thread_steps : take (number (get_or ws r 0)) (drop (r + 1) ws) ≡ map (word 7) (get_or threads i [])
  unfolding thread_words
  thread_steps =
      let t : List ℕ = get_or threads i [] in
      let (place, rest, words) = there apart threads report lt in
      let behind : drop (r + 1) ws ≡ map (word 7) t ++ rest = drop_behind ws r (word 6 (length t) ∷ []) (map (word 7) t ++ rest) words in
      ap (take (number (get_or ws r 0))) behind
      ∙ take_at (map (word 7) t) rest (number (get_or ws r 0)) (omega (arith, thread_stands.count, length-map t (word 7)))
