-- How long a text is: that of every report, every loop and every refusal fits the bytes that a text buffer has at least.
use mathlib.Core.Path.{◌≡◌, refl}
use mathlib.Core.List.{List, [], ◌∷◌, ◌++◌, map}
use mathlib.Core.List.Memᴰ.{head as here, tail as there}
use Prim.Native.Nat.{ℕ, suc, ◌+◌, ◌*◌, ◌^◌, ◌≤◌, ◌<◌}
use native.Mathlib.Nat.{mul-le-mul}
use native.Mathlib.Omega.{arith}
use lib.Chars.{codes}
use lib.ListN.{length, get_or, length-append}
use Rattle.std.proofs.lemmas.Fmt.{length-decimal-le}
use Rattle.order.specs.Order.{All}
use Rattle.logs.specs.Words.{number}
use Rattle.paths.specs.Graph.{total_steps}
use Rattle.writing.specs.Layout.{report_words, report_need, apart_of, threads_of}
use Rattle.writing.proofs.Layouts.{length_report}
use Rattle.text.specs.Text.{figure, figures, line, thread_lines, report_text, refusal_text, loop_text}

-- a figure with at most `k` digits
figure_short : (k n : ℕ) → 0 < k → n < 10 ^ k → n < 2 ^ 64 → length (figure n) ≤ k + 1
figure_short k n some few fits = omega (arith, length-decimal-le k n some few fits)

-- a line takes its name, its figures and one byte
length_line : (name ns : List ℕ) → length (line name ns) ≡ length name + length (figures ns) + 1
length_line name ns = omega (arith, length-append (name ++ figures ns) (10 ∷ []), length-append name (figures ns))

-- figures of at most three digits
figures_short : (ns : List ℕ) → All (λ v. v < 1000) ns → length (figures ns) ≤ 4 * length ns
figures_short [] small = omega arith
figures_short (n ∷ ns) small =
    omega (
      arith,
      length-append (figure n) (figures ns),
      figure_short 3 n (omega arith) (small n (here refl)) (omega (arith, small n (here refl))),
      figures_short ns (λ v m. small v (there m)),
    )

-- lines of threads with such steps
threads_short : (ts : List (List ℕ)) → All (All (λ v. v < 1000)) ts → length (thread_lines ts) ≤ 7 * length ts + 4 * total_steps ts
unfolding total_steps
threads_short [] small = omega arith
threads_short (t ∷ ts) small =
    omega (
      arith,
      length-append (line (codes "thread") t) (thread_lines ts),
      length_line (codes "thread") t,
      figures_short t (small t (here refl)),
      threads_short ts (λ u m. small u (there m)),
    )

-- a report whose figures have at most three digits, its link count at most four, takes four bytes for each word, three more for each thread, and 32
pub report_length : (n links : ℕ) (ws apart : List ℕ) (threads : List (List ℕ)) → n < 1000 → links < 10000 → length threads < 1000
    → All (λ v. v < 1000) apart → All (All (λ v. v < 1000)) threads → apart_of ws ≡ apart → threads_of ws ≡ threads
    → number (get_or ws 0 0) ≡ length threads → length ws ≡ length (report_words apart threads)
    → length (report_text n links ws) ≤ 32 + 4 * length ws + 3 * length threads
unfolding report_text
report_length n links ws apart threads n_few links_few few small steps a ts k count =
    let first : List ℕ = line (codes "episodes") (n ∷ []) in
    let second : List ℕ = line (codes "links") (links ∷ []) in
    let third : List ℕ = line (codes "width") (number (get_or ws 0 0) ∷ []) in
    let fourth : List ℕ = line (codes "apart") (apart_of ws) in
    let fifth : List ℕ = thread_lines (threads_of ws) in
    let one : length (figures (n ∷ [])) ≤ 4 = omega (arith, length-append (figure n) [], figure_short 3 n (omega arith) n_few (omega (arith, n_few))) in
    let two : length (figures (links ∷ [])) ≤ 5 =
    omega (arith, length-append (figure links) [], figure_short 4 links (omega arith) links_few (omega (arith, links_few))) in
    let width : number (get_or ws 0 0) < 1000 = omega (arith, k, few) in
    let three : length (figures (number (get_or ws 0 0) ∷ [])) ≤ 4 =
    omega (
      arith,
      length-append (figure (number (get_or ws 0 0))) [],
      figure_short 3 (number (get_or ws 0 0)) (omega arith) width (omega (arith, width)),
    ) in
    let four : length (figures (apart_of ws)) ≤ 4 * length apart = rw a (figures_short apart small) in
    let five : length fifth ≤ 7 * length threads + 4 * total_steps threads = rw ts (threads_short threads steps) in
    omega (
      arith,
      one,
      two,
      three,
      four,
      five,
      count,
      length_report apart threads,
      length_line (codes "episodes") (n ∷ []),
      length_line (codes "links") (links ∷ []),
      length_line (codes "width") (number (get_or ws 0 0) ∷ []),
      length_line (codes "apart") (apart_of ws),
      length-append (first ++ second ++ third ++ fourth) fifth,
      length-append (first ++ second ++ third) fourth,
      length-append (first ++ second) third,
      length-append first second,
    )

-- a refusal
pub refusal_length : (q p : ℕ) → q < 2 ^ 32 → p < 2 ^ 64 → length (refusal_text q p) ≤ 43
unfolding refusal_text
refusal_length q p few fits =
    let tail : List ℕ = codes "refused" ++ figure q ++ codes " at" in
    omega (
      arith,
      figure_short 10 q (omega arith) (omega (arith, few)) (omega (arith, few)),
      figure_short 20 p (omega arith) (omega (arith, fits)) fits,
      length-append (tail ++ figure p) (10 ∷ []),
      length-append tail (figure p),
      length-append (codes "refused" ++ figure q) (codes " at"),
      length-append (codes "refused") (figure q),
    )

-- a loop of few episodes
pub loop_length : (c : ℕ) (steps loop : List ℕ) → c < 1000 → All (λ v. v < 1000) loop → map number steps ≡ loop → length loop ≡ c
    → length (loop_text c steps) ≤ 48 + 4 * c
unfolding loop_text
loop_length c steps loop few small e count =
    let figures_few : length (figures (map number steps)) ≤ 4 * length loop = rw e (figures_short loop small) in
    omega (
      arith,
      figures_few,
      count,
      refusal_length 13 c (omega arith) (omega (arith, few)),
      length_line (codes "loop") (map number steps),
      length-append (refusal_text 13 c) (line (codes "loop") (map number steps)),
    )

-- The words that a report needs are at most 10,502, and with voices words at most 7,682.
pub need_few : (n : ℕ) → n ≤ 200 → report_need n 0 ≤ 10502
need_few n few =
    let square : (n + 1) * (n + 1) ≤ 201 * 201 = mul-le-mul {n₁ = n + 1} {m₁ = n + 1} {n₂ = 201} {m₂ = 201} (omega arith) (omega arith) in
    omega (arith, square, few)

pub need_with_voices : (n v : ℕ) → n ≤ 120 → report_need n (suc v) ≤ 7682
need_with_voices n v few =
    let square : (n + 1) * (n + 1) ≤ 121 * 121 = mul-le-mul {n₁ = n + 1} {m₁ = n + 1} {n₂ = 121} {m₂ = 121} (omega arith) (omega arith) in
    omega (arith, square, few)
