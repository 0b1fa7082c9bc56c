-- The words of a report and of a loop, and what is read back from a report's words.
use Rattle.std.specs.Prelude.{◌≡◌, true, false, List, [], ◌∷◌, ◌++◌, map, ℕ, zero, suc, ◌+◌, ◌*◌, ◌/◌, ◌≤◌, eqb, length, take, drop}
use Rattle.order.specs.Order.{All}
use Rattle.logs.specs.Words.{kind, number, word, Small}

-- a thread: kind 6 with its length, then its steps as kind 7
unfoldable pub thread_words : List ℕ → List ℕ
thread_words t = word 6 (length t) ∷ map (word 7) t

unfoldable pub threads_words : List (List ℕ) → List ℕ
threads_words [] = []
threads_words (t ∷ ts) = thread_words t ++ threads_words ts

-- the words, then kind F with their count
unfoldable pub ended : List ℕ → List ℕ
ended ws = ws ++ word 15 (length ws) ∷ []

-- a report: kind 4 with the width, which is the number of threads, the apart set as kind 5, the threads, and the end
unfoldable pub report_words : List ℕ → List (List ℕ) → List ℕ
report_words apart threads = ended (word 4 (length threads) ∷ map (word 5) apart ++ threads_words threads)

-- a loop: kind 8 with its length, then its episodes as kind 7
unfoldable pub loop_words : List ℕ → List ℕ
loop_words c = word 8 (length c) ∷ map (word 7) c

-- the output words that a report needs on a log with `n` episodes and `v` voices words: 2 + 2n + q without voices words, else 2 + 3n + 2q
abbrev pub report_need : ℕ → ℕ → ℕ
report_need n zero = 2 + 2 * n + (n + 1) * (n + 1) / 4
report_need n (suc v) = 2 + 3 * n + 2 * ((n + 1) * (n + 1) / 4)

-- a thread whose length and steps words can hold
abbrev pub SmallThread : List ℕ → Type 0
SmallThread t = Small (length t) × All Small t

-- the apart set in a report: the numbers of its kind 5 words
unfoldable pub apart_of : List ℕ → List ℕ
apart_of [] = []
apart_of (w ∷ ws) = elim (eqb (kind w) 5) [ true ↦ number w ∷ apart_of ws | false ↦ apart_of ws ]

-- the threads in a report: each kind 6 word gives one, the numbers of as many words behind it as its own number says
unfoldable pub threads_of : List ℕ → List (List ℕ)
threads_of [] = []
threads_of (w ∷ ws) = elim (eqb (kind w) 6) [ true ↦ map number (take (number w) ws) ∷ threads_of ws | false ↦ threads_of ws ]

-- the buffer `b'` begins with `ws` and is behind them as `b` was
abbrev pub BeginsWith : List ℕ → List ℕ → List ℕ → Type 0
BeginsWith ws b b' = (length ws ≤ length b) × (b' ≡ ws ++ drop (length ws) b)
