-- The bytes of a log as words: questions 14, 15 and 11, and the words.
use Rattle.std.specs.Prelude.{◌≡◌, List, [], ◌∷◌, ◌++◌, ℕ, ◌+◌, ◌*◌, ◌/◌, ◌%◌, eqb, leb, length, get_or, drop, Result}
use Rattle.logs.specs.Answer.{Answer, given, refused, question, result_answer}
use Rattle.logs.specs.declared.Refusal.{Refusal}

-- the most bytes: those of the longest log that passes, 2 + 120 + 2 * 4,096 words, which has 120 voices words
abbrev pub most_bytes : ℕ
most_bytes = 33256

-- four bytes as a word, the lowest first
abbrev pub word_of : ℕ → ℕ → ℕ → ℕ → ℕ
word_of a b c d = a + 256 * b + 65536 * c + 16777216 * d

-- the words of the bytes; one to three bytes behind the last four give none
unfoldable pub words_of : List ℕ → List ℕ
words_of [] = []
words_of (a ∷ []) = []
words_of (a ∷ b ∷ []) = []
words_of (a ∷ b ∷ c ∷ []) = []
words_of (a ∷ b ∷ c ∷ d ∷ rest) = word_of a b c d ∷ words_of rest

-- the word of the four bytes from `at` on
abbrev pub word_at : List ℕ → ℕ → ℕ
word_at b at = word_of (get_or b at 0) (get_or b (at + 1) 0) (get_or b (at + 2) 0) (get_or b (at + 3) 0)

-- the bytes' answer in numbers: the count of words, or a refusal
abbrev pub taken_answer : Result ℕ Refusal → Answer ℕ
taken_answer = result_answer (λ n. n)

-- Questions 14, 15 and 11, of `bytes` bytes and `lent` words.
abbrev pub bytes_asked : ℕ → ℕ → Answer ℕ
bytes_asked bytes lent =
    question 14 most_bytes (leb bytes most_bytes)
    (question 15 bytes (eqb (bytes % 4) 0) (question 11 (bytes / 4) (leb (bytes / 4) lent) (given (bytes / 4))))

-- What the lent words `w` hold afterwards, by the answer: they begin with the words of the bytes, or are as they were.
abbrev pub words_after : List ℕ → List ℕ → Answer ℕ → List ℕ
words_after b w (given n) = words_of b ++ drop n w
words_after b w (refused q p) = w

-- What the call on the bytes `b` and the lent words `w` answers, and what it leaves in them, `w'`.
pub record WordsTaken (b w w' : List ℕ) (r : Result ℕ Refusal) : Type 0 where
  pub answer : taken_answer r ≡ bytes_asked (length b) (length w)
  pub words : w' ≡ words_after b w (taken_answer r)
