-- A word of 32 bits: its top 4 bits are its kind, its low 28 bits its number. The number of a head, that of a to word and that of a voices word are
-- two figures.
use Rattle.std.specs.Prelude.{ℕ, ◌+◌, ◌*◌, ◌/◌, ◌%◌, ◌^◌, ◌<◌}
use Rattle.logs.specs.declared.Kind.{Kind}
use Rattle.logs.specs.declared.Kind.TheVariants.{Head, From, To, Width, Apart, Thread, Step, Loop, Voices, End}

abbrev pub kind : ℕ → ℕ
kind w = w / 2 ^ 28

abbrev pub number : ℕ → ℕ
number w = w % 2 ^ 28

-- the word of kind `k` with the number `x`
abbrev pub word : ℕ → ℕ → ℕ
word k x = k * 2 ^ 28 + x

-- a number that a word can hold
abbrev pub Small : ℕ → Type 0
Small x = x < 2 ^ 28

-- how many episodes a head gives: bits 0 to 23
abbrev pub head_episodes : ℕ → ℕ
head_episodes w = number w % 2 ^ 24

-- its version: bits 24 to 27
abbrev pub head_version : ℕ → ℕ
head_version w = number w / 2 ^ 24

-- the head of version `v` with `n` episodes
abbrev pub head_of : ℕ → ℕ → ℕ
head_of v n = word 1 (v * 2 ^ 24 + n)

-- the later episode of a to word: bits 0 to 15
abbrev pub to_episode : ℕ → ℕ
to_episode w = number w % 2 ^ 16

-- its pause in minutes: bits 16 to 27
abbrev pub to_pause : ℕ → ℕ
to_pause w = number w / 2 ^ 16

-- the to word of the episode `b` and the pause `p`
abbrev pub to_word : ℕ → ℕ → ℕ
to_word b p = word 3 (p * 2 ^ 16 + b)

-- the episode of a voices word: bits 0 to 15
abbrev pub voices_episode : ℕ → ℕ
voices_episode w = number w % 2 ^ 16

-- its voices: bits 16 to 27
abbrev pub voices_given : ℕ → ℕ
voices_given w = number w / 2 ^ 16

-- the voices word of the episode `v` and `c` voices
abbrev pub voices_word : ℕ → ℕ → ℕ
voices_word v c = word 9 (c * 2 ^ 16 + v)

-- the number of a kind
abbrev pub kind_code : Kind → ℕ
kind_code Head = 1
kind_code From = 2
kind_code To = 3
kind_code Width = 4
kind_code Apart = 5
kind_code Thread = 6
kind_code Step = 7
kind_code Loop = 8
kind_code Voices = 9
kind_code End = 15
