-- The tables of the search in the work words, and what each of its functions leaves there.
use Rattle.std.specs.Prelude.{◌≡◌, Option, Some, None, List, ℕ, ◌+◌, ◌-◌, ◌*◌, ◌≤◌, ◌<◌, length, get_or}
use Rattle.bits.specs.Bits.{bit}
use Rattle.bits.specs.Work.{next_at, prev_at, via_at, queue_at, seen_at, dead_at, used_words, Outside, none_at, matrix_words}
use Rattle.std.specs.declared.ops.ControlFlow.{ControlFlow}
use Rattle.std.specs.declared.ops.ControlFlow.TheVariants.{Continue, Break}
use Rattle.searching.specs.Items.{Tables, Matching, Dead, Searching, Saw, Trail, Flipping, Flipped}

-- the tables in the work words
abbrev pub tables : List ℕ → Tables
tables w =
    record {
      next = λ a. get_or w (next_at + a) 0;
      prev = λ b. get_or w (prev_at + b) 0;
      via = λ b. get_or w (via_at + b) 0;
      queue = λ p. get_or w (queue_at + p) 0;
      seen = λ b. bit w seen_at b;
    }

-- the word of a table that names an item, or none
abbrev pub figure : Option ℕ → ℕ
figure (Some x) = x + 1
figure None = 0

-- what is dead, in the work words
abbrev pub deads : List ℕ → ℕ → ℕ
deads w b = bit w dead_at b

-- the pairs of the matrix at `base`
abbrev pub Pairs : ℕ → List ℕ → ℕ → ℕ → Type 0
Pairs base w a b = bit w (base + 8 * a) b ≡ 1

-- the work words and a matrix among them, for `m` items
pub record Sized (w : List ℕ) (base m : ℕ) : Type 0 where
  pub long : used_words ≤ length w
  pub matrix : base + matrix_words ≤ next_at
  pub items : m < 256

-- `b` is put behind `a`
pub record PutIn (w w' : List ℕ) (a b : ℕ) : Type 0 where
  pub outside : Outside next_at via_at w w'
  pub flipped : Flipped 256 (tables w) (tables w') a b

-- nothing is seen and nothing is dead
pub record ForgottenIn (w w' : List ℕ) : Type 0 where
  pub outside : Outside seen_at none_at w w'
  pub none_seen : (b : ℕ) → b < 256 → (tables w').seen b ≡ 0
  pub none_dead : (b : ℕ) → b < 256 → deads w' b ≡ 0

-- `b` becomes seen from the place `head`
pub record SawIn (w w' : List ℕ) (head b tail : ℕ) : Type 0 where
  pub outside : Outside via_at dead_at w w'
  pub saw : Saw 256 (tables w) (tables w') head b tail

-- the search goes on at `head` of the queue
abbrev pub ShowAsked : List ℕ → ℕ → ℕ → ℕ → ℕ → Type 0
ShowAsked w base m head tail =
    Sized w base m × Matching m (tables w) × Searching m (Pairs base w) (deads w) (tables w) head 0 tail × (head < tail)

-- What the item at `head` of the queue leads to: an item with none before it, or, where `item` is `m`, only to more of the queue.
pub record ShownIn (w w' : List ℕ) (base m head item tail : ℕ) : Type 0 where
  pub outside : Outside via_at dead_at w w'
  pub source : (tables w').queue 0 ≡ (tables w).queue 0
  pub item_le : item ≤ m
  pub done : item ≡ m → Searching m (Pairs base w) (deads w) (tables w') (head + 1) 0 tail
  pub found : item < m
      → Trail m (Pairs base w) (deads w) (tables w') tail × Flipping m (Pairs base w) (deads w) (tables w') (tables w') tail item

-- what `show` gives: such an item, or the new end of the queue
abbrev pub ShownAs : List ℕ → List ℕ → ℕ → ℕ → ℕ → ControlFlow ℕ ℕ → Type 0
ShownAs w w' base m head (Break item) = (tail : ℕ) × (item < m) × ShownIn w w' base m head item tail
ShownAs w w' base m head (Continue tail) = ShownIn w w' base m head m tail

-- What a search from `a` finds: an item with none before it and the way back from it, or, where `item` is `m`, nothing.
pub record SearchedIn (w w' : List ℕ) (base m a item : ℕ) : Type 0 where
  pub outside : Outside via_at dead_at w w'
  pub source : (tables w').queue 0 ≡ a
  pub item_le : item ≤ m
  pub exhausted : item ≡ m → Dead m (Pairs base w) (tables w') (tables w').seen (a + 1)
  pub found : item < m
      → (tail : ℕ)
      × (tail ≤ m)
      × Trail m (Pairs base w) (deads w) (tables w') tail
      × Flipping m (Pairs base w) (deads w) (tables w') (tables w') tail item

-- `b` was seen from a place of the queue
abbrev pub FlipAsked : List ℕ → ℕ → Type 0
FlipAsked w b =
    (used_words ≤ length w) × (b < 256) × (0 < (tables w).via b) × ((tables w).via b ≤ 256) × ((tables w).queue ((tables w).via b - 1) < 256)

-- `b` is put behind the item from which it was seen; `old` is, plus one, what stood behind that
pub record FlippedIn (w w' : List ℕ) (b old : ℕ) : Type 0 where
  pub put : PutIn w w' ((tables w).queue ((tables w).via b - 1)) b
  pub before : old ≡ (tables w).next ((tables w).queue ((tables w).via b - 1))

-- sound chains in which the items below `a` have been searched from; what is dead is seen, and nothing else
pub record Extendable (w : List ℕ) (base m a : ℕ) : Type 0 where
  pub sized : Sized w base m
  pub matching : Matching m (tables w)
  pub seen_dead : (b : ℕ) → b < m → (tables w).seen b ≡ deads w b
  pub dead : Dead m (Pairs base w) (tables w) (deads w) a
