-- Chains and antichains of a relation on any type, as lists.
use Rattle.std.specs.Prelude.{◌≡◌, ◌≢◌, length}
use mathlib.Core.List.{List, [], ◌∷◌, Memᴰ as Mem, Nodup, Pairwise}

-- `P` holds of every member of `l`
abbrev pub All : {A : Type 0} → (A → Type 0) → List A → Type 0
All {A} P l = (x : A) → Mem x l → P x

-- `x` is a member of one of `ls`
abbrev pub On : {A : Type 0} → List (List A) → A → Type 0
On {A} ls x = (l : List A) × Mem l ls × Mem x l

abbrev pub Transitive : {A : Type 0} → (A → A → Type 0) → Type 0
Transitive {A} R = (a b c : A) → R a b → R b c → R a c

-- a strict order: irreflexive and transitive
pub record StrictOrder {A : Type 0} (R : A → A → Type 0) : Type 0 where
  pub irreflexive : (a : A) → R a a → ⊥
  pub transitive : Transitive R

-- a chain: one element or more, each before the next
pub data Chain {A : Type 0} (R : A → A → Type 0) : List A → Type 0 where
  single : {a : A} → Chain R (a ∷ [])
  more : {a b : A} {l : List A} → R a b → Chain R (b ∷ l) → Chain R (a ∷ b ∷ l)

-- an antichain: no element twice, and none before another
pub record Antichain {A : Type 0} (R : A → A → Type 0) (s : List A) : Type 0 where
  pub once : Nodup s
  pub apart : {a b : A} → Mem a s → Mem b s → a ≢ b → R a b → ⊥

-- `c` holds exactly one member of `s`
abbrev pub HoldsOne : {A : Type 0} → List A → List A → Type 0
HoldsOne {A} s c = (x : A) × Mem x s × Mem x c × ((y : A) → Mem y s → Mem y c → y ≡ x)

-- no element is in two of the lists
abbrev pub Disjoint : {A : Type 0} → List (List A) → Type 0
Disjoint {A} = Pairwise (λ (c d : List A). (x : A) → Mem x c → Mem x d → ⊥)

-- the chains `cs` part `X` among them: a chain partition
pub record ChainPartition {A : Type 0} (R : A → A → Type 0) (X : List A) (cs : List (List A)) : Type 0 where
  pub chains : All (Chain R) cs
  pub within : All (All (λ x. Mem x X)) cs
  pub disjoint : Disjoint cs
  pub covered : All (On cs) X

-- a chain partition of `X` and an antichain in it, as many chains as members
pub record Dilworth {A : Type 0} (R : A → A → Type 0) (X : List A) : Type 0 where
  pub chains : List (List A)
  pub antichain : List A
  pub partition : ChainPartition R X chains
  pub is_antichain : Antichain R antichain
  pub within : All (λ x. Mem x X) antichain
  pub same : length chains ≡ length antichain
