-- The numbers that pass a test.
use Rattle.std.specs.Prelude.{Bool, true, false, List, [], ◌∷◌, ◌++◌, ℕ, zero, suc}

-- `k` behind `l` where the test passes
abbrev pub extend : Bool → List ℕ → ℕ → List ℕ
extend true l k = l ++ k ∷ []
extend false l k = l

-- the numbers below `k` that pass, rising
unfoldable pub passing : (ℕ → Bool) → ℕ → List ℕ
passing test zero = []
passing test (suc k) = extend (test k) (passing test k) k
