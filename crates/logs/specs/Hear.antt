-- What hears the links of a log one by one, as the log is read: those that a to word gives with a pause that lets them count.
use Rattle.std.specs.Prelude.{◌≡◌, Bool, true, false, List, [], ◌∷◌, ℕ, ◌+◌, ◌<◌, ◌^◌, length}

-- A hearer that has heard `links` may be told the link from `from`, whose row is `row`, to `to`: both are below `n`, of which it takes logs.
pub record Next (takes : ℕ → Type 0) (row_of : ℕ → ℕ) (heard : List (ℕ × ℕ) → Type 0) (row to : ℕ) : Type 0 where
  pub n : ℕ
  pub from : ℕ
  pub links : List (ℕ × ℕ)
  pub taken : takes n
  pub from_below : from < n
  pub to_below : to < n
  pub its_row : row ≡ row_of from
  pub before : heard links
  pub room : length links + 1 < 2 ^ 64

-- the link where its pause lets it count, else none
abbrev pub where_short : Bool → ℕ × ℕ → List (ℕ × ℕ)
where_short true link = link ∷ []
where_short false link = []
