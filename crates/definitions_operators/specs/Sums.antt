-- What a query asks of a table's rows.
use Rattle.std.specs.Prelude.{ℕ, List, [], ◌∷◌, map, filter, zip, sum, Option, Some, None}
use Rattle.definitions_operators.specs.Operators.{is_within}

-- the values of the first column in the rows whose other column is from low to high, row by row
abbrev pub kept_values : List ℕ → List ℕ → ℕ → ℕ → List ℕ
kept_values summed tested low high = map (λ row. row.0) (filter (λ row. is_within low high row.1) (zip summed tested))

-- the sum of values, and nothing over no rows
abbrev pub sum_over : List ℕ → Option ℕ
sum_over [] = None
sum_over (value ∷ values) = Some (sum (value ∷ values))
