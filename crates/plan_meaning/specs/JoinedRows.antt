-- The joined rows of a bound query: what its answer is read from.
use Rattle.std.specs.Prelude.{ℕ, Bool, ◌==◌, ◌&&◌, filter, List, [], ◌∷◌, map, flat_map, if◌then◌else◌}
use Rattle.std.specs.List.{list_all}
use Rattle.definitions_operators.specs.Operators.{places}
use Rattle.catalog_core.specs.declared.columns.ColumnId.{ColumnId}
use Rattle.query_bind.specs.Binding.{Binding, Tested}
use Rattle.query_bind.specs.declared.bounds.JoinTo.{JoinTo}
use Rattle.plan_meaning.specs.StoredLists.{StoredLists, value_at, holds}

-- a row of the fact table, and a row of each dimension, in the order of FROM
pub record Combination : Type 0 where
  pub fact : ℕ
  pub rows : List ℕ

-- the row of a dimension, among those of the dimensions that are joined so
abbrev pub row_among : ℕ → List JoinTo → List ℕ → ℕ
row_among table [] rows = 0
row_among table (to ∷ joins) [] = 0
row_among table (to ∷ joins) (row ∷ rows) = if to.key.table == table then row else row_among table joins rows

-- a combination's row of a table, and its value in a column
abbrev pub row_of : Binding → ℕ → Combination → ℕ
row_of binding table combination = if binding.fact == table then combination.fact else row_among table binding.joins combination.rows

abbrev pub value_in : Binding → StoredLists → ColumnId → Combination → ℕ
value_in binding stored column combination = value_at stored column (row_of binding column.table combination)

-- all ways to take one of each list; those with the same first ones stand together
abbrev pub one_of_each : List (List ℕ) → List (List ℕ)
one_of_each [] = [] ∷ []
one_of_each (first ∷ rest) = flat_map (λ row. map (λ others. row ∷ others) (one_of_each rest)) first

-- all combinations, by the fact row, then by the dimensions' rows
abbrev pub combinations : Binding → StoredLists → List Combination
combinations binding stored =
    flat_map (λ fact. map (λ rows. record { fact = fact; rows = rows }) (one_of_each (map (λ to. places (stored.rows to.key.table)) binding.joins)))
    (places (stored.rows binding.fact))

-- whether the two columns of a join are equal, and whether a condition holds
abbrev pub is_matched : Binding → StoredLists → Combination → JoinTo → Bool
is_matched binding stored combination to = value_in binding stored to.key combination == value_in binding stored to.fact_column combination

abbrev pub is_tested : Binding → StoredLists → Combination → Tested → Bool
is_tested binding stored combination tested = holds stored tested (row_of binding tested.column.table combination)

-- the combinations at which every join and every condition holds
abbrev pub joined_rows : Binding → StoredLists → List Combination
joined_rows binding stored =
    filter (λ combination. list_all (is_matched binding stored combination) binding.joins && list_all (is_tested binding stored combination) binding.tests)
    (combinations binding stored)
