-- The law of plans: what the columns of a bound query's plan are.
use Rattle.std.specs.Prelude.{ℕ, ◌≡◌, ◌*◌, ◌≤◌, false, List, [], ◌∷◌, map, length, nat_eq, slice_index, Option, Some, None, option_map, Bool, get_or}
use Rattle.std.specs.List.{All, Contains, IsDistinct}
use Rattle.definitions_operators.specs.Operators.{places}
use Rattle.definitions_operators.specs.Groups.{first_places, tuple_of, same_tuple, groups_of, operand_of}
use Rattle.catalog_core.specs.declared.columns.ColumnId.{ColumnId}
use Rattle.catalog_core.specs.declared.schemas.Schema.{Schema}
use Rattle.query_bind.specs.Binding.{Binding}
use Rattle.query_bind.specs.LawfulBindings.{IsBinding, from_tables}
use Rattle.query_bind.specs.declared.bounds.SumOf.{SumOf}
use Rattle.query_bind.specs.declared.bounds.SumOf.TheVariants as operand
use Rattle.plan_core.specs.declared.plans.SumPlace.{SumPlace}
use Rattle.plan_core.specs.Plans.{Plan}
use Rattle.plan_core.specs.Planner.{repeats}
use Rattle.plan_core.specs.WholePlan.{plan_of}
use Rattle.definitions_blocks.specs.Columns.{max_rows}
use Rattle.plan_meaning.specs.StoredLists.{StoredLists}
use Rattle.plan_meaning.specs.JoinedRows.{Combination, value_in, joined_rows}
use Rattle.plan_meaning.specs.Columns.{columns_after, column, too_many_of}
use Rattle.plan_meaning.specs.Operands.{MetSoFar}
use Rattle.plan_meaning.specs.Shapes.{IsNeeded}

-- # The data

-- no two rows have one key
abbrev pub HasDistinct : StoredLists → ColumnId → Type 0
HasDistinct stored key = IsDistinct nat_eq (stored.values key)

-- The data stand for a query: each column that it names has a value for each row of its table, no table of FROM is too long, and keys
-- are distinct unless the schema lets them repeat.
pub record StandsFor (schema : Schema) (binding : Binding) (stored : StoredLists) : Type 0 where
  pub lengths : (id : ColumnId) → IsNeeded binding id → length (stored.values id) ≡ stored.rows id.table
  pub short : All (λ table. stored.rows table ≤ max_rows) (from_tables binding)
  pub keys : All (λ to. repeats schema to.key.table ≡ false → HasDistinct stored to.key) binding.joins

-- # The query's answer, as numbers and codes

abbrev pub group_columns : Binding → StoredLists → List (Combination → ℕ)
group_columns binding stored = map (value_in binding stored) binding.groups

-- the groups, by first occurrence among the joined rows; without GROUP BY there is one
abbrev pub groups_by : List (Combination → ℕ) → List Combination → List (List ℕ)
groups_by [] rows = [] ∷ []
groups_by (first ∷ later) rows = groups_of (first ∷ later) rows

abbrev pub query_groups : Binding → StoredLists → List (List ℕ)
query_groups binding stored = groups_by (group_columns binding stored) (joined_rows binding stored)

-- the tuple of the row at a place
abbrev pub tuple_at_row : List (Combination → ℕ) → List Combination → ℕ → List ℕ
tuple_at_row columns rows place = get_or (map (tuple_of columns) rows) place []

-- What groups are: no two are equal, each row has its own among them, and they stand as they first occur.
abbrev pub are_alike : List (Combination → ℕ) → List Combination → ℕ → ℕ → Bool
are_alike columns rows a b = same_tuple (tuple_at_row columns rows a) (tuple_at_row columns rows b)

pub record AreDistinctGroups (columns : List (Combination → ℕ)) (rows : List Combination) (groups : List (List ℕ)) : Type 0 where
  pub differ : IsDistinct same_tuple groups
  pub all : All (λ row. Contains groups (tuple_of columns row)) rows
  pub first : groups ≡ map (tuple_at_row columns rows) (first_places (are_alike columns rows) (length rows))

abbrev pub GroupsAreDistinct : Type 0
GroupsAreDistinct = (columns : List (Combination → ℕ)) (rows : List Combination) → AreDistinctGroups columns rows (groups_of columns rows)

-- the sums of a column of the joined rows, one for each group
abbrev pub group_sums : Binding → StoredLists → (Combination → ℕ) → List ℕ
group_sums binding stored summed =
    map (operand_of (group_columns binding stored) summed (joined_rows binding stored)) (query_groups binding stored)

-- the sums of an item, or those of both operands of a difference
pub record SumLists : Type 0 where
  pub first : List ℕ
  pub second : Option (List ℕ)

abbrev pub query_sums : Binding → StoredLists → SumOf → SumLists
query_sums binding stored (operand.Plain id) = record { first = group_sums binding stored (value_in binding stored id); second = None }
query_sums binding stored (operand.Product left right) =
    record { first = group_sums binding stored (λ row. value_in binding stored left row * value_in binding stored right row); second = None }
query_sums binding stored (operand.Difference left right) =
    record { first = group_sums binding stored (value_in binding stored left); second = Some (group_sums binding stored (value_in binding stored right)) }

-- # The plan's columns

-- the columns of a plan with these numbers
abbrev pub key_lists : StoredLists → Plan → List (List ℕ)
key_lists stored plan = map (column stored plan.operators) plan.keys

abbrev pub sum_lists : StoredLists → Plan → SumPlace → SumLists
sum_lists stored plan place = record { first = column stored plan.operators place.first; second = option_map (column stored plan.operators) place.second }

-- the tuple at a place of columns, and the tuples at the first n places
abbrev pub tuple_at : List (List ℕ) → ℕ → List ℕ
tuple_at columns place = map (λ list. slice_index list place) columns

abbrev pub side_by_side : ℕ → List (List ℕ) → List (List ℕ)
side_by_side n columns = map (tuple_at columns) (places n)

-- What a plan's columns mean, over stored data. The columns of keys, side by side, are the groups, and the columns of sums are the
-- groups' sums.
pub record MeansQuery (binding : Binding) (stored : StoredLists) (plan : Plan) : Type 0 where
  pub numbered : length (columns_after stored [] plan.operators) ≡ plan.columns
  pub met : MetSoFar (length (joined_rows binding stored)) stored [] plan.operators
  pub keys : side_by_side (length (query_groups binding stored)) (key_lists stored plan) ≡ query_groups binding stored
  pub lengths : All (λ list. length list ≡ length (query_groups binding stored)) (key_lists stored plan)
  pub sums : map (sum_lists stored plan) plan.sums ≡ map (query_sums binding stored) binding.sums

-- Over all data that stand.
abbrev pub PlanMeansQuery : Schema → Binding → Type 0
PlanMeansQuery schema binding = IsBinding schema binding → (stored : StoredLists) → StandsFor schema binding stored → MeansQuery binding stored (plan_of binding schema)

-- If no dimension's keys may repeat, no Join is too large.
abbrev pub PlanFits : Schema → Binding → Type 0
PlanFits schema binding =
    IsBinding schema binding → All (λ to. repeats schema to.key.table ≡ false) binding.joins → (stored : StoredLists) → StandsFor schema binding stored
    → too_many_of stored (plan_of binding schema).operators ≡ None
