-- The joined rows one fact row after the other, and what a plan so far has made.
use Rattle.std.specs.Prelude.{ℕ, ◌≡◌, ◌<◌, ◌≤◌, ◌==◌, ◌&&◌, Bool, true, false, ◌⊎◌, List, [], ◌∷◌, Option, Some, None, map, flat_map, filter, length, ⊤}
use Rattle.std.specs.List.{All, list_any, list_all}
use Rattle.definitions_queries.specs.Queries.{Test}
use Rattle.definitions_operators.specs.Operators.{places, places_where}
use Rattle.catalog_core.specs.declared.columns.ColumnId.{ColumnId}
use Rattle.catalog_core.specs.declared.schemas.Schema.{Schema}
use Rattle.query_bind.specs.Binding.{Binding, Tested}
use Rattle.query_bind.specs.LawfulBindings.{operands}
use Rattle.query_bind.specs.declared.bounds.JoinTo.{JoinTo}
use Rattle.plan_core.specs.declared.plans.Input.{Input}
use Rattle.plan_core.specs.declared.plans.Input.TheVariants as input
use Rattle.plan_core.specs.Plans.{Steps}
use Rattle.plan_core.specs.Planner.{RowList, Rows, conditions_on, choices_of, is_joined, repeats}
use Rattle.definitions_blocks.specs.Columns.{max_rows}
use Rattle.plan_meaning.specs.StoredLists.{StoredLists, value_at, holds}
use Rattle.plan_meaning.specs.JoinedRows.{Combination, row_of, one_of_each}
use Rattle.plan_meaning.specs.Columns.{column}

-- # The joined rows, found from the fact rows

-- whether all conditions on a table hold at a row of it
abbrev pub passes : Binding → StoredLists → ℕ → ℕ → Bool
passes binding stored table row = list_all (λ tested. holds stored tested row) (conditions_on table binding.tests)

-- the rows of a table at which all conditions on it hold
abbrev pub passing_rows : Binding → StoredLists → ℕ → List ℕ
passing_rows binding stored table = places_where (passes binding stored table) (stored.rows table)

-- the rows of a dimension whose key equals the fact row's join column and at which all conditions on it hold
abbrev pub partners : Binding → StoredLists → ℕ → JoinTo → List ℕ
partners binding stored row to =
    places_where (λ other. passes binding stored to.key.table other && (value_at stored to.key other == value_at stored to.fact_column row))
    (stored.rows to.key.table)

-- the combinations with one fact row, with the dimensions of these joins
abbrev pub matches_of : Binding → StoredLists → List JoinTo → ℕ → List Combination
matches_of binding stored joins row = map (λ others. record { fact = row; rows = others }) (one_of_each (map (partners binding stored row) joins))

-- all of them, by the fact row, then by the dimension rows in the order of FROM
abbrev pub matched : Binding → StoredLists → List Combination
matched binding stored = flat_map (matches_of binding stored binding.joins) (passing_rows binding stored binding.fact)

-- # What a plan so far has made

-- the column with this number is made, and is the list
pub record Holds (stored : StoredLists) (steps : Steps) (number : ℕ) (list : List ℕ) : Type 0 where
  pub from : 1 ≤ number
  pub made : number ≤ steps.columns
  pub is : column stored steps.operators number ≡ list

-- an input is the list
abbrev pub Reads : StoredLists → Steps → Input → List ℕ → Type 0
Reads stored steps (input.Base id) list = stored.values id ≡ list
Reads stored steps (input.Made number) list = Holds stored steps number list

-- a position list, or all places where there is none, is the list
abbrev pub Lists : StoredLists → Steps → Option ℕ → ℕ → List ℕ → Type 0
Lists stored steps None rows list = list ≡ places rows
Lists stored steps (Some number) rows list = Holds stored steps number list

-- each row list is that table's rows in the combinations
abbrev pub HaveRows : Binding → StoredLists → Steps → List RowList → List Combination → Type 0
HaveRows binding stored steps lists combinations =
    All (λ rows. Holds stored steps rows.number (map (row_of binding rows.table) combinations)) lists

-- the fact list and the row lists, side by side, are the joined rows cut down to the fact table and the joined dimensions
pub record AreJoined (binding : Binding) (schema : Schema) (stored : StoredLists) (rows : Rows) : Type 0 where
  pub tables : map (λ list. list.table) rows.lists ≡ map (λ to. to.key.table) (filter (is_joined binding schema) binding.joins)
  pub facts : Lists stored rows.steps rows.facts (stored.rows binding.fact) (map (λ combination. combination.fact) (matched binding stored))
  pub lists : HaveRows binding stored rows.steps rows.lists (matched binding stored)

-- # What a lawful binding has

abbrev pub AreApart : List JoinTo → Type 0
AreApart [] = ⊤
AreApart (to ∷ joins) = All (λ other. (to.key.table == other.key.table) ≡ false) joins × AreApart joins

-- a column of the fact table or of a dimension of FROM
abbrev pub IsOfTables : Binding → ColumnId → Type 0
IsOfTables binding id =
    ((binding.fact == id.table) ≡ true) ⊎ (((binding.fact == id.table) ≡ false) × (list_any (λ to. to.key.table == id.table) binding.joins ≡ true))

-- a test of one literal at least, as Selects and Unions make its list
abbrev pub HasChoices : Tested → Type 0
HasChoices tested = (first : Test) × (more : List Test) × (choices_of tested.test ≡ first ∷ more)

pub record IsLawful (binding : Binding) : Type 0 where
  pub groups : All (IsOfTables binding) binding.groups
  pub sums : All (λ sum. All (IsOfTables binding) (operands sum)) binding.sums
  pub apart : AreApart binding.joins
  pub dimensions : All (λ to. (binding.fact == to.key.table) ≡ false) binding.joins
  pub facts : All (λ to. to.fact_column.table ≡ binding.fact) binding.joins
  pub tests : All (λ tested. IsOfTables binding tested.column) binding.tests
  pub chosen : All HasChoices binding.tests

-- no two rows have one key
abbrev pub HasApart : StoredLists → ColumnId → Type 0
HasApart stored key =
    (a b : ℕ) → a < stored.rows key.table → b < stored.rows key.table → value_at stored key a ≡ value_at stored key b → a ≡ b

-- # What stored data keep: every column has a value for each row of its table

pub record HasLengths (stored : StoredLists) : Type 0 where
  pub lengths : (id : ColumnId) → length (stored.values id) ≡ stored.rows id.table
  pub short : (table : ℕ) → stored.rows table ≤ max_rows

pub record StandsWhole (binding : Binding) (schema : Schema) (stored : StoredLists) : Type 0 where
  pub tables : HasLengths stored
  pub keys : All (λ to. repeats schema to.key.table ≡ false → HasApart stored to.key) binding.joins
