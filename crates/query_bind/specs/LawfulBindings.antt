-- What the binding of a query to a schema keeps.
use Rattle.std.specs.Prelude.{◌≡◌, ◌<◌, ◌≤◌, ℕ, ◌+◌, Bool, false, not, List, [], ◌∷◌, length, map, nat_eq, IsTrue, IsSome}
use Rattle.std.specs.List.{AllByRecursion, Contains, IsDistinct, range_with_len}
use Rattle.std.specs.Option.{option_map_or}
use Rattle.definitions_queries.specs.Entries.{total, max_entries}
use Rattle.catalog_core.specs.Schemas.{is_number}
use Rattle.catalog_core.specs.Columns.{table_at, column_at}
use Rattle.catalog_core.specs.declared.schemas.Schema.{Schema}
use Rattle.catalog_core.specs.declared.columns.ColumnId.{ColumnId}
use Rattle.query_bind.specs.Binding.{Binding, Tested, is_fact_role, is_fact, kind_of, can_join, literals_of, fits}
use Rattle.query_bind.specs.declared.bounds.JoinTo.{JoinTo}
use Rattle.query_bind.specs.declared.bounds.SumOf.{SumOf}
use Rattle.query_bind.specs.declared.bounds.SumOf.TheVariants as operand
use Rattle.query_bind.specs.declared.bounds.Item.{Item}
use Rattle.query_bind.specs.declared.bounds.Item.TheVariants as item

abbrev pub is_dimension : Schema → ℕ → Bool
is_dimension schema table = option_map_or (λ one. not (is_fact_role one.role)) (table_at schema table) false

-- the tables of FROM, the fact table first
abbrev pub from_tables : Binding → List ℕ
from_tables binding = binding.fact ∷ binding.dimensions

-- a column of the schema, of a table of FROM
pub record IsOfFrom (schema : Schema) (binding : Binding) (id : ColumnId) : Type 0 where
  pub column : IsSome (column_at schema id)
  pub table : Contains (from_tables binding) id.table

-- such a column with numbers
pub record IsOperand (schema : Schema) (binding : Binding) (id : ColumnId) : Type 0 where
  pub of_from : IsOfFrom schema binding id
  pub numbers : IsTrue (is_number (kind_of schema id))

-- a number column of the fact table, and the key of a dimension
pub record IsJoin (schema : Schema) (binding : Binding) (to : JoinTo) : Type 0 where
  pub fact_column : IsOfFrom schema binding to.fact_column
  pub key : IsOfFrom schema binding to.key
  pub joins : IsTrue (can_join schema binding.fact to.fact_column to.key)

-- a column, and some literals of its kind
pub record IsTested (schema : Schema) (binding : Binding) (tested : Tested) : Type 0 where
  pub column : IsOfFrom schema binding tested.column
  pub some : 1 ≤ length (literals_of tested.test)
  pub fit : AllByRecursion (λ literal. IsTrue (fits (kind_of schema tested.column) literal)) (literals_of tested.test)

-- the columns of a sum
abbrev pub operands : SumOf → List ColumnId
operands (operand.Plain first) = first ∷ []
operands (operand.Product first second) = first ∷ second ∷ []
operands (operand.Difference first second) = first ∷ second ∷ []

-- the number of one of the groups, or of one of the sums
abbrev pub IsItem : Binding → Item → Type 0
IsItem binding (item.Group number) = number < length binding.groups
IsItem binding (item.Sum number) = number < length binding.sums

-- the numbers of the sums among items
abbrev pub sum_numbers : List Item → List ℕ
sum_numbers [] = []
sum_numbers (item.Group number ∷ more) = sum_numbers more
sum_numbers (item.Sum number ∷ more) = number ∷ sum_numbers more

-- a test and its literals
abbrev pub tested_entries : Tested → ℕ
tested_entries tested = 1 + length (literals_of tested.test)

-- items, tables, tests, literals, groups and order keys
abbrev pub binding_entries : Binding → ℕ
binding_entries binding =
    length binding.items + length (from_tables binding) + total tested_entries binding.tests + length binding.groups + length binding.order

-- One fact table and dimensions that differ, each joined once, in their order. All columns are of these tables. Each sum stands once among the items, in
-- their order, and all numbers are within their lists.
pub record IsBinding (schema : Schema) (binding : Binding) : Type 0 where
  pub fact : IsTrue (is_fact schema binding.fact)
  pub dimensions : AllByRecursion (λ table. IsTrue (is_dimension schema table)) binding.dimensions
  pub dimensions_differ : IsDistinct nat_eq binding.dimensions
  pub joined : map (λ to. to.key.table) binding.joins ≡ binding.dimensions
  pub joins : AllByRecursion (IsJoin schema binding) binding.joins
  pub tests : AllByRecursion (IsTested schema binding) binding.tests
  pub groups : AllByRecursion (IsOfFrom schema binding) binding.groups
  pub sums : AllByRecursion (λ sum. AllByRecursion (IsOperand schema binding) (operands sum)) binding.sums
  pub some : 1 ≤ length binding.items
  pub items : AllByRecursion (IsItem binding) binding.items
  pub listed : sum_numbers binding.items ≡ range_with_len 0 (length binding.sums)
  pub few_sums : length binding.sums ≤ length binding.items
  pub order : AllByRecursion (λ key. IsItem binding key.item) binding.order
  pub few : binding_entries binding ≤ max_entries
