-- The rules that a schema keeps.
use Rattle.std.specs.Prelude.{◌≡◌, ℕ, Bool, false, ◌||◌, ◌==◌, ◌≤◌, List, length, Option, Some, None, option_map, slice_get, IsTrue}
use Rattle.std.specs.List.{AllByRecursion, IsDistinct}
use Rattle.std.specs.Str.{bytes_eq}
use Rattle.stream_core.specs.Names.{IsName}
use Rattle.catalog_core.specs.Schemas.{max_tables, max_columns, table_names, column_names}
use Rattle.catalog_core.specs.declared.schemas.Role.{Role}
use Rattle.catalog_core.specs.declared.schemas.Role.TheVariants.{Fact, Dimension}
use Rattle.catalog_core.specs.declared.schemas.Kind.{Kind}
use Rattle.catalog_core.specs.declared.schemas.Kind.TheVariants as kind
use Rattle.catalog_core.specs.declared.schemas.ColumnDef.{ColumnDef}
use Rattle.catalog_core.specs.declared.schemas.TableDef.{TableDef}
use Rattle.catalog_core.specs.declared.schemas.Schema.{Schema}

-- a comma, a bar, a semicolon or a tab
abbrev pub is_separator : ℕ → Bool
is_separator byte = byte == 44 || byte == 124 || byte == 59 || byte == 9

-- the kind of the column at a place
abbrev pub kind_at : List ColumnDef → ℕ → Option Kind
kind_at columns place = option_map (λ column. column.kind) (slice_get columns place)

-- a fact table has no key and no keys that repeat; a dimension's key is a number column
abbrev pub KeepsRole : Role → TableDef → Type 0
KeepsRole Fact table = (table.key ≡ None) × (table.repeats ≡ false)
KeepsRole Dimension table = (place : ℕ) × (table.key ≡ Some place) × (kind_at table.columns place ≡ Some kind.Number)

-- the rules of one table
pub record IsTableDef (table : TableDef) : Type 0 where
  pub name : IsName table.name
  pub role : KeepsRole table.role table
  pub separator : IsTrue (is_separator table.separator)
  pub some : 1 ≤ length table.columns
  pub few : length table.columns ≤ max_columns
  pub names : AllByRecursion (λ column. IsName column.name) table.columns

-- The rules of a schema: not too many tables, each of which keeps its own, and no two tables and no two columns of one name.
pub record IsSchema (schema : Schema) : Type 0 where
  pub some : 1 ≤ length schema.tables
  pub few : length schema.tables ≤ max_tables
  pub tables : AllByRecursion IsTableDef schema.tables
  pub tables_differ : IsDistinct bytes_eq (table_names schema.tables)
  pub columns_differ : IsDistinct bytes_eq (column_names schema.tables)
