-- Tables that are those of a schema, and hold what is needed of them.
use Rattle.std.specs.Prelude.{◌≡◌, ℕ, Bool, true, false, ◌==◌, ◌<◌, ◌&&◌, not, List, map, length, Option, Some, None, is_some, IsSome, IfSome, IsTrue, slice_index, nat_eq}
use Rattle.std.specs.List.{AllByRecursion, IsDistinct, list_any}
use Rattle.catalog_core.specs.Columns.{table_at, column_at}
use Rattle.catalog_core.specs.declared.columns.ColumnId.{ColumnId}
use Rattle.catalog_core.specs.declared.columns.Needs.{Needs}
use Rattle.catalog_core.specs.declared.schemas.Kind.{Kind}
use Rattle.catalog_core.specs.declared.schemas.Kind.TheVariants as kind
use Rattle.catalog_core.specs.declared.schemas.ColumnDef.{ColumnDef}
use Rattle.catalog_core.specs.declared.schemas.TableDef.{TableDef}
use Rattle.catalog_core.specs.declared.schemas.Schema.{Schema}
use Rattle.table_core.specs.Tables.{Stored, TableState, rows_of, stored_at, key_values}

abbrev pub is_text : Kind → Bool
is_text kind.Number = false
is_text kind.Text = true

-- what a table and a schema's table have in common: the key, and how many columns there are
pub record Outline : Type 0 where
  pub key : Option ℕ
  pub columns : ℕ

abbrev pub outline_of : TableState → Outline
outline_of table = record { key = table.key; columns = length table.columns }

abbrev pub outline_in : TableDef → Outline
outline_in table = record { key = table.key; columns = length table.columns }

-- the tables are those of the schema, and just the text columns among those that are there have a dictionary
pub record AreTablesOf (schema : Schema) (tables : List TableState) : Type 0 where
  pub outlines : map outline_of tables ≡ map outline_in schema.tables
  pub texts : (id : ColumnId) (column : ColumnDef) (stored : Stored) → column_at schema id ≡ Some column → stored_at tables id ≡ Some stored
      → is_some stored.texts ≡ is_text column.kind

-- two rows have one key
pub record HasEqualKeys (values : List ℕ) : Type 0 where
  pub row : ℕ
  pub later : ℕ
  pub order : row < later
  pub within : later < length values
  pub equal : slice_index values row ≡ slice_index values later

-- whether a column is one of some columns
abbrev pub is_among : ColumnId → List ColumnId → Bool
is_among id ids = list_any (λ other. other.table == id.table && other.column == id.column) ids

-- whether the keys of a needed table have to differ: its key is needed, and may not repeat
abbrev pub needs_key : TableDef → Needs → ℕ → Option ℕ → Bool
needs_key definition needs table None = false
needs_key definition needs table (Some key) = not definition.repeats && is_among (record { table = table; column = key }) needs.columns

abbrev pub is_key_needed : TableDef → Needs → ℕ → Bool
is_key_needed definition needs table = needs_key definition needs table definition.key

abbrev pub KeysDiffer : Schema → Needs → List TableState → ℕ → Type 0
KeysDiffer schema needs tables table =
    IfSome (table_at schema table) (λ definition. IsTrue (is_key_needed definition needs table) → IfSome (key_values tables table) (IsDistinct nat_eq))

-- the tables are the schema's, with the needed row counts and columns
pub record HoldColumns (schema : Schema) (needs : Needs) (tables : List TableState) : Type 0 where
  pub of : AreTablesOf schema tables
  pub rows : AllByRecursion (λ table. IsSome (rows_of tables table)) needs.tables
  pub columns : AllByRecursion (λ id. IsSome (stored_at tables id)) needs.columns

-- they hold all that is needed, and keys that have to differ do
pub record HoldNeeds (schema : Schema) (needs : Needs) (tables : List TableState) : Type 0 where
  pub held : HoldColumns schema needs tables
  pub keys : AllByRecursion (KeysDiffer schema needs tables) needs.tables
