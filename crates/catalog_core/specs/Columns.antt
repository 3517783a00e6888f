-- The tables and columns of a schema by number, and lists of those that are needed.
use Rattle.std.specs.Prelude.{ℕ, ◌<◌, Bool, ◌&&◌, ◌||◌, ◌==◌, nat_lt, List, [], ◌∷◌, map, filter, length, Option, option_map, slice_get, unwrap_or, IsTrue, IsSome}
use Rattle.std.specs.List.{AllByRecursion, AllPairs, Contains, flat_map, position, range_with_len}
use Rattle.std.specs.Str.{bytes_eq}
use Rattle.definitions_outcomes.specs.Computed.{and_then}
use Rattle.catalog_core.specs.declared.schemas.ColumnDef.{ColumnDef}
use Rattle.catalog_core.specs.declared.schemas.TableDef.{TableDef}
use Rattle.catalog_core.specs.declared.schemas.Schema.{Schema}
use Rattle.catalog_core.specs.declared.columns.ColumnId.{ColumnId}
use Rattle.catalog_core.specs.declared.columns.Needs.{Needs}

-- the table of a number, and the column of a table and a number, if there are such
abbrev pub table_at : Schema → ℕ → Option TableDef
table_at schema table = slice_get schema.tables table

abbrev pub column_at : Schema → ColumnId → Option ColumnDef
column_at schema id = and_then (table_at schema id.table) (λ table. slice_get table.columns id.column)

-- the number of the table of a name, if there is one
abbrev pub table_named : Schema → List ℕ → Option ℕ
table_named schema name = position (λ table. bytes_eq name table.name) schema.tables

-- whether a column comes before another in the schema
abbrev pub comes_before : ColumnId → ColumnId → Bool
comes_before id other = nat_lt id.table other.table || (id.table == other.table && nat_lt id.column other.column)

-- tables and columns of a schema in its order, none twice, each column of one of the tables
pub record IsNeeds (schema : Schema) (needs : Needs) : Type 0 where
  pub tables : AllByRecursion (λ table. table < length schema.tables) needs.tables
  pub tables_rise : AllPairs (λ table other. table < other) needs.tables
  pub columns : AllByRecursion (λ id. IsSome (column_at schema id)) needs.columns
  pub columns_rise : AllPairs (λ id other. IsTrue (comes_before id other)) needs.columns
  pub of_tables : AllByRecursion (λ id. Contains needs.tables id.table) needs.columns

-- the needed columns of one table
abbrev pub columns_of_table : Needs → ℕ → List ColumnId
columns_of_table needs table = filter (λ id. id.table == table) needs.columns

-- all columns of a table
abbrev pub column_count : Schema → ℕ → ℕ
column_count schema table = unwrap_or (option_map (λ one. length one.columns) (table_at schema table)) 0

abbrev pub columns_in : Schema → ℕ → List ColumnId
columns_in schema table = map (λ column. record { table = table; column = column }) (range_with_len 0 (column_count schema table))

-- one table with all its columns, and all tables with all their columns
abbrev pub needs_of_table : Schema → ℕ → Needs
needs_of_table schema table = record { tables = table ∷ []; columns = columns_in schema table }

abbrev pub needs_of_all : Schema → Needs
needs_of_all schema = record {
  tables = range_with_len 0 (length schema.tables);
  columns = flat_map (columns_in schema) (range_with_len 0 (length schema.tables));
}
