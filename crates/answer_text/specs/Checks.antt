-- What `check` prints.
use Rattle.std.specs.Prelude.{ℕ, List, [], ◌++◌, flat_map, Option, Some, None, option_map, unwrap_or, decimal, codes}
use Rattle.std.specs.List.{zip}
use Rattle.definitions_columns.specs.Sizes.{size_of}
use Rattle.block_core.specs.Formats.{format_of, name_of}
use Rattle.column_core.specs.Columns.{Shape}
use Rattle.catalog_core.specs.declared.schemas.ColumnDef.{ColumnDef}
use Rattle.catalog_core.specs.declared.schemas.TableDef.{TableDef}
use Rattle.catalog_core.specs.declared.schemas.Schema.{Schema}
use Rattle.table_core.specs.Tables.{Stored, TableState}

-- `TABLE ROWS`
abbrev pub table_line : List ℕ → ℕ → List ℕ
table_line table rows = table ++ codes " " ++ decimal rows ++ codes "\n"

-- `TABLE.COLUMN FORMAT BYTES`, the number of bytes of the column's file
abbrev pub file_words : Shape → List ℕ
file_words column = name_of column.format ++ codes " " ++ decimal (size_of (format_of column.format) column.values) ++ codes "\n"

abbrev pub column_line : List ℕ → List ℕ → Shape → List ℕ
column_line table name column = table ++ codes "." ++ name ++ codes " " ++ file_words column

-- the line of a column, if it is there
abbrev pub maybe_line : List ℕ → List ℕ → Option Shape → List ℕ
maybe_line table name None = []
maybe_line table name (Some column) = column_line table name column

abbrev pub slot_line : List ℕ → ColumnDef → Option Stored → List ℕ
slot_line table definition slot = maybe_line table definition.name (option_map (λ stored. stored.column) slot)

-- the columns of a table in order
abbrev pub lines_of_columns : List ℕ → List ColumnDef → List (Option Stored) → List ℕ
lines_of_columns table definitions slots = flat_map (λ pair. slot_line table pair.0 pair.1) (zip definitions slots)

-- a table, and then its columns
abbrev pub table_lines : TableDef → TableState → List ℕ
table_lines definition table =
    table_line definition.name (unwrap_or table.rows 0) ++ lines_of_columns definition.name definition.columns table.columns

-- the tables of the schema in order
abbrev pub check_text : Schema → List TableState → List ℕ
check_text schema tables = flat_map (λ pair. table_lines pair.0 pair.1) (zip schema.tables tables)
