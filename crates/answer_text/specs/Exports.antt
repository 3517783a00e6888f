-- What `export` prints: the rows of a table as a CSV text.
use Rattle.std.specs.Prelude.{ℕ, List, [], ◌∷◌, ◌++◌, map, flat_map, Option, Some, None, option_map, unwrap_or, slice_get, slice_index_or, decimal, if◌then◌else◌}
use Rattle.std.specs.List.{range_with_len}
use Rattle.definitions_outcomes.specs.Computed.{and_then}
use Rattle.csv.specs.Writing.{default_writer, with_delimiter, row_text}
use Rattle.csv.specs.declared.writer.WriterBuilder.{WriterBuilder}
use Rattle.catalog_core.specs.Texts.{Text}
use Rattle.catalog_core.specs.Columns.{table_at}
use Rattle.catalog_core.specs.declared.schemas.TableDef.{TableDef}
use Rattle.catalog_core.specs.declared.schemas.Schema.{Schema}
use Rattle.table_core.specs.Tables.{Stored, TableState}

-- what a value prints as: a number in digits, or the text of the code
abbrev pub field_of : Option (List Text) → ℕ → List ℕ
field_of None value = decimal value
field_of (Some texts) value = unwrap_or (slice_get texts value) []

-- the fields of a row: those of the columns in order
abbrev pub row_fields : List Stored → ℕ → List (List ℕ)
row_fields columns row = map (λ stored. field_of stored.texts (slice_index_or stored.column.values row 0)) columns

-- how csv writes the records of a table
abbrev pub export_setup : TableDef → WriterBuilder
export_setup table = with_delimiter default_writer table.separator

-- the names of the columns as a record, if the table's texts have such
abbrev pub header_text : TableDef → List ℕ
header_text table = if table.header then row_text (export_setup table) (map (λ column. column.name) table.columns) else []

-- the rows, each a record
abbrev pub rows_text : TableDef → List Stored → ℕ → List ℕ
rows_text table columns rows = flat_map (λ row. row_text (export_setup table) (row_fields columns row)) (range_with_len 0 rows)

-- the columns that are there (all of them are, where all are needed)
abbrev pub columns_there : List (Option Stored) → List Stored
columns_there [] = []
columns_there (None ∷ slots) = columns_there slots
columns_there (Some stored ∷ slots) = stored ∷ columns_there slots

abbrev pub table_text : TableDef → TableState → List ℕ
table_text definition table = header_text definition ++ rows_text definition (columns_there table.columns) (unwrap_or table.rows 0)

-- the table of a number
abbrev pub export_text : Schema → ℕ → List TableState → List ℕ
export_text schema table tables = unwrap_or (and_then (table_at schema table) (λ definition. option_map (table_text definition) (slice_get tables table))) []
