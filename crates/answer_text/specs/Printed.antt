-- Columns as they are printed, and the texts of their records.
use Rattle.std.specs.Prelude.{◌≡◌, ◌<◌, ℕ, List, [], map, flat_map, length, Option, slice_index_or, if◌then◌else◌}
use Rattle.std.specs.List.{All, range_with_len}
use Rattle.csv.specs.Writing.{row_text}
use Rattle.catalog_core.specs.Texts.{Text}
use Rattle.catalog_core.specs.declared.schemas.ColumnDef.{ColumnDef}
use Rattle.catalog_core.specs.declared.schemas.TableDef.{TableDef}
use Rattle.table_core.specs.Tables.{Stored}
use Rattle.answer_text.specs.Exports.{field_of}
use Rattle.answer_text.specs.Records.{setup_of}

-- the values of a column, and the texts of its dictionary if it is a text column
pub record Printed : Type 0 where
  pub values : List ℕ
  pub texts : Option (List Text)

abbrev pub printed_of : Stored → Printed
printed_of stored = record { values = stored.column.values; texts = stored.texts }

-- the field of a row
abbrev pub printed_field : ℕ → Printed → List ℕ
printed_field row column = field_of column.texts (slice_index_or column.values row 0)

abbrev pub printed_fields : ℕ → List Printed → List (List ℕ)
printed_fields row columns = map (printed_field row) columns

-- texts of records, known by the byte between fields

abbrev pub names_by : List ColumnDef → ℕ → List ℕ
names_by columns separator = row_text (setup_of separator) (map (λ column. column.name) columns)

abbrev pub header_by : TableDef → ℕ → List ℕ
header_by table separator = if table.header then names_by table.columns separator else []

abbrev pub row_by : List Printed → ℕ → ℕ → List ℕ
row_by columns row separator = row_text (setup_of separator) (printed_fields row columns)

abbrev pub rows_by : List Printed → ℕ → ℕ → List ℕ
rows_by columns rows separator = flat_map (λ row. row_by columns row separator) (range_with_len 0 rows)

-- each column has this row
abbrev pub HaveRow : ℕ → List Printed → Type 0
HaveRow row columns = All (λ column. row < length column.values) columns

-- each column has a value for each row
abbrev pub HaveRows : ℕ → List Printed → Type 0
HaveRows rows columns = All (λ column. length column.values ≡ rows) columns
