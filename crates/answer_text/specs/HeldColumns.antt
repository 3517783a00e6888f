-- The columns that are held of a table.
use Rattle.std.specs.Prelude.{ℕ, List, [], Option, option_map, unwrap_or, slice_get}
use Rattle.catalog_core.specs.declared.schemas.TableDef.{TableDef}
use Rattle.table_core.specs.Tables.{Stored, TableState}
use Rattle.answer_text.specs.Checks.{table_lines}

-- what is there of the columns of a table
abbrev pub columns_at : List TableState → ℕ → List (Option Stored)
columns_at tables table = unwrap_or (option_map (λ one. one.columns) (slice_get tables table)) []

-- the lines of a table, if it is there
abbrev pub lines_at : TableDef → List TableState → ℕ → List ℕ
lines_at definition tables table = unwrap_or (option_map (table_lines definition) (slice_get tables table)) []
