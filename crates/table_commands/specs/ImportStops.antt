-- How the reading of a text's rows ends in the code.
use Rattle.std.specs.Prelude.{◌≡◌, ◌≤◌, ℕ, List, Result, Ok, Err}
use Rattle.definitions_blocks.specs.Columns.{max_rows}
use Rattle.catalog_core.specs.declared.schemas.TableDef.{TableDef}
use Rattle.table_import.specs.Imports.{Row}
use Rattle.table_import.specs.TableData.{HoldRows, AreTableColumns}
use Rattle.table_import.specs.declared.tables.TableData.{TableData}
use Rattle.table_commands.specs.Importing.{rows_in}
use Rattle.table_commands.specs.Stops.{refusal_of}
use Rattle.table_commands.specs.declared.stops.Stop.{Stop}
use Rattle.table_commands.specs.declared.stops.Stop.TheVariants as stop

-- the columns of a text's rows, all with the same count, or its first refusal
pub record HasColumns (table : TableDef) (text : List ℕ) (given : TableData) : Type 0 where
  pub rows : List Row
  pub gives : rows_in table text ≡ Ok rows
  pub held : HoldRows table rows given.columns
  pub count : ℕ
  pub few : count ≤ max_rows
  pub fits : AreTableColumns table count given.columns

abbrev pub HasRows : TableDef → List ℕ → Result TableData Stop → Type 0
HasRows table text (Ok given) = HasColumns table text given
HasRows table text (Err stop.Usage) = ⊥
HasRows table text (Err (stop.Refused given)) = rows_in table text ≡ Err (refusal_of given)
HasRows table text (Err stop.StoreFault) = ⊥
HasRows table text (Err stop.InputFault) = ⊥
HasRows table text (Err stop.Memory) = Unit {0}
