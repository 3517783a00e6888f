-- What the tables of the code stand for.
use Rattle.std.specs.Prelude.{List, map, option_map}
use Rattle.table_core.specs.Tables.{Stored, TableState}
use Rattle.table_core.specs.declared.tables.StoredColumn as code
use Rattle.table_core.specs.declared.tables.Table as tables

abbrev pub stored_of : code.StoredColumn → Stored
stored_of one = record { column = one.column; texts = one.dictionary }

abbrev pub state_of_table : tables.Table → TableState
state_of_table table = record { key = table.key; rows = table.rows; columns = map (option_map stored_of) table.columns.items }

abbrev pub states_of : List tables.Table → List TableState
states_of tables = map state_of_table tables
