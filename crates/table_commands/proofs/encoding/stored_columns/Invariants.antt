use Rattle.std.proofs.Common.{◌≡◌, ◌≤◌, ◌++◌, List, length, map, drop}
use Rattle.std.specs.List.{AllByRecursion}
use Rattle.definitions_blocks.specs.Columns.{max_rows}
use Rattle.table_core.specs.Tables.{Stored}
use Rattle.table_core.specs.Views.{stored_of}
use Rattle.table_commands.specs.Importing.{data_of}
use Rattle.table_commands.specs.Saving.{AreStoredAs}
use Rattle.table_commands.proofs.encoding.stored_columns.Given as goal

-- the iterator has the rest of the columns; those so far are stored, and with the rest stored all are
abbrev pub invariant-loop-column : goal.invariant-loop-column
invariant-loop-column l = record {
  split : l.yielded ++ l.column-iterator.rest.items ≡ l.fn.columns;
  place : l.place ≡ length l.yielded;
  few : AllByRecursion (λ column. length column.values ≤ max_rows) l.column-iterator.rest.items;
  stored : (more : List Stored) → AreStoredAs (drop l.place l.fn.definitions) (map data_of l.column-iterator.rest.items) more
      → AreStoredAs l.fn.definitions (map data_of l.fn.columns) (map stored_of l.all.items ++ more);
}
