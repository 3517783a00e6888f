-- the columns so far, and what is still there
use Rattle.std.proofs.Common.{◌≡◌, ◌≤◌, ℕ, Some, map, take}
use Rattle.table_core.specs.Tables.{rows_of, stored_at}
use Rattle.table_core.specs.Views.{stored_of}
use Rattle.database_core.specs.Saving.{AreColumnsOf}
use Rattle.table_commands.specs.Saving.{AreStoredAs}
use Rattle.table_commands.proofs.HeldLemmas.{data_before}
use Rattle.table_commands.proofs.reformatting.reformatted_columns.Given as goal

abbrev pub invariant-loop-place : goal.invariant-loop-place
invariant-loop-place l = record {
  stored : AreStoredAs (take l.place l.fn.definitions) (data_before l.fn.tables l.fn.table l.place) (map stored_of l.all.items);
  fits : (rows : ℕ) → rows_of l.fn.tables l.fn.table ≡ Some rows → AreColumnsOf rows (take l.place l.fn.definitions) (map stored_of l.all.items);
  later : (place : ℕ) → l.place ≤ place → stored_at l.tables (record { table = l.fn.table; column = place }) ≡ stored_at l.fn.tables (record { table = l.fn.table; column = place });
  rows : rows_of l.tables l.fn.table ≡ rows_of l.fn.tables l.fn.table;
}
