use Rattle.std.proofs.Common.{◌≡◌, map, take, unwrap_or}
use Rattle.table_core.specs.Tables.{rows_of}
use Rattle.answer_text.specs.HeldColumns.{columns_at}
use Rattle.answer_text.specs.Exports.{columns_there}
use Rattle.answer_text.specs.Printed.{printed_of, HaveRows}
use Rattle.answer_text.proofs.printed.printed_columns.Given as goal

-- the columns so far that are there
abbrev pub invariant-loop-place : goal.invariant-loop-place
invariant-loop-place l = record {
  columns : l.columns.items ≡ map printed_of (columns_there (take l.place (columns_at l.tables l.table)));
  rows : HaveRows (unwrap_or (rows_of l.tables l.table) 0) l.columns.items;
}
