use Rattle.std.proofs.Common.{take}
use Rattle.table_import.specs.Growing.{AreEmpty}
use Rattle.table_import.proofs.tables.empty_columns.Given as goal

-- the columns of the definitions so far
abbrev pub invariant-loop-column : goal.invariant-loop-column
invariant-loop-column l = AreEmpty (take l.column-index l.columns) l.empty.items
