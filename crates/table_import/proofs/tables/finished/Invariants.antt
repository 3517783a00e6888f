use Rattle.std.proofs.Common.{◌≡◌, ◌++◌}
use Rattle.table_import.specs.Growing.{HoldAll}
use Rattle.table_import.proofs.tables.finished.Given as goal

-- the columns so far are finished, and the iterator has the rest
abbrev pub invariant-loop-column : goal.invariant-loop-column
invariant-loop-column l = record {
  split : l.yielded ++ l.column-iterator.rest.items ≡ l.fn.columns.items;
  holds : HoldAll l.yielded l.done.items;
}
