use Rattle.std.proofs.Common.{◌≡◌, ◌++◌}
use Rattle.catalog_core.specs.CountedColumns.{counted_columns}
use Rattle.catalog_core.proofs.columns.push_columns.Given as goal

-- the columns so far
abbrev pub invariant-loop-column : goal.invariant-loop-column
invariant-loop-column l = l.columns.items ≡ l.fn.columns.items ++ counted_columns l.table l.column
