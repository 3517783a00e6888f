use Rattle.std.proofs.Common.{◌≡◌}
use Rattle.std.specs.List.{flat_map, range_with_len}
use Rattle.catalog_core.specs.Columns.{columns_in}
use Rattle.catalog_core.proofs.columns.Needs.of_all.Given as goal

-- the tables so far, and their columns
abbrev pub invariant-loop-table : goal.invariant-loop-table
invariant-loop-table l = record {
  tables : l.tables.items ≡ range_with_len 0 l.table;
  columns : l.columns.items ≡ flat_map (columns_in l.schema) (range_with_len 0 l.table);
}
