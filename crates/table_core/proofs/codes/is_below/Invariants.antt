use Rattle.std.proofs.Common.{◌≡◌, ◌*◌, true, nat_lt, take}
use Rattle.std.specs.List.{list_all}
use Rattle.definitions_blocks.specs.Blocks.{block_values}
use Rattle.table_core.proofs.codes.is_below.Given as goal

-- the values of the blocks so far are below
abbrev pub invariant-loop-number : goal.invariant-loop-number
invariant-loop-number l = record {
  below : list_all (λ value. nat_lt value l.bound) (take (l.number * block_values) l.column.values) ≡ true;
  source : l.cursor ≡ l.column.values;
}
