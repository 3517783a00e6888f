use Rattle.std.proofs.Common.{◌≡◌, ◌*◌, take}
use Rattle.definitions_blocks.specs.Blocks.{block_values}
use Rattle.table_core.proofs.keys.copied.Given as goal

-- the blocks so far were copied
abbrev pub invariant-loop-number : goal.invariant-loop-number
invariant-loop-number l = record {
  copied : l.values.items ≡ take (l.number * block_values) l.column.values;
  source : l.cursor ≡ l.column.values;
}
