-- the blocks so far were decoded
use Rattle.std.proofs.Common.{◌≡◌, ◌*◌, take}
use Rattle.definitions_blocks.specs.Blocks.{block_values}
use Rattle.engine_tool.proofs.decoding.decoded.Given as goal

abbrev pub invariant-loop-number : goal.invariant-loop-number
invariant-loop-number l = record {
  decoded : l.values.items ≡ take (l.number * block_values) l.fn.column.values;
  source : l.cursor ≡ l.fn.column.values;
}
