-- the blocks so far were encoded, and the block is full
use Rattle.std.proofs.Common.{◌≡◌, ◌*◌, length, take}
use Rattle.definitions_blocks.specs.Blocks.{block_values}
use Rattle.column_core.specs.Columns.{encoding_of, reserve}
use Rattle.column_core.proofs.builders.encode_list.Given as goal

abbrev pub invariant-loop-number : goal.invariant-loop-number
invariant-loop-number l = record {
  encoded : l.encoded ≡ encoding_of l.fn.format l.width (reserve 0 0) (take (l.number * block_values) l.values);
  full : length l.block ≡ block_values;
}
