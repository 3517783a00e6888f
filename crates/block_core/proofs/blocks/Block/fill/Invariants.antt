-- The block holds as many values as were counted, and these and the zeros that are left to push are what it held and the zeros behind it.
use Rattle.std.proofs.Common.{◌≡◌, ◌-◌, ◌++◌, length, replicate}
use Rattle.definitions_blocks.specs.Blocks.{block_values}
use Rattle.block_core.proofs.blocks.Block.fill.Given as goal

abbrev pub invariant-loop : goal.invariant-loop
invariant-loop l = record {
  counted : length l.self-inside.values.items ≡ l.counter;
  filled : l.self-inside.values.items ++ replicate (block_values - l.counter) 0 ≡ l.fn.self ++ replicate (block_values - length l.fn.self) 0;
}
