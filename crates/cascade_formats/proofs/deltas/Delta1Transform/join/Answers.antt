use Rattle.std.proofs.Common.{arith}
use Rattle.cascade_formats.proofs.DeltaBlocks.{lagged_joined}
use Rattle.cascade_formats.proofs.deltas.Delta1Transform.join.Goals as goal

pub returns : goal.returns
returns g c = lagged_joined 1 c.args.base c.requires.0 c.args.block.now c.as_mut_slice.result.now c.sum_up.new.block (omega arith) c.requires.1 c.as_mut_slice.ensures.value c.sum_up.ensures
