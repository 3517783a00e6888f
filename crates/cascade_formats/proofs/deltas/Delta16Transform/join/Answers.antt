use Rattle.std.proofs.Common.{arith, length, ap, ◌∙◌}
use Rattle.cascade_formats.proofs.DeltaBlocks.{lagged_begins, lagged_joined}
use Rattle.cascade_formats.proofs.deltas.Delta16Transform.join.Goals as goal

pub sum_strands-requires : goal.sum_strands-requires
sum_strands-requires g c = ap length c.as_mut_slice.ensures.value ∙ (lagged_begins 16 c.args.base c.requires.0 c.args.block.now (omega arith) c.requires.1).0

pub returns : goal.returns
returns g c = lagged_joined 16 c.args.base c.requires.0 c.args.block.now c.as_mut_slice.result.now c.sum_strands.new.block (omega arith) c.requires.1 c.as_mut_slice.ensures.value c.sum_strands.ensures
