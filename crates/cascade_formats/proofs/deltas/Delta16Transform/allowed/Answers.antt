use Rattle.std.proofs.Common.{arith}
use Rattle.cascade_formats.proofs.DeltaBlocks.{lagged_allowed}
use Rattle.cascade_formats.proofs.deltas.Delta16Transform.allowed.Goals as goal

pub returns : goal.returns
returns g c = lagged_allowed 16 c.args._base c.as_slice-values.result.now c.args.differences.now c.begin_at_zero.result (omega arith) c.ranges._base.fits c.as_slice-values.ensures.values c.words_fit.ensures c.begin_at_zero.ensures
