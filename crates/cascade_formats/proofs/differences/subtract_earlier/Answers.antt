use Rattle.std.proofs.Common.{arith}
use Rattle.definitions_blocks.proofs.DeltaLaws.{lagged_differences-places}
use Rattle.cascade_formats.proofs.differences.subtract_earlier.Goals as goal

pub returns-clause-differences : goal.returns-clause-differences
returns-clause-differences g c =
    lagged_differences-places g.row.LAG c.args.values.now c.loop-place-2.into (omega arith)
    (λ i early within. c.loop-place-2.invariant.early i early)
    (λ i late within. c.loop-place-2.invariant.late i late (omega arith))
