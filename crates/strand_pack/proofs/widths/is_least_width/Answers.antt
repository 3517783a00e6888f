use Rattle.std.proofs.Common.{arith}
use Rattle.strand_pack.proofs.HighestBits.{least_by_highest}
use Rattle.strand_pack.proofs.widths.is_least_width.Goals as goal

pub returns : goal.returns
returns c = λ values packing. least_by_highest c.args.width values c.has_highest_bit.result (omega arith) packing.small (c.has_highest_bit.ensures values packing)
