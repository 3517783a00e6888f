use Rattle.std.proofs.Common.{arith}
use Rattle.definitions_blocks.proofs.WidthLaws.{AreBelow-wider}
use Rattle.tests_blocks.proofs.packing.expect_round_trips.Goals as goal

pub pack-requires-clause-small : goal.pack-requires-clause-small
pack-requires-clause-small g c = AreBelow-wider c.width_of.result c.args.width c.block_of-block.result (omega arith) c.width_of.ensures.least.holds
