use Rattle.std.proofs.Common.{arith}
use Rattle.definitions_blocks.proofs.WidthLaws.{AreBelow-wider}
use Rattle.tests_blocks.proofs.tails.packed.Goals as goal

pub pack-requires-clause-small : goal.pack-requires-clause-small
pack-requires-clause-small g c = AreBelow-wider c.width_of_values.result c.args.width c.args.values.now (omega arith) c.width_of_values.ensures.least.holds
