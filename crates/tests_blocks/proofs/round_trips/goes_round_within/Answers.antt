use Rattle.std.proofs.Common.{arith}
use Rattle.definitions_blocks.proofs.WidthLaws.{AreBelow-wider}
use Rattle.tests_blocks.proofs.round_trips.goes_round_within.Goals as goal

pub goes_round-requires-clause-fits : goal.goes_round-requires-clause-fits
goes_round-requires-clause-fits g c = AreBelow-wider c.width_of-least.result c.args.width c.args.full.now (omega arith) c.width_of-least.ensures.least.holds
