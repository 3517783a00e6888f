use Rattle.std.proofs.Common.{arith}
use Rattle.definitions_operators.specs.Operators.{has}
use Rattle.definitions_operators.proofs.PositionLaws.{places_from-are}
use Rattle.join_ops.proofs.chained_keys.ChainedKeysPlaceTest.mark.Goals as goal

pub loop-value-init : goal.loop-value-init
loop-value-init g c = record {
  count = omega arith;
  place = omega arith;
  places = places_from-are (has c.args.self.now.keys) c.args.first c.args.values.now;
}
