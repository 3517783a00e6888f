use Rattle.std.proofs.Common.{arith}
use Rattle.definitions_operators.specs.Operators.{is_within}
use Rattle.definitions_operators.proofs.PositionLaws.{places_from-are}
use Rattle.scan_ops.proofs.selection.mark.Goals as goal

pub loop-value-init : goal.loop-value-init
loop-value-init c = record {
  count = omega arith;
  row = omega arith;
  rows = places_from-are (is_within c.args.low c.args.high) c.args.first c.args.values.now;
}
