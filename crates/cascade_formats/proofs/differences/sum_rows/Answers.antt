use Rattle.std.proofs.Common.{◌+◌, ◌*◌, ◌/◌, ◌≤◌, arith, ◌∙◌}
use Rattle.std.proofs.Math.Nat.{mul-le-mul_right}
use Rattle.definitions_blocks.proofs.LaggedSumLaws.{AreLaggedSums-places}
use Rattle.cascade_formats.proofs.Sums.{more_rows}
use Rattle.cascade_formats.proofs.differences.sum_rows.Goals as goal

pub add_earlier-requires-clause-inside : goal.add_earlier-requires-clause-inside
add_earlier-requires-clause-inside g c =
    let groups : (c.loop-group.group + 1) * g.row.L ≤ 63 * (16 / g.row.L) * g.row.L = mul-le-mul_right g.row.L (omega arith) in
    omega arith

pub loop-group-preserved : goal.loop-group-preserved
loop-group-preserved g c =
    let first = c.loop-group.group * g.row.L in
    let was = c.loop-group.invariant in
    let did = c.add_earlier.ensures in
    record {
      early = λ k below. did.below k (omega arith) ∙ was.early k below;
      late = λ k below. more_rows c.loop-group.block c.add_earlier.new.block c.args.block.now first g.row.L c.requires.few did.added did.below was.late was.rest k (omega arith);
      rest = λ k above. did.above k (omega arith) ∙ was.rest k (omega arith);
    }

pub returns : goal.returns
returns g c =
    let groups : 63 * (16 / g.row.L) * g.row.L ≤ c.loop-group.group * g.row.L = mul-le-mul_right g.row.L (omega arith) in
    AreLaggedSums-places 16 c.args.base c.args.block.now c.loop-group.block (omega arith)
    (λ k early within. c.loop-group.invariant.early k early)
    (λ k within. c.loop-group.invariant.late k (omega arith))
