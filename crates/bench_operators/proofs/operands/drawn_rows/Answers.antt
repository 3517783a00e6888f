use Rattle.std.proofs.Common.{rules}
use Rattle.bench_operators.specs.Drawn.{ArePlaces}
use Rattle.bench_operators.proofs.DrawnLaws.{ArePlaces-few}
use Rattle.bench_operators.proofs.operands.drawn_rows.Goals as goal

pub returns-clause-few : goal.returns-clause-few
returns-clause-few c =
    let drawn : ArePlaces c.args.count c.into_vec.result.items = search rules in
    ArePlaces-few c.args.count c.into_vec.result.items drawn
