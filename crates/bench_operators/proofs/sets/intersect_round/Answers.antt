use Rattle.std.proofs.Common.{sym, subst}
use Rattle.definitions_operators.specs.Positions.{Rises}
use Rattle.bench_operators.proofs.DrawnLaws.{ArePlaces-rise}
use Rattle.bench_operators.proofs.sets.intersect_round.Goals as goal

pub intersect_fly-requires-clause-left : goal.intersect_fly-requires-clause-left
intersect_fly-requires-clause-left g c = subst Rises (sym c.new.ensures) (ArePlaces-rise c.args._rows c.args.left.now.values c.requires.left)

pub intersect_fly-requires-clause-right : goal.intersect_fly-requires-clause-right
intersect_fly-requires-clause-right g c = subst Rises (sym c.new-2.ensures) (ArePlaces-rise c.args._rows c.args.right.now.values c.requires.right)
