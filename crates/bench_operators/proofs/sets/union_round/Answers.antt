use Rattle.std.proofs.Common.{◌≤◌, ℕ, List, length, sym, subst, ap₂, arith}
use Rattle.definitions_blocks.specs.Columns.{max_rows}
use Rattle.definitions_operators.specs.Operators.{union}
use Rattle.definitions_operators.specs.Positions.{Rises}
use Rattle.bench_operators.proofs.DrawnLaws.{ArePlaces-rise, ArePlaces-union}
use Rattle.bench_operators.proofs.sets.union_round.Goals as goal

pub union_fly-requires-clause-left : goal.union_fly-requires-clause-left
union_fly-requires-clause-left g c = subst Rises (sym c.new.ensures) (ArePlaces-rise c.args._rows c.args.left.now.values c.requires.left)

pub union_fly-requires-clause-right : goal.union_fly-requires-clause-right
union_fly-requires-clause-right g c = subst Rises (sym c.new-2.ensures) (ArePlaces-rise c.args._rows c.args.right.now.values c.requires.right)

pub union_fly-requires-clause-few : goal.union_fly-requires-clause-few
union_fly-requires-clause-few g c =
    let both = ArePlaces-union c.args._rows c.args.left.now.values c.args.right.now.values c.requires.left c.requires.right in
    subst (λ (list : List ℕ). length list ≤ max_rows) (sym (ap₂ union c.new.ensures c.new-2.ensures)) (omega (arith, both, c.requires.few))
