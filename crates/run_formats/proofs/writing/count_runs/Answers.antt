use Rattle.std.proofs.Common.{ap, arith}
use Rattle.std.proofs.lemmas.List.{drop_all}
use Rattle.definitions_blocks.specs.Runs.{runs_after}
use Rattle.definitions_blocks.proofs.RunListLaws.{AreRunsOf-count}
use Rattle.run_formats.proofs.writing.count_runs.Goals as goal

pub returns-clause-runs : goal.returns-clause-runs
returns-clause-runs c = λ runs are.
    let none = ap (runs_after c.loop-value.before) (drop_all c.loop-value.value-index c.args.values.now c.loop-value-test.false) in
    omega (arith, c.loop-value.invariant.1, none, AreRunsOf-count runs c.args.values.now are)
