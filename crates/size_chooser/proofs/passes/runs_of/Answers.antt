use Rattle.std.proofs.Common.{◌≡◌, ◌+◌, take, arith}
use Rattle.std.proofs.lemmas.List.{length-take}
use Rattle.definitions_blocks.specs.Runs.{run_count}
use Rattle.definitions_blocks.proofs.RunListLaws.{run_count-most}
use Rattle.size_chooser.proofs.FrontLemmas.{run_count-more}
use Rattle.size_chooser.proofs.passes.runs_of.Goals as goal

pub overflow_add-runs : goal.overflow_add-runs
overflow_add-runs c =
    let place = c.loop-place.place in
    let runs : c.loop-place.runs ≡ run_count (take place c.args.values.now) = c.loop-place.invariant in
    omega (arith, run_count-most (take place c.args.values.now), length-take place c.args.values.now, c.run_start-runs.ensures.few)

pub loop-place-preserved : goal.loop-place-preserved
loop-place-preserved c =
    let place = c.loop-place.place in
    let runs : c.loop-place.runs ≡ run_count (take place c.args.values.now) = c.loop-place.invariant in
    let more : c.loop-place.runs + c.run_start-runs.result ≡ run_count (take (place + 1) c.args.values.now) =
    omega (arith, run_count-more c.args.values.now place (omega arith) (omega arith), c.run_start-runs.ensures.start) in
    more

pub returns-clause-few : goal.returns-clause-few
returns-clause-few c =
    let place = c.loop-place.place in
    let runs : c.loop-place.runs ≡ run_count (take place c.args.values.now) = c.loop-place.invariant in
    omega (arith, run_count-most (take place c.args.values.now), length-take place c.args.values.now)
