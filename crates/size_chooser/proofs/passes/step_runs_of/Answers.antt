use Rattle.std.proofs.Common.{◌≡◌, ◌==◌, ◌+◌, ◌-◌, cond, get_or, take, ap₂, ◌∙◌, ℕ, arith}
use Rattle.std.proofs.lemmas.List.{length-take}
use Rattle.definitions_blocks.specs.Differences.{difference, delta1_of}
use Rattle.definitions_blocks.specs.Runs.{run_count}
use Rattle.definitions_blocks.proofs.DeltaLaws.{length-lagged_differences}
use Rattle.definitions_blocks.proofs.RunListLaws.{run_count-most}
use Rattle.size_chooser.proofs.SurveyLemmas.{step_runs-more}
use Rattle.size_chooser.proofs.passes.step_runs_of.Goals as goal

pub overflow_add-runs-in-loop-place : goal.overflow_add-runs-in-loop-place
overflow_add-runs-in-loop-place c =
    let front = take c.loop-place.place c.args.values.now in
    let runs : c.loop-place.runs ≡ run_count (delta1_of front) = c.loop-place.invariant in
    omega (arith, run_count-most (delta1_of front), length-lagged_differences 1 front, length-take c.loop-place.place c.args.values.now, c.run_start-runs-in-loop-place.ensures.few)

pub loop-place-preserved : goal.loop-place-preserved
loop-place-preserved c =
    let values = c.args.values.now in
    let place = c.loop-place.place in
    let runs : c.loop-place.runs ≡ run_count (delta1_of (take place values)) = c.loop-place.invariant in
    let start : c.run_start-runs-in-loop-place.result ≡ cond (difference (get_or values place 0) (get_or values (place - 1) 0) == difference (get_or values (place - 1) 0) (get_or values (place - 2) 0)) 0 1 =
    c.run_start-runs-in-loop-place.ensures.start ∙ ap₂ (λ (a b : ℕ). cond (a == b) 0 1) c.difference_of-step.ensures c.difference_of-last.ensures in
    let more : c.loop-place.runs + c.run_start-runs-in-loop-place.result ≡ run_count (delta1_of (take (place + 1) values)) =
    omega (arith, step_runs-more values place (omega arith) (omega arith), start) in
    more

pub returns-clause-few : goal.returns-clause-few
returns-clause-few c =
    let front = take c.loop-place.place c.args.values.now in
    let runs : c.loop-place.runs ≡ run_count (delta1_of front) = c.loop-place.invariant in
    omega (arith, run_count-most (delta1_of front), length-lagged_differences 1 front, length-take c.loop-place.place c.args.values.now)
