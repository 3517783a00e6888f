use Rattle.std.proofs.Common.{◌≡◌, ◌-◌, get_or, take, subst, arith}
use Rattle.std.proofs.lemmas.List.{take_all, length-take}
use Rattle.definitions_blocks.proofs.DeltaLaws.{lagged_differences-late}
use Rattle.size_chooser.specs.Surveys.{IsSurveyOf}
use Rattle.size_chooser.proofs.BitLemmas.{least_of-greatest}
use Rattle.size_chooser.proofs.SurveyLemmas.{runs_few, step_runs_few, IsSurveyOf-next}
use Rattle.size_chooser.proofs.surveys.survey_of.Goals as goal

pub next-found-requires-clause-runs : goal.next-found-requires-clause-runs
next-found-requires-clause-runs c = omega (arith, runs_few c.loop-place.found c.args.values.now c.loop-place.place c.loop-place.invariant)

pub next-found-requires-clause-step_runs : goal.next-found-requires-clause-step_runs
next-found-requires-clause-step_runs c = omega (arith, step_runs_few c.loop-place.found c.args.values.now c.loop-place.place c.loop-place.invariant)

pub loop-place-preserved : goal.loop-place-preserved
loop-place-preserved c =
    let values = c.args.values.now in
    let place = c.loop-place.place in
    IsSurveyOf-next c.loop-place.found c.next-found.result values place (get_or values (place - 16) 0) (omega arith) (omega arith) c.loop-place.invariant
    c.next-found.ensures (lagged_differences-late 16 values place (omega arith) (omega arith))

pub returns-clause-survey : goal.returns-clause-survey
returns-clause-survey c =
    let end : take c.loop-place.place c.args.values.now ≡ c.args.values.now = take_all c.loop-place.place c.args.values.now (omega arith) in
    subst (IsSurveyOf c.loop-place.found) end c.loop-place.invariant

pub returns-clause-order : goal.returns-clause-order
returns-clause-order c =
    let front = take c.loop-place.place c.args.values.now in
    let long = length-take c.loop-place.place c.args.values.now in
    omega (arith, c.loop-place.invariant.low_is, c.loop-place.invariant.high_is, least_of-greatest front (omega arith))

pub returns-clause-few_runs : goal.returns-clause-few_runs
returns-clause-few_runs c = omega (arith, runs_few c.loop-place.found c.args.values.now c.loop-place.place c.loop-place.invariant)

pub returns-clause-few_step_runs : goal.returns-clause-few_step_runs
returns-clause-few_step_runs c = omega (arith, step_runs_few c.loop-place.found c.args.values.now c.loop-place.place c.loop-place.invariant)
