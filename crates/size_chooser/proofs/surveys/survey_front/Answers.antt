use Rattle.std.proofs.Common.{◌≡◌, ◌-◌, get_or, take, subst, arith}
use Rattle.definitions_blocks.proofs.DeltaLaws.{delta16_of-early}
use Rattle.size_chooser.specs.Surveys.{IsSurveyOf, IsNext}
use Rattle.size_chooser.proofs.SurveyLemmas.{runs_few, step_runs_few, IsSurveyOf-first, IsSurveyOf-next}
use Rattle.size_chooser.proofs.surveys.survey_front.Goals as goal

pub loop-place-init : goal.loop-place-init
loop-place-init c = IsSurveyOf-first c.start-found.result c.args.values.now (omega arith) c.start-found.ensures

pub next-found-requires-clause-runs : goal.next-found-requires-clause-runs
next-found-requires-clause-runs c = omega (arith, runs_few c.loop-place.found c.args.values.now c.loop-place.place c.loop-place.invariant)

pub next-found-requires-clause-step_runs : goal.next-found-requires-clause-step_runs
next-found-requires-clause-step_runs c = omega (arith, step_runs_few c.loop-place.found c.args.values.now c.loop-place.place c.loop-place.invariant)

pub loop-place-preserved : goal.loop-place-preserved
loop-place-preserved c =
    let values = c.args.values.now in
    let place = c.loop-place.place in
    let twice : c.saturating_sub.result ≡ place - 2 = c.saturating_sub.ensures in
    IsSurveyOf-next c.loop-place.found c.next-found.result values place (get_or values 0 0) (omega arith) (omega arith) c.loop-place.invariant
    (subst (λ n. IsNext c.loop-place.found c.next-found.result (get_or values place 0) (get_or values (place - 1) 0) (get_or values n 0) (get_or values 0 0)) twice c.next-found.ensures)
    (delta16_of-early values place (omega arith) (omega arith))

pub returns : goal.returns
returns c =
    let end : c.loop-place.place ≡ 16 = omega arith in
    subst (λ n. IsSurveyOf c.loop-place.found (take n c.args.values.now)) end c.loop-place.invariant
