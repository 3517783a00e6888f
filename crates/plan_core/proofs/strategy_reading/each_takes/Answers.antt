use Rattle.std.proofs.Common.{◌∙◌, arith, true, false, sym, refl}
use Rattle.plan_core.proofs.StrategyLemmas.{takes_at, takes_end}
use Rattle.plan_core.proofs.strategy_reading.each_takes.Goals as goal

pub loop-place-init : goal.loop-place-init
loop-place-init c = refl

pub returns-then-not-takes_form : goal.returns-then-not-takes_form
returns-then-not-takes_form c = λ _.
    c.loop-place.invariant
    ∙ takes_at c.args.operators.now c.args.forms.now c.loop-place.place c.index-operators-place.result _ false c.loop-place-test.true c.requires c.index-operators-place.is
    (sym c.takes_form.ensures ∙ c.if-not-takes_form.true)

pub loop-place-preserved : goal.loop-place-preserved
loop-place-preserved c =
    c.loop-place.invariant
    ∙ takes_at c.args.operators.now c.args.forms.now c.loop-place.place c.index-operators-place.result _ true c.loop-place-test.true c.requires c.index-operators-place.is
    (sym c.takes_form.ensures ∙ c.if-not-takes_form.false)

pub returns : goal.returns
returns c = c.loop-place.invariant ∙ takes_end c.args.operators.now c.args.forms.now c.loop-place.place (omega (arith, c.loop-place-test.false))
