use Rattle.std.proofs.Common.{◌≡◌, ◌∙◌, arith, true, sym}
use Rattle.std.proofs.lemmas.Bool.{false≢true}
use Rattle.std.proofs.lemmas.Fmt.{parse-decimal}
use Rattle.std.proofs.lemmas.Slice.Eq.{bytes_eq-Decides}
use Rattle.std.specs.Str.{bytes_eq}
use Rattle.definitions_outcomes.proofs.OutcomeLaws.{same_value}
use Rattle.plan_core.proofs.strategy_reading.number_of.Goals as goal

pub returns-in_default-clause-none : goal.returns-in_default-clause-none
returns-in_default-clause-none c = λ number some small same.
    c.in_default.not-Ok number (parse-decimal 64 number c.args.digits.now c.parse.result small small same c.parse.ensures.value.0)

pub returns-then-number-eq0-clause-none : goal.returns-then-number-eq0-clause-none
returns-then-number-eq0-clause-none c = λ number some small same.
    let read = parse-decimal 64 number c.args.digits.now c.parse.result small small same c.parse.ensures.value.0 in
    let none = same_value _ _ (sym read ∙ c.in-Ok.is) in
    omega (arith, none, some, c.if-number-eq0.true)

pub returns-else-eq-clause-none : goal.returns-else-eq-clause-none
returns-else-eq-clause-none c = λ number some small same.
    let read = parse-decimal 64 number c.args.digits.now c.parse.result small small same c.parse.ensures.value.0 in
    let number_is = same_value _ _ (sym read ∙ c.in-Ok.is) in
    let texts : c.format.result.now ≡ c.args.digits.now = c.format.ensures.text ∙ rw (← number_is) (sym same) in
    let equal : bytes_eq c.format.result.now c.args.digits.now ≡ true = (bytes_eq-Decides c.format.result.now c.args.digits.now).1 texts in
    false≢true (sym c.if-eq.false ∙ c.eq.ensures ∙ equal)
