use Rattle.std.proofs.Common.{◌∙◌, arith, sym}
use Rattle.std.proofs.lemmas.Fmt.{decimal_injective}
use Rattle.std.proofs.lemmas.Str.Pattern.{strip_prefix_char}
use Rattle.plan_core.proofs.StrategyLemmas.{other_letter, other_digits, its_place}
use Rattle.plan_core.proofs.strategy_reading.place_named.Goals as goal

pub returns-in_default-clause-place : goal.returns-in_default-clause-place
returns-in_default-clause-place c =
    let cut = strip_prefix_char c.args.letter c.args.key.now c.strip_prefix.result c.strip_prefix.ensures.cases c.requires in
    sym (other_letter c.args.letter c.args.count c.args.key.now (rw c.in_default.is at cut))

pub returns-in_default-number_of-clause-place : goal.returns-in_default-number_of-clause-place
returns-in_default-number_of-clause-place c =
    let cut = strip_prefix_char c.args.letter c.args.key.now c.strip_prefix.result c.strip_prefix.ensures.cases c.requires in
    let none = rw c.in_default-number_of.is at c.number_of.ensures.none in
    sym (other_digits c.args.letter c.args.count c.args.key.now c.in-Some.digits.now c.ranges.count.fits (rw c.in-Some.is at cut)
    (λ number some few small same. none number some small same))

pub returns-then-number-count-clause-place : goal.returns-then-number-count-clause-place
returns-then-number-count-clause-place c =
    let cut = strip_prefix_char c.args.letter c.args.key.now c.strip_prefix.result c.strip_prefix.ensures.cases c.requires in
    let (some, written) = rw c.in-Some-number_of.is at c.number_of.ensures.number in
    let bound = rw c.in-Some-number_of.is at c.number_of.ensures.small in
    sym (other_digits c.args.letter c.args.count c.args.key.now c.in-Some.digits.now c.ranges.count.fits (rw c.in-Some.is at cut)
    (λ number positive few small same.
    let equal = decimal_injective number c.in-Some-number_of.number small bound (sym same ∙ written) in
    omega (arith, equal, few, c.if-number-count.true)))

pub returns-clause-place : goal.returns-clause-place
returns-clause-place c =
    let cut = strip_prefix_char c.args.letter c.args.key.now c.strip_prefix.result c.strip_prefix.ensures.cases c.requires in
    let (some, written) = rw c.in-Some-number_of.is at c.number_of.ensures.number in
    sym (its_place c.args.letter c.args.count c.in-Some-number_of.number c.args.key.now c.in-Some.digits.now c.ranges.count.fits (rw c.in-Some.is at cut) written some
    (omega (arith, c.if-number-count.false)))
