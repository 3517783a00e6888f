use Rattle.std.proofs.Common.{◌≡◌, take, ap, ◌∙◌, arith}
use Rattle.std.proofs.lemmas.List.{take_all}
use Rattle.definitions_queries.specs.Lexing.{value_of}
use Rattle.query_text.proofs.DigitLemmas.{value_of-more}
use Rattle.query_text.proofs.lexing.value_of.Goals as goal

pub returns-in_err-checked_mul : goal.returns-in_err-checked_mul
returns-in_err-checked_mul c = rw c.from_residual.ensures
    (λ small. c.in_err-checked_mul.ensures (omega (arith, value_of-more c.args.digits.now 0 c.loop-digit.digit-index (omega arith), c.loop-digit.invariant.so_far)))

pub returns-in_err-value : goal.returns-in_err-value
returns-in_err-value c = rw c.from_residual-in_err-value.ensures
    (λ small. c.in_err-value.ensures (omega (arith, value_of-more c.args.digits.now 0 c.loop-digit.digit-index (omega arith), c.loop-digit.invariant.so_far, c.in_ok-checked_mul.ensures)))

pub returns : goal.returns
returns c =
    let all : take c.loop-digit.digit-index c.args.digits.now ≡ c.args.digits.now = take_all c.loop-digit.digit-index c.args.digits.now (omega arith) in
    let whole : c.loop-digit.value ≡ value_of c.args.digits.now = c.loop-digit.invariant.so_far ∙ ap value_of all in
    (omega (arith, whole, c.loop-digit.invariant.small), whole)
