use Rattle.std.proofs.Common.{arith, ◌≡◌, ◌∙◌, sym, refl, true, take, get_or}
use Rattle.std.proofs.lemmas.List.{take_all}
use Rattle.std.proofs.lemmas.List.Folds.{list_all_more}
use Rattle.std.specs.Char.{is_ascii_digit}
use Rattle.std.specs.List.{list_all}
use Rattle.std.specs.Str.Parse.{digits_value}
use Rattle.table_import.proofs.DigitLemmas.{front_large, value_more, all_digits}
use Rattle.table_import.proofs.fields.long_number.Goals as goal

pub returns-in_err-checked_mul : goal.returns-in_err-checked_mul
returns-in_err-checked_mul c =
    let field = c.args.field.now in
    let i = c.loop-byte.byte-index in
    let digit = c.if-not-is_ascii_digit.ensures.cases in
    rw c.from_residual.ensures (front_large field i (omega arith) digit.0 digit.1 (omega (arith, c.in_err-checked_mul.ensures, c.loop-byte.invariant.value)))

pub returns-in_err-value : goal.returns-in_err-value
returns-in_err-value c =
    let field = c.args.field.now in
    let i = c.loop-byte.byte-index in
    let digit = c.if-not-is_ascii_digit.ensures.cases in
    rw c.from_residual-in_err-value.ensures (front_large field i (omega arith) digit.0 digit.1
    (omega (arith, c.in_err-value.ensures, c.in_ok-checked_mul.ensures.1, c.from.ensures, c.loop-byte.invariant.value)))

pub loop-byte-preserved : goal.loop-byte-preserved
loop-byte-preserved c =
    let field = c.args.field.now in
    let i = c.loop-byte.byte-index in
    let digit = c.if-not-is_ascii_digit.ensures.cases in
    let is_digit : is_ascii_digit (get_or field i 0) ≡ true = sym c.is_ascii_digit.ensures.value ∙ c.if-not-is_ascii_digit.false in
    record {
      digits = rw (list_all_more is_ascii_digit field i 0 (omega arith), c.loop-byte.invariant.digits, is_digit) refl;
      fits = omega (arith, c.in_ok-value.ensures);
      value = rw (value_more field i (omega arith) digit.0 digit.1) (omega (arith, c.in_ok-value.ensures, c.in_ok-checked_mul.ensures.1, c.from.ensures, c.loop-byte.invariant.value));
    }

pub returns : goal.returns
returns c =
    let field = c.args.field.now in
    let i = c.loop-byte.byte-index in
    let whole : take i field ≡ field = take_all i field (omega arith) in
    let digits : list_all is_ascii_digit field ≡ true = rw whole at c.loop-byte.invariant.digits in
    let value : c.loop-byte.value ≡ digits_value 10 field = rw whole at c.loop-byte.invariant.value in
    rw value (sym (all_digits field c.requires digits (omega (arith, value, c.loop-byte.invariant.fits))))
