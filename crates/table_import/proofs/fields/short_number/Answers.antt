use Rattle.std.proofs.Common.{arith, ◌≡◌, ◌≤◌, ◌+◌, ◌*◌, ◌-◌, refl, take, get_or}
use Rattle.std.proofs.lemmas.List.Folds.{list_all_more}
use Rattle.std.specs.Char.{is_ascii_digit}
use Rattle.std.specs.Str.Parse.{digits_value}
use Rattle.table_import.proofs.DigitLemmas.{ten_pow, ten_more, value_more, is_digit}
use Rattle.table_import.proofs.fields.short_number.Goals as goal

pub overflow_mul-value : goal.overflow_mul-value
overflow_mul-value c =
    let room = ten_pow c.loop-byte.byte-index (omega arith) in
    omega (arith, room, c.loop-byte.invariant.fits)

pub overflow_add-value : goal.overflow_add-value
overflow_add-value c =
    let room = ten_pow c.loop-byte.byte-index (omega arith) in
    omega (arith, room, c.loop-byte.invariant.fits, c.from.ensures)

pub loop-byte-preserved : goal.loop-byte-preserved
loop-byte-preserved c =
    let field = c.args.field.now in
    let i = c.loop-byte.byte-index in
    let low : 48 ≤ get_or field i 0 = omega (arith, c.if-digit-gt9.false, c.type_inv.field i) in
    let high : get_or field i 0 ≤ 57 = omega (arith, c.if-digit-gt9.false, c.type_inv.field i) in
    let digit = is_digit (get_or field i 0) low high in
    let is : c.from.result ≡ get_or field i 0 - 48 = omega (arith, c.from.ensures, low, high) in
    let more : c.loop-byte.value * 10 + c.from.result ≡ digits_value 10 (take (i + 1) field) = omega (arith, value_more field i (omega arith) low high, is, c.loop-byte.invariant.value) in
    record {
      digits = rw (list_all_more is_ascii_digit field i 0 (omega arith), c.loop-byte.invariant.digits, digit) refl;
      fits = omega (arith, ten_more i, c.loop-byte.invariant.fits, is, high);
      value = more;
    }
