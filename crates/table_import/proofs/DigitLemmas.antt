-- The value of digits, one more at a time.
use Rattle.std.proofs.Common.{◌≡◌, ◌<◌, ◌≤◌, ◌+◌, ◌*◌, ◌^◌, ◌-◌, ℕ, suc, Bool, true, false, List, length, get_or, take, Option, Some, None, refl, ◌∙◌, arith, ◌&&◌, if◌then◌else◌, add-one, lit<}
use Rattle.std.specs.List.{list_all}
use Rattle.std.specs.Char.{is_ascii_digit}
use Rattle.std.specs.Str.Parse.{digits_value}
use Rattle.std.proofs.Math.Nat.{pow-suc, pow-le-pow_right}
use Rattle.std.proofs.lemmas.Bool.{lt-leb, le-leb}
use Rattle.std.proofs.lemmas.Int.Digits.{digits_value_more}
use Rattle.std.proofs.lemmas.Str.{digit_value_digit}
use Rattle.std.proofs.lemmas.Str.Parse.{digits_value-take-le}
use Rattle.std.proofs.lemmas.List.Folds.{list_all_at}
use Rattle.table_import.specs.Imports.{is_number}

abbrev pub number_in : List ℕ → Option ℕ
number_in field = if is_number field then Some (digits_value 10 field) else None

and_false : (a : Bool) → (a && false) ≡ false
and_false true = refl
and_false false = refl

-- a byte that is no digit
pub no_digit : (field : List ℕ) (i : ℕ) → i < length field → is_ascii_digit (get_or field i 0) ≡ false → None ≡ number_in field
no_digit field i within other =
    let all : list_all is_ascii_digit field ≡ false = list_all_at is_ascii_digit field i 0 within other in
    rw all refl

-- a value that is too large
too_large : (field : List ℕ) → 2 ^ 64 ≤ digits_value 10 field → None ≡ number_in field
too_large field large = rw (lt-leb (suc (digits_value 10 field)) (2 ^ 64) (omega (arith, large)), and_false)

-- digits with a value that fits
pub all_digits : (field : List ℕ) → 0 < length field → list_all is_ascii_digit field ≡ true → digits_value 10 field < 2 ^ 64 → number_in field ≡ Some (digits_value 10 field)
all_digits field some digits fits = rw (digits, le-leb 1 (length field) some, le-leb (suc (digits_value 10 field)) (2 ^ 64) fits) refl

pub value_more : (field : List ℕ) (i : ℕ) → i < length field → 48 ≤ get_or field i 0 → get_or field i 0 ≤ 57
    → digits_value 10 (take (i + 1) field) ≡ digits_value 10 (take i field) * 10 + (get_or field i 0 - 48)
value_more field i within low high =
    let digit = digit_value_digit (get_or field i 0) (low, high) in
    digits_value_more 10 field i within ∙ omega (arith, digit)

-- the value of the front is no more than that of the whole
pub front_large : (field : List ℕ) (i : ℕ) → i < length field → 48 ≤ get_or field i 0 → get_or field i 0 ≤ 57
    → 2 ^ 64 ≤ digits_value 10 (take i field) * 10 + (get_or field i 0 - 48) → None ≡ number_in field
front_large field i within low high large =
    let front = digits_value-take-le 10 field (i + 1) (omega arith) in
    too_large field (omega (arith, front, value_more field i within low high, large))

-- numbers of so few digits have room for one more
pub ten_pow : (i : ℕ) → i < 19 → 10 ^ i ≤ 10 ^ 18
ten_pow i few = let within : i ≤ 18 = omega (arith, few) in pow-le-pow_right (lit< tt) within

pub ten_more : (i : ℕ) → 10 ^ (i + 1) ≡ 10 ^ i * 10
ten_more i = rw add-one (pow-suc 10 i)

pub is_digit : (byte : ℕ) → 48 ≤ byte → byte ≤ 57 → is_ascii_digit byte ≡ true
is_digit byte low high = rw (le-leb 48 byte low, le-leb byte 57 high) refl
