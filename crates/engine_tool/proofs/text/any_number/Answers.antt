use Rattle.std.proofs.Common.{◌≡◌, ◌≢◌, ℕ, ◌^◌, ◌<◌, true, List, length, get_or, ap, sym, ◌∙◌, subst, arith}
use Rattle.std.proofs.lemmas.Bool.Decides.{nat_tests}
use Rattle.std.specs.Char.{is_ascii_digit}
use Rattle.engine_tool.specs.Tokens.{number, front, value_of}
use Rattle.engine_tool.proofs.TextLemmas.{lacks_token, has_token, number_lacks_digits, number_lacks_large, number_found, front_passes}
use Rattle.engine_tool.proofs.text.any_number.Goals as goal

pub returns-then-is_empty : goal.returns-then-is_empty
returns-then-is_empty c = λ value.
    let text = c.skip_white_space.result.now in
    let none : length c.split_front.result.0.now ≡ 0 = grind (arith, nat_tests) in
    lacks_token c.args.text.now text (number value) (sym c.skip_white_space.ensures)
    (number_lacks_digits value text (ap length (sym c.split_front.ensures.front) ∙ none))

pub value_of-requires : goal.value_of-requires
value_of-requires c =
    let text = c.skip_white_space.result.now in
    let AreDigits : List ℕ → Type 0 = λ l. (k d : ℕ) → k < length l → is_ascii_digit (get_or l k d) ≡ true in
    subst AreDigits (sym c.split_front.ensures.front) (λ k d within. front_passes is_ascii_digit text k d within)

pub returns-in_err-value_of : goal.returns-in_err-value_of
returns-in_err-value_of c = rw c.from_residual.ensures (λ value.
    let text = c.skip_white_space.result.now in
    let some : length c.split_front.result.0.now ≢ 0 = grind (arith, nat_tests) in
    let is : c.split_front.result.0.now ≡ front is_ascii_digit text = c.split_front.ensures.front in
    let large : value_of (front is_ascii_digit text) < 2 ^ 64 → ⊥ = subst (λ l. value_of l < 2 ^ 64 → ⊥) is c.in_err-value_of.ensures in
    lacks_token c.args.text.now text (number value) (sym c.skip_white_space.ensures)
    (number_lacks_large value text (omega (arith, ap length is)) large))

pub returns : goal.returns
returns c =
    let text = c.skip_white_space.result.now in
    let some : length c.split_front.result.0.now ≢ 0 = grind (arith, nat_tests) in
    let is : c.split_front.result.0.now ≡ front is_ascii_digit text = c.split_front.ensures.front in
    let small : value_of (front is_ascii_digit text) < 2 ^ 64 = subst (λ l. value_of l < 2 ^ 64) is c.in_ok-value_of.ensures.0 in
    let found = has_token c.args.text.now text _ _ (sym c.skip_white_space.ensures) (number_found text (omega (arith, ap length is)) small) in
    let value : c.in_ok-value_of.field-0 ≡ value_of (front is_ascii_digit text) = c.in_ok-value_of.ensures.1 ∙ ap value_of is in
    rw (value, c.split_front.ensures.behind) found
