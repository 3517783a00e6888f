use Rattle.std.proofs.Common.{◌≡◌, ◌<◌, ℕ, true, List, length, get_or, sym, subst}
use Rattle.std.specs.Char.{is_ascii_digit}
use Rattle.query_text.proofs.DigitLemmas.{front_passes}
use Rattle.query_text.proofs.lexing.cut.Goals as goal

pub value_of-requires : goal.value_of-requires
value_of-requires c =
    let AreDigits : List ℕ → Type 0 = λ l. (k d : ℕ) → k < length l → is_ascii_digit (get_or l k d) ≡ true in
    subst AreDigits (sym c.split_front-then-is_ascii_digit.ensures.front) (λ k d within. front_passes is_ascii_digit c.args.text.now k d within)
