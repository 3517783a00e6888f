-- When a value meets a test. A value is a number or a text, as a literal is; a test's literals are of the value's kind.
use Rattle.std.specs.Prelude.{ℕ, Bool, false, ◌&&◌, not, ◌==◌, nat_lt, List, slice_get}
use Rattle.std.specs.List.{list_any}
use Rattle.std.specs.Option.{option_map_or}
use Rattle.std.specs.Str.{bytes_eq}
use Rattle.definitions_queries.specs.Queries.{Literal, of_number, of_text, Test, equal, below, at_most, above, at_least, between, one_of}
use Rattle.catalog_core.specs.Texts.{Text, is_below}

-- numbers go by value, texts by bytes
abbrev pub comes_before : Literal → Literal → Bool
comes_before (of_number value) (of_number other) = nat_lt value other
comes_before (of_text bytes) (of_text other) = is_below bytes other
comes_before _ _ = false

abbrev pub is_equal : Literal → Literal → Bool
is_equal (of_number value) (of_number other) = value == other
is_equal (of_text bytes) (of_text other) = bytes_eq bytes other
is_equal _ _ = false

abbrev pub meets : Test → Literal → Bool
meets (equal literal) value = is_equal value literal
meets (below literal) value = comes_before value literal
meets (at_most literal) value = not (comes_before literal value)
meets (above literal) value = comes_before literal value
meets (at_least literal) value = not (comes_before value literal)
meets (between low high) value = not (comes_before value low) && not (comes_before high value)
meets (one_of literals) value = list_any (is_equal value) literals

-- whether the text of a code meets a test; a number that is no code has none
abbrev pub code_meets : List Text → Test → ℕ → Bool
code_meets texts test code = option_map_or (λ text. meets test (of_text text)) (slice_get texts code) false
