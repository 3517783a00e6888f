-- The values of a test as a range.
use Rattle.std.specs.Prelude.{ℕ, ◌+◌, ◌^◌, Bool, true, false, List, length, Option, Some, None}
use Rattle.definitions_operators.specs.Operators.{is_within}
use Rattle.definitions_queries.specs.Queries.{Literal, of_number, of_text, Test, equal, below, at_most, above, at_least, between, one_of}
use Rattle.catalog_core.specs.Texts.{Text}
use Rattle.catalog_core.specs.Dictionaries.{rank_below, rank_through}
use Rattle.catalog_core.specs.declared.schemas.Kind.{Kind}
use Rattle.catalog_core.specs.declared.schemas.Kind.TheVariants as kind
use Rattle.plan_core.specs.declared.ranges.CodeRange.{CodeRange}

-- from `low` to `high`, both included
abbrev pub is_in : CodeRange → ℕ → Bool
is_in range number = is_within range.low range.high number

-- a column has codes if it has a dictionary, and else numbers
abbrev pub kind_with : Option (List Text) → Kind
kind_with None = kind.Number
kind_with (Some texts) = kind.Text

-- a test that a range can say
abbrev pub is_range : Test → Bool
is_range (one_of literals) = false
is_range _ = true

-- ---- in the code's words: how many numbers or codes come before a literal, how many come before it or are equal to it, and how many there are

abbrev pub count_below : Option (List Text) → Literal → ℕ
count_below (Some texts) (of_text bytes) = rank_below bytes texts
count_below None (of_number value) = value
count_below _ _ = 0

abbrev pub count_through : Option (List Text) → Literal → ℕ
count_through (Some texts) (of_text bytes) = rank_through bytes texts
count_through None (of_number value) = value + 1
count_through _ _ = 0

abbrev pub count_all : Option (List Text) → ℕ
count_all None = 2 ^ 64
count_all (Some texts) = length texts

-- where the range of a test starts, and where it ends
abbrev pub start_of : Option (List Text) → Test → ℕ
start_of texts (equal literal) = count_below texts literal
start_of texts (below literal) = 0
start_of texts (at_most literal) = 0
start_of texts (above literal) = count_through texts literal
start_of texts (at_least literal) = count_below texts literal
start_of texts (between low high) = count_below texts low
start_of texts (one_of literals) = 0

abbrev pub end_of : Option (List Text) → Test → ℕ
end_of texts (equal literal) = count_through texts literal
end_of texts (below literal) = count_below texts literal
end_of texts (at_most literal) = count_through texts literal
end_of texts (above literal) = count_all texts
end_of texts (at_least literal) = count_all texts
end_of texts (between low high) = count_through texts high
end_of texts (one_of literals) = 0
