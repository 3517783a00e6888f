-- The definitions at worked texts, whose tokens were written down by hand.
use Rattle.std.proofs.Common.{◌≡◌, ◌+◌, ℕ, false, List, [], ◌∷◌, Some, None, inl, drop, refl}
use Rattle.std.specs.Prelude.{codes}
use Rattle.definitions_queries.specs.Tokens.{Placed, name, reserved, number, string}
use Rattle.definitions_queries.specs.Queries.{Word, plain, column, sum, of_number, below, at_least, one_of, compare, Query}
use Rattle.definitions_queries.specs.Grammar.{item, condition, Spells}
use Rattle.definitions_queries.specs.Lexing.{cut, token, fault, number_too_large, open_string, bad_byte, AreTokens}
use Rattle.definitions_queries.specs.Places.{places_in}
use Rattle.definitions_queries.specs.Entries.{entries}

-- what a text begins with

keyword_in_capitals : cut (codes "FROM t") ≡ token (reserved (codes "from")) (codes " t")
unfolding cut
keyword_in_capitals = refl

greatest_number : cut (codes "018446744073709551615,") ≡ token (number 18446744073709551615) (codes ",")
unfolding cut
greatest_number = refl

number_of_65_bits : cut (codes "18446744073709551616") ≡ fault number_too_large
unfolding cut
number_of_65_bits = refl

string_without_end : cut (codes "'x''") ≡ fault open_string
unfolding cut
string_without_end = refl

-- a text's tokens, up to the byte that begins none

text : List ℕ
text = codes " Year>=7, 'it''s'!"

tokens : List Placed
tokens =
    record { at = 1; token = name (codes "year") } ∷ record { at = 5; token = reserved (codes ">=") } ∷ record { at = 7; token = number 7 } ∷ record { at = 8; token = reserved (codes ",") }
    ∷ record { at = 10; token = string (codes "it's") } ∷ []

tokens_of_a_text : AreTokens text tokens (Some (record { at = 17; fault = bad_byte }))
unfolding cut text tokens
tokens_of_a_text = (_, refl, refl, (_, refl, refl, (_, refl, refl, (_, refl, refl, (_, refl, refl, (refl, refl))))))

places_of_a_text : places_in text tokens (Some (record { at = 17; fault = bad_byte })) ≡ 1 ∷ 5 ∷ 7 ∷ 8 ∷ 10 ∷ 17 ∷ 18 ∷ []
unfolding text tokens
places_of_a_text = refl

-- the entries of: select sum(a), b from t where a >= 7 and b in (1, 2) group by b order by b

word : ℕ → List ℕ → Word
word at text = record { at = at; text = text }

entries_of_a_query : entries (record {
  items = sum plain (word 11 (codes "a")) None None ∷ column (word 15 (codes "b")) ∷ [];
  tables = word 22 (codes "t") ∷ [];
  conditions = compare (word 30 (codes "a")) (at_least (of_number 7)) (35 ∷ []) ∷ compare (word 41 (codes "b")) (one_of (of_number 1 ∷ of_number 2 ∷ [])) (47 ∷ 50 ∷ []) ∷ [];
  groups = word 62 (codes "b") ∷ [];
  order = record { word = word 73 (codes "b"); falling = false } ∷ [];
}) ≡ 2 + 1 + (2 + 3) + 1 + 1
unfolding word
entries_of_a_query = refl

-- select sum(a) from t where a < 7

small : Query
small = record {
  items = sum plain (word 11 (codes "a")) None None ∷ [];
  tables = word 19 (codes "t") ∷ [];
  conditions = compare (word 27 (codes "a")) (below (of_number 7)) (31 ∷ []) ∷ [];
  groups = [];
  order = [];
}

small_tokens : List Placed
small_tokens =
    record { at = 0; token = reserved (codes "select") } ∷ record { at = 7; token = reserved (codes "sum") } ∷ record { at = 10; token = reserved (codes "(") } ∷ record { at = 11; token = name (codes "a") }
    ∷ record { at = 12; token = reserved (codes ")") } ∷ record { at = 14; token = reserved (codes "from") } ∷ record { at = 19; token = name (codes "t") }
    ∷ record { at = 21; token = reserved (codes "where") } ∷ record { at = 27; token = name (codes "a") } ∷ record { at = 29; token = reserved (codes "<") } ∷ record { at = 31; token = number 7 } ∷ []

item_spelled : item (sum plain (word 11 (codes "a")) None None) (drop 1 small_tokens) (drop 5 small_tokens)
unfolding word small_tokens
item_spelled = (_, (7, refl), (_, (10, refl), (_, refl, (_, (12, refl), refl))))

condition_spelled : condition (compare (word 27 (codes "a")) (below (of_number 7)) (31 ∷ [])) (drop 8 small_tokens) []
unfolding word small_tokens
condition_spelled = (31, refl, (_, refl, (_, (29, refl), refl)))

spelled : Spells small_tokens small
unfolding word small small_tokens
spelled = (_, (_, (0, refl), (_, (_, item_spelled, refl), (_, (14, refl), (_, (_, refl, refl), (_, (_, (21, refl), (_, condition_spelled, refl)), (_, refl, refl)))))), inl refl)
