-- Reading tokens from left to right: what was read, with the tokens after it, or the place of the token that is refused.
use Rattle.std.specs.Prelude.{ℕ, zero, suc, Bool, true, false, List, [], ◌∷◌, length, map, codes, Option, Some, None, option_map, Result, Ok, Err}
use Rattle.std.specs.Str.{bytes_eq}
use Rattle.definitions_queries.specs.Tokens.{Token, Placed, name, reserved, number, string}
use Rattle.definitions_queries.specs.Queries.{Word, SumShape, plain, product, difference, QueryItem, column, sum, Literal, of_number, of_text, Test, equal, below, at_most, above, at_least, between, one_of, QueryCondition, join, compare, QueryKey, Query}
use Rattle.definitions_queries.specs.Grammar.{PlacedLiteral, value_of_literal, place_of_literal}

-- the place of the first token, if there is one
abbrev pub place_of : List Placed → Option ℕ
place_of [] = None
place_of (token ∷ tokens) = Some token.at

abbrev pub Read : Type 0 → Type 0
Read A = Result (A × List Placed) (Option ℕ)

abbrev pub Reader : Type 0 → Type 0
Reader A = List Placed → Read A

abbrev pub next : {A B : Type 0} → Read A → (A → Reader B) → Read B
next (Ok found) f = f found.0 found.1
next (Err place) f = Err place

infixl 10 ◌>>=◌
abbrev pub ◌>>=◌ : {A B : Type 0} → Reader A → (A → Reader B) → Reader B
(p >>= f) tokens = next (p tokens) f

-- without a token
abbrev pub give : {A : Type 0} → A → Reader A
give a tokens = Ok (a, tokens)

-- one token
abbrev pub taken : {A : Type 0} → Option A → Placed → Reader A
taken (Some a) token tokens = Ok (a, tokens)
taken None token tokens = Err (Some token.at)

abbrev pub one : {A : Type 0} → (Placed → Option A) → Reader A
one wanted [] = Err None
one wanted (token ∷ tokens) = taken (wanted token) token tokens

-- a wanted token that comes next, and the tokens after it
abbrev pub with_rest : {A : Type 0} → Option A → List Placed → Option (A × List Placed)
with_rest (Some a) tokens = Some (a, tokens)
with_rest None tokens = None

abbrev pub split : {A : Type 0} → (Placed → Option A) → List Placed → Option (A × List Placed)
split wanted [] = None
split wanted (token ∷ tokens) = with_rest (wanted token) tokens

-- goes on in one way after a wanted token, and else in another way
abbrev pub pick : {A B : Type 0} → Option (A × List Placed) → (A → Reader B) → Reader B → Reader B
pick (Some found) on off tokens = on found.0 found.1
pick None on off tokens = off tokens

abbrev pub chosen : {A B : Type 0} → Option A → (A → Reader B) → Reader B → Placed → Reader B
chosen o on off token tokens = pick (with_rest o tokens) on off (token ∷ tokens)

abbrev pub if_next : {A B : Type 0} → (Placed → Option A) → (A → Reader B) → Reader B → Reader B
if_next wanted on off tokens = pick (split wanted tokens) on off tokens

-- ---- tokens

abbrev pub is_reserved : List ℕ → Token → Bool
is_reserved text (name other) = false
is_reserved text (reserved other) = bytes_eq text other
is_reserved text (number value) = false
is_reserved text (string bytes) = false

abbrev pub when : Bool → Option (Unit {0})
when true = Some tt
when false = None

abbrev pub the_reserved : List ℕ → Placed → Option (Unit {0})
the_reserved text token = when (is_reserved text token.token)

abbrev pub word_of : ℕ → Token → Option Word
word_of at (name text) = Some (record { at = at; text = text })
word_of at (reserved text) = None
word_of at (number value) = None
word_of at (string bytes) = None

abbrev pub a_word : Placed → Option Word
a_word token = word_of token.at token.token

abbrev pub placed_of : ℕ → Token → Option PlacedLiteral
placed_of at (name text) = None
placed_of at (reserved text) = None
placed_of at (number value) = Some (record { value = of_number value; at = at })
placed_of at (string bytes) = Some (record { value = of_text bytes; at = at })

abbrev pub a_placed : Placed → Option PlacedLiteral
a_placed token = placed_of token.at token.token

abbrev pub same_word_of : List ℕ → Token → Option (Unit {0})
same_word_of text (name other) = when (bytes_eq text other)
same_word_of text (reserved other) = None
same_word_of text (number value) = None
same_word_of text (string bytes) = None

abbrev pub the_word : List ℕ → Placed → Option (Unit {0})
the_word text token = same_word_of text token.token

unfoldable pub reserved_at : List ℕ → Reader (Unit {0})
reserved_at text = one (the_reserved text)

unfoldable pub name_at : Reader Word
name_at = one a_word

unfoldable pub literal_at : Reader PlacedLiteral
literal_at = one a_placed

unfoldable pub same_name_at : List ℕ → Reader (Unit {0})
same_name_at text = one (the_word text)

-- the parts of a list after the first one, each after the separator; there are at most as many as tokens
unfoldable pub more_at : {A : Type 0} → List ℕ → Reader A → ℕ → Reader (List A)
more_at separator part zero = give []
more_at separator part (suc most) =
    if_next (the_reserved separator) (λ _. part >>= λ a. more_at separator part most >>= λ more. give (a ∷ more)) (give [])

unfoldable pub more : {A : Type 0} → List ℕ → Reader A → Reader (List A)
more separator part tokens = more_at separator part (length tokens) tokens

unfoldable pub list_at : {A : Type 0} → List ℕ → Reader A → Reader (List A)
list_at separator part = part >>= λ a. more separator part >>= λ others. give (a ∷ others)

-- ---- items

abbrev pub minus_at : Reader (SumShape × Option Word)
minus_at = if_next (the_reserved (codes "-")) (λ _. name_at >>= λ word. give (difference, Some word)) (give (plain, None))

unfoldable pub second_at : Reader (SumShape × Option Word)
second_at = if_next (the_reserved (codes "*")) (λ _. name_at >>= λ word. give (product, Some word)) minus_at

unfoldable pub alias_at : Reader (Option Word)
alias_at = if_next (the_reserved (codes "as")) (λ _. name_at >>= λ word. give (Some word)) (give None)

unfoldable pub sum_at : Reader QueryItem
sum_at = do
  _ ← reserved_at (codes "sum")
  _ ← reserved_at (codes "(")
  first ← name_at
  second ← second_at
  _ ← reserved_at (codes ")")
  as_word ← alias_at
  give (sum second.0 first second.1 as_word)

unfoldable pub item_at : Reader QueryItem
item_at = if_next a_word (λ word. give (column word)) sum_at

-- ---- conditions

-- what follows a column

unfoldable pub single_at : Word → (Literal → Test) → Reader QueryCondition
single_at word make = do
  literal ← literal_at
  give (compare word (make literal.value) (literal.at ∷ []))

unfoldable pub equal_at : Word → Reader QueryCondition
equal_at word = if_next a_word (λ right. give (join word right)) (single_at word equal)

unfoldable pub between_at : Word → Reader QueryCondition
between_at word = do
  low ← literal_at
  _ ← reserved_at (codes "and")
  high ← literal_at
  give (compare word (between low.value high.value) (low.at ∷ high.at ∷ []))

abbrev pub choice_of : Word → List PlacedLiteral → QueryCondition
choice_of word literals = compare word (one_of (map value_of_literal literals)) (map place_of_literal literals)

unfoldable pub membership_at : Word → Reader QueryCondition
membership_at word = do
  _ ← reserved_at (codes "in")
  _ ← reserved_at (codes "(")
  literals ← list_at (codes ",") literal_at
  _ ← reserved_at (codes ")")
  give (choice_of word literals)

-- the tests one after the other: each with those after it
abbrev pub from_between : Word → Reader QueryCondition
from_between word = if_next (the_reserved (codes "between")) (λ _. between_at word) (membership_at word)

abbrev pub from_at_least : Word → Reader QueryCondition
from_at_least word = if_next (the_reserved (codes ">=")) (λ _. single_at word at_least) (from_between word)

abbrev pub from_above : Word → Reader QueryCondition
from_above word = if_next (the_reserved (codes ">")) (λ _. single_at word above) (from_at_least word)

abbrev pub from_at_most : Word → Reader QueryCondition
from_at_most word = if_next (the_reserved (codes "<=")) (λ _. single_at word at_most) (from_above word)

abbrev pub from_below : Word → Reader QueryCondition
from_below word = if_next (the_reserved (codes "<")) (λ _. single_at word below) (from_at_most word)

unfoldable pub test_at : Word → Reader QueryCondition
test_at word = if_next (the_reserved (codes "=")) (λ _. equal_at word) (from_below word)

unfoldable pub alternative_at : List ℕ → Reader PlacedLiteral
alternative_at text = do
  _ ← same_name_at text
  _ ← reserved_at (codes "=")
  literal_at

-- the literals after the first name and its sign
unfoldable pub choices_at : List ℕ → Reader (List PlacedLiteral)
choices_at text = do
  first ← literal_at
  others ← more (codes "or") (alternative_at text)
  give (first ∷ others)

-- after `(`
unfoldable pub alternatives_at : Reader QueryCondition
alternatives_at = do
  word ← name_at
  _ ← reserved_at (codes "=")
  literals ← choices_at word.text
  _ ← reserved_at (codes ")")
  give (choice_of word literals)

unfoldable pub comparison_at : Reader QueryCondition
comparison_at = name_at >>= λ word. test_at word

unfoldable pub condition_at : Reader QueryCondition
condition_at = if_next (the_reserved (codes "(")) (λ _. alternatives_at) comparison_at

-- ---- queries

abbrev pub desc_at : Reader Bool
desc_at = if_next (the_reserved (codes "desc")) (λ _. give true) (give false)

unfoldable pub direction_at : Reader Bool
direction_at = if_next (the_reserved (codes "asc")) (λ _. give false) desc_at

unfoldable pub key_at : Reader QueryKey
key_at = do
  word ← name_at
  falling ← direction_at
  give (record { word = word; falling = falling })

unfoldable pub where_at : Reader (List QueryCondition)
where_at = if_next (the_reserved (codes "where")) (λ _. list_at (codes "and") condition_at) (give [])

unfoldable pub group_at : Reader (List Word)
group_at = if_next (the_reserved (codes "group")) (λ _. reserved_at (codes "by") >>= λ _. list_at (codes ",") name_at) (give [])

unfoldable pub order_at : Reader (List QueryKey)
order_at = if_next (the_reserved (codes "order")) (λ _. reserved_at (codes "by") >>= λ _. list_at (codes ",") key_at) (give [])

-- a query after `select`, without its end
unfoldable pub selected_at : Reader Query
selected_at = do
  items ← list_at (codes ",") item_at
  _ ← reserved_at (codes "from")
  tables ← list_at (codes ",") name_at
  conditions ← where_at
  groups ← group_at
  order ← order_at
  give (record { items = items; tables = tables; conditions = conditions; groups = groups; order = order })

-- a query without its end
unfoldable pub body_at : Reader Query
body_at = reserved_at (codes "select") >>= λ _. selected_at

unfoldable pub close_at : Reader (Unit {0})
close_at = if_next (the_reserved (codes ";")) (λ _. give tt) (give tt)

unfoldable pub end_at : Reader (Unit {0})
end_at [] = Ok (tt, [])
end_at (token ∷ tokens) = Err (Some token.at)

-- the end of all
unfoldable pub finish_at : Reader (Unit {0})
finish_at = close_at >>= λ _. end_at

-- a query and nothing more
unfoldable pub query_at : Reader Query
query_at = body_at >>= λ query. finish_at >>= λ _. give query

-- ---- several queries

-- the tokens after `;` and `select`
abbrev pub select_after : Option (Unit {0} × List Placed) → Option (List Placed)
select_after (Some found) = option_map (λ x. x.1) (split (the_reserved (codes "select")) found.1)
select_after None = None

abbrev pub next_query : List Placed → Option (List Placed)
next_query tokens = select_after (split (the_reserved (codes ";")) tokens)

abbrev pub nothing_more : Reader (List Query)
nothing_more = end_at >>= λ _. give []

-- a further query, and then those of the reader; else `;` or nothing, and no more tokens
abbrev pub one_query_more : Reader (List Query) → Reader (List Query)
one_query_more later =
    if_next (the_reserved (codes ";"))
    (λ _. if_next (the_reserved (codes "select")) (λ _. selected_at >>= λ query. later >>= λ more. give (query ∷ more)) nothing_more) nothing_more

-- the queries after the first one: there are at most as many as tokens
unfoldable pub others_at : ℕ → Reader (List Query)
others_at zero = nothing_more
others_at (suc most) = one_query_more (others_at most)

unfoldable pub others : Reader (List Query)
others tokens = others_at (length tokens) tokens

-- queries and nothing more
unfoldable pub queries_at : Reader (List Query)
queries_at = body_at >>= λ query. others >>= λ more. give (query ∷ more)
