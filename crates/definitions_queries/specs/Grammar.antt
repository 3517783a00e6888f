-- The grammar of queries: which tokens spell a query, and which can still become one.
use Rattle.std.specs.Prelude.{◌≡◌, ℕ, ◌⊎◌, Bool, true, false, List, [], ◌∷◌, ◌++◌, map, codes, Option, Some, None}
use Rattle.definitions_queries.specs.Tokens.{Token, Placed, name, reserved, number, string}
use Rattle.definitions_queries.specs.Queries.{Word, SumShape, plain, product, difference, QueryItem, column, sum, Literal, of_number, of_text, Test, equal, below, at_most, above, at_least, between, one_of, QueryCondition, join, compare, QueryKey, Query}

-- ---- parts

-- a part of a text: the tokens that begin with it, and what follows it
abbrev pub Part : Type 1
Part = List Placed → List Placed → Type 0

infixr 30 ◌⨾◌
-- one part, and then another
abbrev pub ◌⨾◌ : Part → Part → Part
(p ⨾ q) tokens rest = (middle : List Placed) × p tokens middle × q middle rest

abbrev pub either : Part → Part → Part
either p q tokens rest = p tokens rest ⊎ q tokens rest

abbrev pub nothing : Part
nothing tokens rest = tokens ≡ rest

abbrev pub never : Part
never tokens rest = ⊥

-- this keyword or symbol, wherever it stands
abbrev pub the : List ℕ → Part
the text tokens rest = (at : ℕ) × (tokens ≡ record { at = at; token = reserved text } ∷ rest)

abbrev pub a_name : Word → Part
a_name word tokens rest = tokens ≡ record { at = word.at; token = name word.text } ∷ rest

-- a literal, and its place
pub record PlacedLiteral : Type 0 where
  pub value : Literal
  pub at : ℕ

abbrev pub literal_token : Literal → Token
literal_token (of_number value) = number value
literal_token (of_text bytes) = string bytes

abbrev pub a_literal : PlacedLiteral → Part
a_literal literal tokens rest = tokens ≡ record { at = literal.at; token = literal_token literal.value } ∷ rest

-- the parts after the first one of a list, each after the separator
abbrev pub more_of : {A : Type 0} → List ℕ → (A → Part) → List A → Part
more_of separator part [] = nothing
more_of separator part (a ∷ more) = the separator ⨾ part a ⨾ more_of separator part more

abbrev pub list_of : {A : Type 0} → List ℕ → (A → Part) → List A → Part
list_of separator part [] = never
list_of separator part (a ∷ more) = part a ⨾ more_of separator part more

-- ---- items

-- name | name "*" name | name "-" name
abbrev pub expression : SumShape → Word → Option Word → Part
expression plain first None = a_name first
expression product first (Some second) = a_name first ⨾ the (codes "*") ⨾ a_name second
expression difference first (Some second) = a_name first ⨾ the (codes "-") ⨾ a_name second
expression _ _ _ = never

-- [ "as" name ]
abbrev pub alias : Option Word → Part
alias None = nothing
alias (Some word) = the (codes "as") ⨾ a_name word

-- name | "sum" "(" expr ")" [ "as" name ]
abbrev pub item : QueryItem → Part
item (column word) = a_name word
item (sum shape first second as_word) =
    the (codes "sum") ⨾ the (codes "(") ⨾ expression shape first second ⨾ the (codes ")") ⨾ alias as_word

-- ---- conditions

-- name op literal
abbrev pub comparison : Word → List ℕ → Literal → List ℕ → Part
comparison word sign value places tokens rest =
    (at : ℕ) × (places ≡ at ∷ []) × (a_name word ⨾ the sign ⨾ a_literal (record { value = value; at = at })) tokens rest

-- name "between" literal "and" literal
abbrev pub range : Word → Literal → Literal → List ℕ → Part
range word low high places tokens rest =
    (from to : ℕ) × (places ≡ from ∷ to ∷ [])
    × (a_name word ⨾ the (codes "between") ⨾ a_literal (record { value = low; at = from }) ⨾ the (codes "and") ⨾ a_literal (record { value = high; at = to })) tokens rest

-- name "in" "(" literal { "," literal } ")"
abbrev pub membership : Word → List PlacedLiteral → Part
membership word literals = a_name word ⨾ the (codes "in") ⨾ the (codes "(") ⨾ list_of (codes ",") a_literal literals ⨾ the (codes ")")

-- name "=" literal, with this name
abbrev pub alternative : List ℕ → PlacedLiteral → Part
alternative text literal tokens rest =
    (at : ℕ) × (a_name (record { at = at; text = text }) ⨾ the (codes "=") ⨾ a_literal literal) tokens rest

-- "(" alt { "or" alt } ")", all names being the same
abbrev pub alternatives : Word → List PlacedLiteral → Part
alternatives word [] = never
alternatives word (literal ∷ more) =
    the (codes "(") ⨾ a_name word ⨾ the (codes "=") ⨾ a_literal literal ⨾ more_of (codes "or") (alternative word.text) more ⨾ the (codes ")")

abbrev pub value_of_literal : PlacedLiteral → Literal
value_of_literal literal = literal.value

abbrev pub place_of_literal : PlacedLiteral → ℕ
place_of_literal literal = literal.at

-- one of the literals, in either form
abbrev pub choice : Word → List Literal → List ℕ → Part
choice word values places tokens rest =
    (literals : List PlacedLiteral) × (values ≡ map value_of_literal literals) × (places ≡ map place_of_literal literals)
    × either (membership word literals) (alternatives word literals) tokens rest

abbrev pub tested : Word → Test → List ℕ → Part
tested word (equal value) places = comparison word (codes "=") value places
tested word (below value) places = comparison word (codes "<") value places
tested word (at_most value) places = comparison word (codes "<=") value places
tested word (above value) places = comparison word (codes ">") value places
tested word (at_least value) places = comparison word (codes ">=") value places
tested word (between low high) places = range word low high places
tested word (one_of values) places = choice word values places

abbrev pub condition : QueryCondition → Part
condition (join left right) = a_name left ⨾ the (codes "=") ⨾ a_name right
condition (compare word test places) = tested word test places

-- ---- queries

-- [ "asc" | "desc" ]
abbrev pub direction : Bool → Part
direction false = either nothing (the (codes "asc"))
direction true = the (codes "desc")

-- name [ "asc" | "desc" ]
abbrev pub key : QueryKey → Part
key k = a_name k.word ⨾ direction k.falling

-- [ "where" cond { "and" cond } ]
abbrev pub where_part : List QueryCondition → Part
where_part [] = nothing
where_part (first ∷ more) = the (codes "where") ⨾ list_of (codes "and") condition (first ∷ more)

-- [ "group" "by" name { "," name } ]
abbrev pub group_part : List Word → Part
group_part [] = nothing
group_part (first ∷ more) = the (codes "group") ⨾ the (codes "by") ⨾ list_of (codes ",") a_name (first ∷ more)

-- [ "order" "by" key { "," key } ]
abbrev pub order_part : List QueryKey → Part
order_part [] = nothing
order_part (first ∷ more) = the (codes "order") ⨾ the (codes "by") ⨾ list_of (codes ",") key (first ∷ more)

-- a query without its end
abbrev pub body_part : Query → Part
body_part query =
    the (codes "select") ⨾ list_of (codes ",") item query.items ⨾ the (codes "from") ⨾ list_of (codes ",") a_name query.tables
    ⨾ where_part query.conditions ⨾ group_part query.groups ⨾ order_part query.order

-- with `;` or without it
abbrev pub query_part : Query → Part
query_part query = body_part query ⨾ either nothing (the (codes ";"))

-- queries with `;` between them, the last one with `;` or without it; there is at least one
abbrev pub queries_part : List Query → Part
queries_part [] = never
queries_part (query ∷ []) = query_part query
queries_part (query ∷ next ∷ more) = body_part query ⨾ the (codes ";") ⨾ queries_part (next ∷ more)

-- the tokens spell the query
abbrev pub Spells : List Placed → Query → Type 0
Spells tokens query = query_part query tokens []

-- some tokens spell the query
abbrev pub IsSpelled : Query → Type 0
IsSpelled query = (tokens : List Placed) × Spells tokens query

-- the tokens spell the queries, one after the other
abbrev pub SpellsAll : List Placed → List Query → Type 0
SpellsAll tokens queries = queries_part queries tokens []

-- ---- languages

-- which lists of tokens belong to a language
abbrev pub Language : Type 1
Language = List Placed → Type 0

-- those that spell some value
abbrev pub Spelled : {A : Type 0} → (List Placed → A → Type 0) → Language
Spelled {A} spells tokens = (value : A) × spells tokens value

-- those of a query
abbrev pub IsQuery : Language
IsQuery = Spelled Spells

-- those of queries, one after the other
abbrev pub AreQueries : Language
AreQueries = Spelled SpellsAll

-- the tokens are a prefix of some that belong to the language
abbrev pub IsViable : Language → List Placed → Type 0
IsViable language tokens = (more : List Placed) × language (tokens ++ more)
