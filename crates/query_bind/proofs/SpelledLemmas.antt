-- What a query that some tokens spell has: items, and literals in each test.
use Rattle.std.proofs.Common.{◌≡◌, ℕ, ◌≤◌, List, [], ◌∷◌, length, inl, inr, sym, ap, ◌∙◌, arith}
use Rattle.std.specs.Prelude.{codes}
use Rattle.std.specs.List.{AllByRecursion}
use Rattle.std.proofs.lemmas.List.{length-map}
use Rattle.definitions_queries.specs.Tokens.{Placed}
use Rattle.definitions_queries.specs.Queries.{Word, QueryItem, Literal, equal, below, at_most, above, at_least, between, one_of, QueryCondition, join, compare, Query}
use Rattle.definitions_queries.specs.Grammar.{IsSpelled, PlacedLiteral, value_of_literal, place_of_literal, list_of, more_of, item, condition, either, membership, alternatives, choice, where_part}
use Rattle.query_bind.specs.Binding.{literals_of}

-- a test has literals, and as many places
abbrev pub HasLiterals : QueryCondition → Type 0
HasLiterals (join left right) = Unit {0}
HasLiterals (compare word test places) = (1 ≤ length (literals_of test)) × (length places ≡ length (literals_of test))

some_items : (items : List QueryItem) (tokens rest : List Placed) → list_of (codes ",") item items tokens rest → 1 ≤ length items
some_items [] tokens rest never = absurd never
some_items (first ∷ more) tokens rest list = omega arith

some_literals : (word : Word) (literals : List PlacedLiteral) (tokens rest : List Placed) → either (membership word literals) (alternatives word literals) tokens rest → 1 ≤ length literals
some_literals word [] tokens rest (inl (a, name, (b, keyword, (c, bracket, (d, never, close))))) = absurd never
some_literals word [] tokens rest (inr never) = absurd never
some_literals word (first ∷ more) tokens rest form = omega arith

some_chosen : (word : Word) (values : List Literal) (places : List ℕ) (tokens rest : List Placed) → choice word values places tokens rest → (1 ≤ length values) × (length places ≡ length values)
some_chosen word values places tokens rest (literals, values_are, places_are, form) = (
  omega (arith, some_literals word literals tokens rest form, ap length values_are, length-map literals value_of_literal),
  ap length places_are ∙ length-map literals place_of_literal ∙ sym (ap length values_are ∙ length-map literals value_of_literal),
)

has_literals : (one : QueryCondition) (tokens rest : List Placed) → condition one tokens rest → HasLiterals one
has_literals (join left right) tokens rest part = tt
has_literals (compare word (equal value) places) tokens rest (at, are, part) = (omega arith, ap length are)
has_literals (compare word (below value) places) tokens rest (at, are, part) = (omega arith, ap length are)
has_literals (compare word (at_most value) places) tokens rest (at, are, part) = (omega arith, ap length are)
has_literals (compare word (above value) places) tokens rest (at, are, part) = (omega arith, ap length are)
has_literals (compare word (at_least value) places) tokens rest (at, are, part) = (omega arith, ap length are)
has_literals (compare word (between low high) places) tokens rest (from, to, are, part) = (omega arith, ap length are)
has_literals (compare word (one_of values) places) tokens rest part = some_chosen word values places tokens rest part

later_conditions : (conditions : List QueryCondition) (tokens rest : List Placed) → more_of (codes "and") condition conditions tokens rest → AllByRecursion HasLiterals conditions
later_conditions [] tokens rest part = tt
later_conditions (first ∷ more) tokens rest (a, separator, (b, one, after)) = (has_literals first a b one, later_conditions more b rest after)

all_conditions : (conditions : List QueryCondition) (tokens rest : List Placed) → where_part conditions tokens rest → AllByRecursion HasLiterals conditions
all_conditions [] tokens rest part = tt
all_conditions (first ∷ more) tokens rest (a, keyword, (b, one, after)) = (has_literals first a b one, later_conditions more b rest after)

pub spelled_items : (query : Query) → IsSpelled query → 1 ≤ length query.items
spelled_items query (tokens, (a, (b, keyword, (c, items, more)), end)) = some_items query.items b c items

pub spelled_literals : (query : Query) → IsSpelled query → AllByRecursion HasLiterals query.conditions
spelled_literals query (tokens, (a, (b, select, (c, items, (d, from, (e, tables, (f, conditions, more))))), end)) = all_conditions query.conditions e f conditions
