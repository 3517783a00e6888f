-- A query has at most as many entries as its text has bytes.
use Rattle.std.proofs.Common.{◌≡◌, ℕ, ◌+◌, ◌≤◌, inl, inr, List, [], ◌∷◌, length, Option, Some, None, Bool, true, false, ap, arith}
use Rattle.std.specs.Prelude.{codes}
use Rattle.std.proofs.lemmas.List.{length-map}
use Rattle.definitions_queries.specs.Tokens.{Placed}
use Rattle.definitions_queries.specs.Queries.{Word, SumShape, plain, product, difference, column, sum, Literal, equal, below, at_most, above, at_least, between, one_of, join, compare, Query}
use Rattle.definitions_queries.specs.Grammar.{Part, the, a_name, a_literal, PlacedLiteral, place_of_literal, more_of, list_of, expression, alias, item, comparison, range, membership, alternative, alternatives, condition, direction, key, where_part, group_part, order_part, body_part, Spells}
use Rattle.definitions_queries.specs.Entries.{total, condition_entries, entries}
use Rattle.definitions_queries.specs.Lexing.{LexicalError, rest_after, is_white_space, GoesOn, AreTokens}
use Rattle.definitions_queries.specs.Texts.{IsQueryText}
use Rattle.query_text.proofs.CuttingLemmas.{cut-less, length-rest_after}

-- a part has at least these many tokens
abbrev Grows : {A : Type 0} → (A → ℕ) → (A → Part) → Type 0
Grows {A} count part = (a : A) (tokens rest : List Placed) → part a tokens rest → count a + length rest ≤ length tokens

abbrev one : {A : Type 0} → A → ℕ
one a = 1

pub reserved-more : (text : List ℕ) (tokens rest : List Placed) → the text tokens rest → 1 + length rest ≤ length tokens
reserved-more text tokens rest h = omega (arith, ap length h.1)

name-more : Grows one a_name
name-more word tokens rest h = omega (arith, ap length h)

literal-more : Grows one a_literal
literal-more literal tokens rest h = omega (arith, ap length h)

others-more : {A : Type 0} (count : A → ℕ) (separator : List ℕ) (part : A → Part) → Grows count part → Grows (total count) (more_of separator part)
others-more count separator part grows [] tokens rest h = omega (arith, ap length h)
others-more count separator part grows (a ∷ later) tokens rest h =
    omega (arith, reserved-more separator tokens h.0 h.1, grows a h.0 h.2.0 h.2.1, others-more count separator part grows later h.2.0 rest h.2.2)

list-more : {A : Type 0} (count : A → ℕ) (separator : List ℕ) (part : A → Part) → Grows count part → Grows (total count) (list_of separator part)
list-more count separator part grows [] tokens rest h = absurd h
list-more count separator part grows (a ∷ later) tokens rest h =
    omega (arith, grows a tokens h.0 h.1, others-more count separator part grows later h.0 rest h.2)

total-one : {A : Type 0} (xs : List A) → total one xs ≡ length xs
total-one [] = omega arith
total-one (x ∷ xs) = omega (arith, total-one xs)

expression-more : (shape : SumShape) (first : Word) (second : Option Word) (tokens rest : List Placed) → expression shape first second tokens rest → 1 + length rest ≤ length tokens
expression-more plain first None tokens rest h = name-more first tokens rest h
expression-more plain first (Some word) tokens rest h = absurd h
expression-more product first None tokens rest h = absurd h
expression-more product first (Some word) tokens rest h = omega (arith, name-more first tokens h.0 h.1, reserved-more (codes "*") h.0 h.2.0 h.2.1, name-more word h.2.0 rest h.2.2)
expression-more difference first None tokens rest h = absurd h
expression-more difference first (Some word) tokens rest h = omega (arith, name-more first tokens h.0 h.1, reserved-more (codes "-") h.0 h.2.0 h.2.1, name-more word h.2.0 rest h.2.2)

alias-more : (word : Option Word) (tokens rest : List Placed) → alias word tokens rest → length rest ≤ length tokens
alias-more None tokens rest h = omega (arith, ap length h)
alias-more (Some word) tokens rest h = omega (arith, reserved-more (codes "as") tokens h.0 h.1, name-more word h.0 rest h.2)

item-more : Grows one item
item-more (column word) tokens rest h = name-more word tokens rest h
item-more (sum shape first second as_word) tokens rest (m1, h1, (m2, h2, (m3, h3, (m4, h4, h5)))) =
    omega (arith, reserved-more (codes "sum") tokens m1 h1, reserved-more (codes "(") m1 m2 h2, expression-more shape first second m2 m3 h3, reserved-more (codes ")") m3 m4 h4, alias-more as_word m4 rest h5)

comparison-more : (word : Word) (sign : List ℕ) (value : Literal) (places : List ℕ) (tokens rest : List Placed) → comparison word sign value places tokens rest → 1 + length places + length rest ≤ length tokens
comparison-more word sign value places tokens rest (at, e, (m1, h1, (m2, h2, h3))) =
    omega (arith, ap length e, name-more word tokens m1 h1, reserved-more sign m1 m2 h2, literal-more (record { value = value; at = at }) m2 rest h3)

range-more : (word : Word) (low high : Literal) (places : List ℕ) (tokens rest : List Placed) → range word low high places tokens rest → 1 + length places + length rest ≤ length tokens
range-more word low high places tokens rest (from, to, e, (m1, h1, (m2, h2, (m3, h3, (m4, h4, h5))))) =
    omega (arith, ap length e, name-more word tokens m1 h1, reserved-more (codes "between") m1 m2 h2, literal-more (record { value = low; at = from }) m2 m3 h3, reserved-more (codes "and") m3 m4 h4, literal-more (record { value = high; at = to }) m4 rest h5)

alternative-more : (text : List ℕ) → Grows one (alternative text)
alternative-more text literal tokens rest (at, (m1, h1, (m2, h2, h3))) =
    omega (arith, name-more (record { at = at; text = text }) tokens m1 h1, reserved-more (codes "=") m1 m2 h2, literal-more literal m2 rest h3)

membership-more : (word : Word) (literals : List PlacedLiteral) (tokens rest : List Placed) → membership word literals tokens rest → 1 + length literals + length rest ≤ length tokens
membership-more word literals tokens rest (m1, h1, (m2, h2, (m3, h3, (m4, h4, h5)))) =
    omega (arith, name-more word tokens m1 h1, reserved-more (codes "in") m1 m2 h2, reserved-more (codes "(") m2 m3 h3, list-more one (codes ",") a_literal literal-more literals m3 m4 h4, total-one literals, reserved-more (codes ")") m4 rest h5)

alternatives-more : (word : Word) (literals : List PlacedLiteral) (tokens rest : List Placed) → alternatives word literals tokens rest → 1 + length literals + length rest ≤ length tokens
alternatives-more word [] tokens rest h = absurd h
alternatives-more word (literal ∷ others) tokens rest (m1, h1, (m2, h2, (m3, h3, (m4, h4, (m5, h5, h6))))) =
    omega (
      arith,
      reserved-more (codes "(") tokens m1 h1,
      name-more word m1 m2 h2,
      reserved-more (codes "=") m2 m3 h3,
      literal-more literal m3 m4 h4,
      others-more one (codes "or") (alternative word.text) (alternative-more word.text) others m4 m5 h5,
      total-one others,
      reserved-more (codes ")") m5 rest h6,
    )

condition-more : Grows condition_entries condition
condition-more (join left right) tokens rest (m1, h1, (m2, h2, h3)) = omega (arith, name-more left tokens m1 h1, reserved-more (codes "=") m1 m2 h2, name-more right m2 rest h3)
condition-more (compare word (equal value) places) tokens rest h = comparison-more word (codes "=") value places tokens rest h
condition-more (compare word (below value) places) tokens rest h = comparison-more word (codes "<") value places tokens rest h
condition-more (compare word (at_most value) places) tokens rest h = comparison-more word (codes "<=") value places tokens rest h
condition-more (compare word (above value) places) tokens rest h = comparison-more word (codes ">") value places tokens rest h
condition-more (compare word (at_least value) places) tokens rest h = comparison-more word (codes ">=") value places tokens rest h
condition-more (compare word (between low high) places) tokens rest h = range-more word low high places tokens rest h
condition-more (compare word (one_of values) places) tokens rest (literals, e1, e2, inl h) = omega (arith, ap length e2, length-map literals place_of_literal, membership-more word literals tokens rest h)
condition-more (compare word (one_of values) places) tokens rest (literals, e1, e2, inr h) = omega (arith, ap length e2, length-map literals place_of_literal, alternatives-more word literals tokens rest h)

direction-more : (falling : Bool) (tokens rest : List Placed) → direction falling tokens rest → length rest ≤ length tokens
direction-more false tokens rest (inl h) = omega (arith, ap length h)
direction-more false tokens rest (inr h) = omega (arith, reserved-more (codes "asc") tokens rest h)
direction-more true tokens rest h = omega (arith, reserved-more (codes "desc") tokens rest h)

key-more : Grows one key
key-more k tokens rest (m1, h1, h2) = omega (arith, name-more k.word tokens m1 h1, direction-more k.falling m1 rest h2)

where-more : Grows (total condition_entries) where_part
where-more [] tokens rest h = omega (arith, ap length h)
where-more (first ∷ others) tokens rest (m1, h1, h2) = omega (arith, reserved-more (codes "where") tokens m1 h1, list-more condition_entries (codes "and") condition condition-more (first ∷ others) m1 rest h2)

group-more : Grows length group_part
group-more [] tokens rest h = omega (arith, ap length h)
group-more (first ∷ others) tokens rest (m1, h1, (m2, h2, h3)) =
    omega (arith, reserved-more (codes "group") tokens m1 h1, reserved-more (codes "by") m1 m2 h2, list-more one (codes ",") a_name name-more (first ∷ others) m2 rest h3, total-one others)

order-more : Grows length order_part
order-more [] tokens rest h = omega (arith, ap length h)
order-more (first ∷ others) tokens rest (m1, h1, (m2, h2, h3)) =
    omega (arith, reserved-more (codes "order") tokens m1 h1, reserved-more (codes "by") m1 m2 h2, list-more one (codes ",") key key-more (first ∷ others) m2 rest h3, total-one others)

pub body-more : Grows entries body_part
body-more q tokens rest (m1, h1, (m2, h2, (m3, h3, (m4, h4, (m5, h5, (m6, h6, h7)))))) =
    omega (
      arith,
      reserved-more (codes "select") tokens m1 h1,
      list-more one (codes ",") item item-more q.items m1 m2 h2,
      total-one q.items,
      reserved-more (codes "from") m2 m3 h3,
      list-more one (codes ",") a_name name-more q.tables m3 m4 h4,
      total-one q.tables,
      where-more q.conditions m4 m5 h5,
      group-more q.groups m5 m6 h6,
      order-more q.order m6 rest h7,
    )

pub spelled-more : (query : Query) (tokens : List Placed) → Spells tokens query → entries query ≤ length tokens
spelled-more query tokens (m1, h1, h2) = omega (arith, body-more query tokens m1 h1)

tokens-fewer : (len : ℕ) (tokens : List Placed) (text : List ℕ) (error : Option LexicalError) → GoesOn len text tokens error → length tokens ≤ length text
tokens-fewer len [] text error h = omega arith
tokens-fewer len (first ∷ tokens) text error h =
    omega (arith, cut-less text h.0 first.token h.1, length-rest_after is_white_space h.0, tokens-fewer len tokens (rest_after is_white_space h.0) error h.3)

-- a text has at most as many tokens as bytes
pub tokens-within : (text : List ℕ) (tokens : List Placed) (error : Option LexicalError) → AreTokens text tokens error → length tokens ≤ length text
tokens-within text tokens error cuts =
    omega (arith, tokens-fewer (length text) tokens (rest_after is_white_space text) error cuts, length-rest_after is_white_space text)

pub entries-fewer : (text : List ℕ) (query : Query) → IsQueryText text query → entries query ≤ length text
entries-fewer text query (tokens, cuts, spells) = omega (arith, spelled-more query tokens spells, tokens-within text tokens None cuts)
