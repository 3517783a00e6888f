-- What the code's types say in the definitions' words.
use Rattle.std.specs.Prelude.{ℕ, List, [], ◌∷◌, map, codes, option_map, ◌==◌, if◌then◌else◌}
use Rattle.std.specs.Str.{str_to_ascii_lowercase}
use Rattle.definitions_queries.specs.Tokens as spec
use Rattle.definitions_queries.specs.Tokens.{Placed}
use Rattle.definitions_queries.specs.Queries as said
use Rattle.definitions_queries.specs.Grammar.{PlacedLiteral}
use Rattle.query_text.specs.declared.tokens.Reserved.{Reserved}
use Rattle.query_text.specs.declared.tokens.Reserved.TheVariants as texts
use Rattle.query_text.specs.declared.tokens.Kind.{Kind}
use Rattle.query_text.specs.declared.tokens.Kind.TheVariants as kinds
use Rattle.query_text.specs.declared.tokens.Token.{Token}
use Rattle.query_text.specs.declared.reading.RawName.{RawName}
use Rattle.query_text.specs.declared.query.Word.{Word}
use Rattle.query_text.specs.declared.query.SumShape.{SumShape}
use Rattle.query_text.specs.declared.query.SumShape.TheVariants as shapes
use Rattle.query_text.specs.declared.query.QueryItem.{QueryItem}
use Rattle.query_text.specs.declared.query.QueryItem.TheVariants as items
use Rattle.query_text.specs.declared.query.Literal.{Literal}
use Rattle.query_text.specs.declared.query.Literal.TheVariants as literal_kinds
use Rattle.query_text.specs.declared.query.Test.{Test}
use Rattle.query_text.specs.declared.query.Test.TheVariants as tests
use Rattle.query_text.specs.declared.query.QueryCondition.{QueryCondition}
use Rattle.query_text.specs.declared.query.QueryCondition.TheVariants as conditions
use Rattle.query_text.specs.declared.query.QueryKey.{QueryKey}
use Rattle.query_text.specs.declared.query.Query.{Query}

-- ---- queries

abbrev pub word_view : Word → said.Word
word_view word = record { at = word.at; text = word.text }

abbrev pub words_view : List Word → List said.Word
words_view words = map word_view words

abbrev pub shape_view : SumShape → said.SumShape
shape_view shapes.Plain = said.plain
shape_view shapes.Product = said.product
shape_view shapes.Difference = said.difference

abbrev pub item_view : QueryItem → said.QueryItem
item_view (items.Column word) = said.column (word_view word)
item_view (items.Sum shape first second alias) = said.sum (shape_view shape) (word_view first) (option_map word_view second) (option_map word_view alias)

abbrev pub items_view : List QueryItem → List said.QueryItem
items_view items = map item_view items

abbrev pub literal_view : Literal → said.Literal
literal_view (literal_kinds.Number value) = said.of_number value
literal_view (literal_kinds.Text bytes) = said.of_text bytes

abbrev pub test_view : Test → said.Test
test_view (tests.Equal value) = said.equal (literal_view value)
test_view (tests.Below value) = said.below (literal_view value)
test_view (tests.AtMost value) = said.at_most (literal_view value)
test_view (tests.Above value) = said.above (literal_view value)
test_view (tests.AtLeast value) = said.at_least (literal_view value)
test_view (tests.Between low high) = said.between (literal_view low) (literal_view high)
test_view (tests.OneOf values) = said.one_of (map literal_view values)

abbrev pub condition_view : QueryCondition → said.QueryCondition
condition_view (conditions.Join left right) = said.join (word_view left) (word_view right)
condition_view (conditions.Compare column test places) = said.compare (word_view column) (test_view test) places

abbrev pub conditions_view : List QueryCondition → List said.QueryCondition
conditions_view conditions = map condition_view conditions

abbrev pub key_view : QueryKey → said.QueryKey
key_view k = record { word = word_view k.word; falling = k.falling }

abbrev pub keys_view : List QueryKey → List said.QueryKey
keys_view keys = map key_view keys

abbrev pub query_view : Query → said.Query
query_view query = record {
  items = items_view query.items;
  tables = words_view query.tables;
  conditions = conditions_view query.conditions;
  groups = words_view query.groups;
  order = keys_view query.order;
}

abbrev pub queries_view : List Query → List said.Query
queries_view queries = map query_view queries

-- ---- tokens

abbrev pub reserved_text : Reserved → List ℕ
reserved_text texts.Select = codes "select"
reserved_text texts.From = codes "from"
reserved_text texts.Where = codes "where"
reserved_text texts.And = codes "and"
reserved_text texts.Or = codes "or"
reserved_text texts.Between = codes "between"
reserved_text texts.In = codes "in"
reserved_text texts.Group = codes "group"
reserved_text texts.By = codes "by"
reserved_text texts.Order = codes "order"
reserved_text texts.Asc = codes "asc"
reserved_text texts.Desc = codes "desc"
reserved_text texts.Sum = codes "sum"
reserved_text texts.As = codes "as"
reserved_text texts.Comma = codes ","
reserved_text texts.Open = codes "("
reserved_text texts.Close = codes ")"
reserved_text texts.Star = codes "*"
reserved_text texts.Minus = codes "-"
reserved_text texts.Equal = codes "="
reserved_text texts.Less = codes "<"
reserved_text texts.AtMost = codes "<="
reserved_text texts.Greater = codes ">"
reserved_text texts.AtLeast = codes ">="
reserved_text texts.Semicolon = codes ";"

-- what a string's bytes between its quotes mean: of two quotes the second is dropped
abbrev pub content : List ℕ → List ℕ
content [] = []
content (a ∷ []) = a ∷ []
content (a ∷ b ∷ text) = if a == 39 then a ∷ content text else a ∷ content (b ∷ text)

abbrev pub kind_view : Kind → spec.Token
kind_view (kinds.Name text) = spec.name (str_to_ascii_lowercase text.now)
kind_view (kinds.Reserved found) = spec.reserved (reserved_text found)
kind_view (kinds.Number value) = spec.number value
kind_view (kinds.Text text) = spec.string (content text.now)

abbrev pub token_view : Token → Placed
token_view token = record { at = token.at; token = kind_view token.kind }

abbrev pub tokens_view : List Token → List Placed
tokens_view tokens = map token_view tokens

abbrev pub name_view : RawName → said.Word
name_view name = record { at = name.at; text = str_to_ascii_lowercase name.text.now }

-- a literal and its place, and lists of both
abbrev pub placed_view : Literal → ℕ → PlacedLiteral
placed_view value at = record { value = literal_view value; at = at }

abbrev pub literals_view : List Literal → List ℕ → List PlacedLiteral
literals_view (value ∷ values) (at ∷ places) = placed_view value at ∷ literals_view values places
literals_view _ _ = []
