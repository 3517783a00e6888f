-- The binding of a query to a schema, or its first refusal, in seven steps.
use Rattle.std.specs.Prelude.{ℕ, Bool, true, false, ◌&&◌, ◌||◌, not, ◌==◌, nat_eq, List, [], ◌∷◌, ◌++◌, filter, length, map, Option, Some, None, option_map, unwrap_or, ok_or, Result, Ok, Err, slice_index_or, ⊤, if◌then◌else◌}
use Rattle.std.specs.List.{find, flat_map, list_any, position, zip}
use Rattle.std.specs.Option.{option_map_or}
use Rattle.std.specs.Str.{bytes_eq}
use Rattle.definitions_outcomes.specs.Computed.{bind, walk}
use Rattle.definitions_queries.specs.Queries.{Word, SumShape, plain, product, difference, QueryItem, column, sum, Literal, of_number, of_text, Test, equal, below, at_most, above, at_least, between, one_of, QueryCondition, join, compare, QueryKey, Query}
use Rattle.catalog_core.specs.Schemas.{is_number}
use Rattle.catalog_core.specs.Columns.{table_at, column_at, table_named, needs_of_all}
use Rattle.catalog_core.specs.declared.schemas.Kind.{Kind}
use Rattle.catalog_core.specs.declared.schemas.Kind.TheVariants as kind
use Rattle.catalog_core.specs.declared.schemas.Role.{Role}
use Rattle.catalog_core.specs.declared.schemas.Role.TheVariants as role
use Rattle.catalog_core.specs.declared.schemas.Schema.{Schema}
use Rattle.catalog_core.specs.declared.columns.ColumnId.{ColumnId}
use Rattle.query_bind.specs.Steps.{accumulate}
use Rattle.query_bind.specs.NameMaps.{value_of, is_among}
use Rattle.query_bind.specs.declared.bounds.JoinTo.{JoinTo}
use Rattle.query_bind.specs.declared.bounds.SumOf.{SumOf}
use Rattle.query_bind.specs.declared.bounds.SumOf.TheVariants as operand
use Rattle.query_bind.specs.declared.bounds.Item.{Item}
use Rattle.query_bind.specs.declared.bounds.Item.TheVariants as item
use Rattle.query_bind.specs.declared.bounds.OrderKey.{OrderKey}
use Rattle.query_bind.specs.declared.errors.BindError.{BindError}
use Rattle.query_bind.specs.declared.errors.BindError.TheVariants as refusal

-- ---- the schema's names

abbrev pub is_fact_role : Role → Bool
is_fact_role role.Fact = true
is_fact_role role.Dimension = false

-- whether a table of the schema is a fact table
abbrev pub is_fact : Schema → ℕ → Bool
is_fact schema table = option_map_or (λ one. is_fact_role one.role) (table_at schema table) false

-- a column's name and kind
abbrev pub column_name : Schema → ColumnId → List ℕ
column_name schema id = option_map_or (λ one. one.name) (column_at schema id) []

abbrev pub kind_of : Schema → ColumnId → Kind
kind_of schema id = option_map_or (λ one. one.kind) (column_at schema id) kind.Number

-- the number of a dimension's key, and whether a column is the key of its table; a fact table has none
abbrev pub key_of : Schema → ℕ → Option ℕ
key_of schema table = option_map_or (λ one. one.key) (table_at schema table) None

abbrev pub is_key : Schema → ColumnId → Bool
is_key schema id = option_map_or (nat_eq id.column) (key_of schema id.table) false

-- the column of a name
abbrev pub column_named : Schema → List ℕ → Option ColumnId
column_named schema name = find (λ id. bytes_eq name (column_name schema id)) (needs_of_all schema).columns

-- the same once it is known that there is one; else it is the first column
abbrev pub column_of : Schema → Word → ColumnId
column_of schema word = unwrap_or (column_named schema word.text) (record { table = 0; column = 0 })

-- ---- 1. the names of FROM from left to right: each is a table of the schema, and none stands twice

abbrev pub table_in : Schema → List ℕ → Word → Result ℕ BindError
table_in schema earlier word =
    bind (ok_or (table_named schema word.text) (refusal.UnknownTable word.at)) (λ table.
    if list_any (nat_eq table) earlier then Err (refusal.NameTwice word.at) else Ok table)

abbrev pub next_table : Schema → List ℕ → Word → Result (List ℕ) BindError
next_table schema earlier word = bind (table_in schema earlier word) (λ table. Ok (earlier ++ table ∷ []))

abbrev pub tables_of : Schema → List Word → Result (List ℕ) BindError
tables_of schema words = accumulate (next_table schema) [] words

-- ---- 2. just one of the tables is a fact table

-- where the first name stands
abbrev pub first_place : List Word → ℕ
first_place [] = 0
first_place (word ∷ more) = word.at

-- the only one of the fact tables, which stand with their names: without one the first name is refused, and else the second fact table's
abbrev pub only_fact : List Word → List (Word × ℕ) → Result ℕ BindError
only_fact words [] = Err (refusal.FactCount (first_place words))
only_fact words (one ∷ []) = Ok one.1
only_fact words (one ∷ second ∷ more) = Err (refusal.FactCount second.0.at)

abbrev pub fact_of : Schema → List Word → List ℕ → Result ℕ BindError
fact_of schema words tables = only_fact words (filter (λ named. is_fact schema named.1) (zip words tables))

-- ---- 3. the columns that SELECT, WHERE and GROUP BY name, from left to right, without aliases: each is of a table of FROM

abbrev pub operand_words : Word → Option Word → List Word
operand_words first None = first ∷ []
operand_words first (Some second) = first ∷ second ∷ []

abbrev pub item_words : QueryItem → List Word
item_words (column word) = word ∷ []
item_words (sum shape first second alias) = operand_words first second

abbrev pub condition_words : QueryCondition → List Word
condition_words (join left right) = left ∷ right ∷ []
condition_words (compare word test places) = word ∷ []

abbrev pub mentioned : Query → List Word
mentioned query = flat_map item_words query.items ++ flat_map condition_words query.conditions ++ query.groups

abbrev pub column_in : Schema → List ℕ → Word → Result ColumnId BindError
column_in schema tables word =
    bind (ok_or (column_named schema word.text) (refusal.UnknownColumn word.at)) (λ id.
    if list_any (nat_eq id.table) tables then Ok id else Err (refusal.NotInFrom word.at))

abbrev pub are_of_from : Schema → List ℕ → List Word → Result ⊤ BindError
are_of_from schema tables [] = Ok tt
are_of_from schema tables (word ∷ more) = bind (column_in schema tables word) (λ _. are_of_from schema tables more)

-- ---- 4. the conditions from left to right

-- a column and its test
pub record Tested : Type 0 where
  pub column : ColumnId
  pub test : Test

-- the joins and the tests so far
pub record Conditions : Type 0 where
  pub joins : List JoinTo
  pub tests : List Tested

-- a number column of the fact table, and the key of a dimension
abbrev pub can_join : Schema → ℕ → ColumnId → ColumnId → Bool
can_join schema fact from key = from.table == fact && is_number (kind_of schema from) && is_key schema key

-- the join of two columns, written either way round
abbrev pub join_of : Schema → ℕ → ColumnId → ColumnId → Option JoinTo
join_of schema fact left right =
    if can_join schema fact left right then Some (record { fact_column = left; key = right })
    else if can_join schema fact right left then Some (record { fact_column = right; key = left })
    else None

-- whether one of the joins is to this dimension
abbrev pub is_joined : List JoinTo → ℕ → Bool
is_joined joins table = list_any (λ to. to.key.table == table) joins

abbrev pub join_in : Schema → ℕ → List JoinTo → Word → Word → Result JoinTo BindError
join_in schema fact earlier left right =
    bind (ok_or (join_of schema fact (column_of schema left) (column_of schema right)) (refusal.JoinShape left.at)) (λ to.
    if is_joined earlier to.key.table then Err (refusal.JoinTwice left.at) else Ok to)

-- the literals of a test
abbrev pub literals_of : Test → List Literal
literals_of (equal value) = value ∷ []
literals_of (below value) = value ∷ []
literals_of (at_most value) = value ∷ []
literals_of (above value) = value ∷ []
literals_of (at_least value) = value ∷ []
literals_of (between low high) = low ∷ high ∷ []
literals_of (one_of values) = values

-- a number for a number column, a text for a text column
abbrev pub fits : Kind → Literal → Bool
fits kind.Number (of_number value) = true
fits kind.Number (of_text bytes) = false
fits kind.Text (of_number value) = false
fits kind.Text (of_text bytes) = true

-- the first literal of the other kind
abbrev pub misfit : Kind → Test → Option ℕ
misfit kind test = position (λ literal. not (fits kind literal)) (literals_of test)

abbrev pub unless_misfit : Tested → List ℕ → Option ℕ → Result Tested BindError
unless_misfit tested places None = Ok tested
unless_misfit tested places (Some number) = Err (refusal.TypeMismatch (slice_index_or places number 0))

abbrev pub test_in : Schema → Word → Test → List ℕ → Result Tested BindError
test_in schema word test places =
    unless_misfit (record { column = column_of schema word; test = test }) places (misfit (kind_of schema (column_of schema word)) test)

abbrev pub next_condition : Schema → ℕ → Conditions → QueryCondition → Result Conditions BindError
next_condition schema fact earlier (join left right) =
    bind (join_in schema fact earlier.joins left right) (λ to. Ok (record { joins = earlier.joins ++ to ∷ []; tests = earlier.tests }))
next_condition schema fact earlier (compare word test places) =
    bind (test_in schema word test places) (λ tested. Ok (record { joins = earlier.joins; tests = earlier.tests ++ tested ∷ [] }))

abbrev pub conditions_of : Schema → ℕ → List QueryCondition → Result Conditions BindError
conditions_of schema fact conditions = accumulate (next_condition schema fact) (record { joins = []; tests = [] }) conditions

-- ---- 5. each dimension of FROM is joined

-- the join to a table that stands with its name
abbrev pub join_to : List JoinTo → Word × ℕ → Result JoinTo BindError
join_to joins named = ok_or (find (λ to. to.key.table == named.1) joins) (refusal.JoinMissing named.0.at)

-- one join to each dimension, in the order of FROM
abbrev pub joins_of : ℕ → List JoinTo → List Word → List ℕ → Result (List JoinTo) BindError
joins_of fact joins words tables = walk (λ number. join_to joins) 0 (filter (λ named. not (named.1 == fact)) (zip words tables))

-- ---- 6. the names of GROUP BY, of which none stands twice, and then the items of SELECT from left to right

-- the names with their numbers, from 0
abbrev pub next_group : List (List ℕ × ℕ) → Word → Result (List (List ℕ × ℕ)) BindError
next_group earlier word = if is_among earlier word.text then Err (refusal.NameTwice word.at) else Ok (earlier ++ (word.text, length earlier) ∷ [])

abbrev pub groups_of : List Word → Result (List (List ℕ × ℕ)) BindError
groups_of words = accumulate next_group [] words

-- the items so far, their sums, and the aliases with the numbers of their sums
pub record Selected : Type 0 where
  pub items : List Item
  pub sums : List SumOf
  pub aliases : List (List ℕ × ℕ)

-- a column inside a sum: it has numbers
abbrev pub operand_in : Schema → Word → Result ColumnId BindError
operand_in schema word =
    if is_number (kind_of schema (column_of schema word)) then Ok (column_of schema word) else Err (refusal.TypeMismatch word.at)

-- the grammar gives a second column to products and differences, and to no other sum
abbrev pub shaped : SumShape → ColumnId → ColumnId → SumOf
shaped plain first second = operand.Plain first
shaped product first second = operand.Product first second
shaped difference first second = operand.Difference first second

abbrev pub second_in : Schema → SumShape → ColumnId → Option Word → Result SumOf BindError
second_in schema shape first None = Ok (operand.Plain first)
second_in schema shape first (Some word) = bind (operand_in schema word) (λ second. Ok (shaped shape first second))

abbrev pub sum_in : Schema → SumShape → Word → Option Word → Result SumOf BindError
sum_in schema shape first second = bind (operand_in schema first) (λ id. second_in schema shape id second)

-- an alias is no column of GROUP BY and no earlier alias
abbrev pub alias_in : List (List ℕ × ℕ) → List (List ℕ × ℕ) → ℕ → Option Word → Result (List (List ℕ × ℕ)) BindError
alias_in groups earlier number None = Ok earlier
alias_in groups earlier number (Some word) =
    if is_among groups word.text || is_among earlier word.text then Err (refusal.NameTwice word.at) else Ok (earlier ++ (word.text, number) ∷ [])

abbrev pub next_item : Schema → List (List ℕ × ℕ) → Selected → QueryItem → Result Selected BindError
next_item schema groups earlier (column word) =
    bind (ok_or (value_of groups word.text) (refusal.GroupMismatch word.at)) (λ number.
    Ok (record { items = earlier.items ++ item.Group number ∷ []; sums = earlier.sums; aliases = earlier.aliases }))
next_item schema groups earlier (sum shape first second alias) =
    bind (sum_in schema shape first second) (λ one.
    bind (alias_in groups earlier.aliases (length earlier.sums) alias) (λ aliases.
    Ok (record { items = earlier.items ++ item.Sum (length earlier.sums) ∷ []; sums = earlier.sums ++ one ∷ []; aliases = aliases })))

abbrev pub items_of : Schema → List (List ℕ × ℕ) → List QueryItem → Result Selected BindError
items_of schema groups items = accumulate (next_item schema groups) (record { items = []; sums = []; aliases = [] }) items

-- ---- 7. the names of ORDER BY: the sum with that alias, else the column of GROUP BY with that name

abbrev pub or_group : List (List ℕ × ℕ) → List ℕ → Option ℕ → Option Item
or_group groups name None = option_map (λ number. item.Group number) (value_of groups name)
or_group groups name (Some number) = Some (item.Sum number)

abbrev pub key_in : List (List ℕ × ℕ) → List (List ℕ × ℕ) → QueryKey → Result OrderKey BindError
key_in groups aliases key =
    bind (ok_or (or_group groups key.word.text (value_of aliases key.word.text)) (refusal.OrderUnknown key.word.at)) (λ one.
    Ok (record { item = one; falling = key.falling }))

abbrev pub order_of : List (List ℕ × ℕ) → List (List ℕ × ℕ) → List QueryKey → Result (List OrderKey) BindError
order_of groups aliases keys = walk (λ number. key_in groups aliases) 0 keys

-- ---- the binding

-- the tables of FROM but for the fact table are the dimensions
pub record Binding : Type 0 where
  pub fact : ℕ
  pub dimensions : List ℕ
  pub joins : List JoinTo
  pub tests : List Tested
  pub groups : List ColumnId
  pub sums : List SumOf
  pub items : List Item
  pub order : List OrderKey

abbrev pub dimensions_of : ℕ → List ℕ → List ℕ
dimensions_of fact tables = filter (λ table. not (table == fact)) tables

abbrev pub bound_of : Schema → Query → Result Binding BindError
bound_of schema query =
    bind (tables_of schema query.tables) (λ tables.
    bind (fact_of schema query.tables tables) (λ fact.
    bind (are_of_from schema tables (mentioned query)) (λ _.
    bind (conditions_of schema fact query.conditions) (λ conditions.
    bind (joins_of fact conditions.joins query.tables tables) (λ joins.
    bind (groups_of query.groups) (λ groups.
    bind (items_of schema groups query.items) (λ selected.
    bind (order_of groups selected.aliases query.order) (λ order.
    Ok (record {
      fact = fact;
      dimensions = dimensions_of fact tables;
      joins = joins;
      tests = conditions.tests;
      groups = map (column_of schema) query.groups;
      sums = selected.sums;
      items = selected.items;
      order = order;
    })))))))))
