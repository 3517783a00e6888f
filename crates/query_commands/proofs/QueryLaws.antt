-- Something is said of each refusal of a query: no text and no schema is answered with want of memory.
use Rattle.std.proofs.Common.{ℕ, Bool, List, [], ◌∷◌, ◌++◌, Option, Some, None, Result, Ok, Err, refl, length, filter}
use Rattle.std.specs.Prelude.{◌||◌, ◌==◌, not, nat_eq, ok_or, slice_index_or, IsSome, if◌then◌else◌}
use Rattle.std.specs.List.{list_any, zip}
use Rattle.definitions_outcomes.specs.Computed.{bind}
use Rattle.definitions_queries.specs.Queries.{Word, SumShape, QueryItem, column, sum, QueryCondition, join, compare, QueryKey, Test}
use Rattle.catalog_core.specs.Columns.{table_named}
use Rattle.catalog_core.specs.Schemas.{is_number}
use Rattle.catalog_core.specs.declared.columns.ColumnId.{ColumnId}
use Rattle.catalog_core.specs.declared.schemas.Schema.{Schema}
use Rattle.query_text.specs.declared.text.TextError.TheVariants as text
use Rattle.query_bind.specs.Binding.{table_in, next_table, tables_of, is_fact, first_place, only_fact, fact_of, mentioned, column_named, column_in, are_of_from, Tested, Conditions, kind_of, column_of, join_of, is_joined, join_in, misfit, unless_misfit, test_in, next_condition, conditions_of, join_to, joins_of, next_group, groups_of, Selected, operand_in, shaped, second_in, sum_in, alias_in, next_item, items_of, or_group, key_in, order_of}
use Rattle.query_bind.specs.NameMaps.{value_of, is_among}
use Rattle.query_bind.specs.Steps.{accumulate}
use Rattle.query_bind.specs.declared.bounds.JoinTo.{JoinTo}
use Rattle.query_bind.specs.declared.bounds.SumOf.TheVariants as operand
use Rattle.query_bind.specs.declared.bounds.Item.TheVariants as item
use Rattle.query_bind.specs.declared.errors.BindError.{BindError}
use Rattle.query_bind.specs.declared.errors.BindError.TheVariants as refusal
use Rattle.table_commands.specs.Querying.{binding_words}
use Rattle.table_commands.proofs.CheckLaws.{Refuses, ok_refuses, err_refuses, ok_or_refuses, if_refuses, bind_refuses, walk_refuses}
use Rattle.table_commands.proofs.ImportLaws.{choice_refuses}
use Rattle.query_commands.specs.Explaining.{TextRefusalsAreSaid, BindingRefusalsAreSaid}

-- something is said of each refusal of a text
pub said_of_text : TextRefusalsAreSaid
said_of_text bytes (text.BadByte at) refused = refl
said_of_text bytes (text.NumberTooLarge at) refused = refl
said_of_text bytes (text.OpenString at) refused = refl
said_of_text bytes (text.Syntax at) refused = refl
said_of_text bytes text.Memory (given, is, refused) = absurd (cc)

-- ---- the binding

module _ {E : Type 0} (P : E → Type 0) where
  unless_refuses : {A : Type 0} (test : Bool) (given : E) (value : A) → P given → Refuses P (if test then Err given else Ok value)
  unless_refuses {A} test given value holds = choice_refuses P test (Err given) (Ok value) (err_refuses P {A = A} given holds) (ok_refuses P value)

  -- a step whose value is put into another
  last_refuses : {A B : Type 0} (first : Result A E) (made : A → B) → Refuses P first → Refuses P (bind first (λ value. Ok (made value)))
  last_refuses first made one = bind_refuses P first (λ value. Ok (made value)) one (λ value. ok_refuses P (made value))

  accumulate_refuses : {S A : Type 0} (step : S → A → Result S E) (state : S) (items : List A) → ((s : S) (one : A) → Refuses P (step s one)) → Refuses P (accumulate step state items)
  accumulate_refuses step state [] each = ok_refuses P state
  accumulate_refuses step state (one ∷ rest) each =
      bind_refuses P (step state one) (λ next. accumulate step next rest) (each state one) (λ next. accumulate_refuses step next rest each)

abbrev Said : BindError → Type 0
Said given = IsSome (binding_words given)

module _ (schema : Schema) where
  -- the tables of FROM, and the fact table
  table_said : (earlier : List ℕ) (word : Word) → Refuses Said (table_in schema earlier word)
  table_said earlier word =
      bind_refuses Said (ok_or (table_named schema word.text) (refusal.UnknownTable word.at)) (λ table. if list_any (nat_eq table) earlier then Err (refusal.NameTwice word.at) else Ok table)
      (ok_or_refuses Said (table_named schema word.text) (refusal.UnknownTable word.at) refl)
      (λ table. unless_refuses Said (list_any (nat_eq table) earlier) (refusal.NameTwice word.at) table refl)

  tables_said : (words : List Word) → Refuses Said (tables_of schema words)
  tables_said words = accumulate_refuses Said (next_table schema) [] words (λ earlier word. last_refuses Said (table_in schema earlier word) (λ table. earlier ++ table ∷ []) (table_said earlier word))

  only_said : (words : List Word) (facts : List (Word × ℕ)) → Refuses Said (only_fact words facts)
  only_said words [] = err_refuses Said {A = ℕ} (refusal.FactCount (first_place words)) refl
  only_said words (one ∷ []) = ok_refuses Said one.1
  only_said words (one ∷ second ∷ more) = err_refuses Said {A = ℕ} (refusal.FactCount second.0.at) refl

  fact_said : (words : List Word) (tables : List ℕ) → Refuses Said (fact_of schema words tables)
  fact_said words tables = only_said words (filter (λ named. is_fact schema named.1) (zip words tables))

  -- the columns that are named
  column_said : (tables : List ℕ) (word : Word) → Refuses Said (column_in schema tables word)
  column_said tables word =
      bind_refuses Said (ok_or (column_named schema word.text) (refusal.UnknownColumn word.at)) (λ id. if list_any (nat_eq id.table) tables then Ok id else Err (refusal.NotInFrom word.at))
      (ok_or_refuses Said (column_named schema word.text) (refusal.UnknownColumn word.at) refl)
      (λ id. if_refuses Said (list_any (nat_eq id.table) tables) id (refusal.NotInFrom word.at) refl)

  columns_said : (tables : List ℕ) (words : List Word) → Refuses Said (are_of_from schema tables words)
  columns_said tables [] = ok_refuses Said tt
  columns_said tables (word ∷ more) =
      bind_refuses Said (column_in schema tables word) (λ id. are_of_from schema tables more) (column_said tables word) (λ id. columns_said tables more)

  -- the conditions, and the joins that are missing
  join_said : (fact : ℕ) (earlier : List JoinTo) (left right : Word) → Refuses Said (join_in schema fact earlier left right)
  join_said fact earlier left right =
      let found = join_of schema fact (column_of schema left) (column_of schema right) in
      bind_refuses Said (ok_or found (refusal.JoinShape left.at)) (λ to. if is_joined earlier to.key.table then Err (refusal.JoinTwice left.at) else Ok to)
      (ok_or_refuses Said found (refusal.JoinShape left.at) refl)
      (λ to. unless_refuses Said (is_joined earlier to.key.table) (refusal.JoinTwice left.at) to refl)

  misfit_said : (tested : Tested) (places : List ℕ) (found : Option ℕ) → Refuses Said (unless_misfit tested places found)
  misfit_said tested places None = ok_refuses Said tested
  misfit_said tested places (Some number) = err_refuses Said {A = Tested} (refusal.TypeMismatch (slice_index_or places number 0)) refl

  test_said : (word : Word) (test : Test) (places : List ℕ) → Refuses Said (test_in schema word test places)
  test_said word test places = misfit_said (record { column = column_of schema word; test = test }) places (misfit (kind_of schema (column_of schema word)) test)

  condition_said : (fact : ℕ) (earlier : Conditions) (one : QueryCondition) → Refuses Said (next_condition schema fact earlier one)
  condition_said fact earlier (join left right) =
      last_refuses Said (join_in schema fact earlier.joins left right) (λ to. record { joins = earlier.joins ++ to ∷ []; tests = earlier.tests }) (join_said fact earlier.joins left right)
  condition_said fact earlier (compare word test places) =
      last_refuses Said (test_in schema word test places) (λ tested. record { joins = earlier.joins; tests = earlier.tests ++ tested ∷ [] }) (test_said word test places)

  conditions_said : (fact : ℕ) (conditions : List QueryCondition) → Refuses Said (conditions_of schema fact conditions)
  conditions_said fact conditions = accumulate_refuses Said (next_condition schema fact) (record { joins = []; tests = [] }) conditions (condition_said fact)

  joins_said : (fact : ℕ) (joins : List JoinTo) (words : List Word) (tables : List ℕ) → Refuses Said (joins_of fact joins words tables)
  joins_said fact joins words tables =
      walk_refuses Said (λ number. join_to joins) 0 (filter (λ named. not (named.1 == fact)) (zip words tables))
      (λ number named. ok_or_refuses Said _ (refusal.JoinMissing named.0.at) refl)

  -- groups and items
  groups_said : (words : List Word) → Refuses Said (groups_of words)
  groups_said words =
      accumulate_refuses Said next_group [] words
      (λ earlier word. unless_refuses Said (is_among earlier word.text) (refusal.NameTwice word.at) (earlier ++ (word.text, length earlier) ∷ []) refl)

  operand_said : (word : Word) → Refuses Said (operand_in schema word)
  operand_said word = if_refuses Said (is_number (kind_of schema (column_of schema word))) (column_of schema word) (refusal.TypeMismatch word.at) refl

  second_said : (shape : SumShape) (first : ColumnId) (second : Option Word) → Refuses Said (second_in schema shape first second)
  second_said shape first None = ok_refuses Said (operand.Plain first)
  second_said shape first (Some word) = last_refuses Said (operand_in schema word) (shaped shape first) (operand_said word)

  sum_said : (shape : SumShape) (first : Word) (second : Option Word) → Refuses Said (sum_in schema shape first second)
  sum_said shape first second = bind_refuses Said (operand_in schema first) (λ id. second_in schema shape id second) (operand_said first) (λ id. second_said shape id second)

  alias_said : (groups earlier : List (List ℕ × ℕ)) (number : ℕ) (alias : Option Word) → Refuses Said (alias_in groups earlier number alias)
  alias_said groups earlier number None = ok_refuses Said earlier
  alias_said groups earlier number (Some word) =
      unless_refuses Said (is_among groups word.text || is_among earlier word.text) (refusal.NameTwice word.at) (earlier ++ (word.text, number) ∷ []) refl

  item_said : (groups : List (List ℕ × ℕ)) (earlier : Selected) (one : QueryItem) → Refuses Said (next_item schema groups earlier one)
  item_said groups earlier (column word) =
      last_refuses Said (ok_or (value_of groups word.text) (refusal.GroupMismatch word.at)) (λ number. record { items = earlier.items ++ item.Group number ∷ []; sums = earlier.sums; aliases = earlier.aliases })
      (ok_or_refuses Said (value_of groups word.text) (refusal.GroupMismatch word.at) refl)
  item_said groups earlier (sum shape first second alias) =
      let sums = length earlier.sums in
      bind_refuses Said (sum_in schema shape first second) _ (sum_said shape first second) (λ one.
      last_refuses Said (alias_in groups earlier.aliases sums alias) (λ aliases. record { items = earlier.items ++ item.Sum sums ∷ []; sums = earlier.sums ++ one ∷ []; aliases = aliases })
      (alias_said groups earlier.aliases sums alias))

  items_said : (groups : List (List ℕ × ℕ)) (items : List QueryItem) → Refuses Said (items_of schema groups items)
  items_said groups items = accumulate_refuses Said (next_item schema groups) (record { items = []; sums = []; aliases = [] }) items (item_said groups)

  -- keys
  order_said : (groups aliases : List (List ℕ × ℕ)) (keys : List QueryKey) → Refuses Said (order_of groups aliases keys)
  order_said groups aliases keys =
      walk_refuses Said (λ number. key_in groups aliases) 0 keys
      (λ number key. last_refuses Said (ok_or (or_group groups key.word.text (value_of aliases key.word.text)) (refusal.OrderUnknown key.word.at)) (λ one. record { item = one; falling = key.falling })
      (ok_or_refuses Said (or_group groups key.word.text (value_of aliases key.word.text)) (refusal.OrderUnknown key.word.at) refl))

-- something is said of each refusal of a binding
pub said_of_binding : BindingRefusalsAreSaid
said_of_binding schema query =
    bind_refuses Said (tables_of schema query.tables) _ (tables_said schema query.tables) (λ tables.
    bind_refuses Said (fact_of schema query.tables tables) _ (fact_said schema query.tables tables) (λ fact.
    bind_refuses Said (are_of_from schema tables (mentioned query)) _ (columns_said schema tables (mentioned query)) (λ none.
    bind_refuses Said (conditions_of schema fact query.conditions) _ (conditions_said schema fact query.conditions) (λ conditions.
    bind_refuses Said (joins_of fact conditions.joins query.tables tables) _ (joins_said schema fact conditions.joins query.tables tables) (λ joins.
    bind_refuses Said (groups_of query.groups) _ (groups_said schema query.groups) (λ groups.
    bind_refuses Said (items_of schema groups query.items) _ (items_said schema groups query.items) (λ selected.
    bind_refuses Said (order_of groups selected.aliases query.order) _ (order_said schema groups selected.aliases query.order) (λ order.
    ok_refuses Said _))))))))
