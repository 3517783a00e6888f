-- The binding of a query is lawful.
use Rattle.std.proofs.Common.{◌≡◌, ◌≤◌, ℕ, List, [], ◌∷◌, ◌++◌, length, map, filter, refl, sym, ap, ◌∙◌, subst, arith}
use Rattle.std.specs.Prelude.{Ok}
use Rattle.std.specs.List.{AllByRecursion, Contains, flat_map}
use Rattle.std.proofs.lemmas.List.{length-map}
use Rattle.definitions_outcomes.proofs.OutcomeLaws.{same_value}
use Rattle.definitions_queries.specs.Queries.{Word, Query}
use Rattle.definitions_queries.specs.Entries.{entries, max_entries, total}
use Rattle.definitions_queries.specs.Grammar.{IsSpelled}
use Rattle.catalog_core.specs.declared.columns.ColumnId.{ColumnId}
use Rattle.catalog_core.specs.declared.schemas.Schema.{Schema}
use Rattle.query_bind.specs.Binding.{Binding, Tested, Conditions, Selected, column_of, is_fact, item_words, condition_words, mentioned, tables_of, fact_of, are_of_from, conditions_of, joins_of, groups_of, items_of, order_of, dimensions_of, bound_of}
use Rattle.query_bind.specs.LawfulBindings.{IsBinding, IsOfFrom, IsOperand, IsJoin, IsTested, IsItem, operands, tested_entries, binding_entries}
use Rattle.query_bind.specs.declared.bounds.JoinTo.{JoinTo}
use Rattle.query_bind.specs.declared.bounds.SumOf.{SumOf}
use Rattle.query_bind.specs.declared.bounds.Item.{Item}
use Rattle.query_bind.specs.declared.bounds.Item.TheVariants as item
use Rattle.query_bind.proofs.OnceLemmas.{all_map, all_weaker}
use Rattle.query_bind.proofs.SpelledLemmas.{HasLiterals, spelled_items, spelled_literals}
use Rattle.query_bind.proofs.StepLemmas.{bind_went_on, all_split, all_pieces, all_both}
use Rattle.query_bind.proofs.TableLaws.{IsOfTables, AreTables, tables_kept, tables_count, fact_alone, fact_is, dimensions_are, dimensions_fewer, in_from, columns_kept}
use Rattle.query_bind.proofs.ConditionLaws as conditions
use Rattle.query_bind.proofs.SelectionLaws as selection

-- what the seven steps gave
pub record Steps (schema : Schema) (query : Query) (binding : Binding) : Type 0 where
  pub tables : List ℕ
  pub named : tables_of schema query.tables ≡ Ok tables
  pub fact : fact_of schema query.tables tables ≡ Ok binding.fact
  pub columns : are_of_from schema tables (mentioned query) ≡ Ok tt
  pub sorted : Conditions
  pub met : conditions_of schema binding.fact query.conditions ≡ Ok sorted
  pub joined : joins_of binding.fact sorted.joins query.tables tables ≡ Ok binding.joins
  pub grouped : List (List ℕ × ℕ)
  pub group_names : groups_of query.groups ≡ Ok grouped
  pub selected : Selected
  pub listed : items_of schema grouped query.items ≡ Ok selected
  pub ordered : order_of grouped selected.aliases query.order ≡ Ok binding.order
  pub dimensions : binding.dimensions ≡ dimensions_of binding.fact tables
  pub tests : binding.tests ≡ sorted.tests
  pub groups : binding.groups ≡ map (column_of schema) query.groups
  pub sums : binding.sums ≡ selected.sums
  pub items : binding.items ≡ selected.items

steps_of : (schema : Schema) (query : Query) (binding : Binding) → bound_of schema query ≡ Ok binding → Steps schema query binding
steps_of schema query binding is =
    let (tables, named, rest) = bind_went_on (tables_of schema query.tables) _ binding is in
    let (fact, only, rest2) = bind_went_on (fact_of schema query.tables tables) _ binding rest in
    let (none, columns, rest3) = bind_went_on (are_of_from schema tables (mentioned query)) _ binding rest2 in
    let (sorted, met, rest4) = bind_went_on (conditions_of schema fact query.conditions) _ binding rest3 in
    let (joins, joined, rest5) = bind_went_on (joins_of fact sorted.joins query.tables tables) _ binding rest4 in
    let (grouped, group_names, rest6) = bind_went_on (groups_of query.groups) _ binding rest5 in
    let (selected, listed, rest7) = bind_went_on (items_of schema grouped query.items) _ binding rest6 in
    let (order, ordered, last) = bind_went_on (order_of grouped selected.aliases query.order) _ binding rest7 in
    let made : Binding = record {
      fact = fact;
      dimensions = dimensions_of fact tables;
      joins = joins;
      tests = sorted.tests;
      groups = map (column_of schema) query.groups;
      sums = selected.sums;
      items = selected.items;
      order = order;
    } in
    subst (Steps schema query) {x = made} (same_value made binding last) (record {
      tables = tables;
      named = named;
      fact = only;
      columns = columns;
      sorted = sorted;
      met = met;
      joined = joined;
      grouped = grouped;
      group_names = group_names;
      selected = selected;
      listed = listed;
      ordered = ordered;
      dimensions = refl;
      tests = refl;
      groups = refl;
      sums = refl;
      items = refl;
    })

module _ (schema : Schema) (query : Query) (binding : Binding) (spelled : IsSpelled query) (few : entries query ≤ max_entries) (steps : Steps schema query binding) where
  count : length query.tables ≡ length steps.tables
  count = sym (tables_count schema query.tables steps.tables steps.named)

  are : AreTables schema steps.tables
  are = tables_kept schema query.tables steps.tables steps.named

  only : filter (is_fact schema) steps.tables ≡ binding.fact ∷ []
  only = fact_alone schema query.tables steps.tables binding.fact count steps.fact

  -- ---- columns of the tables of FROM

  abbrev OfTables : ColumnId → Type 0
  OfTables = IsOfTables schema steps.tables

  abbrev WordOfTables : Word → Type 0
  WordOfTables word = OfTables (column_of schema word)

  of_from : (id : ColumnId) → OfTables id → IsOfFrom schema binding id
  of_from id there = record {
    column = there.0;
    table = subst (λ (dimensions : List ℕ). Contains (binding.fact ∷ dimensions) id.table) (sym steps.dimensions) (in_from schema steps.tables binding.fact only id.table there.1);
  }

  named : AllByRecursion WordOfTables (mentioned query)
  named = columns_kept schema steps.tables (mentioned query) steps.columns

  in_items_and_conditions : AllByRecursion WordOfTables (flat_map item_words query.items ++ flat_map condition_words query.conditions)
  in_items_and_conditions = (all_split WordOfTables (flat_map item_words query.items ++ flat_map condition_words query.conditions) query.groups named).0

  in_groups : AllByRecursion WordOfTables query.groups
  in_groups = (all_split WordOfTables (flat_map item_words query.items ++ flat_map condition_words query.conditions) query.groups named).1

  in_items : AllByRecursion (λ one. AllByRecursion WordOfTables (item_words one)) query.items
  in_items = all_pieces WordOfTables item_words query.items (all_split WordOfTables (flat_map item_words query.items) (flat_map condition_words query.conditions) in_items_and_conditions).0

  in_conditions : AllByRecursion (conditions.Known schema steps.tables binding.fact) query.conditions
  in_conditions =
      all_both (λ one. AllByRecursion WordOfTables (condition_words one)) HasLiterals query.conditions
      (all_pieces WordOfTables condition_words query.conditions (all_split WordOfTables (flat_map item_words query.items) (flat_map condition_words query.conditions) in_items_and_conditions).1)
      (spelled_literals query spelled)

  -- ---- joins and tests

  sorted_keep : conditions.Keep schema steps.tables binding.fact steps.sorted
  sorted_keep = conditions.conditions_kept schema steps.tables binding.fact query.conditions steps.sorted in_conditions steps.met

  joins_keep : AllByRecursion (conditions.Joins schema steps.tables binding.fact) binding.joins × (map (λ (to : JoinTo). to.key.table) binding.joins ≡ dimensions_of binding.fact steps.tables)
  joins_keep = conditions.joins_kept schema steps.tables binding.fact steps.sorted.joins query.tables binding.joins count sorted_keep.joins steps.joined

  lawful_join : (to : JoinTo) → conditions.Joins schema steps.tables binding.fact to → IsJoin schema binding to
  lawful_join to is = record { fact_column = of_from to.fact_column is.fact_column; key = of_from to.key is.key; joins = is.can }

  lawful_test : (tested : Tested) → conditions.Tests schema steps.tables binding.fact tested → IsTested schema binding tested
  lawful_test tested is = record { column = of_from tested.column is.column; some = is.some; fit = is.fit }

  -- ---- groups, items, sums and order keys

  group_count : length binding.groups ≡ length query.groups
  group_count = ap length steps.groups ∙ length-map query.groups (column_of schema)

  numbered : selection.Numbered (length binding.groups) steps.grouped
  numbered = rw group_count (selection.groups_kept query.groups steps.grouped steps.group_names)

  items_keep : selection.Keep schema steps.tables (length binding.groups) steps.selected × (length steps.selected.items ≡ length query.items)
  items_keep = selection.items_kept schema steps.tables (length binding.groups) steps.grouped numbered query.items steps.selected in_items steps.listed

  order_keep : AllByRecursion (λ key. selection.IsNumbered schema steps.tables (length binding.groups) (length steps.selected.sums) key.item) binding.order × (length binding.order ≡ length query.order)
  order_keep = selection.order_kept schema steps.tables (length binding.groups) steps.grouped numbered (length steps.selected.sums) steps.selected.aliases query.order binding.order items_keep.0.aliases steps.ordered

  lawful_item : (one : Item) → selection.IsNumbered schema steps.tables (length binding.groups) (length steps.selected.sums) one → IsItem binding one
  lawful_item (item.Group number) below = below
  lawful_item (item.Sum number) below = omega (arith, below, ap length steps.sums)

  lawful_sum : (one : SumOf) → AllByRecursion (selection.IsSummed schema steps.tables (length binding.groups)) (operands one) → AllByRecursion (IsOperand schema binding) (operands one)
  lawful_sum one all = all_weaker (selection.IsSummed schema steps.tables (length binding.groups)) (IsOperand schema binding) (λ id is. record { of_from = of_from id is.0; numbers = is.1 }) (operands one) all

  sizes : binding_entries binding ≤ max_entries
  sizes =
      let tests = conditions.conditions_count schema steps.tables binding.fact query.conditions steps.sorted in_conditions steps.met in
      omega (
        arith,
        few,
        tests,
        ap (total tested_entries) steps.tests,
        group_count,
        items_keep.1,
        ap length steps.items,
        order_keep.1,
        dimensions_fewer schema steps.tables binding.fact only,
        ap length steps.dimensions,
        count,
      )

  lawful : IsBinding schema binding
  lawful = record {
    fact = fact_is schema steps.tables binding.fact only;
    dimensions = rw steps.dimensions (dimensions_are schema steps.tables binding.fact only are).0;
    dimensions_differ = rw steps.dimensions (dimensions_are schema steps.tables binding.fact only are).1;
    joined = joins_keep.1 ∙ sym steps.dimensions;
    joins = all_weaker (conditions.Joins schema steps.tables binding.fact) (IsJoin schema binding) lawful_join binding.joins joins_keep.0;
    tests = subst (AllByRecursion (IsTested schema binding)) (sym steps.tests) (all_weaker (conditions.Tests schema steps.tables binding.fact) (IsTested schema binding) lawful_test steps.sorted.tests sorted_keep.tests);
    groups = subst (AllByRecursion (IsOfFrom schema binding)) (sym steps.groups) (all_map (IsOfFrom schema binding) (column_of schema) query.groups (all_weaker WordOfTables (λ word. IsOfFrom schema binding (column_of schema word)) (λ word is. of_from (column_of schema word) is) query.groups in_groups));
    sums = subst (AllByRecursion (λ one. AllByRecursion (IsOperand schema binding) (operands one))) (sym steps.sums) (all_weaker (λ one. AllByRecursion (selection.IsSummed schema steps.tables (length binding.groups)) (operands one)) (λ one. AllByRecursion (IsOperand schema binding) (operands one)) lawful_sum steps.selected.sums items_keep.0.sums);
    some = omega (arith, spelled_items query spelled, items_keep.1, ap length steps.items);
    items = subst (AllByRecursion (IsItem binding)) (sym steps.items) (all_weaker (selection.IsNumbered schema steps.tables (length binding.groups) (length steps.selected.sums)) (IsItem binding) lawful_item steps.selected.items items_keep.0.items);
    listed = rw (steps.items, steps.sums) items_keep.0.listed;
    few_sums = rw (steps.items, steps.sums) items_keep.0.few;
    order = all_weaker (λ key. selection.IsNumbered schema steps.tables (length binding.groups) (length steps.selected.sums) key.item) (λ key. IsItem binding key.item) (λ key is. lawful_item key.item is) binding.order order_keep.0;
    few = sizes;
  }

pub binding_lawful : (schema : Schema) (query : Query) (binding : Binding) → IsSpelled query → entries query ≤ max_entries → bound_of schema query ≡ Ok binding → IsBinding schema binding
binding_lawful schema query binding spelled few is = lawful schema query binding spelled few (steps_of schema query binding is)
