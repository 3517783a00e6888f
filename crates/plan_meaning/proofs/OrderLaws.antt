-- A plan reads needed columns alone, joins before it sums, and groups or sums something.
use Rattle.std.proofs.Common.{◌≡◌, ℕ, ◌+◌, ◌<◌, ◌≤◌, Bool, true, false, List, [], ◌∷◌, ◌++◌, map, length, refl, ap₂, ◌∙◌, All, arith, inl, inr}
use Rattle.std.specs.Prelude.{◌||◌, ◌⊎◌, Option, Some, None, ⊤, option_map, IsTrue}
use Rattle.std.specs.List.{list_any, AllByRecursion}
use Rattle.std.proofs.lemmas.Bool.{or_left, or_right}
use Rattle.std.proofs.lemmas.List.Folds.{list_any-append}
use Rattle.std.proofs.lemmas.List.Elements.{All-nil, All-cons, All-head, All-tail, All-push}
use Rattle.definitions_queries.specs.Queries as queries
use Rattle.definitions_queries.specs.Queries.{Test, Literal, equal, at_most, at_least, between, one_of}
use Rattle.catalog_core.specs.declared.columns.ColumnId.{ColumnId}
use Rattle.catalog_core.specs.declared.schemas.Schema.{Schema}
use Rattle.query_bind.specs.Binding.{Binding, Tested, kind_of, fits, literals_of}
use Rattle.query_bind.specs.LawfulBindings.{IsBinding, IsItem, IsTested, operands}
use Rattle.query_bind.specs.declared.bounds.Item.{Item}
use Rattle.query_bind.specs.declared.bounds.Item.TheVariants as item
use Rattle.query_bind.specs.declared.bounds.SumOf.{SumOf}
use Rattle.query_bind.specs.declared.bounds.SumOf.TheVariants as operand
use Rattle.plan_core.specs.declared.plans.Input.{Input}
use Rattle.plan_core.specs.Plans.{Operator, sum, sum_product, Steps}
use Rattle.plan_core.specs.Planner.{with_one, with_two, choices_of, Rows, plan_rows, add_column}
use Rattle.plan_core.specs.WholePlan.{Grouped, Groups, grouping, add_group, add_groups, Sums, add_sum, add_sums, plan_of}
use Rattle.plan_meaning.specs.Shapes.{IsNeeded, NeedsInput, IsRangeTest, reads_joined_rows, is_sum, is_join, JoinsFirst}
use Rattle.plan_meaning.proofs.NeededLaws.{needs_all}
use Rattle.plan_meaning.proofs.StepLaws.{AreRanges, Serves, IsQuiet, rows-keep, column-needs, groups-keep, sums-keep, keys_at-keep}

-- # Ranges

each_equal : (schema : Schema) (id : ColumnId) (literals : List Literal) → AllByRecursion (λ literal. IsTrue (fits (kind_of schema id) literal)) literals
    → All (IsRangeTest schema id) (map (λ literal. equal literal) literals)
each_equal schema id [] each = All-nil (IsRangeTest schema id)
each_equal schema id (literal ∷ literals) each =
    All-cons (IsRangeTest schema id) (equal literal) (map (λ one. equal one) literals) (record { range = refl; fit = (each.0, tt) }) (each_equal schema id literals each.1)

one_range : (schema : Schema) (id : ColumnId) (test : Test) → IsRangeTest schema id test → All (IsRangeTest schema id) (test ∷ [])
one_range schema id test is = All-cons (IsRangeTest schema id) test [] is (All-nil (IsRangeTest schema id))

ranges_of : (schema : Schema) (id : ColumnId) (test : Test) → AllByRecursion (λ literal. IsTrue (fits (kind_of schema id) literal)) (literals_of test)
    → All (IsRangeTest schema id) (choices_of test)
ranges_of schema id (equal literal) each = one_range schema id (equal literal) (record { range = refl; fit = each })
ranges_of schema id (queries.below literal) each = one_range schema id (queries.below literal) (record { range = refl; fit = each })
ranges_of schema id (at_most literal) each = one_range schema id (at_most literal) (record { range = refl; fit = each })
ranges_of schema id (queries.above literal) each = one_range schema id (queries.above literal) (record { range = refl; fit = each })
ranges_of schema id (at_least literal) each = one_range schema id (at_least literal) (record { range = refl; fit = each })
ranges_of schema id (between low high) each = one_range schema id (between low high) (record { range = refl; fit = each })
ranges_of schema id (one_of literals) each = each_equal schema id literals each

pub all_ranges : (schema : Schema) (binding : Binding) (tests : List Tested) → AllByRecursion (IsTested schema binding) tests → All (AreRanges schema) tests
all_ranges schema binding [] each = All-nil (AreRanges schema)
all_ranges schema binding (tested ∷ tests) each =
    All-cons (AreRanges schema) tested tests (ranges_of schema tested.column tested.test each.0.fit) (all_ranges schema binding tests each.1)

-- # No sum before a Join

none_more : (test : Operator → Bool) (operators : List Operator) (operator : Operator) → list_any test operators ≡ false → test operator ≡ false → list_any test (operators ++ operator ∷ []) ≡ false
none_more test operators operator before now =
    list_any-append test operators (operator ∷ []) ∙ ap₂ (λ a b. a || (b || false)) before now

-- operators that serve, none of which is a sum
pub record HasNoSum (schema : Schema) (binding : Binding) (steps : Steps) : Type 0 where
  pub serve : All (Serves schema binding) steps.operators
  pub none : list_any is_sum steps.operators ≡ false

abbrev pub AllowsNoSum : Schema → Binding → Operator → Type 0
AllowsNoSum schema binding operator = Serves schema binding operator × (is_sum operator ≡ false)

pub no_sum-more : (schema : Schema) (binding : Binding) (operators : List Operator) (columns : ℕ) (operator : Operator) (before : ℕ)
    → AllowsNoSum schema binding operator → HasNoSum schema binding (record { operators = operators; columns = before })
    → HasNoSum schema binding (record { operators = operators ++ operator ∷ []; columns = columns })
no_sum-more schema binding operators columns operator before allowed has = record {
  serve = All-push (Serves schema binding) operators operator has.serve allowed.0;
  none = none_more is_sum operators operator has.none allowed.1;
}

pub rows-no_sum : (schema : Schema) (binding : Binding) → All (AreRanges schema) binding.tests → HasNoSum schema binding (plan_rows binding schema).steps
rows-no_sum schema binding ranged =
    rows-keep schema binding ranged (AllowsNoSum schema binding) (HasNoSum schema binding) (λ operator is. (is.0, is.2))
    (λ steps operator allowed has. no_sum-more schema binding steps.operators (steps.columns + 1) (operator (steps.columns + 1)) steps.columns allowed has)
    (λ steps operator allowed has. no_sum-more schema binding steps.operators (steps.columns + 2) (operator (steps.columns + 1) (steps.columns + 2)) steps.columns allowed has)
    (λ probe keys left right first second. (((first, second), _), refl))
    (record { serve = All-nil (Serves schema binding); none = refl })

pub record JoinsBefore (schema : Schema) (binding : Binding) (steps : Steps) : Type 0 where
  pub serve : All (Serves schema binding) steps.operators
  pub joins : JoinsFirst steps.operators

abbrev AllowsNoJoin : Schema → Binding → Operator → Type 0
AllowsNoJoin schema binding operator = Serves schema binding operator × (is_join operator ≡ false)

or_parts_first : (a b : Bool) → (a || b) ≡ false → a ≡ false
or_parts_first true b h = absurd (cc)
or_parts_first false b h = refl

or_parts_second : (a b : Bool) → (a || b) ≡ false → b ≡ false
or_parts_second true b h = absurd (cc)
or_parts_second false b h = h

joins_first-none : (operators : List Operator) → list_any is_sum operators ≡ false → JoinsFirst operators
joins_first-none [] none = _
joins_first-none (operator ∷ operators) none = (
  λ is. absurd (let other : is_sum operator ≡ false = or_parts_first (is_sum operator) (list_any is_sum operators) none in cc),
  joins_first-none operators (or_parts_second (is_sum operator) (list_any is_sum operators) none),
)

joins_first-more : (operators : List Operator) (operator : Operator) → is_join operator ≡ false → JoinsFirst operators → JoinsFirst (operators ++ operator ∷ [])
joins_first-more [] operator no_join before = (λ is. refl, _)
joins_first-more (first ∷ operators) operator no_join before =
    (λ is. none_more is_join operators operator (before.0 is) no_join, joins_first-more operators operator no_join before.1)

joins_before-more : (schema : Schema) (binding : Binding) (operators : List Operator) (columns : ℕ) (operator : Operator) (before : ℕ)
    → AllowsNoJoin schema binding operator → JoinsBefore schema binding (record { operators = operators; columns = before })
    → JoinsBefore schema binding (record { operators = operators ++ operator ∷ []; columns = columns })
joins_before-more schema binding operators columns operator before allowed has = record {
  serve = All-push (Serves schema binding) operators operator has.serve allowed.0;
  joins = joins_first-more operators operator allowed.1 has.joins;
}

pub whole-joins_before : (schema : Schema) (binding : Binding) → All (AreRanges schema) binding.tests
    → (let plan = plan_of binding schema in JoinsBefore schema binding (record { operators = plan.operators; columns = plan.columns }))
whole-joins_before schema binding ranged =
    let Allowed : Operator → Type 0 = AllowsNoJoin schema binding in
    let P : Steps → Type 0 = JoinsBefore schema binding in
    let quiet : (operator : Operator) → IsQuiet schema binding operator → Allowed operator = λ operator is. (is.0, is.1) in
    let one : (steps : Steps) (operator : ℕ → Operator) → Allowed (operator (steps.columns + 1)) → P steps → P (with_one steps operator) =
    λ steps operator allowed has. joins_before-more schema binding steps.operators (steps.columns + 1) (operator (steps.columns + 1)) steps.columns allowed has in
    let two : (steps : Steps) (operator : ℕ → ℕ → Operator) → Allowed (operator (steps.columns + 1) (steps.columns + 2)) → P steps → P (with_two steps operator) =
    λ steps operator allowed has. joins_before-more schema binding steps.operators (steps.columns + 2) (operator (steps.columns + 1) (steps.columns + 2)) steps.columns allowed has in
    let needs = needs_all binding in
    let rows = plan_rows binding schema in
    let start : Groups = record { steps = rows.steps; last = None; values = [] } in
    let groups = add_groups binding rows start binding.groups in
    let ids = option_map (λ (last : Grouped). last.ids) groups.last in
    let no_sums : Sums = record { steps = groups.steps; places = [] } in
    let sums = add_sums binding rows ids 1 no_sums binding.sums in
    let none = rows-no_sum schema binding ranged in
    let grouped = groups-keep schema binding ranged Allowed P quiet one two rows start binding.groups needs.groups (All-nil (NeedsInput binding))
    (record { serve = none.serve; joins = joins_first-none rows.steps.operators none.none }) in
    keys_at-keep schema binding ranged Allowed P quiet one two groups.last sums.steps groups.values grouped.1
    (sums-keep schema binding ranged Allowed P quiet one two (λ operator reads selects no_join. ((reads, selects), no_join)) rows ids 1 no_sums binding.sums needs.sums grouped.0)

-- # Something is grouped or summed

abbrev Counts : Steps → Type 0
Counts steps = list_any reads_joined_rows steps.operators ≡ true

counts-more : (operators : List Operator) (operator : Operator) → list_any reads_joined_rows operators ≡ true → list_any reads_joined_rows (operators ++ operator ∷ []) ≡ true
counts-more operators operator counts =
    list_any-append reads_joined_rows operators (operator ∷ []) ∙ or_left (list_any reads_joined_rows operators) (list_any reads_joined_rows (operator ∷ [])) counts

counts-now : (operators : List Operator) (operator : Operator) → reads_joined_rows operator ≡ true → list_any reads_joined_rows (operators ++ operator ∷ []) ≡ true
counts-now operators operator counts =
    list_any-append reads_joined_rows operators (operator ∷ [])
    ∙ or_right (list_any reads_joined_rows operators) (list_any reads_joined_rows (operator ∷ [])) (or_left (reads_joined_rows operator) false counts)

grouping-counts : (last : Option Grouped) (values : Input) (ids extents : ℕ) → reads_joined_rows (grouping last values ids extents) ≡ true
grouping-counts None values ids extents = refl
grouping-counts (Some before) values ids extents = refl

sum-counts : (binding : Binding) (steps : Steps) (rows : Rows) (ids : Option ℕ) (number : ℕ) (what : SumOf) → Counts (add_sum steps binding rows ids number what).steps
sum-counts binding steps rows ids number (operand.Plain id) =
    let read = add_column steps binding rows id in
    counts-now read.steps.operators (sum read.input ids (read.steps.columns + 1) number 1) refl
sum-counts binding steps rows ids number (operand.Product left right) =
    let first = add_column steps binding rows left in
    let second = add_column first.steps binding rows right in
    counts-now second.steps.operators (sum_product first.input second.input ids (second.steps.columns + 1) number) refl
sum-counts binding steps rows ids number (operand.Difference left right) =
    let first = add_column steps binding rows left in
    let second = add_column first.steps binding rows right in
    let minuend = with_one second.steps (λ out. sum first.input ids out number 1) in
    counts-now minuend.operators (sum second.input ids (minuend.columns + 1) number 2) refl

-- some column is grouped, or some sum stands in SELECT
abbrev HasItems : Binding → Type 0
HasItems binding = (0 < length binding.groups) ⊎ (0 < length binding.sums)

items_of : (binding : Binding) (items : List Item) → 1 ≤ length items → AllByRecursion (IsItem binding) items → HasItems binding
items_of binding [] some each = absurd (omega arith)
items_of binding (item.Group number ∷ items) some each = inl (let h : number < length binding.groups = each.0 in omega arith)
items_of binding (item.Sum number ∷ items) some each = inr (let h : number < length binding.sums = each.0 in omega arith)

module _ (schema : Schema) (binding : Binding) (ranged : All (AreRanges schema) binding.tests) where
  abbrev Any : Operator → Type 0
  Any operator = ⊤

  any_quiet : (operator : Operator) → IsQuiet schema binding operator → Any operator
  any_quiet operator is = _

  any_one : (steps : Steps) (operator : ℕ → Operator) → Any (operator (steps.columns + 1)) → Counts steps → Counts (with_one steps operator)
  any_one steps operator allowed counts = counts-more steps.operators (operator (steps.columns + 1)) counts

  any_two : (steps : Steps) (operator : ℕ → ℕ → Operator) → Any (operator (steps.columns + 1) (steps.columns + 2)) → Counts steps → Counts (with_two steps operator)
  any_two steps operator allowed counts = counts-more steps.operators (operator (steps.columns + 1) (steps.columns + 2)) counts

  groups-count : (rows : Rows) (groups : Groups) (ids : List ColumnId) → All (IsNeeded binding) ids → All (NeedsInput binding) groups.values → 0 < length ids
      → Counts (add_groups binding rows groups ids).steps
  groups-count rows groups [] needed values some = absurd (omega arith)
  groups-count rows groups (id ∷ ids) needed values some =
      let read = add_column groups.steps binding rows id in
      (groups-keep schema binding ranged Any Counts any_quiet any_one any_two rows (add_group binding rows groups id) ids (All-tail (IsNeeded binding) id ids needed)
      (All-push (NeedsInput binding) groups.values read.input values
      (column-needs schema binding ranged Any Counts any_quiet any_one any_two groups.steps rows id (All-head (IsNeeded binding) id ids needed)))
      (counts-now read.steps.operators (grouping groups.last read.input (read.steps.columns + 1) (read.steps.columns + 2))
      (grouping-counts groups.last read.input (read.steps.columns + 1) (read.steps.columns + 2)))).0

  sums-count : (rows : Rows) (ids : Option ℕ) (number : ℕ) (sums : Sums) (todo : List SumOf) → All (λ what. All (IsNeeded binding) (operands what)) todo → 0 < length todo
      → Counts (add_sums binding rows ids number sums todo).steps
  sums-count rows ids number sums [] needed some = absurd (omega arith)
  sums-count rows ids number sums (what ∷ todo) needed some =
      let summed = add_sum sums.steps binding rows ids number what in
      sums-keep schema binding ranged Any Counts any_quiet any_one any_two (λ operator reads selects no_join. _) rows ids (number + 1)
      (record { steps = summed.steps; places = sums.places ++ summed.place ∷ [] }) todo (All-tail (λ what. All (IsNeeded binding) (operands what)) what todo needed)
      (sum-counts binding sums.steps rows ids number what)

  pub values_needed : (rows : Rows) → All (NeedsInput binding) (add_groups binding rows (record { steps = rows.steps; last = None; values = [] }) binding.groups).values
  values_needed rows =
      (groups-keep schema binding ranged Any (λ steps. ⊤) any_quiet (λ steps operator allowed p. _) (λ steps operator allowed p. _) rows
      (record { steps = rows.steps; last = None; values = [] }) binding.groups (needs_all binding).groups (All-nil (NeedsInput binding)) _).1

  whole-counts : HasItems binding → list_any reads_joined_rows (plan_of binding schema).operators ≡ true
  whole-counts has =
      let needs = needs_all binding in
      let rows = plan_rows binding schema in
      let start : Groups = record { steps = rows.steps; last = None; values = [] } in
      let groups = add_groups binding rows start binding.groups in
      let ids = option_map (λ (last : Grouped). last.ids) groups.last in
      let no_sums : Sums = record { steps = groups.steps; places = [] } in
      let sums = add_sums binding rows ids 1 no_sums binding.sums in
      keys_at-keep schema binding ranged Any Counts any_quiet any_one any_two groups.last sums.steps groups.values (values_needed rows)
      (elim has [
        | inl grouped ↦ sums-keep schema binding ranged Any Counts any_quiet any_one any_two (λ operator reads selects no_join. _) rows ids 1 no_sums binding.sums needs.sums
            (groups-count rows start binding.groups needs.groups (All-nil (NeedsInput binding)) grouped)
        | inr summed ↦ sums-count rows ids 1 no_sums binding.sums needs.sums summed
      ])

  pub counted : IsBinding schema binding → list_any reads_joined_rows (plan_of binding schema).operators ≡ true
  counted is = whole-counts (items_of binding binding.items is.some is.items)
