-- Whatever holds of a plan so far, and goes on with each operator that is added, holds of the plan.
use Rattle.std.proofs.Common.{◌≡◌, ℕ, ◌+◌, false, cond, List, [], ◌∷◌, ◌++◌, drop, refl, All}
use Rattle.std.specs.Prelude.{◌==◌, not, filter, Option, Some, None}
use Rattle.std.proofs.lemmas.List.Elements.{All-nil, All-head, All-tail, All-push, All-filter}
use Rattle.definitions_queries.specs.Queries.{Test}
use Rattle.catalog_core.specs.declared.columns.ColumnId.{ColumnId}
use Rattle.catalog_core.specs.declared.schemas.Schema.{Schema}
use Rattle.query_bind.specs.Binding.{Binding, Tested}
use Rattle.query_bind.specs.LawfulBindings.{operands}
use Rattle.query_bind.specs.declared.bounds.JoinTo.{JoinTo}
use Rattle.query_bind.specs.declared.bounds.SumOf.{SumOf}
use Rattle.query_bind.specs.declared.bounds.SumOf.TheVariants as operand
use Rattle.plan_core.specs.declared.plans.Input.{Input}
use Rattle.plan_core.specs.declared.plans.Input.TheVariants as input
use Rattle.plan_core.specs.Plans.{Operator, select, union, intersect, project, semi_join, join, sum, sum_product, Steps}
use Rattle.plan_core.specs.Planner.{no_steps, with_one, with_two, Made, Listed, make_one, choices_of, add_selects, add_unions, add_condition, combine, add_conditions, conditions_on, add_list, add_values, add_places, Dimension, is_joined, add_dimensions, add_semi_joins, RowList, Rows, add_row_lists, add_join, add_joins, plan_rows, number_of, add_column}
use Rattle.plan_core.specs.WholePlan.{Grouped, Groups, grouping, add_group, add_groups, Sums, add_sum, add_sums, Keys, add_keys, keys_at}
use Rattle.plan_meaning.specs.Shapes.{IsNeeded, NeedsInput, ReadsNeeded, IsRangeTest, SelectsRange, is_sum, is_join}
use Rattle.plan_meaning.proofs.NeededLaws.{needs_all}

-- a test that is a choice of ranges, with literals of the column's kind
abbrev pub AreRanges : Schema → Tested → Type 0
AreRanges schema tested = All (IsRangeTest schema tested.column) (choices_of tested.test)

-- over needed columns, with a range as a Select's test
abbrev pub Serves : Schema → Binding → Operator → Type 0
Serves schema binding operator = ReadsNeeded binding operator × SelectsRange schema operator

-- neither a Join nor a sum, and such an operator
abbrev pub IsQuiet : Schema → Binding → Operator → Type 0
IsQuiet schema binding operator = Serves schema binding operator × (is_join operator ≡ false) × (is_sum operator ≡ false)

-- over needed columns
abbrev pub NeedsDimension : Binding → Dimension → Type 0
NeedsDimension binding dimension = IsNeeded binding dimension.to.fact_column × NeedsInput binding dimension.keys

module _ (schema : Schema) (binding : Binding) (ranged : All (AreRanges schema) binding.tests) (Allowed : Operator → Type 0) (P : Steps → Type 0)
    (quiet : (operator : Operator) → IsQuiet schema binding operator → Allowed operator)
    (one : (steps : Steps) (operator : ℕ → Operator) → Allowed (operator (steps.columns + 1)) → P steps → P (with_one steps operator))
    (two : (steps : Steps) (operator : ℕ → ℕ → Operator) → Allowed (operator (steps.columns + 1) (steps.columns + 2)) → P steps → P (with_two steps operator)) where
  -- # Steps 1 to 4
  selects-keep : (steps : Steps) (column : ColumnId) (tests : List Test) → IsNeeded binding column → All (IsRangeTest schema column) tests → P steps → P (add_selects steps column tests)
  selects-keep steps column [] needed ranges p = p
  selects-keep steps column (test ∷ tests) needed ranges p =
      selects-keep (with_one steps (select column test)) column tests needed (All-tail (IsRangeTest schema column) test tests ranges)
      (one steps (select column test) (quiet (select column test (steps.columns + 1)) ((needed, All-head (IsRangeTest schema column) test tests ranges), refl, refl)) p)

  unions-keep : (steps : Steps) (running next : ℕ) (tests : List Test) → P steps → P (add_unions steps running next tests).steps
  unions-keep steps running next [] p = p
  unions-keep steps running next (test ∷ tests) p =
      unions-keep (with_one steps (union running next)) (steps.columns + 1) (next + 1) tests
      (one steps (union running next) (quiet (union running next (steps.columns + 1)) ((_, _), refl, refl)) p)

  condition-keeps : (steps : Steps) (tested : Tested) → IsNeeded binding tested.column → AreRanges schema tested → P steps → P (add_condition steps tested).steps
  condition-keeps steps tested needed ranges p =
      let all = choices_of tested.test in
      unions-keep (add_selects steps tested.column all) (steps.columns + 1) (steps.columns + 2) (drop 1 all) (selects-keep steps tested.column all needed ranges p)

  combine-keeps : (which : Option ℕ) (new : Made) → P new.steps → P (combine which new).steps
  combine-keeps None new p = p
  combine-keeps (Some running) new p =
      one new.steps (intersect running new.number) (quiet (intersect running new.number (new.steps.columns + 1)) ((_, _), refl, refl)) p

  conditions-keep : (listed : Listed) (conditions : List Tested) → All (λ tested. IsNeeded binding tested.column) conditions → All (AreRanges schema) conditions → P listed.steps → P (add_conditions listed conditions).steps
  conditions-keep listed [] needed ranges p = p
  conditions-keep listed (tested ∷ conditions) needed ranges p =
      let N : Tested → Type 0 = λ tested. IsNeeded binding tested.column in
      conditions-keep (combine listed.list (add_condition listed.steps tested)) conditions (All-tail N tested conditions needed) (All-tail (AreRanges schema) tested conditions ranges)
      (combine-keeps listed.list (add_condition listed.steps tested)
      (condition-keeps listed.steps tested (All-head N tested conditions needed) (All-head (AreRanges schema) tested conditions ranges) p))

  list-keeps : (steps : Steps) (table : ℕ) → P steps → P (add_list steps binding table).steps
  list-keeps steps table p =
      conditions-keep (record { steps = steps; list = None }) (conditions_on table binding.tests)
      (All-filter (λ tested. tested.column.table == table) (λ tested. IsNeeded binding tested.column) binding.tests (needs_all binding).tests)
      (All-filter (λ tested. tested.column.table == table) (AreRanges schema) binding.tests ranged) p

  values-keep : (steps : Steps) (id : ColumnId) (which : Option ℕ) → IsNeeded binding id → P steps → P (add_values steps id which).steps
  values-keep steps id None needed p = p
  values-keep steps id (Some list) needed p =
      one steps (project (input.Base id) list) (quiet (project (input.Base id) list (steps.columns + 1)) ((needed, _), refl, refl)) p

  values-need : (steps : Steps) (id : ColumnId) (which : Option ℕ) → IsNeeded binding id → NeedsInput binding (add_values steps id which).input
  values-need steps id None needed = needed
  values-need steps id (Some list) needed = _

  places-keep : (steps : Steps) (which : Option ℕ) (at : ℕ) → P steps → P (add_places steps which at).steps
  places-keep steps None at p = p
  places-keep steps (Some list) at p =
      one steps (project (input.Made list) at) (quiet (project (input.Made list) at (steps.columns + 1)) ((_, _), refl, refl)) p

  abbrev NeedsJoin : JoinTo → Type 0
  NeedsJoin to = IsNeeded binding to.fact_column × IsNeeded binding to.key

  dimensions-keep : (steps : Steps) (joins : List JoinTo) (done : List Dimension) → All NeedsJoin joins → All (NeedsDimension binding) done → P steps
      → P (add_dimensions steps binding joins done).steps × All (NeedsDimension binding) (add_dimensions steps binding joins done).dimensions
  dimensions-keep steps [] done needed before p = (p, before)
  dimensions-keep steps (to ∷ joins) done needed before p =
      let listed = add_list steps binding to.key.table in
      let read = add_values listed.steps to.key listed.list in
      let next : Dimension = record { to = to; list = listed.list; keys = read.input } in
      let here : NeedsJoin to = All-head NeedsJoin to joins needed in
      dimensions-keep read.steps joins (done ++ next ∷ []) (All-tail NeedsJoin to joins needed)
      (All-push (NeedsDimension binding) done next before (here.0, values-need listed.steps to.key listed.list here.1))
      (values-keep listed.steps to.key listed.list here.1 (list-keeps steps to.key.table p))

  semi_joins-keep : (listed : Listed) (dimensions : List Dimension) → All (NeedsDimension binding) dimensions → P listed.steps → P (add_semi_joins listed dimensions).steps
  semi_joins-keep listed [] needed p = p
  semi_joins-keep listed (dimension ∷ dimensions) needed p =
      let operator : ℕ → Operator = semi_join dimension.to.fact_column dimension.keys in
      let new = make_one listed.steps operator in
      semi_joins-keep (combine listed.list new) dimensions (All-tail (NeedsDimension binding) dimension dimensions needed)
      (combine-keeps listed.list new
      (one listed.steps operator (quiet (operator (listed.steps.columns + 1)) ((All-head (NeedsDimension binding) dimension dimensions needed, _), refl, refl)) p))

  row_lists-keep : (steps : Steps) (done lists : List RowList) (left : ℕ) → P steps → P (add_row_lists steps done lists left).steps
  row_lists-keep steps done [] left p = p
  row_lists-keep steps done (rows ∷ lists) left p =
      let operator : ℕ → Operator = project (input.Made rows.number) left in
      row_lists-keep (with_one steps operator) (done ++ record { table = rows.table; number = steps.columns + 1 } ∷ []) lists left
      (one steps operator (quiet (operator (steps.columns + 1)) ((_, _), refl, refl)) p)

  module _ (joins_allowed : (probe keys : Input) (left right : ℕ) → NeedsInput binding probe → NeedsInput binding keys → Allowed (join probe keys left right)) where
    join-keeps : (rows : Rows) (dimension : Dimension) → NeedsDimension binding dimension → P rows.steps → P (add_join rows dimension).steps
    join-keeps rows dimension needed p =
        let probe = add_values rows.steps dimension.to.fact_column rows.facts in
        let left = probe.steps.columns + 1 in
        let joined = with_two probe.steps (join probe.input dimension.keys) in
        let facts = add_places joined rows.facts left in
        let earlier = add_row_lists facts.steps [] rows.lists left in
        places-keep earlier.steps dimension.list (left + 1)
        (row_lists-keep facts.steps [] rows.lists left
        (places-keep joined rows.facts left
        (two probe.steps (join probe.input dimension.keys)
        (joins_allowed probe.input dimension.keys (probe.steps.columns + 1) (probe.steps.columns + 2) (values-need rows.steps dimension.to.fact_column rows.facts needed.0) needed.1)
        (values-keep rows.steps dimension.to.fact_column rows.facts needed.0 p))))

    joins-keep : (rows : Rows) (dimensions : List Dimension) → All (NeedsDimension binding) dimensions → P rows.steps → P (add_joins rows dimensions).steps
    joins-keep rows [] needed p = p
    joins-keep rows (dimension ∷ dimensions) needed p =
        joins-keep (add_join rows dimension) dimensions (All-tail (NeedsDimension binding) dimension dimensions needed)
        (join-keeps rows dimension (All-head (NeedsDimension binding) dimension dimensions needed) p)

    pub rows-keep : P no_steps → P (plan_rows binding schema).steps
    rows-keep p =
        let first = add_dimensions no_steps binding binding.joins [] in
        let facts = add_list first.steps binding binding.fact in
        let others = filter (λ dimension. not (is_joined binding schema dimension.to)) first.dimensions in
        let ours = filter (λ dimension. is_joined binding schema dimension.to) first.dimensions in
        let semi_joined = add_semi_joins facts others in
        let made = dimensions-keep no_steps binding.joins [] (needs_all binding).joins (All-nil (NeedsDimension binding)) p in
        joins-keep (record { steps = semi_joined.steps; facts = semi_joined.list; lists = [] }) ours
        (All-filter (λ dimension. is_joined binding schema dimension.to) (NeedsDimension binding) first.dimensions made.1)
        (semi_joins-keep facts others (All-filter (λ dimension. not (is_joined binding schema dimension.to)) (NeedsDimension binding) first.dimensions made.1)
        (list-keeps first.steps binding.fact made.0))

  -- # Steps 5 to 7
  abbrev which_of : Rows → ColumnId → Option ℕ
  which_of rows id = cond (binding.fact == id.table) rows.facts (number_of id.table rows.lists)

  pub column-keeps : (steps : Steps) (rows : Rows) (id : ColumnId) → IsNeeded binding id → P steps → P (add_column steps binding rows id).steps
  column-keeps steps rows id needed p = values-keep steps id (which_of rows id) needed p

  pub column-needs : (steps : Steps) (rows : Rows) (id : ColumnId) → IsNeeded binding id → NeedsInput binding (add_column steps binding rows id).input
  column-needs steps rows id needed = values-need steps id (which_of rows id) needed

  grouping-quiet : (last : Option Grouped) (values : Input) (ids extents : ℕ) → NeedsInput binding values → IsQuiet schema binding (grouping last values ids extents)
  grouping-quiet None values ids extents needs = ((needs, _), refl, refl)
  grouping-quiet (Some before) values ids extents needs = ((needs, _), refl, refl)

  pub groups-keep : (rows : Rows) (groups : Groups) (ids : List ColumnId) → All (IsNeeded binding) ids → All (NeedsInput binding) groups.values → P groups.steps
      → P (add_groups binding rows groups ids).steps × All (NeedsInput binding) (add_groups binding rows groups ids).values
  groups-keep rows groups [] needed values p = (p, values)
  groups-keep rows groups (id ∷ ids) needed values p =
      let here = All-head (IsNeeded binding) id ids needed in
      let read = add_column groups.steps binding rows id in
      let needs = column-needs groups.steps rows id here in
      groups-keep rows (add_group binding rows groups id) ids (All-tail (IsNeeded binding) id ids needed)
      (All-push (NeedsInput binding) groups.values read.input values needs)
      (two read.steps (grouping groups.last read.input)
      (quiet (grouping groups.last read.input (read.steps.columns + 1) (read.steps.columns + 2)) (grouping-quiet groups.last read.input (read.steps.columns + 1) (read.steps.columns + 2) needs))
      (column-keeps groups.steps rows id here p))

  pub keys-keep : (extents : ℕ) (keys : Keys) (values : List Input) → All (NeedsInput binding) values → P keys.steps → P (add_keys extents keys values).steps
  keys-keep extents keys [] needed p = p
  keys-keep extents keys (value ∷ values) needed p =
      keys-keep extents (record { steps = with_one keys.steps (project value extents); keys = keys.keys ++ (keys.steps.columns + 1) ∷ [] }) values (All-tail (NeedsInput binding) value values needed)
      (one keys.steps (project value extents) (quiet (project value extents (keys.steps.columns + 1)) ((All-head (NeedsInput binding) value values needed, _), refl, refl)) p)

  pub keys_at-keep : (last : Option Grouped) (steps : Steps) (values : List Input) → All (NeedsInput binding) values → P steps → P (keys_at last steps values).steps
  keys_at-keep None steps values needed p = p
  keys_at-keep (Some last) steps values needed p = keys-keep last.extents (record { steps = steps; keys = [] }) values needed p

  module _ (sums_allowed : (operator : Operator) → ReadsNeeded binding operator → SelectsRange schema operator → is_join operator ≡ false → Allowed operator) where
    pub sum-keeps : (steps : Steps) (rows : Rows) (ids : Option ℕ) (number : ℕ) (what : SumOf) → All (IsNeeded binding) (operands what) → P steps → P (add_sum steps binding rows ids number what).steps
    sum-keeps steps rows ids number (operand.Plain id) needed p =
        let here = All-head (IsNeeded binding) id [] needed in
        let read = add_column steps binding rows id in
        one read.steps (λ out. sum read.input ids out number 1)
        (sums_allowed (sum read.input ids (read.steps.columns + 1) number 1) (column-needs steps rows id here) _ refl) (column-keeps steps rows id here p)
    sum-keeps steps rows ids number (operand.Product left right) needed p =
        let here = All-head (IsNeeded binding) left (right ∷ []) needed in
        let there = All-head (IsNeeded binding) right [] (All-tail (IsNeeded binding) left (right ∷ []) needed) in
        let first = add_column steps binding rows left in
        let second = add_column first.steps binding rows right in
        one second.steps (λ out. sum_product first.input second.input ids out number)
        (sums_allowed (sum_product first.input second.input ids (second.steps.columns + 1) number) (column-needs steps rows left here, column-needs first.steps rows right there) _ refl)
        (column-keeps first.steps rows right there (column-keeps steps rows left here p))
    sum-keeps steps rows ids number (operand.Difference left right) needed p =
        let here = All-head (IsNeeded binding) left (right ∷ []) needed in
        let there = All-head (IsNeeded binding) right [] (All-tail (IsNeeded binding) left (right ∷ []) needed) in
        let first = add_column steps binding rows left in
        let second = add_column first.steps binding rows right in
        let minuend = with_one second.steps (λ out. sum first.input ids out number 1) in
        one minuend (λ out. sum second.input ids out number 2)
        (sums_allowed (sum second.input ids (minuend.columns + 1) number 2) (column-needs first.steps rows right there) _ refl)
        (one second.steps (λ out. sum first.input ids out number 1)
        (sums_allowed (sum first.input ids (second.steps.columns + 1) number 1) (column-needs steps rows left here) _ refl)
        (column-keeps first.steps rows right there (column-keeps steps rows left here p)))

    pub sums-keep : (rows : Rows) (ids : Option ℕ) (number : ℕ) (sums : Sums) (todo : List SumOf) → All (λ what. All (IsNeeded binding) (operands what)) todo → P sums.steps
        → P (add_sums binding rows ids number sums todo).steps
    sums-keep rows ids number sums [] needed p = p
    sums-keep rows ids number sums (what ∷ todo) needed p =
        let N : SumOf → Type 0 = λ what. All (IsNeeded binding) (operands what) in
        let summed = add_sum sums.steps binding rows ids number what in
        sums-keep rows ids (number + 1) (record { steps = summed.steps; places = sums.places ++ summed.place ∷ [] }) todo (All-tail N what todo needed)
        (sum-keeps sums.steps rows ids number what (All-head N what todo needed) p)
