-- A plan that reads needed columns alone makes the same of data that have no others.
use Rattle.std.proofs.Common.{◌≡◌, ℕ, ◌+◌, ◌*◌, ◌<◌, cond, List, [], ◌∷◌, ◌++◌, map, length, refl, sym, ap, ap₂, ◌∙◌, subst, All}
use Rattle.std.specs.Prelude.{◌&&◌, ◌==◌, nat_lt, Some, None, option_map, slice_index}
use Rattle.std.specs.List.{list_all}
use Rattle.std.proofs.lemmas.List.Elements.{All-head, All-tail, filter_agree}
use Rattle.definitions_operators.specs.Operators as lists
use Rattle.definitions_operators.specs.Groups as by_groups
use Rattle.definitions_operators.specs.Groups.{products_of, operand_of}
use Rattle.catalog_core.specs.declared.columns.ColumnId.{ColumnId}
use Rattle.query_bind.specs.Binding.{Binding, Tested}
use Rattle.query_bind.specs.LawfulBindings.{operands}
use Rattle.query_bind.specs.declared.bounds.JoinTo.{JoinTo}
use Rattle.query_bind.specs.declared.bounds.SumOf.{SumOf}
use Rattle.query_bind.specs.declared.bounds.SumOf.TheVariants as operand
use Rattle.plan_core.specs.declared.plans.Input.{Input}
use Rattle.plan_core.specs.declared.plans.Input.TheVariants as input
use Rattle.plan_core.specs.Plans.{Operator, select, union, intersect, project, semi_join, join, group, refine, sum, sum_product, Plan}
use Rattle.definitions_blocks.specs.Columns.{max_rows}
use Rattle.plan_meaning.specs.StoredLists.{StoredLists, is_met}
use Rattle.plan_meaning.specs.JoinedRows.{one_of_each, Combination, row_of, value_in, combinations, is_matched, is_tested, joined_rows}
use Rattle.plan_meaning.specs.Columns.{made_column, input_of, sums_by, both_lists, outputs, columns_after, is_too_large, too_large_from}
use Rattle.plan_meaning.specs.Operands.{IsShortList, HasOperands, MetSoFar}
use Rattle.plan_meaning.specs.Shapes.{IsNeeded, NeedsInput, ReadsNeeded}
use Rattle.plan_meaning.specs.Law.{group_columns, groups_by, query_groups, group_sums, query_sums, key_lists, sum_lists, side_by_side, MeansQuery}
use Rattle.plan_meaning.proofs.CombinationLaws.{all-same}
use Rattle.plan_meaning.proofs.NeededLaws.{needs_all, needed_data, needed_values}
use Rattle.plan_meaning.proofs.Matched.{IsLawful}
use Rattle.plan_meaning.proofs.NeededLaws.{is_of, fact_of, keys_of, rows_of}
use Rattle.definitions_operators.specs.Operators.{places}
use Rattle.std.specs.Prelude.{flat_map}
use Rattle.plan_meaning.specs.JoinedRows.{one_of_each}
use Rattle.std.proofs.Common.{true}
use Rattle.std.specs.Prelude.{filter}

module _ (binding : Binding) (stored : StoredLists) (lawful : IsLawful binding) where
  abbrev data_needed : StoredLists
  data_needed = needed_data binding stored

  -- # What operators make
  input_same : (columns : List (List ℕ)) (input : Input) → NeedsInput binding input → input_of data_needed columns input ≡ input_of stored columns input
  input_same columns (input.Base id) needs = needed_values binding stored id needs
  input_same columns (input.Made number) needs = refl

  pub outputs_same : (columns : List (List ℕ)) (operator : Operator) → ReadsNeeded binding operator → outputs data_needed columns operator ≡ outputs stored columns operator
  outputs_same columns (select id test out) needs = ap (λ values. lists.passing_places (is_met (stored.texts id) test) values ∷ []) (needed_values binding stored id needs)
  outputs_same columns (union left right out) needs = refl
  outputs_same columns (intersect left right out) needs = refl
  outputs_same columns (project values places out) needs = ap (λ l. lists.values_at l (made_column columns places) ∷ []) (input_same columns values needs)
  outputs_same columns (semi_join probe keys out) needs =
      ap₂ (λ values keys. lists.semi_join values keys ∷ []) (needed_values binding stored probe needs.0) (input_same columns keys needs.1)
  outputs_same columns (join probe keys left right) needs =
      ap₂ (λ values keys. map (λ (pair : ℕ × ℕ). pair.0) (lists.join values keys) ∷ map (λ (pair : ℕ × ℕ). pair.1) (lists.join values keys) ∷ [])
      (input_same columns probe needs.0) (input_same columns keys needs.1)
  outputs_same columns (group values ids extents) needs = ap (λ l. both_lists (by_groups.group l)) (input_same columns values needs)
  outputs_same columns (refine before values ids extents) needs = ap (λ l. both_lists (by_groups.refine (made_column columns before) l)) (input_same columns values needs)
  outputs_same columns (sum values ids out number operand) needs = ap (λ l. sums_by columns l ids ∷ []) (input_same columns values needs)
  outputs_same columns (sum_product first second ids out number) needs =
      ap₂ (λ a b. sums_by columns (products_of a b) ids ∷ []) (input_same columns first needs.0) (input_same columns second needs.1)

  large_same : (columns : List (List ℕ)) (operator : Operator) → ReadsNeeded binding operator → is_too_large data_needed columns operator ≡ is_too_large stored columns operator
  large_same columns (select id test out) needs = refl
  large_same columns (union left right out) needs = refl
  large_same columns (intersect left right out) needs = refl
  large_same columns (project values places out) needs = refl
  large_same columns (semi_join probe keys out) needs = refl
  large_same columns (join probe keys left right) needs =
      ap₂ (λ values keys. nat_lt max_rows (length (lists.join values keys))) (input_same columns probe needs.0) (input_same columns keys needs.1)
  large_same columns (group values ids extents) needs = refl
  large_same columns (refine before values ids extents) needs = refl
  large_same columns (sum values ids out number operand) needs = refl
  large_same columns (sum_product first second ids out number) needs = refl

  pub columns_same : (columns : List (List ℕ)) (operators : List Operator) → All (ReadsNeeded binding) operators → columns_after data_needed columns operators ≡ columns_after stored columns operators
  columns_same columns [] needs = refl
  columns_same columns (operator ∷ operators) needs =
      let now : outputs data_needed columns operator ≡ outputs stored columns operator = outputs_same columns operator (All-head (ReadsNeeded binding) operator operators needs) in
      ap (λ news. columns_after data_needed (columns ++ news) operators) now
      ∙ columns_same (columns ++ outputs stored columns operator) operators (All-tail (ReadsNeeded binding) operator operators needs)

  pub too_many_same : (columns : List (List ℕ)) (number : ℕ) (operators : List Operator) → All (ReadsNeeded binding) operators
      → too_large_from data_needed columns number operators ≡ too_large_from stored columns number operators
  too_many_same columns number [] needs = refl
  too_many_same columns number (operator ∷ operators) needs =
      let needed : ReadsNeeded binding operator = All-head (ReadsNeeded binding) operator operators needs in
      ap₂ (λ b rest. cond b (Some number) rest) (large_same columns operator needed)
      (ap (λ news. too_large_from data_needed (columns ++ news) (number + 1) operators) (outputs_same columns operator needed)
      ∙ too_many_same (columns ++ outputs stored columns operator) (number + 1) operators (All-tail (ReadsNeeded binding) operator operators needs))

  -- # What operators count on
  operands_same : (count : ℕ) (columns : List (List ℕ)) (operator : Operator) → ReadsNeeded binding operator → HasOperands count data_needed columns operator → HasOperands count stored columns operator
  operands_same count columns (select id test out) needs has = has
  operands_same count columns (union left right out) needs has = has
  operands_same count columns (intersect left right out) needs has = has
  operands_same count columns (project values places out) needs has =
      subst (λ (l : List ℕ). All (λ place. place < length l) (made_column columns places)) (input_same columns values needs) has
  operands_same count columns (semi_join probe keys out) needs has = has
  operands_same count columns (join probe keys left right) needs has = has
  operands_same count columns (group values ids extents) needs has = ap length (sym (input_same columns values needs)) ∙ has
  operands_same count columns (refine before values ids extents) needs has = (ap length (sym (input_same columns values needs)) ∙ has.0, has.1)
  operands_same count columns (sum values ids out number operand) needs has = (ap length (sym (input_same columns values needs)) ∙ has.0, has.1)
  operands_same count columns (sum_product first second ids out number) needs has =
      (ap length (sym (input_same columns first needs.0)) ∙ has.0, ap length (sym (input_same columns second needs.1)) ∙ has.1, has.2)

  pub met_same : (count : ℕ) (columns : List (List ℕ)) (operators : List Operator) → All (ReadsNeeded binding) operators
      → MetSoFar count data_needed columns operators → MetSoFar count stored columns operators
  met_same count columns [] needs met = _
  met_same count columns (operator ∷ operators) needs met =
      let needed : ReadsNeeded binding operator = All-head (ReadsNeeded binding) operator operators needs in
      let now : outputs data_needed columns operator ≡ outputs stored columns operator = outputs_same columns operator needed in (
        record { numbered = met.0.numbered; operands = operands_same count columns operator needed met.0.operands },
        λ small.
            let rest = met.1 (large_same columns operator needed ∙ small) in (
              subst (All IsShortList) now rest.0,
              met_same count (columns ++ outputs stored columns operator) operators (All-tail (ReadsNeeded binding) operator operators needs)
                  (subst (λ news. MetSoFar count data_needed (columns ++ news) operators) now rest.1),
            ),
      )

  -- # What the query asks
  value_same : (id : ColumnId) → IsNeeded binding id → value_in binding data_needed id ≡ value_in binding stored id
  value_same id needed = ap {B = Combination → ℕ} (λ (values : List ℕ) (combination : Combination). slice_index values (row_of binding id.table combination)) (needed_values binding stored id needed)

  matched_same : (combination : Combination) (to : JoinTo) → IsNeeded binding to.fact_column × IsNeeded binding to.key
      → is_matched binding data_needed combination to ≡ is_matched binding stored combination to
  matched_same combination to needed =
      ap₂ (λ (key fact : Combination → ℕ). key combination == fact combination) (value_same to.key needed.1) (value_same to.fact_column needed.0)

  tested_same : (combination : Combination) (tested : Tested) → IsNeeded binding tested.column → is_tested binding data_needed combination tested ≡ is_tested binding stored combination tested
  tested_same combination tested needed =
      ap (λ (values : List ℕ). is_met (stored.texts tested.column) tested.test (slice_index values (row_of binding tested.column.table combination))) (needed_values binding stored tested.column needed)

  tables_same : (joins : List JoinTo) → All (λ to. is_of binding to.key.table ≡ true) joins
      → map (λ to. places (data_needed.rows to.key.table)) joins ≡ map (λ to. places (stored.rows to.key.table)) joins
  tables_same [] all = refl
  tables_same (to ∷ joins) all =
      let P : JoinTo → Type 0 = λ to. is_of binding to.key.table ≡ true in
      ap₂ (λ (a : List ℕ) (l : List (List ℕ)). a ∷ l) (ap places (rows_of binding stored to.key.table (All-head P to joins all))) (tables_same joins (All-tail P to joins all))

  combinations_same : combinations binding data_needed ≡ combinations binding stored
  combinations_same =
      ap₂ (λ (tables : List (List ℕ)) (n : ℕ). flat_map (λ fact. map (λ rows. record { fact = fact; rows = rows }) (one_of_each tables)) (places n))
      (tables_same binding.joins (keys_of binding)) (rows_of binding stored binding.fact (fact_of binding))

  pub rows_same : joined_rows binding data_needed ≡ joined_rows binding stored
  rows_same =
      let needs = needs_all binding in
      filter_agree
      (λ combination. list_all (is_matched binding data_needed combination) binding.joins && list_all (is_tested binding data_needed combination) binding.tests)
      (λ combination. list_all (is_matched binding stored combination) binding.joins && list_all (is_tested binding stored combination) binding.tests)
      (λ combination. ap₂ (λ a b. a && b)
      (all-same (λ to. IsNeeded binding to.fact_column × IsNeeded binding to.key) (is_matched binding data_needed combination) (is_matched binding stored combination)
      (matched_same combination) binding.joins needs.joins)
      (all-same (λ tested. IsNeeded binding tested.column) (is_tested binding data_needed combination) (is_tested binding stored combination)
      (tested_same combination) binding.tests needs.tests))
      (combinations binding data_needed)
      ∙ ap (filter (λ combination. list_all (is_matched binding stored combination) binding.joins && list_all (is_tested binding stored combination) binding.tests)) combinations_same

  columns_of_same : (ids : List ColumnId) → All (IsNeeded binding) ids → map (value_in binding data_needed) ids ≡ map (value_in binding stored) ids
  columns_of_same [] needs = refl
  columns_of_same (id ∷ ids) needs =
      ap₂ (λ (a : Combination → ℕ) (l : List (Combination → ℕ)). a ∷ l) (value_same id (All-head (IsNeeded binding) id ids needs)) (columns_of_same ids (All-tail (IsNeeded binding) id ids needs))

  pub columns_grouped : group_columns binding data_needed ≡ group_columns binding stored
  columns_grouped = columns_of_same binding.groups (needs_all binding).groups

  pub groups_same : query_groups binding data_needed ≡ query_groups binding stored
  groups_same = ap₂ (λ (columns : List (Combination → ℕ)) (rows : List Combination). groups_by columns rows) columns_grouped rows_same

  abbrev sums_with : (Combination → ℕ) → List (Combination → ℕ) → List Combination → List ℕ
  sums_with summed columns rows = map (operand_of columns summed rows) (groups_by columns rows)

  group_sums_same : (a b : Combination → ℕ) → a ≡ b → group_sums binding data_needed a ≡ group_sums binding stored b
  group_sums_same a b same =
      ap₂ (sums_with a) columns_grouped rows_same ∙ ap (λ (summed : Combination → ℕ). sums_with summed (group_columns binding stored) (joined_rows binding stored)) same

  sum_same : (one : SumOf) → All (IsNeeded binding) (operands one) → query_sums binding data_needed one ≡ query_sums binding stored one
  sum_same (operand.Plain id) needs =
      ap (λ l. record { first = l; second = None }) (group_sums_same (value_in binding data_needed id) (value_in binding stored id) (value_same id (All-head (IsNeeded binding) id [] needs)))
  sum_same (operand.Product left right) needs =
      let first = value_same left (All-head (IsNeeded binding) left (right ∷ []) needs) in
      let second = value_same right (All-head (IsNeeded binding) right [] (All-tail (IsNeeded binding) left (right ∷ []) needs)) in
      ap (λ l. record { first = l; second = None })
      (group_sums_same (λ row. value_in binding data_needed left row * value_in binding data_needed right row) (λ row. value_in binding stored left row * value_in binding stored right row)
      (ap₂ {C = Combination → ℕ} (λ (a b : Combination → ℕ) (row : Combination). a row * b row) first second))
  sum_same (operand.Difference left right) needs =
      let first = value_same left (All-head (IsNeeded binding) left (right ∷ []) needs) in
      let second = value_same right (All-head (IsNeeded binding) right [] (All-tail (IsNeeded binding) left (right ∷ []) needs)) in
      ap₂ (λ a b. record { first = a; second = Some b })
      (group_sums_same (value_in binding data_needed left) (value_in binding stored left) first)
      (group_sums_same (value_in binding data_needed right) (value_in binding stored right) second)

  pub sums_same : (sums : List SumOf) → All (λ sum. All (IsNeeded binding) (operands sum)) sums → map (query_sums binding data_needed) sums ≡ map (query_sums binding stored) sums
  sums_same [] needs = refl
  sums_same (one ∷ sums) needs =
      let P : SumOf → Type 0 = λ sum. All (IsNeeded binding) (operands sum) in
      ap₂ (λ a l. a ∷ l) (sum_same one (All-head P one sums needs)) (sums_same sums (All-tail P one sums needs))

  -- # The law
  key_lists_same : (plan : Plan) → All (ReadsNeeded binding) plan.operators → key_lists data_needed plan ≡ key_lists stored plan
  key_lists_same plan needs = ap (λ columns. map (made_column columns) plan.keys) (columns_same [] plan.operators needs)

  sum_lists_same : (plan : Plan) → All (ReadsNeeded binding) plan.operators → map (sum_lists data_needed plan) plan.sums ≡ map (sum_lists stored plan) plan.sums
  sum_lists_same plan needs =
      ap (λ columns. map (λ place. record { first = made_column columns place.first; second = option_map (made_column columns) place.second }) plan.sums) (columns_same [] plan.operators needs)

  pub means_same : (plan : Plan) → All (ReadsNeeded binding) plan.operators → MeansQuery binding data_needed plan → MeansQuery binding stored plan
  means_same plan needs means = record {
    numbered = ap length (sym (columns_same [] plan.operators needs)) ∙ means.numbered;
    met = subst (λ (rows : List Combination). MetSoFar (length rows) stored [] plan.operators) rows_same (met_same (length (joined_rows binding data_needed)) [] plan.operators needs means.met);
    keys = sym (ap₂ (λ (groups : List (List ℕ)) (keys : List (List ℕ)). side_by_side (length groups) keys) groups_same (key_lists_same plan needs)) ∙ means.keys ∙ groups_same;
    lengths = subst (λ (groups : List (List ℕ)). All (λ list. length list ≡ length groups) (key_lists stored plan)) groups_same
        (subst (All (λ list. length list ≡ length (query_groups binding data_needed))) (key_lists_same plan needs) means.lengths);
    sums = sym (sum_lists_same plan needs) ∙ means.sums ∙ sums_same binding.sums (needs_all binding).sums;
  }
