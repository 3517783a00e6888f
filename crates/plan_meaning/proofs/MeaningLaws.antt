-- The law of plans, over data of which only the needed columns are there.
use Rattle.std.proofs.Common.{◌≡◌, ℕ, ◌*◌, List, [], ◌∷◌, map, length, get_or, refl, sym, ap, ap₂, ◌∙◌, subst, All}
use Rattle.std.specs.Prelude.{Option, Some, None, option_map}
use Rattle.std.proofs.lemmas.List.{length-map}
use Rattle.std.proofs.lemmas.List.Elements.{All-nil, All-map}
use Rattle.definitions_operators.specs.Operators.{places, values_at}
use Rattle.definitions_operators.specs.Groups as by_groups
use Rattle.definitions_operators.specs.Groups.{Grouping, products_of, sums_of, distinct, groups_of, operand_of, tuple_of, same_tuple}
use Rattle.definitions_operators.proofs.GroupWords as words
use Rattle.definitions_operators.proofs.GroupLaws.{Each, keys-are, groups-are, same_rows}
use Rattle.definitions_operators.proofs.TupleLaws.{refined_all, grouped-are, totals-are, products-are, operand-of_all, keys-side_by_side}
use Rattle.catalog_core.specs.declared.columns.ColumnId.{ColumnId}
use Rattle.query_bind.specs.Binding.{Binding}
use Rattle.query_bind.specs.declared.bounds.SumOf.{SumOf}
use Rattle.query_bind.specs.declared.bounds.SumOf.TheVariants as operand
use Rattle.plan_core.specs.declared.plans.SumPlace.{SumPlace}
use Rattle.plan_core.specs.Plans.{Steps, Plan}
use Rattle.plan_meaning.specs.StoredLists.{StoredLists, holds}
use Rattle.plan_meaning.specs.JoinedRows.{Combination, value_in, joined_rows}
use Rattle.plan_meaning.specs.Columns.{column}
use Rattle.plan_meaning.specs.Operands.{MetSoFar}
use Rattle.plan_meaning.specs.Law.{SumLists, group_columns, groups_by, key_lists, sum_lists, side_by_side, MeansQuery}
use Rattle.plan_meaning.proofs.Matched.{matched, IsLawful}
use Rattle.plan_meaning.proofs.CombinationLaws.{joined-matched}
use Rattle.plan_meaning.proofs.GroupStepLaws.{values_of, grouped_by_all}
use Rattle.plan_meaning.proofs.SumStepLaws.{HoldEach, HoldSecond, HoldSums, totals, item_sums}
use Rattle.plan_meaning.proofs.WholePlanLaws.{all_groups, key_values, steps_of, HoldsQuery}

-- # What the columns hold is what the query asks, over data that stand whole

module _ (binding : Binding) (stored : StoredLists) where
  abbrev rows : List Combination
  rows = matched binding stored

  abbrev column_in : ColumnId → Combination → ℕ
  column_in id = value_in binding stored id

  -- the groups of rows, and the sums of a column by them
  abbrev groups_in : List (List ℕ)
  groups_in = groups_by (group_columns binding stored) rows

  abbrev sums_in : (Combination → ℕ) → List ℕ
  sums_in summed = map (operand_of (group_columns binding stored) summed rows) groups_in

  abbrev lists_in : SumOf → SumLists
  lists_in (operand.Plain id) = record { first = sums_in (column_in id); second = None }
  lists_in (operand.Product left right) = record { first = sums_in (λ row. column_in left row * column_in right row); second = None }
  lists_in (operand.Difference left right) = record { first = sums_in (column_in left); second = Some (sums_in (column_in right)) }

  grouped_some : (found : Grouping) (columns : List (List ℕ)) → grouped_by_all (Some found) columns ≡ Some (refined_all found columns)
  grouped_some found [] = refl
  grouped_some found (values ∷ columns) = grouped_some (by_groups.refine found.ids values) columns

  map_columns : (ids : List ColumnId) → map (values_of binding stored) ids ≡ map (λ summed. map summed rows) (map column_in ids)
  map_columns [] = refl
  map_columns (id ∷ ids) = ap (λ l. values_of binding stored id ∷ l) (map_columns ids)

  abbrev tuples : List ColumnId → List (List ℕ)
  tuples ids = map (tuple_of (map column_in ids)) rows

  groups-are_tuples : (first : ColumnId) (later : List ColumnId)
      → grouped_by_all None (map (values_of binding stored) (first ∷ later)) ≡ Some (words.grouping same_tuple (tuples (first ∷ later)))
  groups-are_tuples first later =
      ap (λ columns. grouped_by_all (Some (by_groups.group (values_of binding stored first))) columns) (map_columns later)
      ∙ grouped_some (by_groups.group (values_of binding stored first)) (map (λ summed. map summed rows) (map column_in later))
      ∙ ap (λ (found : Grouping). Some found) (grouped-are rows (column_in first) (map column_in later))

  -- # Sums
  totals-are_sums : (ids : List ColumnId) (summed : Combination → ℕ)
      → totals (grouped_by_all None (map (values_of binding stored) ids)) (map summed rows)
      ≡ map (operand_of (map column_in ids) summed rows) (groups_by (map column_in ids) rows)
  totals-are_sums [] summed = ap (λ n. n ∷ []) (sym (operand-of_all summed rows))
  totals-are_sums (first ∷ later) summed =
      ap (λ groups. totals groups (map summed rows)) (groups-are_tuples first later) ∙ totals-are (map column_in (first ∷ later)) summed rows

  item-sums_are : (one : SumOf) → item_sums binding stored (all_groups binding stored) one ≡ lists_in one
  item-sums_are (operand.Plain id) = ap (λ l. record { first = l; second = None }) (totals-are_sums binding.groups (column_in id))
  item-sums_are (operand.Product left right) =
      ap (λ l. record { first = l; second = None })
      (ap (totals (all_groups binding stored)) (products-are rows (column_in left) (column_in right))
      ∙ totals-are_sums binding.groups (λ row. column_in left row * column_in right row))
  item-sums_are (operand.Difference left right) =
      ap₂ (λ a b. record { first = a; second = Some b }) (totals-are_sums binding.groups (column_in left)) (totals-are_sums binding.groups (column_in right))

  items_are : (sums : List SumOf) → map (item_sums binding stored (all_groups binding stored)) sums ≡ map lists_in sums
  items_are [] = refl
  items_are (one ∷ sums) = ap₂ (λ a l. a ∷ l) (item-sums_are one) (items_are sums)

  -- # Keys
  each_values : (extents : List ℕ) (found : List Combination) (ids : List ColumnId) → Each (λ summed. values_at (map summed rows) extents ≡ map summed found) (map column_in ids)
      → map (λ id. values_at (values_of binding stored id) extents) ids ≡ map (λ summed. map summed found) (map column_in ids)
  each_values extents found [] each = refl
  each_values extents found (id ∷ ids) each = ap₂ (λ a l. a ∷ l) each.0 (each_values extents found ids each.1)

  pub record HasKeys (ids : List ColumnId) (keys : List (List ℕ)) : Type 0 where
    pub keys_are : side_by_side (length (groups_by (map column_in ids) rows)) keys ≡ groups_by (map column_in ids) rows
    pub lengths_are : All (λ list. length list ≡ length (groups_by (map column_in ids) rows)) keys

  keys-have : (ids : List ColumnId) → HasKeys ids (key_values binding stored ids (grouped_by_all None (map (values_of binding stored) ids)))
  keys-have [] = record { keys_are = refl; lengths_are = All-nil (λ list. length list ≡ 1) }
  keys-have (first ∷ later) =
      let ids : List ColumnId = first ∷ later in
      let columns : List (Combination → ℕ) = map column_in ids in
      let found : List Combination = distinct (same_rows columns) rows in
      let extents : List ℕ = words.extents_of same_tuple (tuples ids) in
      let groups : List (List ℕ) = groups_of columns rows in
      let Long : List ℕ → Type 0 = λ list. length list ≡ length groups in
      let many : length groups ≡ length found = ap length (groups-are columns rows) ∙ length-map found (tuple_of columns) in
      let all : key_values binding stored ids (grouped_by_all None (map (values_of binding stored) ids)) ≡ map (λ summed. map summed found) columns =
      ap (key_values binding stored ids) (groups-are_tuples first later) ∙ each_values extents found ids (keys-are columns rows) in
      record {
        keys_are = ap₂ side_by_side many all ∙ keys-side_by_side columns rows;
        lengths_are = subst (All Long) (sym all) (All-map Long (λ (summed : Combination → ℕ). map summed found) columns (λ k d within. length-map found (get_or columns k d) ∙ sym many));
      }

-- # Columns as lists

held_each : (stored : StoredLists) (steps : Steps) (numbers : List ℕ) (lists : List (List ℕ)) → HoldEach stored steps numbers lists → map (column stored steps.operators) numbers ≡ lists
held_each stored steps [] [] hold = refl
held_each stored steps [] (list ∷ lists) hold = absurd hold
held_each stored steps (number ∷ numbers) [] hold = absurd hold
held_each stored steps (number ∷ numbers) (list ∷ lists) hold = ap₂ (λ a l. a ∷ l) hold.0.is (held_each stored steps numbers lists hold.1)

held_second : (stored : StoredLists) (steps : Steps) (number : Option ℕ) (list : Option (List ℕ)) → HoldSecond stored steps number list → option_map (column stored steps.operators) number ≡ list
held_second stored steps None None hold = refl
held_second stored steps None (Some list) hold = absurd hold
held_second stored steps (Some number) None hold = absurd hold
held_second stored steps (Some number) (Some list) hold = ap (λ l. Some l) hold.is

held_sums : (stored : StoredLists) (plan : Plan) (places : List SumPlace) (lists : List SumLists) → HoldSums stored (steps_of plan) places lists → map (sum_lists stored plan) places ≡ lists
held_sums stored plan [] [] hold = refl
held_sums stored plan [] (list ∷ lists) hold = absurd hold
held_sums stored plan (place ∷ places) [] hold = absurd hold
held_sums stored plan (place ∷ places) (list ∷ lists) hold =
    ap₂ (λ a l. a ∷ l)
    (ap₂ (λ (first : List ℕ) (second : Option (List ℕ)). record { first = first; second = second }) hold.0.0.is (held_second stored (steps_of plan) place.second list.second hold.0.1))
    (held_sums stored plan places lists hold.1)

-- over data that stand whole
pub whole-means : (binding : Binding) (stored : StoredLists) (plan : Plan) → IsLawful binding → HoldsQuery binding stored plan → MeansQuery binding stored plan
whole-means binding stored plan lawful holds =
    let keys_are : key_lists stored plan ≡ key_values binding stored binding.groups (all_groups binding stored) =
    held_each stored (steps_of plan) plan.keys (key_values binding stored binding.groups (all_groups binding stored)) holds.keys in
    let sums_are : map (sum_lists stored plan) plan.sums ≡ map (lists_in binding stored) binding.sums =
    held_sums stored plan plan.sums (map (item_sums binding stored (all_groups binding stored)) binding.sums) holds.sums ∙ items_are binding stored binding.sums in
    let have = keys-have binding stored binding.groups in
    let same : matched binding stored ≡ joined_rows binding stored = joined-matched binding stored lawful in
    let Groups : List Combination → List (List ℕ) = λ found. groups_by (group_columns binding stored) found in
    record {
      numbered = holds.run.numbered;
      met = subst (λ (found : List Combination). MetSoFar (length found) stored [] plan.operators) same holds.run.met;
      keys = subst (λ (found : List Combination). side_by_side (length (Groups found)) (key_lists stored plan) ≡ Groups found) same
          (ap (side_by_side (length (Groups (matched binding stored)))) keys_are ∙ have.keys_are);
      lengths = subst (λ (found : List Combination). All (λ list. length list ≡ length (Groups found)) (key_lists stored plan)) same
          (subst (All (λ list. length list ≡ length (Groups (matched binding stored)))) (sym keys_are) have.lengths_are);
      sums = subst (λ (found : List Combination). map (sum_lists stored plan) plan.sums ≡ map (sums_over binding stored found) binding.sums) same sums_are;
    }
  where
    sums_over : Binding → StoredLists → List Combination → SumOf → SumLists
    sums_over binding stored found (operand.Plain id) =
        record { first = map (operand_of (group_columns binding stored) (value_in binding stored id) found) (groups_by (group_columns binding stored) found); second = None }
    sums_over binding stored found (operand.Product left right) =
        record {
          first = map (operand_of (group_columns binding stored) (λ row. value_in binding stored left row * value_in binding stored right row) found) (groups_by (group_columns binding stored) found);
          second = None;
        }
    sums_over binding stored found (operand.Difference left right) =
        record {
          first = map (operand_of (group_columns binding stored) (value_in binding stored left) found) (groups_by (group_columns binding stored) found);
          second = Some (map (operand_of (group_columns binding stored) (value_in binding stored right) found) (groups_by (group_columns binding stored) found));
        }
