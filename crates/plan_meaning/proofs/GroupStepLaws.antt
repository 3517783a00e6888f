-- Step 5: the groups of the joined rows.
use Rattle.std.proofs.Common.{◌≡◌, ℕ, ◌+◌, ◌<◌, ◌≤◌, Bool, List, [], ◌∷◌, ◌++◌, map, length, refl, sym, ap, ap₂, ◌∙◌, subst, All, arith, append-nil, append_assoc}
use Rattle.std.specs.Prelude.{Option, Some, None, ⊤, not}
use Rattle.std.specs.List.{list_any}
use Rattle.std.proofs.lemmas.List.{length-map}
use Rattle.std.proofs.lemmas.List.Elements.{All-head, All-tail}
use Rattle.definitions_operators.specs.Groups as by_groups
use Rattle.definitions_operators.specs.Operators.{places}
use Rattle.definitions_operators.specs.Groups.{Grouping, first_places, group_numbers, one_pair, one_value}
use Rattle.catalog_core.specs.declared.columns.ColumnId.{ColumnId}
use Rattle.catalog_core.specs.declared.schemas.Schema.{Schema}
use Rattle.query_bind.specs.Binding.{Binding}
use Rattle.plan_core.specs.declared.plans.Input.{Input}
use Rattle.plan_core.specs.Plans.{Steps, group, refine}
use Rattle.plan_core.specs.Planner.{Rows, add_column, with_two}
use Rattle.plan_core.specs.WholePlan.{Grouped, Groups, add_group, add_groups, grouping}
use Rattle.plan_meaning.specs.StoredLists.{StoredLists}
use Rattle.definitions_blocks.specs.Columns.{max_rows}
use Rattle.plan_meaning.specs.JoinedRows.{value_in}
use Rattle.plan_meaning.specs.Columns.{both_lists}
use Rattle.plan_meaning.specs.Operands.{IsShortList}
use Rattle.plan_meaning.proofs.Matched.{AreJoined, HasLengths, Holds, Reads, matched}
use Rattle.definitions_operators.proofs.PlaceLaws.{length-places, places_where-below}
use Rattle.plan_meaning.proofs.RunLaws.{GoesOn, GoesOn-refl, GoesOn-then, Holds-later, IsRun, Reads-is, Reads-later, columns_so_far, made_input, made_number, with_two-holds}
use Rattle.plan_meaning.proofs.ListStepLaws.{length-filter-le}
use Rattle.plan_meaning.proofs.FitLaws.{input-short}
use Rattle.plan_meaning.proofs.ReadLaws.{IsReadTable, add_column-reads}
use Rattle.definitions_operators.proofs.TupleLaws.{group-ids_below, refine-ids_below}

-- a column in the joined rows
abbrev pub values_of : Binding → StoredLists → ColumnId → List ℕ
values_of binding stored id = map (value_in binding stored id) (matched binding stored)

-- the groups of a further column, within groups where there are some; and those of several
abbrev pub grouped_by : Option Grouping → List ℕ → Grouping
grouped_by None values = by_groups.group values
grouped_by (Some before) values = by_groups.refine before.ids values

abbrev pub grouped_by_all : Option Grouping → List (List ℕ) → Option Grouping
grouped_by_all before [] = before
grouped_by_all before (values ∷ rest) = grouped_by_all (Some (grouped_by before values)) rest

-- inputs are lists, one by one
abbrev pub ReadEach : StoredLists → Steps → List Input → List (List ℕ) → Type 0
ReadEach stored steps [] [] = ⊤
ReadEach stored steps (input ∷ inputs) (list ∷ lists) = Reads stored steps input list × ReadEach stored steps inputs lists
ReadEach stored steps inputs lists = ⊥

pub ReadEach-later : (count : ℕ) (stored : StoredLists) (a b : Steps) (inputs : List Input) (lists : List (List ℕ)) → GoesOn count stored a b → ReadEach stored a inputs lists → ReadEach stored b inputs lists
ReadEach-later count stored a b [] [] on all = _
ReadEach-later count stored a b [] (list ∷ lists) on all = all
ReadEach-later count stored a b (input ∷ inputs) [] on all = all
ReadEach-later count stored a b (input ∷ inputs) (list ∷ lists) on all = (Reads-later count stored a b input list on all.0, ReadEach-later count stored a b inputs lists on all.1)

pub ReadEach-push : (stored : StoredLists) (steps : Steps) (inputs : List Input) (lists : List (List ℕ)) (input : Input) (list : List ℕ)
    → ReadEach stored steps inputs lists → Reads stored steps input list → ReadEach stored steps (inputs ++ input ∷ []) (lists ++ list ∷ [])
ReadEach-push stored steps [] [] input list all one = (one, _)
ReadEach-push stored steps [] (first ∷ lists) input list all one = absurd all
ReadEach-push stored steps (first ∷ inputs) [] input list all one = absurd all
ReadEach-push stored steps (first ∷ inputs) (other ∷ lists) input list all one = (all.0, ReadEach-push stored steps inputs lists input list all.1 one)

-- the last Group or Refine holds the groups of n rows
pub record HoldsGroups (stored : StoredLists) (steps : Steps) (n : ℕ) (last : Grouped) (groups : Grouping) : Type 0 where
  pub ids : Holds stored steps last.ids groups.ids
  pub extents : Holds stored steps last.extents groups.extents
  pub count : length groups.ids ≡ n
  pub below : All (λ place. place < n) groups.extents
  pub next : last.extents ≡ last.ids + 1
  pub numbers : All (λ id. id < length groups.extents) groups.ids

abbrev pub AreGroups : StoredLists → Steps → ℕ → Option Grouped → Option Grouping → Type 0
AreGroups stored steps n None None = ⊤
AreGroups stored steps n (Some last) (Some groups) = HoldsGroups stored steps n last groups
AreGroups stored steps n last groups = ⊥

HoldsGroups-later : (count : ℕ) (stored : StoredLists) (a b : Steps) (n : ℕ) (last : Grouped) (groups : Grouping) → GoesOn count stored a b → HoldsGroups stored a n last groups → HoldsGroups stored b n last groups
HoldsGroups-later count stored a b n last groups on is = record {
  ids = Holds-later count stored a b last.ids groups.ids on is.ids;
  extents = Holds-later count stored a b last.extents groups.extents on is.extents;
  count = is.count;
  below = is.below;
  next = is.next;
  numbers = is.numbers;
}

pub AreGroups-later : (count : ℕ) (stored : StoredLists) (a b : Steps) (n : ℕ) (last : Option Grouped) (groups : Option Grouping) → GoesOn count stored a b → AreGroups stored a n last groups → AreGroups stored b n last groups
AreGroups-later count stored a b n None None on is = _
AreGroups-later count stored a b n None (Some groups) on is = is
AreGroups-later count stored a b n (Some last) None on is = is
AreGroups-later count stored a b n (Some last) (Some groups) on is = HoldsGroups-later count stored a b n last groups on is

length-group_numbers : (like : ℕ → ℕ → Bool) (n : ℕ) → length (group_numbers like n) ≡ n
length-group_numbers like n = length-map (places n) _ ∙ length-places n

pub first_places-few : (like : ℕ → ℕ → Bool) (n : ℕ) → length (first_places like n) ≤ n
first_places-few like n =
    let less : length (first_places like n) ≤ length (places n) = length-filter-le (λ place. not (list_any (λ earlier. like earlier place) (places place))) (places n) in
    let long : length (places n) ≡ n = length-places n in
    omega arith

first_places-below : (like : ℕ → ℕ → Bool) (n : ℕ) → All (λ place. place < n) (first_places like n)
first_places-below like n = places_where-below (λ place. not (list_any (λ earlier. like earlier place) (places place))) n

-- one Group or Refine more
add_grouping-holds : (count : ℕ) (stored : StoredLists) → HasLengths stored → (steps : Steps) (last : Option Grouped) (groups : Option Grouping) (input : Input) (values : List ℕ)
    → IsRun count stored steps → AreGroups stored steps (length values) last groups → Reads stored steps input values → length values ≡ count
    → GoesOn count stored steps (with_two steps (grouping last input))
    × HoldsGroups stored (with_two steps (grouping last input)) (length values) (record { ids = steps.columns + 1; extents = steps.columns + 2 }) (grouped_by groups values)
add_grouping-holds count stored given steps None None input values run is reads many =
    let n = length values in
    let input_is = Reads-is stored steps input values reads in
    let made = with_two-holds count stored steps (group input) (group_numbers (one_value values) n) (first_places (one_value values) n) run
    (ap (λ vs. both_lists (by_groups.group vs)) input_is) (made_input stored steps input values reads, refl, refl) (ap length input_is ∙ many)
    (λ fits short.
    let long : n ≤ max_rows = subst IsShortList input_is (input-short stored given (columns_so_far stored steps) input short) in
    let few : length (first_places (one_value values) n) ≤ n = first_places-few (one_value values) n in
    (subst (λ m. m ≤ max_rows) (sym (length-group_numbers (one_value values) n)) long, omega arith)) in
    (made.0, record { ids = made.1; extents = made.2; count = length-group_numbers (one_value values) n; below = first_places-below (one_value values) n; next = omega arith; numbers = group-ids_below values })
add_grouping-holds count stored given steps None (Some groups) input values run is reads many = absurd is
add_grouping-holds count stored given steps (Some last) None input values run is reads many = absurd is
add_grouping-holds count stored given steps (Some last) (Some groups) input values run is reads many =
    let n = length values in
    let before = groups.ids in
    let input_is = Reads-is stored steps input values reads in
    let made = with_two-holds count stored steps (refine last.ids input) (group_numbers (one_pair before values) n) (first_places (one_pair before values) n) run
    (ap₂ (λ ids vs. both_lists (by_groups.refine ids vs)) is.ids.is input_is)
    (made_number stored steps last.ids before is.ids, made_input stored steps input values reads, refl, refl)
    (ap length input_is ∙ many, ap length is.ids.is ∙ is.count ∙ many)
    (λ fits short.
    let long : n ≤ max_rows = subst IsShortList input_is (input-short stored given (columns_so_far stored steps) input short) in
    let few : length (first_places (one_pair before values) n) ≤ n = first_places-few (one_pair before values) n in
    (subst (λ m. m ≤ max_rows) (sym (length-group_numbers (one_pair before values) n)) long, omega arith)) in
    (made.0, record { ids = made.1; extents = made.2; count = length-group_numbers (one_pair before values) n; below = first_places-below (one_pair before values) n; next = omega arith; numbers = refine-ids_below before values is.count })

abbrev pub IsReadColumn : Binding → Schema → ColumnId → Type 0
IsReadColumn binding schema id = IsReadTable binding schema id.table

-- Step 5: after all GROUP BY columns.
pub add_groups-are : (binding : Binding) (schema : Schema) (count : ℕ) (stored : StoredLists) → HasLengths stored → length (matched binding stored) ≡ count → (rows : Rows) (groups : Groups) (ids : List ColumnId) (before : Option Grouping) (lists : List (List ℕ))
    → IsRun count stored groups.steps → GoesOn count stored rows.steps groups.steps → AreJoined binding schema stored rows → All (IsReadColumn binding schema) ids
    → AreGroups stored groups.steps (length (matched binding stored)) groups.last before → ReadEach stored groups.steps groups.values lists
    → GoesOn count stored groups.steps (add_groups binding rows groups ids).steps
    × AreGroups stored (add_groups binding rows groups ids).steps (length (matched binding stored)) (add_groups binding rows groups ids).last (grouped_by_all before (map (values_of binding stored) ids))
    × ReadEach stored (add_groups binding rows groups ids).steps (add_groups binding rows groups ids).values (lists ++ map (values_of binding stored) ids)
add_groups-are binding schema count stored given whole rows groups [] before lists run on are readable is reads =
    (GoesOn-refl count stored groups.steps run, is, subst (ReadEach stored groups.steps groups.values) (sym (append-nil lists)) reads)
add_groups-are binding schema count stored given whole rows groups (id ∷ ids) before lists run on are readable is reads =
    let values = values_of binding stored id in
    let n = length (matched binding stored) in
    let read = add_column groups.steps binding rows id in
    let next = add_group binding rows groups id in
    let all = add_groups binding rows next ids in
    let many : length values ≡ n = length-map (matched binding stored) (value_in binding stored id) in
    let first = add_column-reads binding schema count stored given groups.steps rows id run on are (All-head (IsReadColumn binding schema) id ids readable) in
    let second = add_grouping-holds count stored given read.steps groups.last before read.input values first.0.run
    (subst (λ m. AreGroups stored read.steps m groups.last before) (sym many) (AreGroups-later count stored groups.steps read.steps n groups.last before first.0 is)) first.1 (many ∙ whole) in
    let on_next : GoesOn count stored groups.steps next.steps = GoesOn-then count stored groups.steps read.steps next.steps first.0 second.0 in
    let rest = add_groups-are binding schema count stored given whole rows next ids (Some (grouped_by before values)) (lists ++ values ∷ []) second.0.run
    (GoesOn-then count stored rows.steps groups.steps next.steps on on_next) are (All-tail (IsReadColumn binding schema) id ids readable)
    (subst (λ m. HoldsGroups stored next.steps m (record { ids = read.steps.columns + 1; extents = read.steps.columns + 2 }) (grouped_by before values)) many second.1)
    (ReadEach-push stored next.steps groups.values lists read.input values (ReadEach-later count stored groups.steps next.steps groups.values lists on_next reads)
    (Reads-later count stored read.steps next.steps read.input values second.0 first.1)) in (
      GoesOn-then count stored groups.steps next.steps all.steps on_next rest.0,
      rest.1,
      subst (ReadEach stored all.steps all.values) (append_assoc lists (values ∷ []) (map (values_of binding stored) ids)) rest.2,
    )
