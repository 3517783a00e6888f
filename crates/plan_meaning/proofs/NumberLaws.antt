-- A plan's columns are numbered as they are made: read off its run over data without rows, where no Join is too large.
use Rattle.std.proofs.Common.{◌≡◌, ℕ, suc, ◌+◌, ◌≤◌, List, [], ◌∷◌, ◌++◌, map, length, get_or, refl, ap, ◌∙◌, subst, All, arith, length-append}
use Rattle.std.specs.Prelude.{Option, Some, None, ⊤}
use Rattle.std.proofs.lemmas.List.Elements.{All-nil, All-cons, All-append}
use Rattle.catalog_core.specs.declared.columns.ColumnId.{ColumnId}
use Rattle.catalog_core.specs.declared.schemas.Schema.{Schema}
use Rattle.query_bind.specs.Binding.{Binding}
use Rattle.query_bind.specs.declared.bounds.JoinTo.{JoinTo}
use Rattle.plan_core.specs.declared.plans.Input.{Input}
use Rattle.plan_core.specs.declared.plans.Input.TheVariants as input
use Rattle.plan_core.specs.declared.plans.SumPlace.{SumPlace}
use Rattle.plan_core.specs.Plans.{Operator, select, union, intersect, project, semi_join, join, group, refine, sum, sum_product, Steps, Plan}
use Rattle.plan_core.specs.Planner.{Rows, plan_rows}
use Rattle.plan_core.specs.WholePlan.{Grouped, Groups, add_groups, plan_of}
use Rattle.plan_meaning.specs.StoredLists.{StoredLists}
use Rattle.plan_meaning.specs.Operands.{IsMade, MetSoFar}
use Rattle.plan_meaning.specs.Columns.{outputs, columns_after}
use Rattle.plan_meaning.specs.Shapes.{output_count, AreNumbered, SumLabel, second_label, labels_from}
use Rattle.std.proofs.lemmas.List.{length-map}
use Rattle.definitions_operators.specs.Groups as by_groups
use Rattle.definitions_operators.specs.Groups.{Grouping}
use Rattle.plan_meaning.specs.Law.{SumLists}
use Rattle.plan_meaning.proofs.Matched.{Reads, Lists, HasApart, StandsWhole, IsLawful}
use Rattle.plan_meaning.proofs.RunLaws.{NoneTooLarge}
use Rattle.plan_meaning.proofs.GroupStepLaws.{values_of, grouped_by_all, ReadEach, AreGroups}
use Rattle.plan_meaning.proofs.SumStepLaws.{HoldEach, HoldSecond, HoldSums}
use Rattle.plan_meaning.proofs.WholePlanLaws.{all_groups, key_values, steps_of, HoldsQuery, HoldsGroupsOf, groups-hold, plan_of-holds, whole-fits}

-- # Data without rows

abbrev pub no_rows : StoredLists
no_rows = record { rows = λ table. 0; values = λ id. []; texts = λ id. None }

pub no_rows-apart : (joins : List JoinTo) → All (λ to. HasApart no_rows to.key) joins
no_rows-apart joins = λ k d within a b first second same. absurd (omega arith)

pub no_rows-stand : (schema : Schema) (binding : Binding) → StandsWhole binding schema no_rows
no_rows-stand schema binding = record {
  tables = record { lengths = λ id. refl; short = λ table. omega arith };
  keys = λ k d within once. no_rows-apart binding.joins k d within;
}

-- # Numbers

outputs-count : (stored : StoredLists) (columns : List (List ℕ)) (operator : Operator) → length (outputs stored columns operator) ≡ output_count operator
outputs-count stored columns (select id test out) = refl
outputs-count stored columns (union left right out) = refl
outputs-count stored columns (intersect left right out) = refl
outputs-count stored columns (project values places out) = refl
outputs-count stored columns (semi_join probe keys out) = refl
outputs-count stored columns (join probe keys left right) = refl
outputs-count stored columns (group values ids extents) = refl
outputs-count stored columns (refine before values ids extents) = refl
outputs-count stored columns (sum values ids out number operand) = refl
outputs-count stored columns (sum_product first second ids out number) = refl

numbered_along : (count : ℕ) (stored : StoredLists) (columns : List (List ℕ)) (operators : List Operator) → MetSoFar count stored columns operators → NoneTooLarge stored columns operators
    → AreNumbered (length columns) operators (length (columns_after stored columns operators))
numbered_along count stored columns [] met none = refl
numbered_along count stored columns (operator ∷ operators) met none =
    let next = columns ++ outputs stored columns operator in (
      met.0.numbered,
      subst (λ n. AreNumbered n operators (length (columns_after stored next operators)))
          (length-append columns (outputs stored columns operator) ∙ ap (λ n. length columns + n) (outputs-count stored columns operator))
          (numbered_along count stored next operators (met.1 none.0).1 none.1),
    )

-- # Keys and sums

each_made : (stored : StoredLists) (steps : Steps) (numbers : List ℕ) (lists : List (List ℕ)) → HoldEach stored steps numbers lists → All (IsMade steps.columns) numbers
each_made stored steps [] lists hold = All-nil (IsMade steps.columns)
each_made stored steps (number ∷ numbers) [] hold = absurd hold
each_made stored steps (number ∷ numbers) (list ∷ lists) hold =
    All-cons (IsMade steps.columns) number numbers (hold.0.from, hold.0.made) (each_made stored steps numbers lists hold.1)

each_many : (stored : StoredLists) (steps : Steps) (numbers : List ℕ) (lists : List (List ℕ)) → HoldEach stored steps numbers lists → length numbers ≡ length lists
each_many stored steps [] [] hold = refl
each_many stored steps [] (list ∷ lists) hold = absurd hold
each_many stored steps (number ∷ numbers) [] hold = absurd hold
each_many stored steps (number ∷ numbers) (list ∷ lists) hold = ap suc (each_many stored steps numbers lists hold.1)

some_keys : (binding : Binding) (stored : StoredLists) (found : Grouping) (columns : List (List ℕ)) (ids : List ColumnId)
    → length (key_values binding stored ids (grouped_by_all (Some found) columns)) ≡ length ids
some_keys binding stored found [] ids = length-map ids _
some_keys binding stored found (values ∷ columns) ids = some_keys binding stored (by_groups.refine found.ids values) columns ids

keys_many : (binding : Binding) (stored : StoredLists) (ids : List ColumnId) → length (key_values binding stored ids (grouped_by_all None (map (values_of binding stored) ids))) ≡ length ids
keys_many binding stored [] = refl
keys_many binding stored (first ∷ later) = some_keys binding stored (by_groups.group (values_of binding stored first)) (map (values_of binding stored) later) (first ∷ later)

abbrev MadeLabel : ℕ → SumLabel → Type 0
MadeLabel columns label = IsMade columns label.out

second_made : (stored : StoredLists) (steps : Steps) (number : ℕ) (second : Option ℕ) (list : Option (List ℕ)) → HoldSecond stored steps second list → All (MadeLabel steps.columns) (second_label number second)
second_made stored steps number None list hold = All-nil (MadeLabel steps.columns)
second_made stored steps number (Some out) None hold = absurd hold
second_made stored steps number (Some out) (Some list) hold =
    All-cons (MadeLabel steps.columns) (record { number = number; operand = 2; out = out }) [] (hold.from, hold.made) (All-nil (MadeLabel steps.columns))

labels_made : (stored : StoredLists) (steps : Steps) (number : ℕ) (places : List SumPlace) (lists : List SumLists) → HoldSums stored steps places lists
    → All (MadeLabel steps.columns) (labels_from number places)
labels_made stored steps number [] lists hold = All-nil (MadeLabel steps.columns)
labels_made stored steps number (place ∷ places) [] hold = absurd hold
labels_made stored steps number (place ∷ places) (list ∷ lists) hold =
    All-append (MadeLabel steps.columns) (record { number = number; operand = 1; out = place.first } ∷ second_label number place.second) (labels_from (number + 1) places)
    (All-cons (MadeLabel steps.columns) (record { number = number; operand = 1; out = place.first }) (second_label number place.second) (hold.0.0.from, hold.0.0.made)
    (second_made stored steps number place.second list.second hold.0.1))
    (labels_made stored steps (number + 1) places lists hold.1)

-- the numbers of a plan
pub record HasNumbers (binding : Binding) (plan : Plan) : Type 0 where
  pub numbered : AreNumbered 0 plan.operators plan.columns
  pub keys : length plan.keys ≡ length binding.groups
  pub keys_made : All (IsMade plan.columns) plan.keys
  pub sums_made : All (MadeLabel plan.columns) (labels_from 1 plan.sums)

pub has_numbers : (schema : Schema) (binding : Binding) → IsLawful binding → HasNumbers binding (plan_of binding schema)
has_numbers schema binding lawful =
    let plan = plan_of binding schema in
    let stands = no_rows-stand schema binding in
    let holds : HoldsQuery binding no_rows plan = plan_of-holds binding schema lawful no_rows stands in
    let none : NoneTooLarge no_rows [] plan.operators = whole-fits binding schema lawful no_rows stands (no_rows-apart binding.joins) in
    record {
      numbered = subst (AreNumbered 0 plan.operators) holds.run.numbered (numbered_along _ no_rows [] plan.operators holds.run.met none);
      keys = each_many no_rows (steps_of plan) plan.keys (key_values binding no_rows binding.groups (all_groups binding no_rows)) holds.keys ∙ keys_many binding no_rows binding.groups;
      keys_made = each_made no_rows (steps_of plan) plan.keys (key_values binding no_rows binding.groups (all_groups binding no_rows)) holds.keys;
      sums_made = labels_made no_rows (steps_of plan) 1 plan.sums _ holds.sums;
    }

-- # What the groups have made so far

abbrev pub IsLow : ℕ → Option ℕ → Type 0
IsLow columns None = ⊤
IsLow columns (Some number) = number ≤ columns

abbrev pub IsLowInput : ℕ → Input → Type 0
IsLowInput columns (input.Base id) = ⊤
IsLowInput columns (input.Made number) = number ≤ columns

abbrev pub AreLowGroups : ℕ → Option Grouped → Type 0
AreLowGroups columns None = ⊤
AreLowGroups columns (Some last) = (last.ids ≤ columns) × (last.ids + 1 ≤ columns) × (last.extents ≤ columns)

pub record AreLow (rows : Rows) (groups : Groups) : Type 0 where
  pub facts : IsLow groups.steps.columns rows.facts
  pub lists : All (λ list. list.number ≤ groups.steps.columns) rows.lists
  pub last : AreLowGroups groups.steps.columns groups.last
  pub values : All (IsLowInput groups.steps.columns) groups.values

low_list : (stored : StoredLists) (steps : Steps) (which : Option ℕ) (n columns : ℕ) (list : List ℕ) → steps.columns ≤ columns → Lists stored steps which n list → IsLow columns which
low_list stored steps None n columns list more lists = _
low_list stored steps (Some number) n columns list more lists = let h : number ≤ steps.columns = lists.made in omega arith

low_input : (stored : StoredLists) (steps : Steps) (input : Input) (list : List ℕ) → Reads stored steps input list → IsLowInput steps.columns input
low_input stored steps (input.Base id) list reads = _
low_input stored steps (input.Made number) list reads = reads.made

low_inputs : (stored : StoredLists) (steps : Steps) (inputs : List Input) (lists : List (List ℕ)) → ReadEach stored steps inputs lists → All (IsLowInput steps.columns) inputs
low_inputs stored steps [] lists reads = All-nil (IsLowInput steps.columns)
low_inputs stored steps (first ∷ inputs) [] reads = absurd reads
low_inputs stored steps (first ∷ inputs) (list ∷ lists) reads =
    All-cons (IsLowInput steps.columns) first inputs (low_input stored steps first list reads.0) (low_inputs stored steps inputs lists reads.1)

low_groups : (stored : StoredLists) (steps : Steps) (n : ℕ) (last : Option Grouped) (groups : Option Grouping) → AreGroups stored steps n last groups → AreLowGroups steps.columns last
low_groups stored steps n None groups are = _
low_groups stored steps n (Some last) None are = absurd are
low_groups stored steps n (Some last) (Some groups) are =
    (are.ids.made, (let h : last.extents ≤ steps.columns = are.extents.made in omega (arith, are.next)), are.extents.made)

pub groups-low : (schema : Schema) (binding : Binding) → IsLawful binding → (let rows = plan_rows binding schema in
    AreLow rows (add_groups binding rows (record { steps = rows.steps; last = None; values = [] }) binding.groups))
groups-low schema binding lawful =
    let rows = plan_rows binding schema in
    let groups = add_groups binding rows (record { steps = rows.steps; last = None; values = [] }) binding.groups in
    let hold : HoldsGroupsOf binding schema no_rows rows groups = groups-hold binding schema lawful no_rows (no_rows-stand schema binding) in
    let more : rows.steps.columns ≤ groups.steps.columns = hold.on.keeps.more in
    record {
      facts = low_list no_rows rows.steps rows.facts 0 groups.steps.columns _ more hold.are.facts;
      lists = λ k d within. (let h : (get_or rows.lists k d).number ≤ rows.steps.columns = (hold.are.lists k d within).made in omega arith);
      last = low_groups no_rows groups.steps _ groups.last (all_groups binding no_rows) hold.last;
      values = low_inputs no_rows groups.steps groups.values _ hold.values;
    }
