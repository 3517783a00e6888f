-- The plan's columns mean the query.
use Rattle.std.proofs.Common.{◌≡◌, ℕ, ◌+◌, Bool, true, false, List, [], ◌∷◌, ◌++◌, map, length, get_or, refl, ap, subst, All, inl, inr}
use Rattle.std.specs.Prelude.{Option, Some, None, ◌||◌, ◌==◌, option_map}
use Rattle.std.specs.List.{list_any}
use Rattle.std.proofs.lemmas.Bool.Decides.{Decides-eqb}
use Rattle.std.proofs.lemmas.List.{length-map}
use Rattle.std.proofs.lemmas.List.Folds.{list_any_at}
use Rattle.std.proofs.lemmas.List.Elements.{All-map}
use Rattle.definitions_operators.specs.Operators as lists
use Rattle.query_bind.specs.declared.bounds.SumOf.TheVariants as operand
use Rattle.definitions_operators.specs.Operators.{places}
use Rattle.definitions_operators.specs.Groups.{Grouping}
use Rattle.catalog_core.specs.declared.columns.ColumnId.{ColumnId}
use Rattle.catalog_core.specs.declared.schemas.Schema.{Schema}
use Rattle.query_bind.specs.Binding.{Binding}
use Rattle.query_bind.specs.LawfulBindings.{operands}
use Rattle.query_bind.specs.declared.bounds.SumOf.{SumOf}
use Rattle.plan_core.specs.declared.plans.Input.{Input}
use Rattle.plan_core.specs.Plans.{Plan, Steps, project, sum, sum_product}
use Rattle.plan_core.specs.Planner.{Rows, add_column, is_wanted, plan_rows, repeats, with_one}
use Rattle.plan_core.specs.WholePlan.{Grouped, Groups, Keys, Sums, add_group, add_groups, add_keys, add_sum, add_sums, grouping, keys_at, plan_of}
use Rattle.plan_meaning.specs.StoredLists.{StoredLists}
use Rattle.plan_meaning.specs.JoinedRows.{value_in}
use Rattle.plan_meaning.specs.Columns.{is_too_large, too_many_of}
use Rattle.plan_meaning.proofs.Matched.{IsLawful, IsOfTables, StandsWhole, matched}
use Rattle.definitions_operators.proofs.MapLaws.{map-map}
use Rattle.plan_meaning.proofs.RunLaws.{GoesOn, GoesOn-refl, IsRun, columns_so_far}
use Rattle.plan_meaning.proofs.FitLaws.{Fits, Fits-none, Fits-one, Fits-two, Fits-values}
use Rattle.plan_meaning.proofs.RowsLaws.{plan_rows-found, plan_rows-joined}
use Rattle.plan_meaning.proofs.GroupStepLaws.{AreGroups, AreGroups-later, IsReadColumn, ReadEach, ReadEach-later, add_groups-are, grouped_by_all, values_of}
use Rattle.plan_meaning.proofs.SumStepLaws.{HoldEach, HoldSums, HoldSums-later, HoldsIds-groups, add_keys-hold, add_sums-hold, item_sums}
use Rattle.plan_meaning.proofs.Matched.{HasApart}
use Rattle.plan_meaning.specs.Columns.{too_many_of}
use Rattle.plan_core.specs.Planner.{repeats}
use Rattle.plan_meaning.proofs.Matched.{AreJoined}

or_first : (a b c : Bool) → a ≡ true → ((a || b) || c) ≡ true
or_first a b c is = ap (λ x. (x || b) || c) is

or_second : (a b c : Bool) → b ≡ true → ((a || b) || c) ≡ true
or_second true b c is = refl
or_second false b c is = ap (λ x. x || c) is

readable : (binding : Binding) (schema : Schema) (id : ColumnId) → IsOfTables binding id → (is_wanted binding id.table || repeats schema id.table) ≡ true → IsReadColumn binding schema id
readable binding schema id (inl fact) wanted = inl fact
readable binding schema id (inr other) wanted = inr (other.0, other.1, wanted)

same_number : (n : ℕ) → (n == n) ≡ true
same_number n = (Decides-eqb n n).1 refl

groups-readable : (binding : Binding) (schema : Schema) → IsLawful binding → All (IsReadColumn binding schema) binding.groups
groups-readable binding schema lawful =
    λ k d within.
    let id = get_or binding.groups k d in
    readable binding schema id (lawful.groups k d within)
    (or_first (list_any (λ column. column.table == id.table) binding.groups) _ (repeats schema id.table)
    (list_any_at (λ column. column.table == id.table) binding.groups k d within (same_number id.table)))

sums-readable : (binding : Binding) (schema : Schema) → IsLawful binding → All (λ one. All (IsReadColumn binding schema) (operands one)) binding.sums
sums-readable binding schema lawful =
    λ k d within j e inside.
    let one = get_or binding.sums k d in
    let id = get_or (operands one) j e in
    let reads : SumOf → Bool = λ sum. list_any (λ column. column.table == id.table) (operands sum) in
    readable binding schema id (lawful.sums k d within j e inside)
    (or_second (list_any (λ column. column.table == id.table) binding.groups) (list_any reads binding.sums) (repeats schema id.table)
    (list_any_at reads binding.sums k d within (list_any_at (λ column. column.table == id.table) (operands one) j e inside (same_number id.table))))

-- the groups of a query, none without GROUP BY, and the values of its key columns
abbrev pub all_groups : Binding → StoredLists → Option Grouping
all_groups binding stored = grouped_by_all None (map (values_of binding stored) binding.groups)

abbrev pub key_values : Binding → StoredLists → List ColumnId → Option Grouping → List (List ℕ)
key_values binding stored ids None = []
key_values binding stored ids (Some groups) = map (λ id. lists.values_at (values_of binding stored id) groups.extents) ids

abbrev pub steps_of : Plan → Steps
steps_of plan = record { operators = plan.operators; columns = plan.columns }

-- What the columns of a plan hold.
pub record HoldsQuery (binding : Binding) (stored : StoredLists) (plan : Plan) : Type 0 where
  pub run : IsRun (length (matched binding stored)) stored (steps_of plan)
  pub keys : HoldEach stored (steps_of plan) plan.keys (key_values binding stored binding.groups (all_groups binding stored))
  pub sums : HoldSums stored (steps_of plan) plan.sums (map (item_sums binding stored (all_groups binding stored)) binding.sums)

keys_at-hold : (binding : Binding) (count : ℕ) (stored : StoredLists) (steps : Steps) (last : Option Grouped) (groups : Option Grouping) (inputs : List Input)
    → IsRun count stored steps → AreGroups stored steps (length (matched binding stored)) last groups → ReadEach stored steps inputs (map (values_of binding stored) binding.groups)
    → GoesOn count stored steps (keys_at last steps inputs).steps × HoldEach stored (keys_at last steps inputs).steps (keys_at last steps inputs).keys (key_values binding stored binding.groups groups)
keys_at-hold binding count stored steps None None inputs run is read = (GoesOn-refl count stored steps run, _)
keys_at-hold binding count stored steps None (Some groups) inputs run is read = absurd is
keys_at-hold binding count stored steps (Some last) None inputs run is read = absurd is
keys_at-hold binding count stored steps (Some last) (Some groups) inputs run is read =
    let n = length (matched binding stored) in
    let all = keys_at (Some last) steps inputs in
    let made = add_keys-hold count stored n last.extents groups.extents (record { steps = steps; keys = [] }) inputs (map (values_of binding stored) binding.groups) [] run is.extents is.below read
    (All-map (λ list. length list ≡ n) (values_of binding stored) binding.groups (λ k d within. length-map (matched binding stored) (value_in binding stored (get_or binding.groups k d)))) _ in
    (made.0, subst (HoldEach stored all.steps all.keys) (map-map (λ list. lists.values_at list groups.extents) (values_of binding stored) binding.groups) made.1)

Fits-groups : (stored : StoredLists) (binding : Binding) (rows : Rows) (groups : Groups) (ids : List ColumnId) → Fits stored groups.steps → Fits stored (add_groups binding rows groups ids).steps
Fits-groups stored binding rows groups [] fits = fits
Fits-groups stored binding rows groups (id ∷ ids) fits =
    let read = add_column groups.steps binding rows id in
    Fits-groups stored binding rows (add_group binding rows groups id) ids
    (Fits-two stored read.steps (grouping groups.last read.input)
    (elim groups.last as (λ last. is_too_large stored (columns_so_far stored read.steps) (grouping last read.input (read.steps.columns + 1) (read.steps.columns + 2)) ≡ false) [ None ↦ refl | Some last ↦ refl ])
    (Fits-values stored groups.steps id _ fits))

Fits-sum : (stored : StoredLists) (steps : Steps) (binding : Binding) (rows : Rows) (ids : Option ℕ) (number : ℕ) (one : SumOf) → Fits stored steps → Fits stored (add_sum steps binding rows ids number one).steps
Fits-sum stored steps binding rows ids number (operand.Plain id) fits =
    let read = add_column steps binding rows id in
    Fits-one stored read.steps (λ out. sum read.input ids out number 1) refl (Fits-values stored steps id _ fits)
Fits-sum stored steps binding rows ids number (operand.Product left right) fits =
    let first = add_column steps binding rows left in
    let second = add_column first.steps binding rows right in
    Fits-one stored second.steps (λ out. sum_product first.input second.input ids out number) refl (Fits-values stored first.steps right _ (Fits-values stored steps left _ fits))
Fits-sum stored steps binding rows ids number (operand.Difference left right) fits =
    let first = add_column steps binding rows left in
    let second = add_column first.steps binding rows right in
    let one = with_one second.steps (λ out. sum first.input ids out number 1) in
    Fits-one stored one (λ out. sum second.input ids out number 2) refl
    (Fits-one stored second.steps (λ out. sum first.input ids out number 1) refl (Fits-values stored first.steps right _ (Fits-values stored steps left _ fits)))

Fits-sums : (stored : StoredLists) (binding : Binding) (rows : Rows) (ids : Option ℕ) (number : ℕ) (sums : Sums) (todo : List SumOf) → Fits stored sums.steps → Fits stored (add_sums binding rows ids number sums todo).steps
Fits-sums stored binding rows ids number sums [] fits = fits
Fits-sums stored binding rows ids number sums (one ∷ todo) fits =
    let summed = add_sum sums.steps binding rows ids number one in
    Fits-sums stored binding rows ids (number + 1) (record { steps = summed.steps; places = sums.places ++ summed.place ∷ [] }) todo (Fits-sum stored sums.steps binding rows ids number one fits)

Fits-keys : (stored : StoredLists) (extents : ℕ) (keys : Keys) (inputs : List Input) → Fits stored keys.steps → Fits stored (add_keys extents keys inputs).steps
Fits-keys stored extents keys [] fits = fits
Fits-keys stored extents keys (input ∷ inputs) fits =
    Fits-keys stored extents (record { steps = with_one keys.steps (project input extents); keys = keys.keys ++ (keys.steps.columns + 1) ∷ [] }) inputs (Fits-one stored keys.steps (project input extents) refl fits)

Fits-keys_at : (stored : StoredLists) (last : Option Grouped) (steps : Steps) (inputs : List Input) → Fits stored steps → Fits stored (keys_at last steps inputs).steps
Fits-keys_at stored None steps inputs fits = fits
Fits-keys_at stored (Some last) steps inputs fits = Fits-keys stored last.extents (record { steps = steps; keys = [] }) inputs fits

-- The law of the plan.
pub plan_of-holds : (binding : Binding) (schema : Schema) → IsLawful binding → (stored : StoredLists) → StandsWhole binding schema stored → HoldsQuery binding stored (plan_of binding schema)
plan_of-holds binding schema lawful stored stands =
    let given = stands.tables in
    let n = length (matched binding stored) in
    let count = n in
    let rows = plan_rows binding schema in
    let start : Groups = record { steps = rows.steps; last = None; values = [] } in
    let groups = add_groups binding rows start binding.groups in
    let ids = option_map (λ (last : Grouped). last.ids) groups.last in
    let no_sums : Sums = record { steps = groups.steps; places = [] } in
    let sums = add_sums binding rows ids 1 no_sums binding.sums in
    let keys = keys_at groups.last sums.steps groups.values in
    let found = plan_rows-found binding schema count stored lawful stands in
    let are = plan_rows-joined binding schema stored lawful stands in
    let values = map (values_of binding stored) binding.groups in
    let all = all_groups binding stored in
    let grouped = add_groups-are binding schema count stored given refl rows start binding.groups None [] found.0 (GoesOn-refl count stored rows.steps found.0) are (groups-readable binding schema lawful) _ _ in
    let summed = add_sums-hold binding schema count stored given refl rows ids all 1 no_sums binding.sums [] grouped.0.run grouped.0 are (sums-readable binding schema lawful)
    (HoldsIds-groups stored groups.steps n groups.last all grouped.1) _ in
    let keyed = keys_at-hold binding count stored sums.steps groups.last all groups.values summed.0.run
    (AreGroups-later count stored groups.steps sums.steps n groups.last all summed.0 grouped.1)
    (ReadEach-later count stored groups.steps sums.steps groups.values values summed.0 grouped.2) in
    record {
      run = keyed.0.run;
      keys = keyed.1;
      sums = HoldSums-later count stored sums.steps keys.steps sums.places (map (item_sums binding stored all) binding.sums) keyed.0 summed.1;
    }

-- the plan up to the last Group or Refine
pub record HoldsGroupsOf (binding : Binding) (schema : Schema) (stored : StoredLists) (rows : Rows) (groups : Groups) : Type 0 where
  pub on : GoesOn (length (matched binding stored)) stored rows.steps groups.steps
  pub are : AreJoined binding schema stored rows
  pub last : AreGroups stored groups.steps (length (matched binding stored)) groups.last (all_groups binding stored)
  pub values : ReadEach stored groups.steps groups.values (map (values_of binding stored) binding.groups)

pub groups-hold : (binding : Binding) (schema : Schema) → IsLawful binding → (stored : StoredLists) → StandsWhole binding schema stored
    → HoldsGroupsOf binding schema stored (plan_rows binding schema)
    (add_groups binding (plan_rows binding schema) (record { steps = (plan_rows binding schema).steps; last = None; values = [] }) binding.groups)
groups-hold binding schema lawful stored stands =
    let given = stands.tables in
    let count = length (matched binding stored) in
    let rows = plan_rows binding schema in
    let start : Groups = record { steps = rows.steps; last = None; values = [] } in
    let found = plan_rows-found binding schema count stored lawful stands in
    let are = plan_rows-joined binding schema stored lawful stands in
    let grouped = add_groups-are binding schema count stored given refl rows start binding.groups None [] found.0 (GoesOn-refl count stored rows.steps found.0) are (groups-readable binding schema lawful) _ _ in
    record { on = grouped.0; are = are; last = grouped.1; values = grouped.2 }

-- where keys are distinct, no Join is too large
pub whole-fits : (binding : Binding) (schema : Schema) → IsLawful binding → (stored : StoredLists) → StandsWhole binding schema stored
    → All (λ to. HasApart stored to.key) binding.joins → (let plan = plan_of binding schema in Fits stored (steps_of plan))
whole-fits binding schema lawful stored stands distinct =
    let rows = plan_rows binding schema in
    let start : Groups = record { steps = rows.steps; last = None; values = [] } in
    let groups = add_groups binding rows start binding.groups in
    let ids = option_map (λ (last : Grouped). last.ids) groups.last in
    let no_sums : Sums = record { steps = groups.steps; places = [] } in
    let sums = add_sums binding rows ids 1 no_sums binding.sums in
    Fits-keys_at stored groups.last sums.steps groups.values
    (Fits-sums stored binding rows ids 1 no_sums binding.sums
    (Fits-groups stored binding rows start binding.groups ((plan_rows-found binding schema (length (matched binding stored)) stored lawful stands).3 distinct)))

pub plan_of-fits : (binding : Binding) (schema : Schema) → IsLawful binding → All (λ to. repeats schema to.key.table ≡ false) binding.joins
    → (stored : StoredLists) → StandsWhole binding schema stored → too_many_of stored (plan_of binding schema).operators ≡ None
plan_of-fits binding schema lawful none stored stands =
    Fits-none stored (steps_of (plan_of binding schema))
    (whole-fits binding schema lawful stored stands (λ k d within. stands.keys k d within (none k d within)))
