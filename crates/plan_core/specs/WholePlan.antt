-- Steps 5 to 7: groups, sums and keys, and the whole plan.
use Rattle.std.specs.Prelude.{ℕ, ◌+◌, List, [], ◌∷◌, ◌++◌, Option, Some, None, option_map}
use Rattle.catalog_core.specs.declared.columns.ColumnId.{ColumnId}
use Rattle.catalog_core.specs.declared.schemas.Schema.{Schema}
use Rattle.query_bind.specs.Binding.{Binding}
use Rattle.query_bind.specs.declared.bounds.SumOf.{SumOf}
use Rattle.query_bind.specs.declared.bounds.SumOf.TheVariants as operand
use Rattle.plan_core.specs.declared.plans.Input.{Input}
use Rattle.plan_core.specs.declared.plans.SumPlace.{SumPlace}
use Rattle.plan_core.specs.Plans.{Operator, project, group, refine, sum, sum_product, Steps, Plan}
use Rattle.plan_core.specs.Planner.{with_one, with_two, Rows, add_column, plan_rows}

-- the columns of the last Group or Refine
pub record Grouped : Type 0 where
  pub ids : ℕ
  pub extents : ℕ

-- after some GROUP BY columns: their values, and the last Group or Refine, none before the first
pub record Groups : Type 0 where
  pub steps : Steps
  pub last : Option Grouped
  pub values : List Input

abbrev pub grouping : Option Grouped → Input → ℕ → ℕ → Operator
grouping None values ids extents = group values ids extents
grouping (Some before) values ids extents = refine before.ids values ids extents

abbrev pub add_group : Binding → Rows → Groups → ColumnId → Groups
add_group binding rows groups id =
    let read = add_column groups.steps binding rows id in
    record {
      steps = with_two read.steps (grouping groups.last read.input);
      last = Some (record { ids = read.steps.columns + 1; extents = read.steps.columns + 2 });
      values = groups.values ++ read.input ∷ [];
    }

abbrev pub add_groups : Binding → Rows → Groups → List ColumnId → Groups
add_groups binding rows groups [] = groups
add_groups binding rows groups (id ∷ ids) = add_groups binding rows (add_group binding rows groups id) ids

-- a plan so far, and the place of a sum in it
pub record Summed : Type 0 where
  pub steps : Steps
  pub place : SumPlace

-- Step 6, for the sum with this number, by the ids where there are groups.
abbrev pub add_sum : Steps → Binding → Rows → Option ℕ → ℕ → SumOf → Summed
add_sum steps binding rows ids number (operand.Plain id) =
    let read = add_column steps binding rows id in
    record { steps = with_one read.steps (λ out. sum read.input ids out number 1); place = record { first = read.steps.columns + 1; second = None } }
add_sum steps binding rows ids number (operand.Product left right) =
    let first = add_column steps binding rows left in
    let second = add_column first.steps binding rows right in
    record { steps = with_one second.steps (λ out. sum_product first.input second.input ids out number); place = record { first = second.steps.columns + 1; second = None } }
add_sum steps binding rows ids number (operand.Difference left right) =
    let first = add_column steps binding rows left in
    let second = add_column first.steps binding rows right in
    let one = with_one second.steps (λ out. sum first.input ids out number 1) in
    record { steps = with_one one (λ out. sum second.input ids out number 2); place = record { first = second.steps.columns + 1; second = Some (one.columns + 1) } }

pub record Sums : Type 0 where
  pub steps : Steps
  pub places : List SumPlace

abbrev pub add_sums : Binding → Rows → Option ℕ → ℕ → Sums → List SumOf → Sums
add_sums binding rows ids number sums [] = sums
add_sums binding rows ids number sums (one ∷ rest) =
    let summed = add_sum sums.steps binding rows ids number one in
    add_sums binding rows ids (number + 1) (record { steps = summed.steps; places = sums.places ++ summed.place ∷ [] }) rest

pub record Keys : Type 0 where
  pub steps : Steps
  pub keys : List ℕ

-- Step 7: each GROUP BY column's values at the last extents.
abbrev pub add_keys : ℕ → Keys → List Input → Keys
add_keys extents keys [] = keys
add_keys extents keys (values ∷ rest) =
    add_keys extents (record { steps = with_one keys.steps (project values extents); keys = keys.keys ++ (keys.steps.columns + 1) ∷ [] }) rest

abbrev pub keys_at : Option Grouped → Steps → List Input → Keys
keys_at None steps values = record { steps = steps; keys = [] }
keys_at (Some last) steps values = add_keys last.extents (record { steps = steps; keys = [] }) values

-- The plan of a bound query. The schema says which keys may repeat.
abbrev pub plan_of : Binding → Schema → Plan
plan_of binding schema =
    let rows = plan_rows binding schema in
    let groups = add_groups binding rows (record { steps = rows.steps; last = None; values = [] }) binding.groups in
    let sums = add_sums binding rows (option_map (λ last. last.ids) groups.last) 1 (record { steps = groups.steps; places = [] }) binding.sums in
    let keys = keys_at groups.last sums.steps groups.values in
    record { operators = keys.steps.operators; columns = keys.steps.columns; keys = keys.keys; sums = sums.places }
