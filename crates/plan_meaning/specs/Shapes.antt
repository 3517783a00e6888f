-- What can be seen of a plan alone.
use Rattle.std.specs.Prelude.{ℕ, ◌+◌, ◌-◌, ◌≡◌, ◌==◌, ◌++◌, Bool, true, false, List, [], ◌∷◌, drop, length, map, Option, Some, None, IsTrue, ⊤}
use Rattle.std.specs.List.{All, AllByRecursion, list_any}
use Rattle.definitions_queries.specs.Queries.{Test}
use Rattle.catalog_core.specs.declared.columns.ColumnId.{ColumnId}
use Rattle.catalog_core.specs.declared.schemas.Schema.{Schema}
use Rattle.query_bind.specs.Binding.{Binding, kind_of, literals_of, fits}
use Rattle.query_bind.specs.LawfulBindings.{IsBinding}
use Rattle.query_bind.specs.Needed.{named_columns, is_column}
use Rattle.plan_core.specs.declared.plans.Input.{Input}
use Rattle.plan_core.specs.declared.plans.Input.TheVariants as input
use Rattle.plan_core.specs.declared.plans.SumPlace.{SumPlace}
use Rattle.plan_core.specs.Ranges.{is_range}
use Rattle.plan_core.specs.Plans.{Operator, select, union, intersect, project, semi_join, join, group, refine, sum, sum_product, Plan}
use Rattle.plan_core.specs.WholePlan.{plan_of}
use Rattle.plan_meaning.specs.Operands.{IsMade, IsNumbered}

-- # Base columns

-- the columns that a binding names
abbrev pub is_needed : Binding → ColumnId → Bool
is_needed binding id = list_any (is_column id) (named_columns binding)

abbrev pub IsNeeded : Binding → ColumnId → Type 0
IsNeeded binding id = is_needed binding id ≡ true

-- an input that is no base column, or one that the binding names; and an operator with such inputs
abbrev pub NeedsInput : Binding → Input → Type 0
NeedsInput binding (input.Base id) = IsNeeded binding id
NeedsInput binding (input.Made number) = ⊤

abbrev pub ReadsNeeded : Binding → Operator → Type 0
ReadsNeeded binding (select id test out) = IsNeeded binding id
ReadsNeeded binding (union left right out) = ⊤
ReadsNeeded binding (intersect left right out) = ⊤
ReadsNeeded binding (project values places out) = NeedsInput binding values
ReadsNeeded binding (semi_join probe keys out) = IsNeeded binding probe × NeedsInput binding keys
ReadsNeeded binding (join probe keys left right) = NeedsInput binding probe × NeedsInput binding keys
ReadsNeeded binding (group values ids extents) = NeedsInput binding values
ReadsNeeded binding (refine before values ids extents) = NeedsInput binding values
ReadsNeeded binding (sum values ids out number operand) = NeedsInput binding values
ReadsNeeded binding (sum_product first second ids out number) = NeedsInput binding first × NeedsInput binding second

-- # Tests

-- a test that a range can say, with literals of the column's kind
pub record IsRangeTest (schema : Schema) (id : ColumnId) (test : Test) : Type 0 where
  pub range : is_range test ≡ true
  pub fit : AllByRecursion (λ literal. IsTrue (fits (kind_of schema id) literal)) (literals_of test)

abbrev pub SelectsRange : Schema → Operator → Type 0
SelectsRange schema (select id test out) = IsRangeTest schema id test
SelectsRange schema _ = ⊤

-- # Numbers

-- how many columns an operator makes
abbrev pub output_count : Operator → ℕ
output_count (join probe keys left right) = 2
output_count (group values ids extents) = 2
output_count (refine before values ids extents) = 2
output_count _ = 1

-- each operator reads columns that were made before it, and its outputs have the next numbers, up to the last one
abbrev pub AreNumbered : ℕ → List Operator → ℕ → Type 0
AreNumbered count [] last = count ≡ last
AreNumbered count (operator ∷ operators) last = IsNumbered count operator × AreNumbered (count + output_count operator) operators last

abbrev pub input_numbers : Input → List ℕ
input_numbers (input.Base id) = []
input_numbers (input.Made number) = number ∷ []

-- ids, and the extents that follow them
abbrev pub id_numbers : Option ℕ → List ℕ
id_numbers None = []
id_numbers (Some ids) = ids ∷ (ids + 1) ∷ []

-- the columns that an operator reads
abbrev pub numbers_read : Operator → List ℕ
numbers_read (select id test out) = []
numbers_read (union left right out) = left ∷ right ∷ []
numbers_read (intersect left right out) = left ∷ right ∷ []
numbers_read (project values places out) = places ∷ input_numbers values
numbers_read (semi_join probe keys out) = input_numbers keys
numbers_read (join probe keys left right) = input_numbers probe ++ input_numbers keys
numbers_read (group values ids extents) = input_numbers values
numbers_read (refine before values ids extents) = before ∷ input_numbers values
numbers_read (sum values ids out number operand) = input_numbers values ++ id_numbers ids
numbers_read (sum_product first second ids out number) = input_numbers first ++ input_numbers second ++ id_numbers ids

-- # Sums

-- which sum of SELECT an operator makes, which operand of it, and the column
pub record SumLabel : Type 0 where
  pub number : ℕ
  pub operand : ℕ
  pub out : ℕ

abbrev pub label_of : Operator → List SumLabel
label_of (sum values ids out number operand) = record { number = number; operand = operand; out = out } ∷ []
label_of (sum_product first second ids out number) = record { number = number; operand = 1; out = out } ∷ []
label_of _ = []

-- those of a plan's sums, in the order of its operators
abbrev pub labels_of : List Operator → List SumLabel
labels_of [] = []
labels_of (operator ∷ operators) = label_of operator ++ labels_of operators

abbrev pub second_label : ℕ → Option ℕ → List SumLabel
second_label number None = []
second_label number (Some out) = record { number = number; operand = 2; out = out } ∷ []

-- those of sums that are numbered on, each with one operand or both
abbrev pub labels_from : ℕ → List SumPlace → List SumLabel
labels_from number [] = []
labels_from number (place ∷ places) =
    (record { number = number; operand = 1; out = place.first } ∷ second_label number place.second) ++ labels_from (number + 1) places

-- no operator reads a sum that was made before it
abbrev pub is_sum_column : List SumLabel → ℕ → Bool
is_sum_column sums number = list_any (λ label. label.out == number) sums

abbrev pub ReadNoSums : List SumLabel → List Operator → Type 0
ReadNoSums sums [] = ⊤
ReadNoSums sums (operator ∷ operators) =
    All (λ number. is_sum_column sums number ≡ false) (numbers_read operator) × ReadNoSums (sums ++ label_of operator) operators

-- # Order

-- an operator that reads a value for each of the joined rows
abbrev pub reads_joined_rows : Operator → Bool
reads_joined_rows (group values ids extents) = true
reads_joined_rows (refine before values ids extents) = true
reads_joined_rows (sum values ids out number operand) = true
reads_joined_rows (sum_product first second ids out number) = true
reads_joined_rows _ = false

-- whether an operator is a sum, or a Join
abbrev pub is_sum : Operator → Bool
is_sum (sum values ids out number operand) = true
is_sum (sum_product first second ids out number) = true
is_sum _ = false

abbrev pub is_join : Operator → Bool
is_join (join probe keys left right) = true
is_join _ = false

-- no Join comes after a sum
abbrev pub JoinsFirst : List Operator → Type 0
JoinsFirst [] = ⊤
JoinsFirst (operator ∷ operators) = (is_sum operator ≡ true → list_any is_join operators ≡ false) × JoinsFirst operators

-- the column that a Project makes
abbrev pub projected : Operator → Option ℕ
projected (project values places out) = Some out
projected _ = None

-- # The law

-- The shape of a bound query's plan.
pub record IsOrderly (schema : Schema) (binding : Binding) (plan : Plan) : Type 0 where
  -- its base columns are columns that the binding names, and a Select has a test that is one range
  pub reads : All (ReadsNeeded binding) plan.operators
  pub selects : All (SelectsRange schema) plan.operators
  -- columns are numbered as they are made, and are made before they are read
  pub numbered : AreNumbered 0 plan.operators plan.columns
  -- there is a key for each column of GROUP BY, and the last operators are the Projects that make them
  pub keys : length plan.keys ≡ length binding.groups
  pub keys_made : All (IsMade plan.columns) plan.keys
  pub keys_last : map projected (drop (length plan.operators - length plan.keys) plan.operators) ≡ map (λ key. Some key) plan.keys
  -- the sums stand in the order of SELECT, and no operator reads one
  pub sums : labels_of plan.operators ≡ labels_from 1 plan.sums
  pub sums_made : All (λ label. IsMade plan.columns label.out) (labels_of plan.operators)
  pub unread : ReadNoSums [] plan.operators
  -- something is grouped or summed, and no Join comes after a sum
  pub counted : list_any reads_joined_rows plan.operators ≡ true
  pub joins : JoinsFirst plan.operators

abbrev pub PlanIsOrderly : Schema → Binding → Type 0
PlanIsOrderly schema binding = IsBinding schema binding → IsOrderly schema binding (plan_of binding schema)
