-- The columns that a plan's operators make, run in order over the stored data.
use Rattle.std.specs.Prelude.{ℕ, ◌+◌, ◌-◌, nat_lt, Bool, false, cond, List, [], ◌∷◌, ◌++◌, map, length, get_or, sum, Option, Some, None}
use Rattle.definitions_operators.specs.Operators as lists
use Rattle.definitions_operators.specs.Groups as grouped
use Rattle.definitions_operators.specs.Groups.{Grouping, products_of, sums_of}
use Rattle.plan_core.specs.declared.plans.Input.{Input}
use Rattle.plan_core.specs.declared.plans.Input.TheVariants as input
use Rattle.plan_core.specs.Plans as plans
use Rattle.plan_core.specs.Plans.{Operator, select, union, intersect, project, semi_join, join, group, refine, sum_product}
use Rattle.definitions_blocks.specs.Columns.{max_rows}
use Rattle.plan_meaning.specs.StoredLists.{StoredLists, is_met}

-- the column with a number, from 1 on
abbrev pub made_column : List (List ℕ) → ℕ → List ℕ
made_column columns number = get_or columns (number - 1) []

abbrev pub input_of : StoredLists → List (List ℕ) → Input → List ℕ
input_of stored columns (input.Base id) = stored.values id
input_of stored columns (input.Made number) = made_column columns number

abbrev pub both_lists : Grouping → List (List ℕ)
both_lists found = found.ids ∷ found.extents ∷ []

-- the sum of all values, or the sums by ids; there is a group for each extent, and the extents follow the ids
abbrev pub sums_by : List (List ℕ) → List ℕ → Option ℕ → List ℕ
sums_by columns values None = sum values ∷ []
sums_by columns values (Some ids) = sums_of values (made_column columns ids) (length (made_column columns (ids + 1)))

-- the outputs of an operator, over the columns made before it
abbrev pub outputs : StoredLists → List (List ℕ) → Operator → List (List ℕ)
outputs stored columns (select id test out) = lists.passing_places (is_met (stored.texts id) test) (stored.values id) ∷ []
outputs stored columns (union left right out) = lists.union (made_column columns left) (made_column columns right) ∷ []
outputs stored columns (intersect left right out) = lists.intersect (made_column columns left) (made_column columns right) ∷ []
outputs stored columns (project values places out) = lists.values_at (input_of stored columns values) (made_column columns places) ∷ []
outputs stored columns (semi_join probe keys out) = lists.semi_join (stored.values probe) (input_of stored columns keys) ∷ []
outputs stored columns (join probe keys left right) =
    let pairs = lists.join (input_of stored columns probe) (input_of stored columns keys) in
    map (λ pair. pair.0) pairs ∷ map (λ pair. pair.1) pairs ∷ []
outputs stored columns (group values ids extents) = both_lists (grouped.group (input_of stored columns values))
outputs stored columns (refine before values ids extents) = both_lists (grouped.refine (made_column columns before) (input_of stored columns values))
outputs stored columns (plans.sum values ids out number operand) = sums_by columns (input_of stored columns values) ids ∷ []
outputs stored columns (sum_product first second ids out number) =
    sums_by columns (products_of (input_of stored columns first) (input_of stored columns second)) ids ∷ []

-- the columns after running operators in order
abbrev pub columns_after : StoredLists → List (List ℕ) → List Operator → List (List ℕ)
columns_after stored columns [] = columns
columns_after stored columns (operator ∷ operators) = columns_after stored (columns ++ outputs stored columns operator) operators

-- the column with a number that operators make
abbrev pub column : StoredLists → List Operator → ℕ → List ℕ
column stored operators number = made_column (columns_after stored [] operators) number

-- whether an operator is a Join with too many pairs
abbrev pub is_too_large : StoredLists → List (List ℕ) → Operator → Bool
is_too_large stored columns (join probe keys left right) = nat_lt max_rows (length (lists.join (input_of stored columns probe) (input_of stored columns keys)))
is_too_large stored columns _ = false

-- the number, from `number` on, of the first Join with too many pairs
abbrev pub too_large_from : StoredLists → List (List ℕ) → ℕ → List Operator → Option ℕ
too_large_from stored columns number [] = None
too_large_from stored columns number (operator ∷ operators) =
    cond (is_too_large stored columns operator) (Some number) (too_large_from stored (columns ++ outputs stored columns operator) (number + 1) operators)

abbrev pub too_many_of : StoredLists → List Operator → Option ℕ
too_many_of stored operators = too_large_from stored [] 1 operators
