-- What the code's types say in the definitions' words.
use Rattle.std.specs.Prelude.{ℕ, List, map, Option, option_map}
use Rattle.query_text.specs.Views.{test_view}
use Rattle.plan_core.specs.Plans as plans
use Rattle.plan_core.specs.Plans.{Steps}
use Rattle.plan_core.specs.Planner as planner
use Rattle.plan_core.specs.Planner.{Made, Listed, Read}
use Rattle.plan_core.specs.WholePlan as whole
use Rattle.plan_core.specs.declared.plans.SumPlace.{SumPlace}
use Rattle.plan_core.specs.declared.plans.Plan.{Plan}
use Rattle.plan_core.specs.declared.plans.Grouped.{Grouped}
use Rattle.plan_core.specs.declared.plans.Input.{Input}
use Rattle.plan_core.specs.declared.plans.Operator.{Operator}
use Rattle.plan_core.specs.declared.plans.Operator.TheVariants as operator
use Rattle.plan_core.specs.declared.dimensions.Dimension.{Dimension}
use Rattle.plan_core.specs.declared.dimensions.RowList.{RowList}

abbrev pub operator_view : Operator → plans.Operator
operator_view (operator.Select id test out) = plans.select id (test_view test) out
operator_view (operator.Union left right out) = plans.union left right out
operator_view (operator.Intersect left right out) = plans.intersect left right out
operator_view (operator.Project values places out) = plans.project values places out
operator_view (operator.SemiJoin probe keys out) = plans.semi_join probe keys out
operator_view (operator.Join probe keys left right) = plans.join probe keys left right
operator_view (operator.Group values ids extents) = plans.group values ids extents
operator_view (operator.Refine before values ids extents) = plans.refine before values ids extents
operator_view (operator.Sum values ids out sum operand) = plans.sum values ids out sum operand
operator_view (operator.SumProduct first second ids out sum) = plans.sum_product first second ids out sum

-- a plan so far from its parts
abbrev pub steps_view : List Operator → ℕ → Steps
steps_view operators columns = record { operators = map operator_view operators; columns = columns }

-- a plan so far, with a column, a position list or an input of it
abbrev pub made_of : Steps → ℕ → Made
made_of steps number = record { steps = steps; number = number }

abbrev pub listed_of : Steps → Option ℕ → Listed
listed_of steps list = record { steps = steps; list = list }

abbrev pub read_of : Steps → Input → Read
read_of steps input = record { steps = steps; input = input }

abbrev pub dimension_view : Dimension → planner.Dimension
dimension_view dimension = record { to = dimension.to; list = dimension.list; keys = dimension.keys }

abbrev pub dimensions_of : Steps → List Dimension → planner.Dimensions
dimensions_of steps dimensions = record { steps = steps; dimensions = map dimension_view dimensions }

abbrev pub row_list_view : RowList → planner.RowList
row_list_view rows = record { table = rows.table; number = rows.number }

abbrev pub rows_of : Steps → Option ℕ → List RowList → planner.Rows
rows_of steps facts lists = record { steps = steps; facts = facts; lists = map row_list_view lists }

abbrev pub grouped_view : Grouped → whole.Grouped
grouped_view last = record { ids = last.ids; extents = last.extents }

abbrev pub groups_of : Steps → Option Grouped → List Input → whole.Groups
groups_of steps last values = record { steps = steps; last = option_map grouped_view last; values = values }

abbrev pub summed_of : Steps → SumPlace → whole.Summed
summed_of steps place = record { steps = steps; place = place }

abbrev pub sums_of : Steps → List SumPlace → whole.Sums
sums_of steps places = record { steps = steps; places = places }

abbrev pub keys_of : Steps → List ℕ → whole.Keys
keys_of steps keys = record { steps = steps; keys = keys }

abbrev pub plan_view : Plan → plans.Plan
plan_view plan = record { operators = map operator_view plan.operators; columns = plan.columns; keys = plan.keys; sums = plan.sums }
