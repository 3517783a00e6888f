-- The plan of a bound query, step by step. Each step takes the plan so far and gives it with more operators.
use Rattle.std.specs.Prelude.{ℕ, ◌+◌, ◌==◌, ◌||◌, Bool, false, not, List, [], ◌∷◌, ◌++◌, drop, filter, map, Option, Some, None, if◌then◌else◌}
use Rattle.std.specs.List.{list_any}
use Rattle.std.specs.Option.{option_map_or}
use Rattle.definitions_queries.specs.Queries.{Test, equal, one_of}
use Rattle.catalog_core.specs.Columns.{table_at}
use Rattle.catalog_core.specs.declared.columns.ColumnId.{ColumnId}
use Rattle.catalog_core.specs.declared.schemas.Schema.{Schema}
use Rattle.query_bind.specs.Binding.{Binding, Tested}
use Rattle.query_bind.specs.LawfulBindings.{operands}
use Rattle.query_bind.specs.declared.bounds.JoinTo.{JoinTo}
use Rattle.plan_core.specs.declared.plans.Input.{Input}
use Rattle.plan_core.specs.declared.plans.Input.TheVariants as input
use Rattle.plan_core.specs.Plans.{Operator, select, union, intersect, project, semi_join, join, Steps}

abbrev pub no_steps : Steps
no_steps = record { operators = []; columns = 0 }

-- one operator more, with one output, whose number is the new count of columns
abbrev pub with_one : Steps → (ℕ → Operator) → Steps
with_one steps operator = record { operators = steps.operators ++ operator (steps.columns + 1) ∷ []; columns = steps.columns + 1 }

-- one operator more, with two outputs
abbrev pub with_two : Steps → (ℕ → ℕ → Operator) → Steps
with_two steps operator =
    record { operators = steps.operators ++ operator (steps.columns + 1) (steps.columns + 2) ∷ []; columns = steps.columns + 2 }

-- a plan so far, and a column of it
pub record Made : Type 0 where
  pub steps : Steps
  pub number : ℕ

-- a plan so far, and a position list of it, none where it would be all rows
pub record Listed : Type 0 where
  pub steps : Steps
  pub list : Option ℕ

abbrev pub make_one : Steps → (ℕ → Operator) → Made
make_one steps operator = record { steps = with_one steps operator; number = steps.columns + 1 }

-- the tests of one literal each that a test is a choice of
abbrev pub choices_of : Test → List Test
choices_of (one_of literals) = map (λ literal. equal literal) literals
choices_of test = test ∷ []

-- Select, once for each test
abbrev pub add_selects : Steps → ColumnId → List Test → Steps
add_selects steps column [] = steps
add_selects steps column (test ∷ tests) = add_selects (with_one steps (select column test)) column tests

-- Unions from the left, with the lists that stand from `next` on, one for each test
abbrev pub add_unions : Steps → ℕ → ℕ → List Test → Made
add_unions steps running next [] = record { steps = steps; number = running }
add_unions steps running next (test ∷ tests) =
    add_unions (with_one steps (union running next)) (steps.columns + 1) (next + 1) tests

-- the list of one condition
abbrev pub add_condition : Steps → Tested → Made
add_condition steps tested =
    let choices = choices_of tested.test in
    add_unions (add_selects steps tested.column choices) (steps.columns + 1) (steps.columns + 2) (drop 1 choices)

-- a running list combined with a new one
abbrev pub combine : Option ℕ → Made → Listed
combine None new = record { steps = new.steps; list = Some new.number }
combine (Some running) new = record { steps = with_one new.steps (intersect running new.number); list = Some (new.steps.columns + 1) }

abbrev pub add_conditions : Listed → List Tested → Listed
add_conditions listed [] = listed
add_conditions listed (condition ∷ conditions) = add_conditions (combine listed.list (add_condition listed.steps condition)) conditions

-- the conditions on a table, in the order of WHERE
abbrev pub conditions_on : ℕ → List Tested → List Tested
conditions_on table tests = filter (λ tested. tested.column.table == table) tests

-- the list of a table's conditions, none where it has none
abbrev pub add_list : Steps → Binding → ℕ → Listed
add_list steps binding table = add_conditions (record { steps = steps; list = None }) (conditions_on table binding.tests)

-- a plan so far, and an input made or found
pub record Read : Type 0 where
  pub steps : Steps
  pub input : Input

-- the values of a base column at a position list
abbrev pub add_values : Steps → ColumnId → Option ℕ → Read
add_values steps column None = record { steps = steps; input = input.Base column }
add_values steps column (Some list) = record { steps = with_one steps (project (input.Base column) list); input = input.Made (steps.columns + 1) }

-- a position list at places of it, the places themselves where it is all rows
abbrev pub add_places : Steps → Option ℕ → ℕ → Made
add_places steps None places = record { steps = steps; number = places }
add_places steps (Some list) places = make_one steps (project (input.Made list) places)

-- a dimension after step 1: its list P and its keys
pub record Dimension : Type 0 where
  pub to : JoinTo
  pub list : Option ℕ
  pub keys : Input

pub record Dimensions : Type 0 where
  pub steps : Steps
  pub dimensions : List Dimension

-- whether a column of the table stands in GROUP BY or in a sum
abbrev pub is_wanted : Binding → ℕ → Bool
is_wanted binding table =
    list_any (λ column. column.table == table) binding.groups
    || list_any (λ sum. list_any (λ column. column.table == table) (operands sum)) binding.sums

-- whether the keys of a table may repeat
abbrev pub repeats : Schema → ℕ → Bool
repeats schema table = option_map_or (λ one. one.repeats) (table_at schema table) false

-- whether a dimension is joined, and not only semi-joined: it is wanted, or its keys may repeat
abbrev pub is_joined : Binding → Schema → JoinTo → Bool
is_joined binding schema to = is_wanted binding to.key.table || repeats schema to.key.table

-- Step 1: each dimension's list, and its keys.
abbrev pub add_dimension : Steps → Binding → JoinTo → Read × Option ℕ
add_dimension steps binding to =
    let listed = add_list steps binding to.key.table in
    (add_values listed.steps to.key listed.list, listed.list)

abbrev pub add_dimensions : Steps → Binding → List JoinTo → List Dimension → Dimensions
add_dimensions steps binding [] done = record { steps = steps; dimensions = done }
add_dimensions steps binding (to ∷ joins) done =
    let read = add_dimension steps binding to in
    add_dimensions read.0.steps binding joins (done ++ record { to = to; list = read.1; keys = read.0.input } ∷ [])

-- Step 3: the semi-joins of dimensions that are not joined.
abbrev pub add_semi_joins : Listed → List Dimension → Listed
add_semi_joins listed [] = listed
add_semi_joins listed (dimension ∷ dimensions) =
    add_semi_joins (combine listed.list (make_one listed.steps (semi_join dimension.to.fact_column dimension.keys))) dimensions

-- the row list of a joined dimension
pub record RowList : Type 0 where
  pub table : ℕ
  pub number : ℕ

-- after joins: the fact list, and the row lists of the dimensions joined so far
pub record Rows : Type 0 where
  pub steps : Steps
  pub facts : Option ℕ
  pub lists : List RowList

-- each row list at the places
abbrev pub add_row_lists : Steps → List RowList → List RowList → ℕ → Rows
add_row_lists steps done [] left = record { steps = steps; facts = None; lists = done }
add_row_lists steps done (rows ∷ lists) left =
    add_row_lists (with_one steps (project (input.Made rows.number) left)) (done ++ record { table = rows.table; number = steps.columns + 1 } ∷ []) lists left

-- Step 4, for one dimension.
abbrev pub add_join : Rows → Dimension → Rows
add_join rows dimension =
    let probe = add_values rows.steps dimension.to.fact_column rows.facts in
    let left = probe.steps.columns + 1 in
    let joined = with_two probe.steps (join probe.input dimension.keys) in
    let facts = add_places joined rows.facts left in
    let earlier = add_row_lists facts.steps [] rows.lists left in
    let own = add_places earlier.steps dimension.list (left + 1) in
    record { steps = own.steps; facts = Some facts.number; lists = earlier.lists ++ record { table = dimension.to.key.table; number = own.number } ∷ [] }

abbrev pub add_joins : Rows → List Dimension → Rows
add_joins rows [] = rows
add_joins rows (dimension ∷ dimensions) = add_joins (add_join rows dimension) dimensions

-- Steps 1 to 4.
abbrev pub plan_rows : Binding → Schema → Rows
plan_rows binding schema =
    let first = add_dimensions no_steps binding binding.joins [] in
    let facts = add_list first.steps binding binding.fact in
    let semi_joined = add_semi_joins facts (filter (λ dimension. not (is_joined binding schema dimension.to)) first.dimensions) in
    add_joins (record { steps = semi_joined.steps; facts = semi_joined.list; lists = [] })
    (filter (λ dimension. is_joined binding schema dimension.to) first.dimensions)

-- the row list of a table, if it is joined
abbrev pub number_of : ℕ → List RowList → Option ℕ
number_of table [] = None
number_of table (rows ∷ lists) = if rows.table == table then Some rows.number else number_of table lists

-- Step 5: a column's values, at the fact list or at its dimension's row list. `steps` goes on from those of the rows.
abbrev pub add_column : Steps → Binding → Rows → ColumnId → Read
add_column steps binding rows id = add_values steps id (if binding.fact == id.table then rows.facts else number_of id.table rows.lists)
