-- Plans: operators that read base columns and earlier outputs, numbered from 1.
use Rattle.std.specs.Prelude.{ℕ, List, Option}
use Rattle.definitions_queries.specs.Queries.{Test}
use Rattle.catalog_core.specs.declared.columns.ColumnId.{ColumnId}
use Rattle.plan_core.specs.declared.plans.Input.{Input}
use Rattle.plan_core.specs.declared.plans.SumPlace.{SumPlace}

-- the last one or two numbers are the outputs; a sum has the ids that it goes by, if any, its output, and its sum and operand
pub data Operator : Type 0 where
  select : ColumnId → Test → ℕ → Operator
  union : ℕ → ℕ → ℕ → Operator
  intersect : ℕ → ℕ → ℕ → Operator
  project : Input → ℕ → ℕ → Operator
  semi_join : ColumnId → Input → ℕ → Operator
  join : Input → Input → ℕ → ℕ → Operator
  group : Input → ℕ → ℕ → Operator
  refine : ℕ → Input → ℕ → ℕ → Operator
  sum : Input → Option ℕ → ℕ → ℕ → ℕ → Operator
  sum_product : Input → Input → Option ℕ → ℕ → ℕ → Operator

-- a plan so far: its operators, and how many columns they make
pub record Steps : Type 0 where
  pub operators : List Operator
  pub columns : ℕ

pub record Plan : Type 0 where
  pub operators : List Operator
  pub columns : ℕ
  pub keys : List ℕ
  pub sums : List SumPlace
