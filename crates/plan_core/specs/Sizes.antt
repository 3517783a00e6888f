-- How many columns the steps make at most.
use Rattle.std.specs.Prelude.{ℕ, List, ◌+◌, ◌*◌, length, sum_by}
use Rattle.catalog_core.specs.declared.columns.ColumnId.{ColumnId}
use Rattle.query_text.specs.Views.{test_view}
use Rattle.query_bind.specs.Binding.{literals_of}
use Rattle.query_bind.specs.declared.bounds.Condition.{Condition}
use Rattle.query_bind.specs.declared.bounds.JoinTo.{JoinTo}
use Rattle.query_bind.specs.declared.bounds.SumOf.{SumOf}

-- a Select and a Union for each literal, and an Intersect
abbrev pub size_of : Condition → ℕ
size_of condition = 2 + 2 * length (literals_of (test_view condition.test))

-- of all conditions
abbrev pub sizes_of : List Condition → ℕ
sizes_of conditions = sum_by size_of conditions

-- of the fact list and the row lists: each dimension's list and keys, the fact list, and two or 5 and its row lists for each dimension
abbrev pub rows_size : List JoinTo → List Condition → ℕ
rows_size joins conditions =
    sum_by (λ to. sizes_of conditions + 1) joins + sizes_of conditions + 2 * length joins + length joins * (5 + length joins)

-- of the whole plan: at most three columns and a key for each GROUP BY column, and four for each sum
abbrev pub plan_size : List JoinTo → List Condition → List ColumnId → List SumOf → ℕ
plan_size joins conditions groups sums = rows_size joins conditions + 3 * length groups + 4 * length sums + length groups
