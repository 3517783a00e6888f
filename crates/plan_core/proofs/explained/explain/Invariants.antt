use Rattle.std.proofs.Common.{◌≡◌, ◌+◌, ◌++◌, drop, map}
use Rattle.plan_core.specs.Explained.{lines_from}
use Rattle.plan_core.specs.Views.{operator_view}
use Rattle.plan_core.proofs.explained.explain.Given as goal

-- the operators that are left make the whole
abbrev pub invariant-loop-place : goal.invariant-loop-place
invariant-loop-place l = l.text.items ++ lines_from l.schema (l.place + 1) (map operator_view (drop l.place l.operators)) ≡ lines_from l.schema 1 (map operator_view l.operators)
