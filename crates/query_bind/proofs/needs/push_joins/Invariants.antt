use Rattle.std.proofs.Common.{◌≡◌, ◌++◌, take}
use Rattle.std.specs.List.{flat_map}
use Rattle.query_bind.specs.Needed.{join_columns}
use Rattle.query_bind.proofs.needs.push_joins.Given as goal

-- the columns before, and those of the joins so far
abbrev pub invariant-loop-place : goal.invariant-loop-place
invariant-loop-place l = l.columns.items ≡ l.initial.columns.items ++ flat_map join_columns (take l.place l.joins)
