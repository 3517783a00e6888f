use Rattle.std.proofs.Common.{◌≡◌, ◌++◌, take}
use Rattle.std.specs.List.{flat_map}
use Rattle.query_bind.specs.LawfulBindings.{operands}
use Rattle.query_bind.proofs.needs.push_sums.Given as goal

-- the columns before, and those of the sums so far
abbrev pub invariant-loop-place : goal.invariant-loop-place
invariant-loop-place l = l.columns.items ≡ l.initial.columns.items ++ flat_map operands (take l.place l.sums)
