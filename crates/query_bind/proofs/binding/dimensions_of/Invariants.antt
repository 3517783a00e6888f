use Rattle.std.proofs.Common.{◌≡◌, take}
use Rattle.query_bind.specs.Binding.{dimensions_of}
use Rattle.query_bind.proofs.binding.dimensions_of.Given as goal

-- the dimensions so far
abbrev pub invariant-loop-table : goal.invariant-loop-table
invariant-loop-table l = l.dimensions.items ≡ dimensions_of l.fact (take l.table-index l.tables)
