use Rattle.std.proofs.Common.{◌≡◌, nat_lt, take}
use Rattle.std.specs.List.{list_all}
use Rattle.table_core.proofs.codes.are_below.Given as goal

-- the values so far are below
abbrev pub invariant-loop-value : goal.invariant-loop-value
invariant-loop-value l = l.below ≡ list_all (λ value. nat_lt value l.bound) (take l.value-index l.values)
