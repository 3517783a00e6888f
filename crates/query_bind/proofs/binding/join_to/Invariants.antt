use Rattle.std.proofs.Common.{◌≡◌, ◌==◌, drop}
use Rattle.std.specs.List.{find}
use Rattle.query_bind.proofs.binding.join_to.Given as goal

-- none of those so far is the one
abbrev pub invariant-loop-to : goal.invariant-loop-to
invariant-loop-to l = find (λ to. to.key.table == l.table) l.joins ≡ find (λ to. to.key.table == l.table) (drop l.to-index l.joins)
