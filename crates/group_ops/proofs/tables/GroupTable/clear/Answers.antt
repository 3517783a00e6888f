use Rattle.std.proofs.Common.{sym, subst}
use Rattle.group_ops.specs.Pairs.{HasEachOnce}
use Rattle.group_ops.proofs.TableLaws.{once_none}
use Rattle.group_ops.proofs.tables.GroupTable.clear.Goals as goal

pub invariant_of-self : goal.invariant_of-self
invariant_of-self c = subst (λ pairs. HasEachOnce pairs) (sym c.clear.ensures.empty) once_none
