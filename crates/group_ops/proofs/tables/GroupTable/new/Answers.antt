use Rattle.std.proofs.Common.{sym, subst}
use Rattle.group_ops.specs.Pairs.{HasEachOnce}
use Rattle.group_ops.proofs.TableLaws.{once_none}
use Rattle.group_ops.proofs.tables.GroupTable.new.Goals as goal

pub invariant_of-result : goal.invariant_of-result
invariant_of-result c = subst (λ pairs. HasEachOnce pairs) (sym c.new.ensures.empty) once_none
