use Rattle.std.proofs.Common.{sym, subst}
use Rattle.group_ops.specs.Pairs.{HasEachOnce}
use Rattle.group_ops.proofs.TableLaws.{once_more}
use Rattle.group_ops.proofs.tables.GroupTable.probe.Goals as goal

pub invariant_of-self-2 : goal.invariant_of-self-2
invariant_of-self-2 c = subst (λ pairs. HasEachOnce pairs) (sym c.in_ok-place.ensures.keys) (once_more c.self.inside.pairs.keys (c.args.before, c.args.value) c.self.invariant)
