use Rattle.std.proofs.Common.{subst}
use Rattle.join_ops.specs.KeySets.{DenseKeys, AreDistinct}
use Rattle.join_ops.proofs.DenseLaws.{marked-distinct}
use Rattle.join_ops.proofs.dense_sets.DenseSet.tell.Goals as goal

pub returns : goal.returns
returns c = subst (λ (d : DenseKeys). AreDistinct d.keys) c.self.view_is (marked-distinct c.self.inside.low c.self.inside.marks.items)
