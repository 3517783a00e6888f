use Rattle.std.proofs.Common.{List, ℕ, subst}
use Rattle.sum_ops.specs.Cells.{AreCells}
use Rattle.sum_ops.proofs.cells.Sums.tell_cells.Goals as goal

pub returns : goal.returns
returns c = subst (λ (cells : List ℕ). AreCells cells) c.self.view_is c.self.invariant.0
