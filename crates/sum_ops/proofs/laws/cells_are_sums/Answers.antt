use Rattle.sum_ops.proofs.CellLaws.{cells_after-start}
use Rattle.sum_ops.proofs.laws.cells_are_sums.Goals as goal

pub returns : goal.returns
returns c = cells_after-start
