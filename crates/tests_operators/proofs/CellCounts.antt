-- How many cells there are once values were added.
use Rattle.std.proofs.Common.{◌≡◌, ℕ, List, length, ap, ◌∙◌}
use Rattle.sum_ops.specs.Cells.{cells_after}
use Rattle.sum_ops.proofs.CellLaws.{length-cells_after}

-- as many as before
pub count_after : (cells values ids after : List ℕ) (n : ℕ) → after ≡ cells_after cells values ids → length cells ≡ n → length after ≡ n
count_after cells values ids after n is before = ap length is ∙ length-cells_after cells values ids ∙ before
