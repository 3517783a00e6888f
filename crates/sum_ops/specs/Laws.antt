-- What cells hold once all values are added.
use Rattle.std.specs.Prelude.{◌≡◌, ℕ, List, map, replicate}
use Rattle.definitions_operators.specs.Groups.{sums_of}
use Rattle.sum_ops.specs.Cells.{cell_of, cells_after}

-- added to cells of zero, values by ids give the sums by ids, each the lesser of the sum and 2^64
abbrev pub CellsAreSums : Type 0
CellsAreSums = (groups : ℕ) (values ids : List ℕ) → cells_after (replicate groups 0) values ids ≡ map cell_of (sums_of values ids groups)
