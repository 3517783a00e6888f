-- Sums in cells that stop at 2^64, which stands for every sum that is too wide.
use Rattle.std.specs.Prelude.{ℕ, ◌+◌, ◌^◌, ◌<◌, ◌≤◌, min, List, map, length, slice_index}
use Rattle.definitions_operators.specs.Operators.{places}
use Rattle.definitions_operators.specs.Groups.{sum_with}

-- the least sum that is too wide
abbrev pub limit : ℕ
limit = 2 ^ 64

-- the cell of a sum: the lesser of the sum and 2^64
abbrev pub cell_of : ℕ → ℕ
cell_of total = min total limit

abbrev pub AreCells : List ℕ → Type 0
AreCells cells = (id : ℕ) → slice_index cells id ≤ limit

-- a cell whose sum is 2^64 or more
abbrev pub IsTooWide : ℕ → Type 0
IsTooWide cell = limit ≤ cell

-- no sum is too wide
abbrev pub AreNarrow : List ℕ → Type 0
AreNarrow cells = (id : ℕ) → id < length cells → slice_index cells id < limit

-- the cells once values are added, each to the cell of its id
abbrev pub cells_after : List ℕ → List ℕ → List ℕ → List ℕ
cells_after cells values ids = map (λ id. cell_of (slice_index cells id + sum_with values ids id)) (places (length cells))
