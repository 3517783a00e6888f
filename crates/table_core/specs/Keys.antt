-- Sorted keys, of which equal ones are neighbours.
use Rattle.std.specs.Prelude.{◌≡◌, ℕ, ◌+◌, ◌<◌, List, length, slice_index}

-- two neighbours are equal
pub record HasEqualNeighbours (values : List ℕ) : Type 0 where
  pub place : ℕ
  pub within : place + 1 < length values
  pub equal : slice_index values place ≡ slice_index values (place + 1)
