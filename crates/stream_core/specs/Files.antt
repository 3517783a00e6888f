-- Files by their names.
use Rattle.std.specs.Prelude.{◌≡◌, ℕ, ◌≤◌, List, length, Option, Some}

-- the bytes under each name, where there is such a file
abbrev pub Files : Type 0
Files = List ℕ → Option (List ℕ)

-- the file is there, and not too long
pub record Holds (files : Files) (name : List ℕ) (limit : ℕ) (bytes : List ℕ) : Type 0 where
  pub there : files name ≡ Some bytes
  pub short : length bytes ≤ limit
