-- How long the files of a list are, and which is the shortest.
use Rattle.std.specs.Prelude.{◌≡◌, ◌<◌, ◌≤◌, ℕ, List, [], ◌∷◌, length, slice_index}
use Rattle.definitions_blocks.specs.Formats.{Format, plain, static, dynamic, runs, delta1_dynamic, delta16_dynamic, reference_dynamic, delta1_runs, tag_of}
use Rattle.definitions_columns.specs.ColumnFiles.{IsColumnFile}
use Rattle.definitions_columns.specs.Sizes.{size_of}

-- how long the files of a list are, in the order of the tags
abbrev pub sizes_of : List ℕ → List ℕ
sizes_of values =
    size_of plain values ∷ size_of static values ∷ size_of dynamic values ∷ size_of runs values
    ∷ size_of delta1_dynamic values ∷ size_of delta16_dynamic values ∷ size_of reference_dynamic values ∷ size_of delta1_runs values ∷ []

-- the numbers are the lengths of the list's files, in the order of the tags
abbrev pub AreFileLengths : List ℕ → List ℕ → Type 0
AreFileLengths sizes values = (format : Format) (bytes : List ℕ) → IsColumnFile format values bytes → slice_index sizes (tag_of format) ≡ length bytes

-- no format's file is shorter, and none of a lower tag is as short
pub record IsLeast (values : List ℕ) (format : Format) : Type 0 where
  pub least : (other : Format) → size_of format values ≤ size_of other values
  pub lowest : (other : Format) → tag_of other < tag_of format → size_of format values < size_of other values

-- just one format is least
abbrev pub HasOneLeast : List ℕ → Type 0
HasOneLeast values = (format : Format) × IsLeast values format × ((other : Format) → IsLeast values other → other ≡ format)
