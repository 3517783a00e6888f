-- The laws of blocks and column files: a block has one encoding in each format, and a list one file in each version.
use Rattle.std.specs.Prelude.{◌≡◌, ℕ, List, ◌++◌, length}
use Rattle.definitions_blocks.specs.Columns.{IsColumn}
use Rattle.definitions_blocks.specs.Blocks.{IsFull}
use Rattle.definitions_blocks.specs.Formats.{Format, BlockOf, IsColumnWidth, FitsFormat}
use Rattle.definitions_columns.specs.ColumnFiles.{Version, IsFileOf, IsColumnFile}
use Rattle.definitions_columns.specs.FileFaults.{FileFault, HasFileFault}
use Rattle.definitions_columns.specs.Sizes.{size_of}

-- a full block that fits the column's width has an encoding in each format
abbrev pub HasBlock : Type 0
HasBlock = (format : Format) (width : ℕ) (values : List ℕ) → IsColumnWidth format width → IsFull values → FitsFormat format width values
    → (bytes : List ℕ) × BlockOf format width values bytes

-- no encoding begins another: blocks whose encodings begin the same bytes are the same, and so are the encodings
abbrev pub OneBlock : Type 0
OneBlock = (format : Format) (width : ℕ) (values others a b x y : List ℕ) → BlockOf format width values a → BlockOf format width others b → a ++ x ≡ b ++ y
    → (a ≡ b) × (values ≡ others)

-- a block has one encoding at most
abbrev pub OneEncoding : Type 0
OneEncoding = (format : Format) (width : ℕ) (values a b : List ℕ) → BlockOf format width values a → BlockOf format width values b → a ≡ b

-- bytes are the file of one column at most, in one version and one format
abbrev pub OneColumn : Type 0
OneColumn = (version later : Version) (format other : Format) (values others bytes : List ℕ) → IsFileOf version format values bytes → IsFileOf later other others bytes
    → (version ≡ later) × (format ≡ other) × (values ≡ others)

-- a column has one file at most in each version and format
abbrev pub OneFile : Type 0
OneFile = (version : Version) (format : Format) (values bytes others : List ℕ) → IsFileOf version format values bytes → IsFileOf version format values others → bytes ≡ others

-- each column has a file in each version and format
abbrev pub HasFile : Type 0
HasFile = (version : Version) (format : Format) (values : List ℕ) → IsColumn values → (bytes : List ℕ) × IsFileOf version format values bytes

-- the length of a column's file
abbrev pub FileSize : Type 0
FileSize = (format : Format) (values bytes : List ℕ) → IsColumnFile format values bytes → length bytes ≡ size_of format values

-- bytes have one first fault at most
abbrev pub OneFault : Type 0
OneFault = (bytes : List ℕ) (fault other : FileFault) → HasFileFault bytes fault → HasFileFault bytes other → fault ≡ other

-- a column's file has no fault
abbrev pub NoFault : Type 0
NoFault = (version : Version) (format : Format) (values bytes : List ℕ) (fault : FileFault) → IsFileOf version format values bytes → HasFileFault bytes fault → ⊥
