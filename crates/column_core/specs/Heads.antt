-- What bytes tell by their head.
use Rattle.std.specs.Prelude.{◌≡◌, ℕ, ◌≤◌, List, ◌++◌, length, drop}
use Rattle.definitions_blocks.specs.Formats.{Format, tag_of}
use Rattle.definitions_columns.specs.ColumnFiles as files
use Rattle.definitions_columns.specs.ColumnFiles.{column_head, head_len, static_width_of, tail_width_of}
use Rattle.definitions_columns.specs.FileFaults.{IsHead}
use Rattle.definitions_columns.specs.Sizes.{tail_of}
use Rattle.block_core.specs.declared.formats.Format as formats
use Rattle.block_core.specs.Formats.{format_of}
use Rattle.column_core.specs.declared.heads.Head.{Head}
use Rattle.column_core.specs.declared.heads.Version.{Version}
use Rattle.column_core.specs.declared.heads.Version.TheVariants as version

-- what a variant stands for
abbrev pub version_of : Version → files.Version
version_of version.First = files.first
version_of version.Second = files.second

-- the bytes begin with no head
abbrev pub LacksHead : List ℕ → Type 0
LacksHead bytes = (version : files.Version) (format : Format) (width tail_width count : ℕ) (rest : List ℕ) → IsHead version format width tail_width count
    → bytes ≡ column_head version (tag_of format) width tail_width count ++ rest → ⊥

-- the bytes begin with this head
pub record BeginsWithHead (version : files.Version) (format : Format) (width tail_width count : ℕ) (bytes : List ℕ) : Type 0 where
  pub head : IsHead version format width tail_width count
  pub within : head_len ≤ length bytes
  pub bytes_are : bytes ≡ column_head version (tag_of format) width tail_width count ++ drop head_len bytes

-- the width that a head's byte for the tail says: 64 in the first version, whatever the byte
abbrev pub tail_width_said : files.Version → ℕ → ℕ
tail_width_said files.first byte = 64
tail_width_said files.second byte = byte

-- the head tells of this column
pub record IsHeadOf (head : Head) (version : files.Version) (format : formats.Format) (values : List ℕ) : Type 0 where
  pub version_is : version_of head.version ≡ version
  pub format_is : head.format ≡ format
  pub width_is : head.static_width ≡ static_width_of (format_of format) values
  pub tail_width_is : head.tail_width ≡ tail_width_of version (format_of format) (tail_of values)
  pub count_is : head.count ≡ length values
