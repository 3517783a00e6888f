-- The formats, and the encoding of a full block in each.
use Rattle.std.specs.Prelude.{◌≡◌, ℕ, ◌≤◌, Bool, true, false, List, length, take, codes}
use Rattle.definitions_blocks.specs.Packed.{AreBelow, IsPacked}
use Rattle.definitions_blocks.specs.Encodings.{IsPlainBlock, IsDynamicBlock, IsCascade}
use Rattle.definitions_blocks.specs.Differences.{first_of, delta1_of, delta16_of, least_of, reference_of}
use Rattle.definitions_blocks.specs.Runs.{IsRunsBlock}
use Rattle.definitions_blocks.specs.Packings.{NoBlock}

-- how the blocks of a column are encoded
pub data Format : Type 0 where
  plain : Format
  static : Format
  dynamic : Format
  runs : Format
  delta1_dynamic : Format
  delta16_dynamic : Format
  reference_dynamic : Format
  delta1_runs : Format

-- the tag in a file's head
abbrev pub tag_of : Format → ℕ
tag_of plain = 0
tag_of static = 1
tag_of dynamic = 2
tag_of runs = 3
tag_of delta1_dynamic = 4
tag_of delta16_dynamic = 5
tag_of reference_dynamic = 6
tag_of delta1_runs = 7

-- the name in schemas, strategies and answers
abbrev pub name_of : Format → List ℕ
name_of plain = codes "plain"
name_of static = codes "static"
name_of dynamic = codes "dynamic"
name_of runs = codes "runs"
name_of delta1_dynamic = codes "delta1+dynamic"
name_of delta16_dynamic = codes "delta16+dynamic"
name_of reference_dynamic = codes "reference+dynamic"
name_of delta1_runs = codes "delta1+runs"

-- whether all blocks of a column are packed at one width, which is the column's static width
abbrev pub has_static_width : Format → Bool
has_static_width plain = false
has_static_width static = true
has_static_width dynamic = false
has_static_width runs = false
has_static_width delta1_dynamic = false
has_static_width delta16_dynamic = false
has_static_width reference_dynamic = false
has_static_width delta1_runs = false

-- The bytes are the full block in the format. The width is the column's, and matters only if it has a static one.
abbrev pub BlockOf : Format → ℕ → List ℕ → List ℕ → Type 0
BlockOf plain width values bytes = IsPlainBlock values bytes
BlockOf static width values bytes = IsPacked width values bytes
BlockOf dynamic width values bytes = IsDynamicBlock values bytes
BlockOf runs width values bytes = IsRunsBlock values bytes
BlockOf delta1_dynamic width values bytes = IsCascade first_of delta1_of IsDynamicBlock values bytes
BlockOf delta16_dynamic width values bytes = IsCascade first_of delta16_of IsDynamicBlock values bytes
BlockOf reference_dynamic width values bytes = IsCascade least_of reference_of IsDynamicBlock values bytes
BlockOf delta1_runs width values bytes = IsCascade first_of delta1_of IsRunsBlock values bytes

-- a width up to 64 if there is a static one, and 0 if not
abbrev pub IsWidthWhere : Bool → ℕ → Type 0
IsWidthWhere true width = width ≤ 64
IsWidthWhere false width = width ≡ 0

-- a width that a column in the format can have
abbrev pub IsColumnWidth : Format → ℕ → Type 0
IsColumnWidth format width = IsWidthWhere (has_static_width format) width

-- the values fit the width if there is a static one
abbrev pub FitsWhere : Bool → ℕ → List ℕ → Type 0
FitsWhere true width values = AreBelow width values
FitsWhere false width values = Unit {0}

-- the values fit the width of a column in the format, if it has a static one
abbrev pub FitsFormat : Format → ℕ → List ℕ → Type 0
FitsFormat format width values = FitsWhere (has_static_width format) width values

-- no prefix of the bytes is a block
abbrev pub LacksBlock : Format → ℕ → List ℕ → Type 0
LacksBlock format width bytes = NoBlock (BlockOf format) width bytes

-- so many bytes at the front are encoded in this way
pub record BeginsWith (encodes : List ℕ → List ℕ → Type 0) (bytes : List ℕ) (count : ℕ) : Type 0 where
  pub values : List ℕ
  pub encoded : encodes values (take count bytes)
  pub within : count ≤ length bytes

-- so many bytes at the front are a block
abbrev pub BeginsWithBlock : Format → ℕ → List ℕ → ℕ → Type 0
BeginsWithBlock format width bytes count = BeginsWith (BlockOf format width) bytes count
