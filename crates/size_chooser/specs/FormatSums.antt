-- What is kept of the whole blocks of a list in one format.
use Rattle.std.specs.Prelude.{◌≡◌, ℕ, ◌*◌, ◌%◌, ◌≤◌, Bool, true, false, List, length}
use Rattle.definitions_blocks.specs.Blocks.{block_values}
use Rattle.definitions_blocks.specs.Packed.{IsWidth}
use Rattle.definitions_blocks.specs.Formats.{has_static_width}
use Rattle.definitions_columns.specs.Sizes.{whole_count, blocks_size}
use Rattle.block_core.specs.Formats.{format_of}
use Rattle.size_chooser.specs.declared.format_sums.FormatSum.{FormatSum}

-- the least width of blocks if there is a static one, and 0 if not
abbrev pub IsWidestWhere : Bool → ℕ → List ℕ → Type 0
IsWidestWhere true width blocks = IsWidth width blocks
IsWidestWhere false width blocks = width ≡ 0

-- What is kept of whole blocks: the static width, and how long they are, where blocks of `static` count as none.
pub record IsFormatSumOf (sum : FormatSum) (blocks : List ℕ) : Type 0 where
  pub whole : length blocks % block_values ≡ 0
  pub narrow : sum.width ≤ 64
  pub widest : IsWidestWhere (has_static_width (format_of sum.format)) sum.width blocks
  pub size_is : sum.size ≡ blocks_size (format_of sum.format) 0 blocks
  pub bounded : sum.size ≤ 10250 * whole_count blocks
