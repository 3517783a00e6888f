-- What a builder may be given, and what it keeps.
use Rattle.std.specs.Prelude.{◌≡◌, ℕ, ◌%◌, ◌≤◌, Bool, true, List, ◌++◌, length}
use Rattle.definitions_blocks.specs.Blocks.{block_values}
use Rattle.definitions_blocks.specs.Columns.{max_rows}
use Rattle.definitions_blocks.specs.Formats.{IsColumnWidth}
use Rattle.definitions_columns.specs.ColumnFiles.{fits_columns}
use Rattle.definitions_columns.specs.Sizes.{is_within_room}
use Rattle.block_core.specs.declared.formats.Format.{Format}
use Rattle.block_core.specs.Formats.{format_of}
use Rattle.column_core.specs.Columns.{Reserve}

-- what no push changes of a builder
pub record Frame : Type 0 where
  pub format : Format
  pub width : ℕ
  pub reserve : Reserve

abbrev pub frame : Format → ℕ → Reserve → Frame
frame format width reserve = record { format = format; width = width; reserve = reserve }

-- whole blocks were encoded, and a block waits behind them
pub record IsBuilding (format : Format) (width : ℕ) (values block : List ℕ) : Type 0 where
  pub lawful : IsColumnWidth (format_of format) width
  pub whole : length values % block_values ≡ 0
  pub short : length block ≤ block_values
  pub few : length (values ++ block) ≤ max_rows
  pub fits : fits_columns (format_of format) width (values ++ block) ≡ true

-- Which lists a builder is sure to take: those of which the head, the directory and the whole blocks, and the number of values,
-- are within what is reserved.
abbrev pub has_room : Frame → List ℕ → Bool
has_room of values = is_within_room (format_of of.format) of.width of.reserve.bytes of.reserve.count values
