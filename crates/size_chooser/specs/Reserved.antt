-- A builder that has room for a list.
use Rattle.std.specs.Prelude.{◌≡◌, ◌≤◌, true, ℕ, List, [], length}
use Rattle.definitions_columns.specs.ColumnFiles.{static_width_of, fits_columns}
use Rattle.definitions_columns.specs.Sizes.{file_size, size_of, is_within_room}
use Rattle.block_core.specs.Formats.{format_of}
use Rattle.column_core.specs.Columns.{Encoding, reserve}

-- A builder without values that has just the room for these: it takes them and is finished with them for sure.
pub record IsReservedFor (builder : Encoding) (values : List ℕ) : Type 0 where
  pub none_yet : builder.values ≡ []
  pub at_width : builder.width ≡ static_width_of (format_of builder.format) values
  pub just_so_much : builder.reserve ≡ reserve (size_of (format_of builder.format) values) (length values)
  pub in_scope : fits_columns (format_of builder.format) builder.width values ≡ true
  pub in_room : is_within_room (format_of builder.format) builder.width builder.reserve.bytes builder.reserve.count values ≡ true
  pub file_fits : file_size (format_of builder.format) builder.width values ≤ builder.reserve.bytes
  pub count_fits : length values ≤ builder.reserve.count
