-- What a reader of a column file knows so far.
use Rattle.std.specs.Prelude.{◌≡◌, ℕ, ◌+◌, ◌/◌, ◌<◌, List, ◌++◌, length, drop, slice_index}
use Rattle.definitions_blocks.specs.Blocks.{block_values}
use Rattle.definitions_blocks.specs.Formats.{Format}
use Rattle.definitions_columns.specs.Tails.{IsPackedTail}
use Rattle.definitions_columns.specs.ColumnFiles.{Version, Piece, ArePieces, piece_values, piece_bytes, starts_from, first_start, static_width_of, tail_width_of}
use Rattle.definitions_columns.specs.FileFaults.{StartsAt}

-- so many blocks were read, up to this place, each where the directory says
pub record ReadSo (version : Version) (format : Format) (width count number place widest : ℕ) (bytes : List ℕ) : Type 0 where
  pub pieces : List Piece
  pub blocks : ArePieces format width pieces
  pub many : length pieces ≡ number
  pub place_is : place ≡ first_start version format (count / block_values) + length (piece_bytes pieces)
  pub blocks_are : drop (first_start version format (count / block_values)) bytes ≡ piece_bytes pieces ++ drop place bytes
  pub entries : (block : ℕ) → block < length pieces
      → StartsAt version format bytes block (slice_index (starts_from (first_start version format (count / block_values)) pieces) block)
  pub widest_is : widest ≡ static_width_of format (piece_values pieces)

-- the bytes are so many values, packed at the width and that the least
abbrev pub IsTail : Version → Format → ℕ → ℕ → List ℕ → Type 0
IsTail version format tail_width count bytes = (tail : List ℕ) × (length tail ≡ count) × IsPackedTail tail_width tail bytes × (tail_width ≡ tail_width_of version format tail)
