-- A column under way: whole blocks, encoded one after the other behind the room for a head.
use Rattle.std.specs.Prelude.{◌≡◌, ℕ, ◌+◌, ◌≤◌, List, length, drop, map}
use Rattle.definitions_blocks.specs.Columns.{max_rows}
use Rattle.definitions_blocks.specs.Formats.{Format}
use Rattle.definitions_columns.specs.ColumnFiles.{head_len, Piece, ArePieces, piece_values, piece_bytes, starts_from}

-- the bytes behind the room for a head are the list, block by block, and this is where each block starts
pub record AreBlocks (format : Format) (width : ℕ) (values bytes starts : List ℕ) : Type 0 where
  pub few : length values ≤ max_rows
  pub pieces : List Piece
  pub blocks : ArePieces format width pieces
  pub values_are : values ≡ piece_values pieces
  pub long : head_len ≤ length bytes
  pub bytes_are : drop head_len bytes ≡ piece_bytes pieces
  pub starts_are : starts ≡ starts_from head_len pieces

-- places that are moved up
abbrev pub moved_up : ℕ → List ℕ → List ℕ
moved_up shift places = map (λ place. place + shift) places
