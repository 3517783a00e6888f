-- Why bytes are no column file: the first fault.
use Rattle.std.specs.Prelude.{◌≡◌, ◌≢◌, ℕ, ◌+◌, ◌*◌, ◌/◌, ◌%◌, ◌<◌, ◌≤◌, Bool, true, false, List, ◌++◌, length, take, drop, slice_index}
use Rattle.definitions_blocks.specs.Words.{word_bytes}
use Rattle.definitions_blocks.specs.Columns.{max_rows}
use Rattle.definitions_blocks.specs.Blocks.{block_values}
use Rattle.definitions_blocks.specs.Formats.{Format, tag_of, IsColumnWidth, LacksBlock}
use Rattle.definitions_columns.specs.Tails.{IsPackedTail}
use Rattle.definitions_columns.specs.ColumnFiles.{Version, column_head, head_len, has_word_tail, tail_width_of, has_directory, first_start, static_width_of, starts_from, Piece, ArePieces, piece_values, piece_bytes}

-- a tail's width: 64 if its values are words, and up to 64 if not
abbrev pub IsTailWidthWhere : Bool → ℕ → Type 0
IsTailWidthWhere true tail_width = tail_width ≡ 64
IsTailWidthWhere false tail_width = tail_width ≤ 64

-- a lawful head: widths that the format can have, and not too many values
pub record IsHead (version : Version) (format : Format) (width tail_width count : ℕ) : Type 0 where
  pub lawful : IsColumnWidth format width
  pub tail_lawful : IsTailWidthWhere (has_word_tail version format) tail_width
  pub few : count ≤ max_rows

-- the directory's entry for a block is this place
abbrev pub HasEntry : List ℕ → ℕ → ℕ → Type 0
HasEntry bytes block place = take 8 (drop (head_len + 8 * block) bytes) ≡ word_bytes place

-- the directory, if there is one, says that a block starts at this place
abbrev pub StartsAt : Version → Format → List ℕ → ℕ → ℕ → Type 0
StartsAt version format bytes block place = has_directory version format ≡ true → HasEntry bytes block place

-- bytes that begin with a head, the directory's entries for some blocks, these blocks behind the directory, and what follows them
pub record Opening (bytes : List ℕ) : Type 0 where
  pub version : Version
  pub format : Format
  pub width : ℕ
  pub tail_width : ℕ
  pub count : ℕ
  pub head : IsHead version format width tail_width count
  pub head_is : bytes ≡ column_head version (tag_of format) width tail_width count ++ drop head_len bytes
  pub pieces : List Piece
  pub blocks : ArePieces format width pieces
  pub rest : List ℕ
  pub blocks_are : drop (first_start version format (count / block_values)) bytes ≡ piece_bytes pieces ++ rest
  pub entries : (block : ℕ) → block < length pieces
      → StartsAt version format bytes block (slice_index (starts_from (first_start version format (count / block_values)) pieces) block)

-- where the next block has to start
abbrev pub next_start : {bytes : List ℕ} → Opening bytes → ℕ
next_start opening = first_start opening.version opening.format (opening.count / block_values) + length (piece_bytes opening.pieces)

-- Why bytes are no column file: there is no head; the directory does not say where this block starts; this block, which the head
-- says to be there, is none; the width in the head is not the least; what follows the blocks is not the tail.
pub data FileFault : Type 0 where
  bad_header : FileFault
  bad_directory : ℕ → FileFault
  bad_block : ℕ → FileFault
  bad_width : FileFault
  bad_tail : FileFault

-- so many blocks are good, and there is to be one more
pub record HasMore (bytes : List ℕ) (block : ℕ) : Type 0 where
  pub opening : Opening bytes
  pub good : length opening.pieces ≡ block
  pub more : block < opening.count / block_values

-- the directory says where the next block starts
abbrev pub NamesNext : (bytes : List ℕ) → Opening bytes → Type 0
NamesNext bytes opening = StartsAt opening.version opening.format bytes (length opening.pieces) (next_start opening)

-- all blocks are good
pub record HasBlocks (bytes : List ℕ) : Type 0 where
  pub opening : Opening bytes
  pub all : length opening.pieces ≡ opening.count / block_values

-- the width that the good blocks ask for
abbrev pub asked_width : {bytes : List ℕ} → Opening bytes → ℕ
asked_width opening = static_width_of opening.format (piece_values opening.pieces)

-- what follows the blocks is not the values that are left, packed at the width in the head and that the least
abbrev pub LacksTail : {bytes : List ℕ} → Opening bytes → Type 0
LacksTail opening = (tail : List ℕ) → length tail ≡ opening.count % block_values → IsPackedTail opening.tail_width tail opening.rest
    → opening.tail_width ≡ tail_width_of opening.version opening.format tail → ⊥

-- the first fault of the bytes is this one
abbrev pub HasFileFault : List ℕ → FileFault → Type 0
HasFileFault bytes bad_header = Opening bytes → ⊥
HasFileFault bytes (bad_directory block) = (has : HasMore bytes block) × (NamesNext bytes has.opening → ⊥)
HasFileFault bytes (bad_block block) = (has : HasMore bytes block) × NamesNext bytes has.opening × LacksBlock has.opening.format has.opening.width has.opening.rest
HasFileFault bytes bad_width = (has : HasBlocks bytes) × (has.opening.width ≢ asked_width has.opening)
HasFileFault bytes bad_tail = (has : HasBlocks bytes) × (has.opening.width ≡ asked_width has.opening) × LacksTail has.opening
