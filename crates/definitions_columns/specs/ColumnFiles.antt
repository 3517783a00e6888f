-- The one file that a column has in each format, in each version of files.
use Rattle.std.specs.Prelude.{◌≡◌, ◌==◌, ℕ, ◌+◌, ◌*◌, ◌/◌, ◌<◌, nat_le, max, Bool, true, false, List, [], ◌∷◌, ◌++◌, length, take, flat_map, codes, if◌then◌else◌}
use Rattle.std.specs.List.{AllByRecursion}
use Rattle.definitions_blocks.specs.Words.{word_bytes, words_of}
use Rattle.definitions_blocks.specs.Columns.{IsColumn}
use Rattle.definitions_blocks.specs.Blocks.{block_values}
use Rattle.definitions_blocks.specs.Encodings.{fits_width, width_of}
use Rattle.definitions_blocks.specs.Formats.{Format, tag_of, has_static_width, BlockOf}
use Rattle.definitions_columns.specs.Tails.{IsPackedTail}

-- the versions of column files: files of the first are only read, and files of the second are written
pub data Version : Type 0 where
  first : Version
  second : Version

-- the number in a file's head
abbrev pub version_number : Version → ℕ
version_number first = 1
version_number second = 2

-- the values of the whole blocks
abbrev pub whole_blocks : List ℕ → List ℕ
whole_blocks values = take (length values / block_values * block_values) values

-- the static width of a column: the least that holds the values of the whole blocks, and 0 in a format without one
abbrev pub static_width_of : Format → List ℕ → ℕ
static_width_of format values = if has_static_width format then width_of (whole_blocks values) else 0

-- the static width of a column of whole blocks, from the one that it has before its last block
abbrev pub next_width : Format → ℕ → List ℕ → ℕ
next_width format widest values = if has_static_width format then max widest (width_of values) else widest

-- whether the whole blocks fit the column's width, if it has a static one
abbrev pub fits_columns : Format → ℕ → List ℕ → Bool
fits_columns format width values = if has_static_width format then fits_width (whole_blocks values) width else true

-- whether the values after the whole blocks are words: in `plain`, and in each file of the first version
abbrev pub has_word_tail : Version → Format → Bool
has_word_tail first format = true
has_word_tail second format = tag_of format == 0

-- the width of the values after the whole blocks: 64 if they are words, and else the least that holds them
abbrev pub tail_width_of : Version → Format → List ℕ → ℕ
tail_width_of version format tail = if has_word_tail version format then 64 else width_of tail

-- what the head says of that width: nothing in the first version
abbrev pub tail_width_byte : Version → ℕ → ℕ
tail_width_byte first tail_width = 0
tail_width_byte second tail_width = tail_width

-- the first 16 bytes of a column file: `MCOL`, the version, the format's tag, the static width, the tail's width and the count
abbrev pub column_head : Version → ℕ → ℕ → ℕ → ℕ → List ℕ
column_head version tag width tail_width count =
    codes "MCOL" ++ (version_number version ∷ tag ∷ width ∷ tail_width_byte version tail_width ∷ []) ++ word_bytes count

-- how long a file's head is
abbrev pub head_len : ℕ
head_len = 16

-- a full block beside its encoding
pub record Piece : Type 0 where
  pub values : List ℕ
  pub encoding : List ℕ

-- each encoding is the one of its block
abbrev pub ArePieces : Format → ℕ → List Piece → Type 0
ArePieces format width pieces = AllByRecursion (λ piece. BlockOf format width piece.values piece.encoding) pieces

-- the values of pieces, one after the other
abbrev pub piece_values : List Piece → List ℕ
piece_values pieces = flat_map (λ piece. piece.values) pieces

-- the encodings of pieces, one after the other
abbrev pub piece_bytes : List Piece → List ℕ
piece_bytes pieces = flat_map (λ piece. piece.encoding) pieces

-- where each piece's encoding starts, the first at this place
abbrev pub starts_from : ℕ → List Piece → List ℕ
starts_from place [] = []
starts_from place (piece ∷ pieces) = place ∷ starts_from (place + length piece.encoding) pieces

-- whether a file says where its whole blocks start: from the second version on, if the format's blocks differ in length
abbrev pub has_directory : Version → Format → Bool
has_directory first format = false
has_directory second format = nat_le 2 (tag_of format)

-- how long the directory of so many whole blocks is
abbrev pub directory_len : Version → Format → ℕ → ℕ
directory_len version format blocks = if has_directory version format then 8 * blocks else 0

-- where the first of so many whole blocks starts
abbrev pub first_start : Version → Format → ℕ → ℕ
first_start version format blocks = head_len + directory_len version format blocks

-- the directory: the place of each whole block's first byte, as a word
abbrev pub directory_of : Version → Format → List Piece → List ℕ
directory_of version format pieces = if has_directory version format then words_of (starts_from (first_start version format (length pieces)) pieces) else []

-- The bytes are the column in the format, at a width: the head, the directory, each whole block's encoding, and the values after
-- the last whole block.
pub record IsEncoded (version : Version) (format : Format) (width : ℕ) (values bytes : List ℕ) : Type 0 where
  pub column : IsColumn values
  pub pieces : List Piece
  pub tail : List ℕ
  pub tail_bytes : List ℕ
  pub blocks : ArePieces format width pieces
  pub short : length tail < block_values
  pub packed : IsPackedTail (tail_width_of version format tail) tail tail_bytes
  pub values_are : values ≡ piece_values pieces ++ tail
  pub bytes_are : bytes ≡ column_head version (tag_of format) width (tail_width_of version format tail) (length values) ++ (directory_of version format pieces ++ (piece_bytes pieces ++ tail_bytes))

-- the bytes are the file of the column in the format, in a version
abbrev pub IsFileOf : Version → Format → List ℕ → List ℕ → Type 0
IsFileOf version format values bytes = IsEncoded version format (static_width_of format values) values bytes

-- the bytes are the file of the column in the format as it is written
abbrev pub IsColumnFile : Format → List ℕ → List ℕ → Type 0
IsColumnFile format values bytes = IsFileOf second format values bytes
