-- Where the blocks and the tail of a column stand in its file.
use Rattle.std.proofs.Common.{◌≡◌, ℕ, zero, suc, ◌+◌, ◌*◌, ◌/◌, ◌<◌, ◌≤◌, true, List, [], ◌∷◌, ◌++◌, length, take, drop, get_or, refl, sym, ap, ap₂, ◌∙◌, subst, arith, length-append, append_assoc}
use Rattle.std.proofs.Math.Seq.{take-append_seam, drop-append-add, drop-append_seam}
use Rattle.std.proofs.lemmas.List.{take_at, drop_at}
use Rattle.definitions_blocks.specs.Blocks.{block_values, block_at}
use Rattle.definitions_blocks.specs.Formats.{Format, plain, static, tag_of, BlockOf}
use Rattle.definitions_columns.specs.Tails.{IsPackedTail}
use Rattle.definitions_columns.specs.ColumnFiles.{second, column_head, head_len, Piece, ArePieces, piece_values, piece_bytes, starts_from, has_directory, directory_len, directory_of, first_start, tail_width_of, IsEncoded}
use Rattle.definitions_columns.specs.FileFaults.{HasEntry}
use Rattle.definitions_columns.specs.Sizes.{sum_blocks, block_size, whole_count, block_start, front_size, tail_of}
use Rattle.definitions_blocks.proofs.BlockLaws.{BlockOf-full}
use Rattle.definitions_columns.proofs.ColumnFileLaws.{length-column_head, length-directory_of, encoded_tail}
use Rattle.definitions_columns.proofs.DirectoryLaws.{directory_of-entries}
use Rattle.definitions_columns.proofs.BlockSumLaws.{block_at-behind, sum_blocks-first}
use Rattle.definitions_columns.proofs.SizeLaws.{BlockOf-size, encoded_blocks}

-- Pieces.

-- the piece of this number: its place among the bytes of all, and its values among those of all
pub record PieceAt (format : Format) (width : ℕ) (pieces : List Piece) (number offset : ℕ) (tail rest : List ℕ) : Type 0 where
  pub values : List ℕ
  pub encoding : List ℕ
  pub block : BlockOf format width values encoding
  pub offset_is : offset ≡ sum_blocks (block_size format width) (piece_values pieces ++ tail) number
  pub bytes : take (length encoding) (drop offset (piece_bytes pieces ++ rest)) ≡ encoding
  pub within : offset + length encoding ≤ length (piece_bytes pieces)
  pub start : (place : ℕ) → get_or (starts_from place pieces) number 0 ≡ place + offset
  pub are : block_at (piece_values pieces ++ tail) number ≡ values

first_piece : (format : Format) (width : ℕ) (piece : Piece) (pieces : List Piece) (tail rest : List ℕ) → ArePieces format width (piece ∷ pieces)
    → PieceAt format width (piece ∷ pieces) 0 0 tail rest
first_piece format width piece pieces tail rest are = record {
  values = piece.values;
  encoding = piece.encoding;
  block = are.0;
  offset_is = refl;
  bytes = ap (take (length piece.encoding)) (append_assoc piece.encoding (piece_bytes pieces) rest) ∙ take-append_seam piece.encoding (piece_bytes pieces ++ rest);
  within = omega (arith, length-append piece.encoding (piece_bytes pieces));
  start = λ place. omega arith;
  are = ap (take block_values) (append_assoc piece.values (piece_values pieces) tail)
      ∙ take_at piece.values (piece_values pieces ++ tail) block_values (BlockOf-full format width piece.values piece.encoding are.0).whole;
}

later_piece : (format : Format) (width : ℕ) (piece : Piece) (pieces : List Piece) (number offset : ℕ) (tail rest : List ℕ) → BlockOf format width piece.values piece.encoding
    → PieceAt format width pieces number offset tail rest → PieceAt format width (piece ∷ pieces) (suc number) (length piece.encoding + offset) tail rest
later_piece format width piece pieces number offset tail rest is at =
    let long : length piece.values ≡ block_values = (BlockOf-full format width piece.values piece.encoding is).whole in
    let all : piece_values (piece ∷ pieces) ++ tail ≡ piece.values ++ (piece_values pieces ++ tail) = append_assoc piece.values (piece_values pieces) tail in
    let next : suc number ≡ number + 1 = omega arith in
    record {
      values = at.values;
      encoding = at.encoding;
      block = at.block;
      offset_is =
          ap₂ (λ (a b : ℕ). a + b) (BlockOf-size format width piece.values piece.encoding is) at.offset_is
          ∙ sym (sum_blocks-first (block_size format width) piece.values (piece_values pieces ++ tail) number long)
          ∙ ap (λ (l : List ℕ). sum_blocks (block_size format width) l (suc number)) (sym all);
      bytes =
          ap (λ l. take (length at.encoding) (drop (length piece.encoding + offset) l)) (append_assoc piece.encoding (piece_bytes pieces) rest)
          ∙ ap (take (length at.encoding)) (drop-append-add piece.encoding (piece_bytes pieces ++ rest) offset) ∙ at.bytes;
      within = let inside = at.within in omega (arith, length-append piece.encoding (piece_bytes pieces));
      start = λ place. at.start (place + length piece.encoding) ∙ omega arith;
      are = ap₂ (λ (l : List ℕ) (n : ℕ). block_at l n) all next ∙ block_at-behind piece.values (piece_values pieces ++ tail) number long ∙ at.are;
    }

pub piece_at : (format : Format) (width : ℕ) (pieces : List Piece) (number : ℕ) (tail rest : List ℕ) → ArePieces format width pieces → number < length pieces
    → (offset : ℕ) × PieceAt format width pieces number offset tail rest
piece_at format width [] number tail rest are within = absurd (omega arith)
piece_at format width (piece ∷ pieces) zero tail rest are within = (0, first_piece format width piece pieces tail rest are)
piece_at format width (piece ∷ pieces) (suc number) tail rest are within =
    let at = piece_at format width pieces number tail rest are.1 (omega arith) in
    (length piece.encoding + at.0, later_piece format width piece pieces number at.0 tail rest are.0 at.1)

-- Files.

-- what stands before the blocks, and what follows it
pub record FileParts (format : Format) (width : ℕ) (values bytes front body : List ℕ) : Type 0 where
  pub bytes_are : bytes ≡ front ++ body
  pub long : length front ≡ first_start second format (whole_count values)

pub file_parts : (format : Format) (width : ℕ) (values bytes : List ℕ) (is : IsEncoded second format width values bytes)
    → FileParts format width values bytes (column_head second (tag_of format) width (tail_width_of second format is.tail) (length values) ++ directory_of second format is.pieces) (piece_bytes is.pieces ++ is.tail_bytes)
file_parts format width values bytes is =
    let head = column_head second (tag_of format) width (tail_width_of second format is.tail) (length values) in
    let many = (encoded_blocks second format width values bytes is).many in
    record {
      bytes_are = is.bytes_are ∙ sym (append_assoc head (directory_of second format is.pieces) (piece_bytes is.pieces ++ is.tail_bytes));
      long =
          length-append head (directory_of second format is.pieces)
          ∙ ap₂ (λ (a b : ℕ). a + b) (length-column_head second (tag_of format) width (tail_width_of second format is.tail) (length values)) (length-directory_of second format is.pieces ∙ ap (directory_len second format) many);
    }

-- a whole block's encoding, by its place in the file
pub record BlockPlace (format : Format) (width : ℕ) (values bytes : List ℕ) (number : ℕ) : Type 0 where
  pub within : block_start format width values number + block_size format width (block_at values number) ≤ length bytes
  pub encoded : BlockOf format width (block_at values number) (take (block_size format width (block_at values number)) (drop (block_start format width values number) bytes))

pub block_place : (format : Format) (width : ℕ) (values bytes : List ℕ) (number : ℕ) → IsEncoded second format width values bytes → number < length values / block_values
    → BlockPlace format width values bytes number
block_place format width values bytes number is within =
    let blocks = encoded_blocks second format width values bytes is in
    let parts = file_parts format width values bytes is in
    let front = column_head second (tag_of format) width (tail_width_of second format is.tail) (length values) ++ directory_of second format is.pieces in
    let body = piece_bytes is.pieces ++ is.tail_bytes in
    let found = piece_at format width is.pieces number is.tail is.tail_bytes is.blocks (omega (arith, blocks.many)) in
    let at = found.1 in
    let offset : found.0 ≡ sum_blocks (block_size format width) values number = at.offset_is ∙ ap (λ (l : List ℕ). sum_blocks (block_size format width) l number) (sym is.values_are) in
    let start : block_start format width values number ≡ length front + found.0 = omega (arith, parts.long, offset) in
    let own : block_at values number ≡ at.values = ap (λ (l : List ℕ). block_at l number) is.values_are ∙ at.are in
    let size : block_size format width (block_at values number) ≡ length at.encoding = ap (block_size format width) own ∙ sym (BlockOf-size format width at.values at.encoding at.block) in
    let there : drop (block_start format width values number) bytes ≡ drop found.0 body = ap₂ (λ n l. drop n l) start parts.bytes_are ∙ drop-append-add front body found.0 in
    let bytes_are : take (block_size format width (block_at values number)) (drop (block_start format width values number) bytes) ≡ at.encoding = ap₂ (λ n l. take n l) size there ∙ at.bytes in
    record {
      within = let inside = at.within in omega (arith, start, size, ap length parts.bytes_are, length-append front body, length-append (piece_bytes is.pieces) is.tail_bytes);
      encoded = subst (BlockOf format width (block_at values number)) (sym bytes_are) (subst (λ l. BlockOf format width l at.encoding) (sym own) at.block);
    }

-- the tail stands at the end
pub tail_place : (format : Format) (width : ℕ) (values bytes : List ℕ) → IsEncoded second format width values bytes
    → IsPackedTail (tail_width_of second format (tail_of values)) (tail_of values) (drop (front_size format width values) bytes)
tail_place format width values bytes is =
    let blocks = encoded_blocks second format width values bytes is in
    let parts = file_parts format width values bytes is in
    let front = column_head second (tag_of format) width (tail_width_of second format is.tail) (length values) ++ directory_of second format is.pieces in
    let body = piece_bytes is.pieces ++ is.tail_bytes in
    let start : front_size format width values ≡ length front + length (piece_bytes is.pieces) = omega (arith, parts.long, blocks.bytes) in
    let there : drop (front_size format width values) bytes ≡ is.tail_bytes =
    ap₂ (λ n l. drop n l) start parts.bytes_are ∙ drop-append-add front body (length (piece_bytes is.pieces)) ∙ drop-append_seam (piece_bytes is.pieces) is.tail_bytes in
    let own = encoded_tail second format width values bytes is in
    subst (λ l. IsPackedTail (tail_width_of second format l) l (drop (front_size format width values) bytes)) (sym own) (subst (IsPackedTail (tail_width_of second format is.tail) is.tail) (sym there) is.packed)

-- Blocks of one length stand at multiples of it.

sum_blocks-same : (size : ℕ) (values : List ℕ) (n : ℕ) → sum_blocks (λ _. size) values n ≡ size * n
sum_blocks-same size values zero = omega arith
sum_blocks-same size values (suc n) = omega (arith, sum_blocks-same size values n)

pub block_start-plain : (width : ℕ) (values : List ℕ) (number : ℕ) → block_start plain width values number ≡ head_len + 8192 * number
block_start-plain width values number = omega (arith, sum_blocks-same 8192 values number)

pub block_start-static : (width : ℕ) (values : List ℕ) (number : ℕ) → block_start static width values number ≡ head_len + 128 * width * number
block_start-static width values number = omega (arith, sum_blocks-same (128 * width) values number)

-- where there is a directory, it says where each whole block starts
pub block_entry : (format : Format) (width : ℕ) (values bytes : List ℕ) (number : ℕ) → IsEncoded second format width values bytes → number < length values / block_values → has_directory second format ≡ true
    → HasEntry bytes number (block_start format width values number)
block_entry format width values bytes number is within listed =
    let blocks = encoded_blocks second format width values bytes is in
    let inside : number < length is.pieces = omega (arith, blocks.many) in
    let head = column_head second (tag_of format) width (tail_width_of second format is.tail) (length values) in
    let behind : drop head_len bytes ≡ directory_of second format is.pieces ++ (piece_bytes is.pieces ++ is.tail_bytes) =
    ap (drop head_len) is.bytes_are ∙ drop_at head (directory_of second format is.pieces ++ (piece_bytes is.pieces ++ is.tail_bytes)) head_len (length-column_head second (tag_of format) width (tail_width_of second format is.tail) (length values)) in
    let found = piece_at format width is.pieces number is.tail is.tail_bytes is.blocks inside in
    let start : get_or (starts_from (first_start second format (length is.pieces)) is.pieces) number 0 ≡ block_start format width values number =
    found.1.start (first_start second format (length is.pieces)) ∙ ap₂ (λ (a b : ℕ). a + b) (ap (first_start second format) blocks.many) (found.1.offset_is ∙ ap (λ (l : List ℕ). sum_blocks (block_size format width) l number) (sym is.values_are)) in
    subst (HasEntry bytes number) start (directory_of-entries second format bytes is.pieces (piece_bytes is.pieces ++ is.tail_bytes) behind number inside listed)
