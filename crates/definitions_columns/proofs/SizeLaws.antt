-- How long files are, and what is within a room.
use Rattle.std.proofs.Common.{◌≡◌, ℕ, suc, ◌+◌, ◌*◌, ◌%◌, ◌≤◌, Bool, true, false, ◌&&◌, nat_le, if◌then◌else◌, List, [], ◌∷◌, ◌++◌, length, refl, sym, ap, ap₂, ◌∙◌, arith, length-append, append_assoc}
use Rattle.std.proofs.lemmas.Bool.Decides.{nat_tests}
use Rattle.definitions_blocks.specs.Blocks.{block_values}
use Rattle.definitions_blocks.specs.Differences.{first_of, delta1_of, delta16_of, least_of, reference_of}
use Rattle.definitions_blocks.specs.Encodings.{IsCascade, IsDynamicBlock}
use Rattle.definitions_blocks.specs.Runs.{IsRunsBlock}
use Rattle.definitions_blocks.specs.Formats.{Format, plain, static, dynamic, runs, delta1_dynamic, delta16_dynamic, reference_dynamic, delta1_runs, tag_of, BlockOf}
use Rattle.definitions_columns.specs.Tails.{packed_len}
use Rattle.definitions_columns.specs.ColumnFiles.{Version, second, column_head, Piece, ArePieces, piece_values, piece_bytes, directory_of, directory_len, has_directory, tail_width_of, IsEncoded, IsColumnFile, static_width_of}
use Rattle.definitions_columns.specs.Sizes.{sum_blocks, dynamic_size, runs_size, block_size, whole_count, blocks_size, front_size, tail_of, file_size, size_of, is_within_room}
use Rattle.definitions_blocks.proofs.PlainLaws.{IsPlainBlock-size}
use Rattle.definitions_blocks.proofs.DynamicLaws.{IsDynamicBlock-size}
use Rattle.definitions_blocks.proofs.RunBlockLaws.{IsRunsBlock-length}
use Rattle.definitions_blocks.proofs.CascadeLaws.{IsCascade-size}
use Rattle.definitions_blocks.proofs.BlockLaws.{BlockOf-full}
use Rattle.definitions_columns.proofs.ColumnFileLaws.{length-column_head, length-directory_of, encoded_length, encoded_tail}
use Rattle.definitions_columns.proofs.BlockSumLaws.{sum_blocks-first, sum_blocks-rise}

cascade_dynamic : (base_of : List ℕ → ℕ) (differences_of : List ℕ → List ℕ) (values bytes : List ℕ) → IsCascade base_of differences_of IsDynamicBlock values bytes → length bytes ≡ 8 + dynamic_size (differences_of values)
cascade_dynamic base_of differences_of values bytes is =
    omega (arith, IsCascade-size base_of differences_of IsDynamicBlock values bytes is, IsDynamicBlock-size (differences_of values) is.inner is.differences)

cascade_runs : (base_of : List ℕ → ℕ) (differences_of : List ℕ → List ℕ) (values bytes : List ℕ) → IsCascade base_of differences_of IsRunsBlock values bytes → length bytes ≡ 8 + runs_size (differences_of values)
cascade_runs base_of differences_of values bytes is =
    omega (arith, IsCascade-size base_of differences_of IsRunsBlock values bytes is, IsRunsBlock-length (differences_of values) is.inner is.differences)

-- an encoding is as long as its block's size
pub BlockOf-size : (format : Format) (width : ℕ) (values bytes : List ℕ) → BlockOf format width values bytes → length bytes ≡ block_size format width values
BlockOf-size plain width values bytes is = IsPlainBlock-size values bytes is
BlockOf-size static width values bytes is = is.size
BlockOf-size dynamic width values bytes is = IsDynamicBlock-size values bytes is
BlockOf-size runs width values bytes is = IsRunsBlock-length values bytes is
BlockOf-size delta1_dynamic width values bytes is = cascade_dynamic first_of delta1_of values bytes is
BlockOf-size delta16_dynamic width values bytes is = cascade_dynamic first_of delta16_of values bytes is
BlockOf-size reference_dynamic width values bytes is = cascade_dynamic least_of reference_of values bytes is
BlockOf-size delta1_runs width values bytes is = cascade_runs first_of delta1_of values bytes is

-- the encodings of pieces are as long as the sizes of their blocks
pub piece_bytes-size : (format : Format) (width : ℕ) (pieces : List Piece) (tail : List ℕ) → ArePieces format width pieces
    → length (piece_bytes pieces) ≡ sum_blocks (block_size format width) (piece_values pieces ++ tail) (length pieces)
piece_bytes-size format width [] tail are = refl
piece_bytes-size format width (piece ∷ pieces) tail are =
    let rest = piece_values pieces ++ tail in
    let full : length piece.values ≡ block_values = (BlockOf-full format width piece.values piece.encoding are.0).whole in
    let first = sum_blocks-first (block_size format width) piece.values rest (length pieces) full in
    let same = ap (λ l. sum_blocks (block_size format width) l (suc (length pieces))) (append_assoc piece.values (piece_values pieces) tail) in
    omega (arith, length-append piece.encoding (piece_bytes pieces), BlockOf-size format width piece.values piece.encoding are.0, piece_bytes-size format width pieces tail are.1, first, same)

-- the whole blocks of an encoding, and their bytes
pub record EncodedBlocks (format : Format) (width : ℕ) (values : List ℕ) (pieces : List Piece) : Type 0 where
  pub many : length pieces ≡ whole_count values
  pub bytes : length (piece_bytes pieces) ≡ blocks_size format width values

pub encoded_blocks : (version : Version) (format : Format) (width : ℕ) (values bytes : List ℕ) → (is : IsEncoded version format width values bytes) → EncodedBlocks format width values is.pieces
encoded_blocks version format width values bytes is =
    let total = encoded_length version format width values bytes is in
    let short = is.short in
    let many : length is.pieces ≡ whole_count values = omega arith in
    record {
      many = many;
      bytes = piece_bytes-size format width is.pieces is.tail is.blocks ∙ ap₂ (λ (l : List ℕ) (n : ℕ). sum_blocks (block_size format width) l n) (sym is.values_are) many;
    }

-- a file at a width is as long as its size
pub IsEncoded-size : (format : Format) (width : ℕ) (values bytes : List ℕ) → IsEncoded second format width values bytes → length bytes ≡ file_size format width values
IsEncoded-size format width values bytes is =
    let total = encoded_length second format width values bytes is in
    let short = is.short in
    let blocks = encoded_blocks second format width values bytes is in
    let head = column_head second (tag_of format) width (tail_width_of second format is.tail) (length values) in
    let rest : length is.tail ≡ length values % block_values = omega arith in
    let listed : length (directory_of second format is.pieces) ≡ directory_len second format (whole_count values) = length-directory_of second format is.pieces ∙ ap (directory_len second format) blocks.many in
    let tail : length is.tail_bytes ≡ packed_len (length values % block_values) (tail_width_of second format (tail_of values)) =
    is.packed.size ∙ ap₂ (λ (n : ℕ) (l : List ℕ). packed_len n (tail_width_of second format l)) rest (sym (encoded_tail second format width values bytes is)) in
    omega (
      arith,
      ap length is.bytes_are,
      length-append head (directory_of second format is.pieces ++ (piece_bytes is.pieces ++ is.tail_bytes)),
      length-column_head second (tag_of format) width (tail_width_of second format is.tail) (length values),
      length-append (directory_of second format is.pieces) (piece_bytes is.pieces ++ is.tail_bytes),
      length-append (piece_bytes is.pieces) is.tail_bytes,
      listed,
      tail,
      blocks.bytes,
    )

-- a column's file in a format is as long as its size there
pub IsColumnFile-size : (format : Format) (values bytes : List ℕ) → IsColumnFile format values bytes → length bytes ≡ size_of format values
IsColumnFile-size format values bytes is = IsEncoded-size format (static_width_of format values) values bytes is

directory_rises : (listed : Bool) (n m : ℕ) → n ≤ m → (if listed then 8 * n else 0) ≤ (if listed then 8 * m else 0)
directory_rises true n m few = omega (arith, few)
directory_rises false n m few = omega arith

-- what is within a room is so in its prefixes
pub is_within_room-front : (format : Format) (width bytes count : ℕ) (values rest : List ℕ) → is_within_room format width bytes count (values ++ rest) ≡ true → is_within_room format width bytes count values ≡ true
is_within_room-front format width bytes count values rest holds =
    let rise = sum_blocks-rise (block_size format width) values rest in
    let long = length-append values rest in
    let listed = directory_rises (has_directory second format) (whole_count values) (whole_count (values ++ rest)) (omega (arith, long)) in
    grind (arith, nat_tests)

-- what the test of a room says
pub record IsInRoom (format : Format) (width bytes count : ℕ) (values : List ℕ) : Type 0 where
  pub fits : front_size format width values ≤ bytes
  pub few : length values ≤ count

pub in_room : (format : Format) (width bytes count : ℕ) (values : List ℕ) → is_within_room format width bytes count values ≡ true → IsInRoom format width bytes count values
in_room format width bytes count values holds =
    let test : nat_le (front_size format width values) bytes && nat_le (length values) count ≡ true = holds in
    record {
      fits = grind (arith, nat_tests);
      few = grind (arith, nat_tests);
    }

-- where a list's file is within a room, its front is
pub within_room : (format : Format) (width bytes count : ℕ) (values : List ℕ) → file_size format width values ≤ bytes → length values ≤ count → is_within_room format width bytes count values ≡ true
within_room format width bytes count values fits few =
    let front : front_size format width values ≤ bytes = omega arith in
    grind (arith, nat_tests)
