-- A column's file opens with all its blocks, and bytes that open so, with the least widths and the tail, are a column's file.
use Rattle.std.proofs.Common.{◌≡◌, ℕ, ◌*◌, ◌/◌, ◌%◌, ◌<◌, ◌≤◌, Bool, true, false, if◌then◌else◌, List, [], ◌∷◌, ◌++◌, length, get_or, take, drop, refl, sym, ap, ap₂, ◌∙◌, subst, arith, length-append, append_assoc}
use Rattle.std.specs.List.{AllByRecursion}
use Rattle.std.proofs.lemmas.List.{take_all, take_at, drop_at}
use Rattle.definitions_blocks.specs.Words.{IsWord}
use Rattle.definitions_blocks.specs.Blocks.{block_values}
use Rattle.definitions_blocks.specs.Packed.{AreBelow}
use Rattle.definitions_blocks.specs.Encodings.{width_of}
use Rattle.definitions_blocks.specs.Formats.{Format, tag_of}
use Rattle.definitions_columns.specs.Tails.{IsPackedTail}
use Rattle.definitions_columns.specs.ColumnFiles.{Version, column_head, head_len, whole_blocks, static_width_of, has_word_tail, tail_width_of, Piece, ArePieces, piece_values, piece_bytes, starts_from, first_start, directory_len, directory_of, IsFileOf}
use Rattle.definitions_columns.specs.FileFaults.{IsTailWidthWhere, StartsAt, HasBlocks, asked_width, LacksTail}
use Rattle.definitions_blocks.proofs.WordListLaws.{AreWords-append, words_from}
use Rattle.definitions_blocks.proofs.WidthLaws.{AreBelow-words, AreBelow-wider, width_of-narrow}
use Rattle.definitions_blocks.proofs.BlockLaws.{BlockOf-full}
use Rattle.definitions_columns.proofs.ColumnFileLaws.{length-column_head, length-directory_of, length-piece_values, tail_words, encoded_length, whole_blocks-pieces}
use Rattle.definitions_columns.proofs.WidthLaws.{static_width_of-lawful, static_width_of-blocks}
use Rattle.definitions_columns.proofs.DirectoryLaws.{directory_of-entries, directory_of-from}

pub pieces_words : (format : Format) (width : ℕ) (pieces : List Piece) → ArePieces format width pieces → AllByRecursion IsWord (piece_values pieces)
pieces_words format width [] are = tt
pieces_words format width (piece ∷ pieces) are = AreWords-append piece.values (piece_values pieces) (BlockOf-full format width piece.values piece.encoding are.0).words (pieces_words format width pieces are.1)

-- A file opens with all its blocks.

-- good blocks are whole
whole_blocks-all : (format : Format) (width : ℕ) (pieces : List Piece) → ArePieces format width pieces → whole_blocks (piece_values pieces) ≡ piece_values pieces
whole_blocks-all format width pieces are =
    let long = length-piece_values format width pieces are in
    take_all (length (piece_values pieces) / block_values * block_values) (piece_values pieces) (omega (arith, long))

tail_lawful_where : (words : Bool) (tail : List ℕ) → AreBelow 64 tail → IsTailWidthWhere words (if words then 64 else width_of tail)
tail_lawful_where true tail small = refl
tail_lawful_where false tail small = width_of-narrow tail small

-- what a file opens with
pub record FileOpening (version : Version) (format : Format) (values bytes : List ℕ) : Type 0 where
  pub has : HasBlocks bytes
  pub least : has.opening.width ≡ asked_width has.opening
  pub ends : LacksTail has.opening → ⊥

-- what follows the head of an encoding, and its directory
record Parts (version : Version) (format : Format) (blocks : ℕ) (bytes directory body : List ℕ) : Type 0 where
  behind : drop head_len bytes ≡ directory ++ body
  body_is : drop (first_start version format blocks) bytes ≡ body

parts_of : (version : Version) (format : Format) (blocks : ℕ) (bytes head directory body : List ℕ) → length head ≡ 16 → length directory ≡ directory_len version format blocks
    → bytes ≡ head ++ (directory ++ body) → Parts version format blocks bytes directory body
parts_of version format blocks bytes head directory body sixteen listed are =
    let long : length (head ++ directory) ≡ first_start version format blocks = omega (arith, length-append head directory, sixteen, listed) in
    record {
      behind = ap (drop head_len) are ∙ drop_at head (directory ++ body) head_len sixteen;
      body_is = ap (drop (first_start version format blocks)) (are ∙ sym (append_assoc head directory body)) ∙ drop_at (head ++ directory) body (first_start version format blocks) long;
    }

pub file_opening : (version : Version) (format : Format) (values bytes : List ℕ) → IsFileOf version format values bytes → FileOpening version format values bytes
file_opening version format values bytes is =
    let width = static_width_of format values in
    let tail_width = tail_width_of version format is.tail in
    let long = encoded_length version format width values bytes is in
    let many : length is.pieces ≡ length values / block_values = omega (arith, long, is.short) in
    let blocks : whole_blocks values ≡ whole_blocks (piece_values is.pieces) =
    whole_blocks-pieces version format width values bytes is ∙ sym (whole_blocks-all format width is.pieces is.blocks) in
    let head = column_head version (tag_of format) width tail_width (length values) in
    let body = piece_bytes is.pieces ++ is.tail_bytes in
    let parts : Parts version format (length is.pieces) bytes (directory_of version format is.pieces) body =
    parts_of version format (length is.pieces) bytes head (directory_of version format is.pieces) body
    (length-column_head version (tag_of format) width tail_width (length values)) (length-directory_of version format is.pieces) is.bytes_are in
    let words : AreBelow 64 is.tail = AreBelow-words is.tail (tail_words version format width values bytes is) in
    record {
      has = record {
        opening = record {
          version = version;
          format = format;
          width = width;
          tail_width = tail_width;
          count = length values;
          head = record {
            lawful = static_width_of-lawful format values (AreBelow-words values is.column.words);
            tail_lawful = tail_lawful_where (has_word_tail version format) is.tail words;
            few = is.column.few;
          };
          head_is = is.bytes_are ∙ ap (λ (l : List ℕ). head ++ l) (sym parts.behind);
          pieces = is.pieces;
          blocks = is.blocks;
          rest = is.tail_bytes;
          blocks_are = ap (λ n. drop (first_start version format n) bytes) (sym many) ∙ parts.body_is;
          entries = λ block less. subst (λ n. StartsAt version format bytes block (get_or (starts_from (first_start version format n) is.pieces) block 0)) many
              (directory_of-entries version format bytes is.pieces body parts.behind block less);
        };
        all = many;
      };
      least = static_width_of-blocks format values (piece_values is.pieces) blocks;
      ends = λ lacks. lacks is.tail (omega (arith, long, is.short)) is.packed refl;
    }

-- Bytes that open with all their blocks are a file.

-- a tail is in no whole block
whole_of_front : (front tail : List ℕ) → length front % block_values ≡ 0 → length tail < block_values → whole_blocks (front ++ tail) ≡ whole_blocks front
whole_of_front front tail even short =
    let all : length (front ++ tail) / block_values * block_values ≡ length front = omega (arith, length-append front tail) in
    let here : length front / block_values * block_values ≡ length front = omega arith in
    ap (λ n. take n (front ++ tail)) all ∙ take_at front tail (length front) refl ∙ sym (ap (λ n. take n front) here ∙ take_all (length front) front (omega arith))

-- a tail's values are words
narrow_where : (words : Bool) (tail_width : ℕ) → IsTailWidthWhere words tail_width → tail_width ≤ 64
narrow_where true tail_width lawful = omega (arith, lawful)
narrow_where false tail_width lawful = lawful

-- bytes whose blocks are all good, whose width is the least and whose rest is the tail are a column's file
pub file_of_opening : (bytes : List ℕ) (has : HasBlocks bytes) → has.opening.width ≡ asked_width has.opening
    → (tail : List ℕ) → length tail ≡ has.opening.count % block_values → IsPackedTail has.opening.tail_width tail has.opening.rest
    → has.opening.tail_width ≡ tail_width_of has.opening.version has.opening.format tail
    → IsFileOf has.opening.version has.opening.format (piece_values has.opening.pieces ++ tail) bytes
file_of_opening bytes has least tail tail_long packed tail_least =
    let o = has.opening in
    let values = piece_values o.pieces ++ tail in
    let width = static_width_of o.format values in
    let tail_width = tail_width_of o.version o.format tail in
    let long = length-piece_values o.format o.width o.pieces o.blocks in
    let all : length values ≡ o.count = omega (arith, length-append (piece_values o.pieces) tail, long, tail_long, has.all) in
    let blocks : whole_blocks values ≡ whole_blocks (piece_values o.pieces) = whole_of_front (piece_values o.pieces) tail (omega (arith, long)) (omega (arith, tail_long)) in
    let same : o.width ≡ width = least ∙ sym (static_width_of-blocks o.format values (piece_values o.pieces) blocks) in
    let words : AllByRecursion IsWord tail =
    words_from tail (AreBelow-wider o.tail_width 64 tail (narrow_where (has_word_tail o.version o.format) o.tail_width o.head.tail_lawful) packed.small) in
    let listed : drop head_len bytes ≡ directory_of o.version o.format o.pieces ++ drop (first_start o.version o.format (length o.pieces)) bytes =
    directory_of-from o.version o.format bytes o.pieces
    (subst (λ n. (block : ℕ) → block < length o.pieces → StartsAt o.version o.format bytes block (get_or (starts_from (first_start o.version o.format n) o.pieces) block 0)) (sym has.all) o.entries) in
    record {
      column = record { few = omega (arith, all, o.head.few); words = AreWords-append (piece_values o.pieces) tail (pieces_words o.format o.width o.pieces o.blocks) words };
      pieces = o.pieces;
      tail = tail;
      tail_bytes = o.rest;
      blocks = subst (λ w. ArePieces o.format w o.pieces) same o.blocks;
      short = omega (arith, tail_long);
      packed = subst (λ w. IsPackedTail w tail o.rest) tail_least packed;
      values_are = refl;
      bytes_are =
          o.head_is
          ∙ ap₂ (λ w n. column_head o.version (tag_of o.format) w o.tail_width n ++ drop head_len bytes) same (sym all)
          ∙ ap (λ t. column_head o.version (tag_of o.format) width t (length values) ++ drop head_len bytes) tail_least
          ∙ ap (λ (l : List ℕ). column_head o.version (tag_of o.format) width tail_width (length values) ++ l)
          (listed ∙ ap (λ (l : List ℕ). directory_of o.version o.format o.pieces ++ l) (ap (λ n. drop (first_start o.version o.format n) bytes) has.all ∙ o.blocks_are));
    }
