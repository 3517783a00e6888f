-- Each column has one file in each format, and a file is one column's.
use Rattle.std.proofs.Common.{◌≡◌, ℕ, zero, suc, ◌+◌, Bool, true, false, if◌then◌else◌, ◌*◌, ◌/◌, List, [], ◌∷◌, ◌++◌, length, take, drop, refl, sym, ap, ap₂, ◌∙◌, subst, arith, append_assoc}
use Rattle.std.proofs.lemmas.List.{take-append-drop, length-take, length-drop, nil_from_length}
use Rattle.definitions_blocks.specs.Words.{words_of}
use Rattle.definitions_blocks.specs.Blocks.{block_values, IsFull}
use Rattle.definitions_blocks.specs.Packed.{AreBelow}
use Rattle.definitions_blocks.specs.Formats.{Format, tag_of, BlockOf, IsColumnWidth, FitsFormat, has_static_width}
use Rattle.definitions_blocks.specs.Encodings.{width_of}
use Rattle.definitions_columns.specs.Tails.{IsPackedTail}
use Rattle.definitions_columns.specs.ColumnFiles.{Version, column_head, whole_blocks, static_width_of, has_word_tail, tail_width_of, Piece, ArePieces, piece_values, piece_bytes, starts_from, has_directory, first_start, directory_of, IsEncoded}
use Rattle.definitions_columns.proofs.TailLaws.{IsPackedTail-one, IsPackedTail-some}
use Rattle.definitions_columns.specs.FileLaws.{OneColumn, OneFile, HasFile}
use Rattle.definitions_blocks.proofs.PrefixLaws.{same_front, same_rest}
use Rattle.definitions_blocks.proofs.WidthLaws.{AreBelow-front, AreBelow-rest, AreBelow-words, IsWidth-width_of}
use Rattle.definitions_blocks.proofs.WordListLaws.{words_from}
use Rattle.definitions_blocks.proofs.BlockLaws.{BlockOf-full, BlockOf-one, BlockOf-encoding}
use Rattle.definitions_columns.proofs.ColumnFileLaws.{SameColumn, IsEncoded-one, encoded_length}
use Rattle.definitions_columns.proofs.WidthLaws.{FitsWhere-front, FitsWhere-rest, whole_below, static_width_of-lawful, static_width_of-holds}

pub one_column : OneColumn
one_column version later format other values others bytes is be =
    let same : SameColumn version later format other (static_width_of format values) (static_width_of other others) values others =
    IsEncoded-one version later format other (static_width_of format values) (static_width_of other others) values others bytes is be in
    (same.versions, same.formats, same.lists)

-- A column has one file.

-- what as many pieces as others at the front of the same values tell
record SameBlocks (pieces others : List Piece) (x y : List ℕ) : Type 0 where
  bytes : piece_bytes pieces ≡ piece_bytes others
  starts : (place : ℕ) → starts_from place pieces ≡ starts_from place others
  rests : x ≡ y

same_blocks : (format : Format) (width : ℕ) (pieces others : List Piece) (x y : List ℕ) → ArePieces format width pieces → ArePieces format width others
    → length pieces ≡ length others → piece_values pieces ++ x ≡ piece_values others ++ y → SameBlocks pieces others x y
same_blocks format width [] [] x y are be same e = record { bytes = refl; starts = λ place. refl; rests = e }
same_blocks format width [] (other ∷ others) x y are be same e = absurd (omega (arith, same))
same_blocks format width (piece ∷ pieces) [] x y are be same e = absurd (omega (arith, same))
same_blocks format width (piece ∷ pieces) (other ∷ others) x y are be same e =
    let apart : piece.values ++ (piece_values pieces ++ x) ≡ other.values ++ (piece_values others ++ y) =
    sym (append_assoc piece.values (piece_values pieces) x) ∙ e ∙ append_assoc other.values (piece_values others) y in
    let long : length piece.values ≡ length other.values =
    (BlockOf-full format width piece.values piece.encoding are.0).whole ∙ sym (BlockOf-full format width other.values other.encoding be.0).whole in
    let values : piece.values ≡ other.values = same_front piece.values other.values (piece_values pieces ++ x) (piece_values others ++ y) long apart in
    let first : piece.encoding ≡ other.encoding =
    BlockOf-one format width other.values piece.encoding other.encoding (subst (λ l. BlockOf format width l piece.encoding) values are.0) be.0 in
    let rest : SameBlocks pieces others x y =
    same_blocks format width pieces others x y are.1 be.1 (omega arith) (same_rest piece.values other.values (piece_values pieces ++ x) (piece_values others ++ y) long apart) in
    record {
      bytes = ap₂ (λ (a : List ℕ) (b : List ℕ). a ++ b) first rest.bytes;
      starts = λ place. ap (λ l. place ∷ starts_from (place + length l) pieces) first ∙ ap (λ l. place ∷ l) (rest.starts (place + length other.encoding));
      rests = rest.rests;
    }

-- at any width
pub IsEncoded-one_file : (version : Version) (format : Format) (width : ℕ) (values bytes others : List ℕ) → IsEncoded version format width values bytes → IsEncoded version format width values others → bytes ≡ others
IsEncoded-one_file version format width values bytes others is be =
    let many = encoded_length version format width values bytes is in
    let more = encoded_length version format width values others be in
    let whole : length is.pieces ≡ length be.pieces = omega (arith, many, more, is.short, be.short) in
    let same : SameBlocks is.pieces be.pieces is.tail be.tail =
    same_blocks format width is.pieces be.pieces is.tail be.tail is.blocks be.blocks whole (sym is.values_are ∙ be.values_are) in
    let listed : directory_of version format is.pieces ≡ directory_of version format be.pieces =
    ap₂ (λ (n : ℕ) (l : List ℕ). if has_directory version format then words_of l else []) whole (same.starts (first_start version format (length is.pieces)) ∙ ap (λ n. starts_from (first_start version format n) be.pieces) whole) in
    let tail_width : tail_width_of version format is.tail ≡ tail_width_of version format be.tail = ap (tail_width_of version format) same.rests in
    let tails : is.tail_bytes ≡ be.tail_bytes =
    IsPackedTail-one (tail_width_of version format be.tail) be.tail is.tail_bytes be.tail_bytes
    (subst (λ l. IsPackedTail (tail_width_of version format l) l is.tail_bytes) same.rests is.packed) be.packed in
    let behind : piece_bytes is.pieces ++ is.tail_bytes ≡ piece_bytes be.pieces ++ be.tail_bytes = ap₂ (λ (a : List ℕ) (b : List ℕ). a ++ b) same.bytes tails in
    is.bytes_are
    ∙ ap₂ (λ w (l : List ℕ). column_head version (tag_of format) width w (length values) ++ l) tail_width (ap₂ (λ (a : List ℕ) (b : List ℕ). a ++ b) listed behind)
    ∙ sym be.bytes_are

pub one_file : OneFile
one_file version format values bytes others is be = IsEncoded-one_file version format (static_width_of format values) values bytes others is be

-- A column has a file.

-- whole blocks beside their encodings
record Cut (format : Format) (width : ℕ) (values : List ℕ) : Type 0 where
  pieces : List Piece
  blocks : ArePieces format width pieces
  values_are : values ≡ piece_values pieces

cut : (format : Format) (width number : ℕ) (values : List ℕ) → IsColumnWidth format width → length values ≡ number * block_values → AreBelow 64 values → FitsFormat format width values
    → Cut format width values
cut format width zero values lawful long words fits = record { pieces = []; blocks = tt; values_are = nil_from_length values (omega arith) }
cut format width (suc number) values lawful long words fits =
    let block = take block_values values in
    let rest = drop block_values values in
    let parts : block ++ rest ≡ values = take-append-drop block_values values in
    let all_words : AreBelow 64 (block ++ rest) = subst (AreBelow 64) (sym parts) words in
    let all_fit : FitsFormat format width (block ++ rest) = subst (FitsFormat format width) (sym parts) fits in
    let full : IsFull block = record {
      whole = omega (arith, length-take block_values values, long);
      words = words_from block (AreBelow-front 64 block rest all_words);
    } in
    let encoded = BlockOf-encoding format width block lawful full (FitsWhere-front (has_static_width format) width block rest all_fit) in
    let piece : Piece = record { values = block; encoding = encoded.0 } in
    let others : Cut format width rest =
    cut format width number rest lawful (omega (arith, length-drop block_values values, long)) (AreBelow-rest 64 block rest all_words) (FitsWhere-rest (has_static_width format) width block rest all_fit) in
    record {
      pieces = piece ∷ others.pieces;
      blocks = (encoded.1, others.blocks);
      values_are = sym parts ∙ ap (λ (l : List ℕ). block ++ l) others.values_are;
    }

-- the values of a tail fit its width
tail_where : (words : Bool) (tail : List ℕ) → AreBelow 64 tail → AreBelow (if words then 64 else width_of tail) tail
tail_where true tail small = small
tail_where false tail small = (IsWidth-width_of tail small).holds

pub has_file : HasFile
has_file version format values column =
    let width = static_width_of format values in
    let number = length values / block_values in
    let words : AreBelow 64 values = AreBelow-words values column.words in
    let front : Cut format width (whole_blocks values) =
    cut format width number (whole_blocks values) (static_width_of-lawful format values words) (omega (arith, length-take (number * block_values) values)) (whole_below 64 values words)
    (static_width_of-holds format values words) in
    let tail = drop (number * block_values) values in
    let parts : whole_blocks values ++ tail ≡ values = take-append-drop (number * block_values) values in
    let tail_words : AreBelow 64 tail = AreBelow-rest 64 (whole_blocks values) tail (subst (AreBelow 64) (sym parts) words) in
    let packed = IsPackedTail-some (tail_width_of version format tail) tail (tail_where (has_word_tail version format) tail tail_words) in (
      column_head version (tag_of format) width (tail_width_of version format tail) (length values) ++ (directory_of version format front.pieces ++ (piece_bytes front.pieces ++ packed.0)),
      record {
        column = column;
        pieces = front.pieces;
        tail = tail;
        tail_bytes = packed.0;
        blocks = front.blocks;
        short = omega (arith, length-drop (number * block_values) values);
        packed = packed.1;
        values_are = sym parts ∙ ap (λ (l : List ℕ). l ++ tail) front.values_are;
        bytes_are = refl;
      },
    )
