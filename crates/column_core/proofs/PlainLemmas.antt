-- The file of a plain column is its head and the words of its values.
use Rattle.std.proofs.Common.{◌≡◌, ℕ, List, [], ◌∷◌, ◌++◌, length, drop, refl, sym, ap, ap₂, ◌∙◌}
use Rattle.std.proofs.lemmas.Grind.{flat_map-append}
use Rattle.std.proofs.lemmas.List.{drop_at}
use Rattle.definitions_blocks.specs.Words.{word_bytes, words_of}
use Rattle.definitions_blocks.specs.Formats.{plain, tag_of}
use Rattle.definitions_columns.specs.ColumnFiles.{second, column_head, Piece, ArePieces, piece_values, piece_bytes, IsEncoded}
use Rattle.definitions_columns.proofs.ColumnFileLaws.{length-column_head, tail_words}
use Rattle.definitions_columns.proofs.TailLaws.{IsPackedTail-one, IsPackedTail-words}

plain_pieces : (width : ℕ) (pieces : List Piece) → ArePieces plain width pieces → piece_bytes pieces ≡ words_of (piece_values pieces)
plain_pieces width [] are = refl
plain_pieces width (piece ∷ pieces) are =
    ap₂ (λ (a : List ℕ) (b : List ℕ). a ++ b) are.0.encoded (plain_pieces width pieces are.1) ∙ sym (flat_map-append word_bytes piece.values (piece_values pieces))

pub plain_words : (width : ℕ) (values bytes : List ℕ) → IsEncoded second plain width values bytes → drop 16 bytes ≡ words_of values
plain_words width values bytes is =
    let head = column_head second (tag_of plain) width 64 (length values) in
    let tail : is.tail_bytes ≡ words_of is.tail = IsPackedTail-one 64 is.tail is.tail_bytes (words_of is.tail) is.packed (IsPackedTail-words is.tail (tail_words second plain width values bytes is)) in
    let all : piece_bytes is.pieces ++ is.tail_bytes ≡ words_of values =
    ap₂ (λ (a b : List ℕ). a ++ b) (plain_pieces width is.pieces is.blocks) tail ∙ sym (flat_map-append word_bytes (piece_values is.pieces) is.tail) ∙ ap words_of (sym is.values_are) in
    ap (drop 16) is.bytes_are ∙ drop_at head (piece_bytes is.pieces ++ is.tail_bytes) 16 (length-column_head second (tag_of plain) width 64 (length values)) ∙ all
