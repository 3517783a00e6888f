-- One piece more behind the others.
use Rattle.std.proofs.Common.{◌≡◌, ℕ, ◌+◌, List, [], ◌∷◌, ◌++◌, length, sym, ap, ◌∙◌, arith, length-append, append_assoc}
use Rattle.std.proofs.lemmas.List.{append-nil}
use Rattle.definitions_blocks.specs.Formats.{Format, BlockOf}
use Rattle.definitions_columns.specs.ColumnFiles.{Piece, ArePieces, piece_values, piece_bytes, starts_from}

pub piece_values-push : (pieces : List Piece) (piece : Piece) → piece_values (pieces ++ piece ∷ []) ≡ piece_values pieces ++ piece.values
piece_values-push [] piece = append-nil piece.values
piece_values-push (other ∷ pieces) piece = ap (λ l. other.values ++ l) (piece_values-push pieces piece) ∙ sym (append_assoc other.values (piece_values pieces) piece.values)

pub piece_bytes-push : (pieces : List Piece) (piece : Piece) → piece_bytes (pieces ++ piece ∷ []) ≡ piece_bytes pieces ++ piece.encoding
piece_bytes-push [] piece = append-nil piece.encoding
piece_bytes-push (other ∷ pieces) piece = ap (λ l. other.encoding ++ l) (piece_bytes-push pieces piece) ∙ sym (append_assoc other.encoding (piece_bytes pieces) piece.encoding)

pub ArePieces-push : (format : Format) (width : ℕ) (pieces : List Piece) (piece : Piece) → ArePieces format width pieces → BlockOf format width piece.values piece.encoding → ArePieces format width (pieces ++ piece ∷ [])
ArePieces-push format width [] piece are is = (is, tt)
ArePieces-push format width (other ∷ pieces) piece are is = (are.0, ArePieces-push format width pieces piece are.1 is)

pub starts_from-push : (place : ℕ) (pieces : List Piece) (piece : Piece) → starts_from place (pieces ++ piece ∷ []) ≡ starts_from place pieces ++ (place + length (piece_bytes pieces)) ∷ []
starts_from-push place [] piece = let e : place ≡ place + 0 = omega arith in ap (λ n. n ∷ []) e
starts_from-push place (other ∷ pieces) piece =
    let e : place + length other.encoding + length (piece_bytes pieces) ≡ place + length (piece_bytes (other ∷ pieces)) = omega (arith, length-append other.encoding (piece_bytes pieces)) in
    ap (λ l. place ∷ l) (starts_from-push (place + length other.encoding) pieces piece ∙ ap (λ n. starts_from (place + length other.encoding) pieces ++ n ∷ []) e)
