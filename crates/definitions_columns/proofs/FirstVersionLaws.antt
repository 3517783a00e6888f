-- The parts of a file of the first version, and where its blocks start.
use Rattle.std.proofs.Common.{◌≡◌, ℕ, ◌+◌, ◌*◌, ◌/◌, ◌%◌, ◌<◌, ◌≤◌, List, [], ◌∷◌, ◌++◌, length, take, drop, refl, sym, ap, ap₂, ◌∙◌, subst, arith, length-append, append_assoc}
use Rattle.std.proofs.Math.Seq.{drop-append_seam, drop-append-add, take-append_seam}
use Rattle.std.proofs.lemmas.List.{take-append-drop, drop_at, append-nil, length-take}
use Rattle.definitions_blocks.specs.Blocks.{block_values}
use Rattle.definitions_blocks.specs.Formats.{Format, tag_of, BlockOf, BeginsWithBlock}
use Rattle.definitions_columns.specs.Tails.{IsPackedTail, packed_len}
use Rattle.definitions_columns.specs.ColumnFiles.{first, column_head, head_len, whole_blocks, Piece, ArePieces, piece_bytes, starts_from, IsEncoded}
use Rattle.definitions_columns.specs.Sizes.{tail_of}
use Rattle.definitions_columns.specs.UnderWay.{AreBlocks}
use Rattle.definitions_blocks.proofs.BlockLaws.{BlockOf-front}
use Rattle.definitions_columns.proofs.ColumnFileLaws.{length-column_head, encoded_length, encoded_tail, whole_blocks-pieces}
use Rattle.definitions_columns.proofs.PieceLaws.{starts_from-push, piece_bytes-push}

-- the whole blocks stand in front, and the values after them as words behind
pub record FirstParts (format : Format) (width : ℕ) (values bytes starts : List ℕ) (front : ℕ) : Type 0 where
  pub within : front ≤ length bytes
  pub blocks : AreBlocks format width (whole_blocks values) (take front bytes) starts
  pub tail : IsPackedTail 64 (tail_of values) (drop front bytes)
  pub values_are : values ≡ whole_blocks values ++ tail_of values
  pub few : length (tail_of values) ≡ length values % block_values

pub first_parts : (format : Format) (width : ℕ) (values bytes : List ℕ) (is : IsEncoded first format width values bytes) (front : ℕ) → front + packed_len (length values % block_values) 64 ≡ length bytes
    → FirstParts format width values bytes (starts_from head_len is.pieces) front
first_parts format width values bytes is front size =
    let head = column_head first (tag_of format) width 64 (length values) in
    let long = encoded_length first format width values bytes is in
    let short = is.short in
    let blocks = head ++ piece_bytes is.pieces in
    let bytes_are : bytes ≡ blocks ++ is.tail_bytes = is.bytes_are ∙ sym (append_assoc head (piece_bytes is.pieces) is.tail_bytes) in
    let rest : length is.tail ≡ length values % block_values = omega arith in
    let tail_size : length is.tail_bytes ≡ packed_len (length values % block_values) 64 = is.packed.size ∙ ap (λ n. packed_len n 64) rest in
    let there : front ≡ length blocks = omega (arith, ap length bytes_are, length-append blocks is.tail_bytes) in
    let front_is : take front bytes ≡ blocks = ap₂ (λ n l. take n l) there bytes_are ∙ take-append_seam blocks is.tail_bytes in
    let back_is : drop front bytes ≡ is.tail_bytes = ap₂ (λ n l. drop n l) there bytes_are ∙ drop-append_seam blocks is.tail_bytes in
    let whole = whole_blocks-pieces first format width values bytes is in
    let own = encoded_tail first format width values bytes is in
    let head_long = length-column_head first (tag_of format) width 64 (length values) in
    let behind : drop head_len (take front bytes) ≡ piece_bytes is.pieces = ap (drop head_len) front_is ∙ drop_at head (piece_bytes is.pieces) head_len head_long in
    record {
      within = omega (arith, size);
      blocks = record {
        few = let few = is.column.few in omega (arith, length-take (length values / block_values * block_values) values);
        pieces = is.pieces;
        blocks = is.blocks;
        values_are = whole;
        long = omega (arith, ap length front_is, length-append head (piece_bytes is.pieces), head_long);
        bytes_are = behind;
        starts_are = refl;
      };
      tail = subst (λ l. IsPackedTail 64 l (drop front bytes)) (sym own) (subst (IsPackedTail 64 is.tail) (sym back_is) is.packed);
      values_are = is.values_are ∙ ap₂ (λ (a b : List ℕ). a ++ b) (sym whole) (sym own);
      few = ap length own ∙ rest;
    }

-- the values after the last whole block stand within the bytes
pub first_tail_within : (format : Format) (width : ℕ) (values bytes : List ℕ) → IsEncoded first format width values bytes → packed_len (length values % block_values) 64 ≤ length bytes
first_tail_within format width values bytes is =
    let head = column_head first (tag_of format) width 64 (length values) in
    let long = encoded_length first format width values bytes is in
    let short = is.short in
    let rest : length is.tail ≡ length values % block_values = omega arith in
    let size : length is.tail_bytes ≡ packed_len (length values % block_values) 64 = is.packed.size ∙ ap (λ n. packed_len n 64) rest in
    omega (arith, size, ap length is.bytes_are, length-append head (piece_bytes is.pieces ++ is.tail_bytes), length-append (piece_bytes is.pieces) is.tail_bytes)

-- so many blocks were gone over, up to this place, and this is where they start
pub record GoneOver (pieces : List Piece) (number place : ℕ) (starts : List ℕ) : Type 0 where
  pub before : List Piece
  pub after : List Piece
  pub parts : pieces ≡ before ++ after
  pub many : length before ≡ number
  pub place_is : place ≡ head_len + length (piece_bytes before)
  pub starts_are : starts ≡ starts_from head_len before

pub gone_over_none : (pieces : List Piece) → GoneOver pieces 0 head_len []
gone_over_none pieces = record { before = []; after = pieces; parts = refl; many = refl; place_is = refl; starts_are = refl }

pub gone_over_all : (pieces : List Piece) (place : ℕ) (starts : List ℕ) → GoneOver pieces (length pieces) place starts → starts ≡ starts_from head_len pieces
gone_over_all pieces place starts gone = gone.starts_are ∙ ap (starts_from head_len) (all gone.before gone.after pieces gone.parts gone.many)
  where
    all : (before after pieces : List Piece) → pieces ≡ before ++ after → length before ≡ length pieces → before ≡ pieces
    all before [] pieces parts many = sym (append-nil before) ∙ sym parts
    all before (piece ∷ after) pieces parts many = absurd (omega (arith, many, ap length parts, length-append before (piece ∷ after)))

-- the block that follows those that were gone over
pub record NextPiece (format : Format) (width : ℕ) (pieces : List Piece) (number place : ℕ) (starts rest : List ℕ) : Type 0 where
  pub values : List ℕ
  pub encoding : List ℕ
  pub behind : List ℕ
  pub block : BlockOf format width values encoding
  pub rest_is : rest ≡ encoding ++ behind
  pub next : GoneOver pieces (number + 1) (place + length encoding) (starts ++ place ∷ [])

next_piece : (format : Format) (width : ℕ) (pieces before after : List Piece) (number place : ℕ) (starts behind rest : List ℕ) → ArePieces format width after → pieces ≡ before ++ after → length before ≡ number
    → number < length pieces → place ≡ head_len + length (piece_bytes before) → starts ≡ starts_from head_len before → rest ≡ piece_bytes after ++ behind → NextPiece format width pieces number place starts rest
next_piece format width pieces before [] number place starts behind rest are parts many more place_is starts_are rest_is = absurd (omega (arith, many, more, ap length parts, length-append before []))
next_piece format width pieces before (piece ∷ after) number place starts behind rest are parts many more place_is starts_are rest_is = record {
  values = piece.values;
  encoding = piece.encoding;
  behind = piece_bytes after ++ behind;
  block = are.0;
  rest_is = rest_is ∙ append_assoc piece.encoding (piece_bytes after) behind;
  next = record {
    before = before ++ piece ∷ [];
    after = after;
    parts = parts ∙ sym (append_assoc before (piece ∷ []) after);
    many = omega (arith, many, length-append before (piece ∷ []));
    place_is = omega (arith, place_is, ap length (piece_bytes-push before piece), length-append (piece_bytes before) piece.encoding);
    starts_are = ap₂ (λ (l : List ℕ) (n : ℕ). l ++ n ∷ []) starts_are place_is ∙ sym (starts_from-push head_len before piece);
  };
}

ArePieces-behind : (format : Format) (width : ℕ) (before after : List Piece) → ArePieces format width (before ++ after) → ArePieces format width after
ArePieces-behind format width [] after are = are
ArePieces-behind format width (piece ∷ before) after are = ArePieces-behind format width before after are.1

piece_bytes-append : (before after : List Piece) → piece_bytes (before ++ after) ≡ piece_bytes before ++ piece_bytes after
piece_bytes-append [] after = refl
piece_bytes-append (piece ∷ before) after = ap (λ l. piece.encoding ++ l) (piece_bytes-append before after) ∙ sym (append_assoc piece.encoding (piece_bytes before) (piece_bytes after))

pub next_block : (format : Format) (width : ℕ) (values bytes : List ℕ) (is : IsEncoded first format width values bytes) (number place : ℕ) (starts : List ℕ) → GoneOver is.pieces number place starts
    → number < length values / block_values → NextPiece format width is.pieces number place starts (drop place bytes)
next_block format width values bytes is number place starts gone more =
    let head = column_head first (tag_of format) width 64 (length values) in
    let long = encoded_length first format width values bytes is in
    let short = is.short in
    let inside : number < length is.pieces = omega arith in
    let before = piece_bytes gone.before in
    let body : piece_bytes is.pieces ++ is.tail_bytes ≡ before ++ (piece_bytes gone.after ++ is.tail_bytes) =
    ap (λ ps. piece_bytes ps ++ is.tail_bytes) gone.parts ∙ ap (λ (l : List ℕ). l ++ is.tail_bytes) (piece_bytes-append gone.before gone.after) ∙ append_assoc before (piece_bytes gone.after) is.tail_bytes in
    let bytes_are : bytes ≡ head ++ (before ++ (piece_bytes gone.after ++ is.tail_bytes)) = is.bytes_are ∙ ap (λ (l : List ℕ). head ++ l) body in
    let there : place ≡ length head + length before = gone.place_is ∙ omega (arith, length-column_head first (tag_of format) width 64 (length values)) in
    let rest_is : drop place bytes ≡ piece_bytes gone.after ++ is.tail_bytes =
    ap₂ (λ n l. drop n l) there bytes_are ∙ drop-append-add head (before ++ (piece_bytes gone.after ++ is.tail_bytes)) (length before) ∙ drop-append_seam before (piece_bytes gone.after ++ is.tail_bytes) in
    next_piece format width is.pieces gone.before gone.after number place starts is.tail_bytes (drop place bytes)
    (ArePieces-behind format width gone.before gone.after (subst (ArePieces format width) gone.parts is.blocks)) gone.parts gone.many inside gone.place_is gone.starts_are rest_is

-- the block that a check finds there is that one
pub found_block : (format : Format) (width : ℕ) (pieces : List Piece) (number place count : ℕ) (starts rest : List ℕ) → NextPiece format width pieces number place starts rest → BeginsWithBlock format width rest count
    → GoneOver pieces (number + 1) (place + count) (starts ++ place ∷ [])
found_block format width pieces number place count starts rest at found =
    let same = BlockOf-front format width found.values at.values (take count rest) at.encoding (drop count rest) at.behind found.encoded at.block (take-append-drop count rest ∙ at.rest_is) in
    let size : length at.encoding ≡ count = sym (ap length same.0) ∙ length_taken count rest found.within in
    subst (λ n. GoneOver pieces (number + 1) (place + n) (starts ++ place ∷ [])) size at.next
  where
    length_taken : (n : ℕ) (l : List ℕ) → n ≤ length l → length (take n l) ≡ n
    length_taken n l within = omega (arith, within, length-take n l)

-- the blocks that were gone over stand within the bytes
pub gone_within : (format : Format) (width : ℕ) (values bytes : List ℕ) (is : IsEncoded first format width values bytes) (number place : ℕ) (starts : List ℕ) → GoneOver is.pieces number place starts → place ≤ length bytes
gone_within format width values bytes is number place starts gone =
    let head = column_head first (tag_of format) width 64 (length values) in
    omega (
      arith,
      gone.place_is,
      ap length is.bytes_are,
      length-append head (piece_bytes is.pieces ++ is.tail_bytes),
      length-column_head first (tag_of format) width 64 (length values),
      length-append (piece_bytes is.pieces) is.tail_bytes,
      ap (λ ps. length (piece_bytes ps)) gone.parts,
      ap length (piece_bytes-append gone.before gone.after),
      length-append (piece_bytes gone.before) (piece_bytes gone.after),
    )

-- bytes that are gone over next begin with a block
pub next_begins : (format : Format) (width : ℕ) (pieces : List Piece) (number place : ℕ) (starts rest : List ℕ) → NextPiece format width pieces number place starts rest → (count : ℕ) × BeginsWithBlock format width rest count
next_begins format width pieces number place starts rest at =
    let front : take (length at.encoding) rest ≡ at.encoding = ap (take (length at.encoding)) at.rest_is ∙ take-append_seam at.encoding at.behind in (
      length at.encoding,
      record {
        values = at.values;
        encoded = subst (BlockOf format width at.values) (sym front) at.block;
        within = omega (arith, ap length at.rest_is, length-append at.encoding at.behind);
      },
    )
