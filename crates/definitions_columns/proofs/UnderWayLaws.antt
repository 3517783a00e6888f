-- How a column grows block by block, and how it becomes a file.
use Rattle.std.proofs.Common.{◌≡◌, ℕ, ◌+◌, ◌*◌, ◌<◌, ◌≤◌, Bool, true, false, List, [], ◌∷◌, ◌++◌, length, drop, if◌then◌else◌, refl, sym, ap, ap₂, ◌∙◌, subst, arith, length-append}
use Rattle.std.specs.List.{AllByRecursion}
use Rattle.std.proofs.lemmas.List.{append-nil, drop-append-le, nil_from_length, length-drop}
use Rattle.definitions_blocks.specs.Words.{IsWord, words_of}
use Rattle.definitions_blocks.specs.Columns.{max_rows}
use Rattle.definitions_blocks.specs.Blocks.{block_values, IsFull}
use Rattle.definitions_blocks.specs.Formats.{Format, tag_of, BlockOf}
use Rattle.definitions_columns.specs.Tails.{IsPackedTail}
use Rattle.definitions_columns.specs.ColumnFiles.{second, column_head, head_len, has_directory, directory_of, tail_width_of, Piece, piece_values, piece_bytes, starts_from, IsEncoded}
use Rattle.definitions_columns.specs.Sizes.{whole_count, blocks_size, block_size, sum_blocks}
use Rattle.definitions_columns.specs.UnderWay.{AreBlocks, moved_up}
use Rattle.definitions_blocks.proofs.WordListLaws.{AreWords-append}
use Rattle.definitions_blocks.proofs.BlockLaws.{BlockOf-full}
use Rattle.definitions_columns.proofs.ColumnFileLaws.{length-piece_values, length-starts_from, SamePieces, pieces_front}
use Rattle.definitions_columns.proofs.PieceLaws.{piece_values-push, piece_bytes-push, ArePieces-push, starts_from-push}
use Rattle.definitions_columns.proofs.OpeningLaws.{pieces_words}
use Rattle.definitions_columns.proofs.SizeLaws.{piece_bytes-size}

-- how many blocks, values and bytes there are
pub record UnderWayCounts (format : Format) (width : ℕ) (values bytes starts : List ℕ) (pieces : List Piece) : Type 0 where
  pub many : length starts ≡ length pieces
  pub whole : length values ≡ length pieces * block_values
  pub blocks : length pieces ≡ whole_count values
  pub size : length bytes ≡ head_len + length (piece_bytes pieces)
  pub sized : length (piece_bytes pieces) ≡ blocks_size format width values

pub under_way_counts : (format : Format) (width : ℕ) (values bytes starts : List ℕ) (are : AreBlocks format width values bytes starts) → UnderWayCounts format width values bytes starts are.pieces
under_way_counts format width values bytes starts are =
    let whole : length values ≡ length are.pieces * block_values = ap length are.values_are ∙ length-piece_values format width are.pieces are.blocks in
    let blocks : length are.pieces ≡ whole_count values = omega (arith, whole) in
    let same : piece_values are.pieces ++ [] ≡ values = append-nil (piece_values are.pieces) ∙ sym are.values_are in
    record {
      many = ap length are.starts_are ∙ length-starts_from head_len are.pieces;
      whole = whole;
      blocks = blocks;
      size = let long = are.long in omega (arith, length-drop head_len bytes, ap length are.bytes_are);
      sized = piece_bytes-size format width are.pieces [] are.blocks ∙ ap₂ (λ (l : List ℕ) (n : ℕ). sum_blocks (block_size format width) l n) same blocks;
    }

-- bytes and starts are one list at most
pub AreBlocks-one : (format : Format) (width : ℕ) (values others bytes starts : List ℕ) → AreBlocks format width values bytes starts → AreBlocks format width others bytes starts → values ≡ others
AreBlocks-one format width values others bytes starts are be =
    let a = under_way_counts format width values bytes starts are in
    let b = under_way_counts format width others bytes starts be in
    let e : piece_bytes are.pieces ++ [] ≡ piece_bytes be.pieces ++ [] = append-nil (piece_bytes are.pieces) ∙ sym are.bytes_are ∙ be.bytes_are ∙ sym (append-nil (piece_bytes be.pieces)) in
    let same : SamePieces are.pieces be.pieces [] [] = pieces_front format width are.pieces be.pieces [] [] are.blocks be.blocks (sym a.many ∙ b.many) e in
    are.values_are ∙ same.values ∙ sym be.values_are

-- no blocks yet
pub AreBlocks-none : (format : Format) (width : ℕ) (bytes : List ℕ) → length bytes ≡ head_len → AreBlocks format width [] bytes []
AreBlocks-none format width bytes size = record {
  few = omega arith;
  pieces = [];
  blocks = tt;
  values_are = refl;
  long = omega (arith, size);
  bytes_are = nil_from_length (drop head_len bytes) (omega (arith, size, length-drop head_len bytes));
  starts_are = refl;
}

-- a block more
pub AreBlocks-push : (format : Format) (width : ℕ) (values bytes starts block encoding : List ℕ) → AreBlocks format width values bytes starts → length values + block_values ≤ max_rows → BlockOf format width block encoding
    → AreBlocks format width (values ++ block) (bytes ++ encoding) (starts ++ length bytes ∷ [])
AreBlocks-push format width values bytes starts block encoding are few encoded =
    let piece : Piece = record { values = block; encoding = encoding } in
    let count = under_way_counts format width values bytes starts are in
    let full : IsFull block = BlockOf-full format width block encoding encoded in
    record {
      few = omega (arith, length-append values block, full.whole, few);
      pieces = are.pieces ++ piece ∷ [];
      blocks = ArePieces-push format width are.pieces piece are.blocks encoded;
      values_are = ap (λ l. l ++ block) are.values_are ∙ sym (piece_values-push are.pieces piece);
      long = let long = are.long in omega (arith, length-append bytes encoding);
      bytes_are = drop-append-le head_len bytes encoding are.long ∙ ap (λ l. l ++ encoding) are.bytes_are ∙ sym (piece_bytes-push are.pieces piece);
      starts_are = ap₂ (λ (l : List ℕ) (n : ℕ). l ++ n ∷ []) are.starts_are count.size ∙ sym (starts_from-push head_len are.pieces piece);
    }

-- starts that are moved up
starts_from-moved_up : (place shift : ℕ) (pieces : List Piece) → moved_up shift (starts_from place pieces) ≡ starts_from (place + shift) pieces
starts_from-moved_up place shift [] = refl
starts_from-moved_up place shift (piece ∷ pieces) =
    let next : place + length piece.encoding + shift ≡ place + shift + length piece.encoding = omega arith in
    ap (λ l. (place + shift) ∷ l) (starts_from-moved_up (place + length piece.encoding) shift pieces ∙ ap (λ n. starts_from n pieces) next)

directory_where : (listed : Bool) (starts : List ℕ) (blocks : ℕ) (pieces : List Piece) → starts ≡ starts_from head_len pieces → blocks ≡ length pieces
    → (if listed then words_of (moved_up (8 * blocks) starts) else []) ≡ (if listed then words_of (starts_from (head_len + (if listed then 8 * length pieces else 0)) pieces) else [])
directory_where true starts blocks pieces are many =
    ap words_of (ap₂ (λ (n : ℕ) (l : List ℕ). moved_up (8 * n) l) many are ∙ starts_from-moved_up head_len (8 * length pieces) pieces)
directory_where false starts blocks pieces are many = refl

-- the blocks, their starts moved up behind a head, and a tail are a file
pub AreBlocks-file : (format : Format) (width : ℕ) (values bytes starts tail tail_bytes : List ℕ) → AreBlocks format width values bytes starts → length values + length tail ≤ max_rows → length tail < block_values
    → AllByRecursion IsWord tail → IsPackedTail (tail_width_of second format tail) tail tail_bytes
    → IsEncoded second format width (values ++ tail) (column_head second (tag_of format) width (tail_width_of second format tail) (length (values ++ tail))
    ++ ((if has_directory second format then words_of (moved_up (8 * length starts) starts) else []) ++ (drop head_len bytes ++ tail_bytes)))
AreBlocks-file format width values bytes starts tail tail_bytes are few short words packed =
    let count = under_way_counts format width values bytes starts are in
    let head = column_head second (tag_of format) width (tail_width_of second format tail) (length (values ++ tail)) in
    let listed : (if has_directory second format then words_of (moved_up (8 * length starts) starts) else []) ≡ directory_of second format are.pieces =
    directory_where (has_directory second format) starts (length starts) are.pieces are.starts_are count.many in
    record {
      column = record {
        few = omega (arith, length-append values tail, few);
        words = AreWords-append values tail (subst (AllByRecursion IsWord) (sym are.values_are) (pieces_words format width are.pieces are.blocks)) words;
      };
      pieces = are.pieces;
      tail = tail;
      tail_bytes = tail_bytes;
      blocks = are.blocks;
      short = short;
      packed = packed;
      values_are = ap (λ l. l ++ tail) are.values_are;
      bytes_are = ap (λ (l : List ℕ). head ++ l) (ap₂ (λ (a b : List ℕ). a ++ b) listed (ap (λ l. l ++ tail_bytes) are.bytes_are));
    }
