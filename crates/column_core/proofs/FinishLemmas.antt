-- The file that blocks and a tail become, and the room for it.
use Rattle.std.proofs.Common.{◌≡◌, ℕ, suc, zero, ◌+◌, ◌*◌, ◌/◌, ◌%◌, ◌<◌, ◌≤◌, Bool, true, false, if◌then◌else◌, List, [], ◌∷◌, ◌++◌, length, take, drop, get_or, refl, sym, ap, ap₂, ◌∙◌, subst, arith, length-append, append_assoc}
use Rattle.std.specs.List.{AllByRecursion}
use Rattle.std.proofs.lemmas.List.{take_at, drop_at, take_all, length-take, take-append-drop}
use Rattle.definitions_blocks.specs.Words.{IsWord, words_of}
use Rattle.definitions_blocks.specs.Columns.{max_rows}
use Rattle.definitions_blocks.specs.Blocks.{block_values, block_at}
use Rattle.definitions_blocks.specs.Formats.{Format, tag_of}
use Rattle.definitions_columns.specs.Tails.{IsPackedTail, packed_len}
use Rattle.definitions_columns.specs.ColumnFiles.{second, column_head, head_len, has_directory, directory_len, tail_width_of, Piece, piece_bytes, starts_from, whole_blocks, static_width_of, IsEncoded, IsColumnFile}
use Rattle.definitions_columns.specs.UnderWay.{AreBlocks, moved_up}
use Rattle.definitions_columns.specs.Sizes.{block_size, whole_count, tail_of, file_size}
use Rattle.definitions_blocks.proofs.WordLaws.{length-words_of}
use Rattle.definitions_columns.proofs.WidthLaws.{static_width_of-blocks}
use Rattle.definitions_columns.proofs.BlockSumLaws.{sum_blocks-tail}
use Rattle.definitions_columns.proofs.UnderWayLaws.{under_way_counts, AreBlocks-file}
use Rattle.column_core.proofs.FileLemmas.{length-moved_up}

start_within : (place : ℕ) (pieces : List Piece) (block : ℕ) → get_or (starts_from place pieces) block 0 ≤ place + length (piece_bytes pieces)
start_within place [] block = omega arith
start_within place (piece ∷ pieces) zero = omega arith
start_within place (piece ∷ pieces) (suc block) =
    omega (arith, start_within (place + length piece.encoding) pieces block, length-append piece.encoding (piece_bytes pieces))

-- a block starts within the bytes
pub starts_within : (format : Format) (width : ℕ) (values bytes starts : List ℕ) → AreBlocks format width values bytes starts → (block : ℕ) → get_or starts block 0 ≤ length bytes
starts_within format width values bytes starts are block =
    let count = under_way_counts format width values bytes starts are in
    subst (λ l. get_or l block 0 ≤ length bytes) (sym are.starts_are) (omega (arith, start_within head_len are.pieces block, count.size))

-- the tail of a list of whole blocks and a tail
pub tail_behind : (values tail : List ℕ) → length values % block_values ≡ 0 → length tail < block_values → tail_of (values ++ tail) ≡ tail
tail_behind values tail whole short =
    let place : whole_count (values ++ tail) * block_values ≡ length values = omega (arith, length-append values tail) in
    ap (take block_values) (drop_at values tail (whole_count (values ++ tail) * block_values) (sym place)) ∙ take_all block_values tail (omega (arith, short))

-- how long the file is, by its parts
pub finished_size : (format : Format) (width : ℕ) (values bytes starts tail : List ℕ) → AreBlocks format width values bytes starts → length tail < block_values
    → file_size format width (values ++ tail) ≡ length bytes + (if has_directory second format then 8 * length starts else 0) + packed_len (length tail) (tail_width_of second format tail)
finished_size format width values bytes starts tail are short =
    let count = under_way_counts format width values bytes starts are in
    let whole : length values % block_values ≡ 0 = omega (arith, count.whole) in
    let same = sum_blocks-tail (block_size format width) values tail (omega (arith, whole, short)) in
    let blocks : whole_count (values ++ tail) ≡ length starts = omega (arith, length-append values tail, count.many, count.whole, short) in
    let listed : directory_len second format (whole_count (values ++ tail)) ≡ (if has_directory second format then 8 * length starts else 0) = ap (directory_len second format) blocks in
    let rest : length (values ++ tail) % block_values ≡ length tail = omega (arith, length-append values tail, whole, short) in
    let packed : packed_len (length (values ++ tail) % block_values) (tail_width_of second format (tail_of (values ++ tail))) ≡ packed_len (length tail) (tail_width_of second format tail) =
    ap₂ (λ (n : ℕ) (l : List ℕ). packed_len n (tail_width_of second format l)) rest (tail_behind values tail whole short) in
    omega (arith, count.size, count.sized, same, listed, packed)

-- what was put together is the file
pub finished_file : (format : Format) (width tail_width counted : ℕ) (values bytes starts tail listed packed file : List ℕ) → AreBlocks format width values bytes starts → length values + length tail ≤ max_rows → length tail < block_values
    → AllByRecursion IsWord tail → tail_width ≡ tail_width_of second format tail → IsPackedTail tail_width tail packed → counted ≡ length starts * block_values + length tail
    → listed ≡ take head_len bytes ++ ((if has_directory second format then words_of (moved_up (8 * length starts) starts) else []) ++ drop head_len bytes)
    → file ≡ column_head second (tag_of format) width tail_width counted ++ drop head_len (listed ++ packed) → IsEncoded second format width (values ++ tail) file
finished_file format width tail_width counted values bytes starts tail listed packed file are few short words width_is is counted_is listed_is file_is =
    let count = under_way_counts format width values bytes starts are in
    let directory : List ℕ = if has_directory second format then words_of (moved_up (8 * length starts) starts) else [] in
    let front : length (take head_len bytes) ≡ head_len = let long = are.long in omega (arith, length-take head_len bytes) in
    let all : listed ++ packed ≡ take head_len bytes ++ (directory ++ (drop head_len bytes ++ packed)) =
    ap (λ (l : List ℕ). l ++ packed) listed_is ∙ append_assoc (take head_len bytes) (directory ++ drop head_len bytes) packed ∙ ap (λ (l : List ℕ). take head_len bytes ++ l) (append_assoc directory (drop head_len bytes) packed) in
    let behind : drop head_len (listed ++ packed) ≡ directory ++ (drop head_len bytes ++ packed) = ap (drop head_len) all ∙ drop_at (take head_len bytes) (directory ++ (drop head_len bytes ++ packed)) head_len front in
    let total : counted ≡ length (values ++ tail) = omega (arith, counted_is, length-append values tail, count.many, count.whole) in
    let made = AreBlocks-file format width values bytes starts tail packed are few short words (subst (λ w. IsPackedTail w tail packed) width_is is) in
    let same : column_head second (tag_of format) width (tail_width_of second format tail) (length (values ++ tail)) ++ (directory ++ (drop head_len bytes ++ packed)) ≡ file =
    sym (file_is ∙ ap (λ (l : List ℕ). column_head second (tag_of format) width tail_width counted ++ l) behind
    ∙ ap₂ (λ w n. column_head second (tag_of format) width w n ++ (directory ++ (drop head_len bytes ++ packed))) width_is total) in
    subst (IsEncoded second format width (values ++ tail)) same made

-- how long the bytes are with the directory
pub listed_size : (b : Bool) (bytes starts new : List ℕ) → new ≡ take head_len bytes ++ ((if b then words_of (moved_up (8 * length starts) starts) else []) ++ drop head_len bytes)
    → length new ≡ length bytes + (if b then 8 * length starts else 0)
listed_size true bytes starts new is =
    omega (
      arith,
      ap length is,
      length-append (take head_len bytes) (words_of (moved_up (8 * length starts) starts) ++ drop head_len bytes),
      length-append (words_of (moved_up (8 * length starts) starts)) (drop head_len bytes),
      length-words_of (moved_up (8 * length starts) starts),
      length-moved_up (8 * length starts) starts,
      length-append (take head_len bytes) (drop head_len bytes),
      ap length (take-append-drop head_len bytes),
    )
listed_size false bytes starts new is = ap length (is ∙ take-append-drop head_len bytes) ∙ (let e : length bytes ≡ length bytes + 0 = omega arith in e)

-- the values after the last whole block ask for no static width
pub static_width_of-tail : (format : Format) (values tail : List ℕ) → length values % block_values ≡ 0 → length tail < block_values → static_width_of format (values ++ tail) ≡ static_width_of format values
static_width_of-tail format values tail whole short =
    let all : length (values ++ tail) / block_values * block_values ≡ length values = omega (arith, length-append values tail, whole, short) in
    let here : length values / block_values * block_values ≡ length values = omega (arith, whole) in
    let front : whole_blocks (values ++ tail) ≡ values = ap (λ n. take n (values ++ tail)) all ∙ take_at values tail (length values) refl in
    let own : whole_blocks values ≡ values = ap (λ n. take n values) here ∙ take_all (length values) values (omega arith) in
    static_width_of-blocks format (values ++ tail) values (front ∙ sym own)

-- what was made of all blocks, at their least width, is their file
pub whole_file : (format : Format) (width : ℕ) (values bytes starts begun tail file : List ℕ) → AreBlocks format width values bytes starts → begun ≡ starts
    → ((list : List ℕ) → AreBlocks format width list bytes begun → IsEncoded second format width (list ++ tail) file) → width ≡ static_width_of format values → length tail < block_values → IsColumnFile format (values ++ tail) file
whole_file format width values bytes starts begun tail file are same made least short =
    let count = under_way_counts format width values bytes starts are in
    let whole : length values % block_values ≡ 0 = omega (arith, count.whole) in
    let encoded = made values (subst (AreBlocks format width values bytes) (sym same) are) in
    subst (λ w. IsEncoded second format w (values ++ tail) file) (least ∙ sym (static_width_of-tail format values tail whole short)) encoded
