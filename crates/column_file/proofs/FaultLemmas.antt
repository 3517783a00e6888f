-- What a reader that stops knows of the bytes.
use Rattle.std.proofs.Common.{◌≡◌, ℕ, ◌+◌, ◌/◌, ◌%◌, ◌<◌, List, length, drop, sym, ◌∙◌, subst}
use Rattle.definitions_blocks.specs.Blocks.{block_values}
use Rattle.definitions_blocks.specs.Formats.{Format, LacksBlock}
use Rattle.definitions_columns.specs.ColumnFiles.{Version, first_start, piece_bytes, IsFileOf}
use Rattle.definitions_columns.specs.FileFaults.{StartsAt, Opening, HasMore, HasBlocks, bad_header, bad_directory, bad_block, bad_width, bad_tail, HasFileFault}
use Rattle.definitions_columns.proofs.OpeningLaws.{file_of_opening}
use Rattle.column_core.specs.Heads.{LacksHead, BeginsWithHead}
use Rattle.column_file.specs.Reading.{ReadSo, IsTail}

pub no_header : (bytes : List ℕ) → LacksHead bytes → HasFileFault bytes bad_header
no_header bytes lacks opening =
    lacks opening.version opening.format opening.width opening.tail_width opening.count (drop 16 bytes) opening.head opening.head_is

-- a head, the blocks so far, and what follows them
abbrev opening_read : (version : Version) (format : Format) (width tail_width count number place widest : ℕ) (bytes : List ℕ) → BeginsWithHead version format width tail_width count bytes
    → ReadSo version format width count number place widest bytes → Opening bytes
opening_read version format width tail_width count number place widest bytes begins so = record {
  version = version;
  format = format;
  width = width;
  tail_width = tail_width;
  count = count;
  head = begins.head;
  head_is = begins.bytes_are;
  pieces = so.pieces;
  blocks = so.blocks;
  rest = drop place bytes;
  blocks_are = so.blocks_are;
  entries = so.entries;
}

-- there is to be one more block
abbrev more_read : (version : Version) (format : Format) (width tail_width count number place widest : ℕ) (bytes : List ℕ) → BeginsWithHead version format width tail_width count bytes
    → ReadSo version format width count number place widest bytes → number < count / block_values → HasMore bytes number
more_read version format width tail_width count number place widest bytes begins so more = record {
  opening = opening_read version format width tail_width count number place widest bytes begins so;
  good = so.many;
  more = more;
}

pub wrong_entry : (version : Version) (format : Format) (width tail_width count number place widest : ℕ) (bytes : List ℕ) → BeginsWithHead version format width tail_width count bytes
    → ReadSo version format width count number place widest bytes → number < count / block_values → (StartsAt version format bytes number place → ⊥) → HasFileFault bytes (bad_directory number)
wrong_entry version format width tail_width count number place widest bytes begins so more wrong = (
  more_read version format width tail_width count number place widest bytes begins so more,
  λ named. wrong (subst (λ n. StartsAt version format bytes n place) so.many (subst (StartsAt version format bytes (length so.pieces)) (sym so.place_is) named)),
)

pub no_block : (version : Version) (format : Format) (width tail_width count number place widest : ℕ) (bytes : List ℕ) → BeginsWithHead version format width tail_width count bytes
    → ReadSo version format width count number place widest bytes → number < count / block_values → StartsAt version format bytes number place → LacksBlock format width (drop place bytes)
    → HasFileFault bytes (bad_block number)
no_block version format width tail_width count number place widest bytes begins so more named none = (
  more_read version format width tail_width count number place widest bytes begins so more,
  subst (λ n. StartsAt version format bytes n (first_start version format (count / block_values) + length (piece_bytes so.pieces))) (sym so.many) (subst (StartsAt version format bytes number) so.place_is named),
  none,
)

-- all blocks that the head tells of were read
abbrev all_read : (version : Version) (format : Format) (width tail_width count place widest : ℕ) (bytes : List ℕ) → BeginsWithHead version format width tail_width count bytes
    → ReadSo version format width count (count / block_values) place widest bytes → HasBlocks bytes
all_read version format width tail_width count place widest bytes begins so = record {
  opening = opening_read version format width tail_width count (count / block_values) place widest bytes begins so;
  all = so.many;
}

pub wrong_width : (version : Version) (format : Format) (width tail_width count place widest : ℕ) (bytes : List ℕ) → BeginsWithHead version format width tail_width count bytes
    → ReadSo version format width count (count / block_values) place widest bytes → (widest ≡ width → ⊥) → HasFileFault bytes bad_width
wrong_width version format width tail_width count place widest bytes begins so other =
    (all_read version format width tail_width count place widest bytes begins so, λ same. other (so.widest_is ∙ sym same))

pub wrong_tail : (version : Version) (format : Format) (width tail_width count place widest : ℕ) (bytes : List ℕ) → BeginsWithHead version format width tail_width count bytes
    → ReadSo version format width count (count / block_values) place widest bytes → widest ≡ width → (IsTail version format tail_width (count % block_values) (drop place bytes) → ⊥)
    → HasFileFault bytes bad_tail
wrong_tail version format width tail_width count place widest bytes begins so same none =
    (all_read version format width tail_width count place widest bytes begins so, sym same ∙ so.widest_is, λ tail long packed least. none (tail, long, packed, least))

-- all was read and is good
pub whole_file : (version : Version) (format : Format) (width tail_width count place widest : ℕ) (bytes : List ℕ) → BeginsWithHead version format width tail_width count bytes
    → ReadSo version format width count (count / block_values) place widest bytes → widest ≡ width → IsTail version format tail_width (count % block_values) (drop place bytes)
    → (values : List ℕ) × IsFileOf version format values bytes
whole_file version format width tail_width count place widest bytes begins so same tail =
    let has = all_read version format width tail_width count place widest bytes begins so in
    (_, file_of_opening bytes has (sym same ∙ so.widest_is) tail.0 tail.1 tail.2 tail.3)
