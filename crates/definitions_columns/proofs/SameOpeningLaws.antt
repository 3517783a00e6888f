-- Two openings of the same bytes begin with the same head and the same blocks.
use Rattle.std.proofs.Common.{◌≡◌, ℕ, ◌+◌, ◌/◌, ◌<◌, List, [], ◌∷◌, ◌++◌, length, get_or, drop, sym, ap, ap₂, ◌∙◌, subst, arith, length-append, append_assoc}
use Rattle.definitions_blocks.specs.Blocks.{block_values}
use Rattle.definitions_blocks.specs.Formats.{Format, tag_of, LacksBlock}
use Rattle.definitions_columns.specs.ColumnFiles.{head_len, has_word_tail, tail_width_byte, Piece, ArePieces, piece_bytes, starts_from, has_directory, first_start, static_width_of}
use Rattle.definitions_columns.specs.FileFaults.{IsTailWidthWhere, StartsAt, Opening, next_start, NamesNext, HasBlocks, asked_width}
use Rattle.definitions_blocks.proofs.PrefixLaws.{same_rest}
use Rattle.definitions_blocks.proofs.BlockLaws.{BlockOf-front}
use Rattle.definitions_columns.proofs.ColumnFileLaws.{tag_of-one, SameHead, column_head-one, tail_width-one, SamePieces, pieces_front}

-- where the first block starts
abbrev opening_start : {bytes : List ℕ} → Opening bytes → ℕ
opening_start opening = first_start opening.version opening.format (opening.count / block_values)

-- what a head tells, and what stands behind the directory
pub record SameOpening {bytes : List ℕ} (one other : Opening bytes) : Type 0 where
  pub versions : one.version ≡ other.version
  pub formats : one.format ≡ other.format
  pub widths : one.width ≡ other.width
  pub tail_widths : one.tail_width ≡ other.tail_width
  pub counts : one.count ≡ other.count
  pub starts : opening_start one ≡ opening_start other
  pub bodies : piece_bytes one.pieces ++ one.rest ≡ piece_bytes other.pieces ++ other.rest
  pub blocks : ArePieces one.format one.width other.pieces

pub same_opening : {bytes : List ℕ} (one other : Opening bytes) → SameOpening one other
same_opening {bytes} one other =
    let after = drop head_len bytes in
    let head : SameHead one.version other.version (tag_of one.format) (tag_of other.format) one.width other.width one.tail_width other.tail_width one.count other.count after after =
    column_head-one one.version other.version (tag_of one.format) (tag_of other.format) one.width other.width one.tail_width other.tail_width one.count other.count after after
    (omega (arith, one.head.few)) (omega (arith, other.head.few)) (sym one.head_is ∙ other.head_is) in
    let formats : one.format ≡ other.format = tag_of-one one.format other.format head.tags in
    let lawful : IsTailWidthWhere (has_word_tail one.version one.format) other.tail_width =
    subst (λ b. IsTailWidthWhere b other.tail_width) (sym (ap₂ has_word_tail head.versions formats)) other.head.tail_lawful in
    let said : tail_width_byte one.version one.tail_width ≡ tail_width_byte one.version other.tail_width =
    head.tail_widths ∙ ap (λ v. tail_width_byte v other.tail_width) (sym head.versions) in
    let starts : opening_start one ≡ opening_start other =
    ap₂ (λ v f. first_start v f (one.count / block_values)) head.versions formats ∙ ap (λ n. first_start other.version other.format (n / block_values)) head.counts in
    record {
      versions = head.versions;
      formats = formats;
      widths = head.widths;
      tail_widths = tail_width-one one.version one.format one.tail_width other.tail_width one.head.tail_lawful lawful said;
      counts = head.counts;
      starts = starts;
      bodies = sym one.blocks_are ∙ ap (λ n. drop n bytes) starts ∙ other.blocks_are;
      blocks = subst (λ f. ArePieces f one.width other.pieces) (sym formats) (subst (λ w. ArePieces other.format w other.pieces) (sym head.widths) other.blocks);
    }

-- where as many blocks are good, they are the same, and so is the rest
pub same_blocks : {bytes : List ℕ} (one other : Opening bytes) → length one.pieces ≡ length other.pieces → SamePieces one.pieces other.pieces one.rest other.rest
same_blocks one other many =
    let same = same_opening one other in
    pieces_front one.format one.width one.pieces other.pieces one.rest other.rest one.blocks same.blocks many same.bodies

-- where more blocks are good, one follows the fewer
next_block : (format : Format) (width : ℕ) (pieces others : List Piece) (x y : List ℕ) → ArePieces format width pieces → ArePieces format width others
    → length pieces < length others → piece_bytes pieces ++ x ≡ piece_bytes others ++ y → LacksBlock format width x → ⊥
next_block format width [] [] x y are be more e none = omega (arith, more)
next_block format width [] (other ∷ others) x y are be more e none =
    none other.values other.encoding (piece_bytes others ++ y) be.0 (e ∙ append_assoc other.encoding (piece_bytes others) y)
next_block format width (piece ∷ pieces) [] x y are be more e none = omega (arith, more)
next_block format width (piece ∷ pieces) (other ∷ others) x y are be more e none =
    let apart : piece.encoding ++ (piece_bytes pieces ++ x) ≡ other.encoding ++ (piece_bytes others ++ y) =
    sym (append_assoc piece.encoding (piece_bytes pieces) x) ∙ e ∙ append_assoc other.encoding (piece_bytes others) y in
    let first = BlockOf-front format width piece.values other.values piece.encoding other.encoding (piece_bytes pieces ++ x) (piece_bytes others ++ y) are.0 be.0 apart in
    next_block format width pieces others x y are.1 be.1 (omega arith) (same_rest piece.encoding other.encoding (piece_bytes pieces ++ x) (piece_bytes others ++ y) (ap length first.0) apart) none

-- and that one starts where the fewer end
next_place : (format : Format) (width place : ℕ) (pieces others : List Piece) (x y : List ℕ) → ArePieces format width pieces → ArePieces format width others
    → length pieces < length others → piece_bytes pieces ++ x ≡ piece_bytes others ++ y → get_or (starts_from place others) (length pieces) 0 ≡ place + length (piece_bytes pieces)
next_place format width place [] [] x y are be more e = absurd (omega (arith, more))
next_place format width place [] (other ∷ others) x y are be more e = omega arith
next_place format width place (piece ∷ pieces) [] x y are be more e = absurd (omega (arith, more))
next_place format width place (piece ∷ pieces) (other ∷ others) x y are be more e =
    let apart : piece.encoding ++ (piece_bytes pieces ++ x) ≡ other.encoding ++ (piece_bytes others ++ y) =
    sym (append_assoc piece.encoding (piece_bytes pieces) x) ∙ e ∙ append_assoc other.encoding (piece_bytes others) y in
    let first = BlockOf-front format width piece.values other.values piece.encoding other.encoding (piece_bytes pieces ++ x) (piece_bytes others ++ y) are.0 be.0 apart in
    let next : get_or (starts_from (place + length other.encoding) others) (length pieces) 0 ≡ place + length other.encoding + length (piece_bytes pieces) =
    next_place format width (place + length other.encoding) pieces others x y are.1 be.1 (omega arith)
    (same_rest piece.encoding other.encoding (piece_bytes pieces ++ x) (piece_bytes others ++ y) (ap length first.0) apart) in
    omega (arith, next, ap length first.0, length-append piece.encoding (piece_bytes pieces))

-- past a block that is none there is no good one
pub stops_block : {bytes : List ℕ} (one other : Opening bytes) → length one.pieces < length other.pieces → LacksBlock one.format one.width one.rest → ⊥
stops_block one other more none =
    let same = same_opening one other in
    next_block one.format one.width one.pieces other.pieces one.rest other.rest one.blocks same.blocks more same.bodies none

-- what the directory says of a place, in another opening's words
names_there : {bytes : List ℕ} (one other : Opening bytes) (block place : ℕ) → StartsAt other.version other.format bytes block place → StartsAt one.version one.format bytes block place
names_there one other block place named =
    let same = same_opening one other in
    λ listed. named (sym (ap₂ has_directory same.versions same.formats) ∙ listed)

-- past an entry that is wrong there is no good block
pub stops_entry : {bytes : List ℕ} (one other : Opening bytes) → length one.pieces < length other.pieces → (NamesNext bytes one → ⊥) → ⊥
stops_entry {bytes} one other more wrong =
    let same = same_opening one other in
    let next : get_or (starts_from (opening_start other) other.pieces) (length one.pieces) 0 ≡ next_start one =
    ap (λ n. get_or (starts_from n other.pieces) (length one.pieces) 0) (sym same.starts)
    ∙ next_place one.format one.width (opening_start one) one.pieces other.pieces one.rest other.rest one.blocks same.blocks more same.bodies in
    wrong (names_there one other (length one.pieces) (next_start one) (subst (StartsAt other.version other.format bytes (length one.pieces)) next (other.entries (length one.pieces) more)))

-- an entry is not both wrong and right
pub same_entry : {bytes : List ℕ} (one other : Opening bytes) → length one.pieces ≡ length other.pieces → NamesNext bytes other → NamesNext bytes one
same_entry {bytes} one other many named =
    let same = same_opening one other in
    let blocks = same_blocks one other many in
    let next : next_start other ≡ next_start one = omega (arith, same.starts, ap length blocks.bytes) in
    names_there one other (length one.pieces) (next_start one)
    (subst (λ n. StartsAt other.version other.format bytes n (next_start one)) (sym many) (subst (StartsAt other.version other.format bytes (length other.pieces)) next named))

-- what all good blocks tell is one
pub record SameWhole {bytes : List ℕ} (one other : HasBlocks bytes) : Type 0 where
  pub opening : SameOpening one.opening other.opening
  pub asked : asked_width one.opening ≡ asked_width other.opening
  pub rests : one.opening.rest ≡ other.opening.rest

pub same_whole : {bytes : List ℕ} (one other : HasBlocks bytes) → SameWhole one other
same_whole one other =
    let same = same_opening one.opening other.opening in
    let blocks = same_blocks one.opening other.opening (omega (arith, one.all, other.all, ap (λ n. n / block_values) same.counts)) in
    record {
      opening = same;
      asked = ap₂ (λ f l. static_width_of f l) same.formats blocks.values;
      rests = blocks.rests;
    }
