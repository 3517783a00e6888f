-- A file of the first version whose head was read.
use Rattle.std.proofs.Common.{◌≡◌, ℕ, ◌+◌, ◌-◌, ◌*◌, ◌/◌, ◌%◌, ◌<◌, ◌≤◌, List, ◌++◌, length, take, drop, refl, sym, ap, ap₂, ◌∙◌, subst, arith, length-append}
use Rattle.std.proofs.lemmas.List.{length-take, take-take}
use Rattle.definitions_blocks.specs.Columns.{max_rows}
use Rattle.definitions_blocks.specs.Blocks.{block_values}
use Rattle.definitions_blocks.specs.Formats.{IsColumnWidth}
use Rattle.definitions_columns.specs.Tails.{IsPackedTail, packed_len}
use Rattle.definitions_columns.specs.ColumnFiles.{first, head_len, whole_blocks, static_width_of, starts_from, IsFileOf}
use Rattle.definitions_columns.specs.Sizes.{tail_of}
use Rattle.definitions_columns.specs.UnderWay.{AreBlocks}
use Rattle.definitions_blocks.proofs.WidthLaws.{AreBelow-words}
use Rattle.definitions_columns.proofs.ColumnFileLaws.{encoded_length}
use Rattle.definitions_columns.proofs.FileLaws.{one_column}
use Rattle.definitions_columns.proofs.WidthLaws.{static_width_of-lawful}
use Rattle.definitions_columns.proofs.FirstVersionLaws.{FirstParts, first_parts, first_tail_within, GoneOver, gone_over_all, NextPiece, next_block}
use Rattle.block_core.specs.declared.formats.Format.{Format}
use Rattle.block_core.specs.Formats.{format_of}
use Rattle.column_core.specs.declared.heads.Head.{Head}
use Rattle.column_core.specs.Columns.{shape}
use Rattle.column_core.specs.Heads.{version_of, IsHeadOf}
use Rattle.column_core.proofs.BuilderLemmas.{static_width_of-whole}

-- what the head says of the list
pub record Tells (head : Head) (values : List ℕ) : Type 0 where
  pub width : head.static_width ≡ static_width_of (format_of head.format) values
  pub count : head.count ≡ length values

pub tells : (head : Head) (format : Format) (values : List ℕ) → IsHeadOf head first format values → Tells head values
tells head format values of = record {
  width = of.width_is ∙ ap (λ f. static_width_of f values) (ap format_of (sym of.format_is));
  count = of.count_is;
}

-- the file in the format that the head says
pub as_read : (head : Head) (format : Format) (values file : List ℕ) → IsFileOf first (format_of format) values file → IsHeadOf head first format values → IsFileOf first (format_of head.format) values file
as_read head format values file is of = subst (λ f. IsFileOf first f values file) (ap format_of (sym of.format_is)) is

-- whichever list the file is said to be of, the head says the same
pub tells_too : (head : Head) (values others file : List ℕ) → Tells head values → IsFileOf first (format_of head.format) values file → IsFileOf first (format_of head.format) others file → Tells head others
tells_too head values others file of is be =
    let same : values ≡ others = (one_column first first (format_of head.format) (format_of head.format) values others file is be).2 in
    record { width = of.width ∙ ap (static_width_of (format_of head.format)) same; count = of.count ∙ ap length same }

pub lawful_width : (head : Head) (values file : List ℕ) → Tells head values → IsFileOf first (format_of head.format) values file → IsColumnWidth (format_of head.format) head.static_width
lawful_width head values file of is = subst (IsColumnWidth (format_of head.format)) (sym of.width) (static_width_of-lawful (format_of head.format) values (AreBelow-words values is.column.words))

-- what follows the blocks that were gone over, at the width that the head says
pub next_of : (head : Head) (values file : List ℕ) (of : Tells head values) (is : IsFileOf first (format_of head.format) values file) (number place : ℕ) (starts rest : List ℕ) → GoneOver is.pieces number place starts
    → number < head.count / block_values → rest ≡ drop place file → NextPiece (format_of head.format) head.static_width is.pieces number place starts rest
next_of head values file of is number place starts rest gone more rest_is =
    let f = format_of head.format in
    let inside : number < length values / block_values = subst (λ n. number < n / block_values) of.count more in
    let at = next_block f (static_width_of f values) values file is number place starts gone inside in
    subst (NextPiece f head.static_width is.pieces number place starts) (sym rest_is) (subst (λ w. NextPiece f w is.pieces number place starts (drop place file)) (sym of.width) at)

-- all blocks were gone over
pub all_gone : (head : Head) (values file : List ℕ) (of : Tells head values) (is : IsFileOf first (format_of head.format) values file) (number place : ℕ) (starts : List ℕ) → GoneOver is.pieces number place starts
    → number ≡ head.count / block_values → starts ≡ starts_from head_len is.pieces
all_gone head values file of is number place starts gone all =
    let f = format_of head.format in
    let long = encoded_length first f (static_width_of f values) values file is in
    let short = is.short in
    let many : number ≡ length is.pieces = omega (arith, all, of.count) in
    gone_over_all is.pieces place starts (subst (λ n. GoneOver is.pieces n place starts) many gone)

-- Where the values after the last whole block stand.

pub tail_within : (head : Head) (values file : List ℕ) → Tells head values → IsFileOf first (format_of head.format) values file → packed_len (head.count % block_values) 64 ≤ length file
tail_within head values file of is =
    subst (λ n. packed_len (n % block_values) 64 ≤ length file) (sym of.count) (first_tail_within (format_of head.format) (static_width_of (format_of head.format) values) values file is)

pub parts_of : (head : Head) (values file : List ℕ) → Tells head values → (is : IsFileOf first (format_of head.format) values file) (front : ℕ) → front + packed_len (head.count % block_values) 64 ≡ length file
    → FirstParts (format_of head.format) (static_width_of (format_of head.format) values) values file (starts_from head_len is.pieces) front
parts_of head values file of is front size =
    first_parts (format_of head.format) (static_width_of (format_of head.format) values) values file is front (ap (λ n. front + packed_len (n % block_values) 64) (sym of.count) ∙ size)

-- what is left to finish: the whole blocks, at their least width, and the values after them
pub record Parted (head : Head) (values blocks starts tail : List ℕ) : Type 0 where
  pub are : AreBlocks (format_of head.format) head.static_width (whole_blocks values) blocks starts
  pub few : length (whole_blocks values) + length tail ≤ max_rows
  pub short : length tail < block_values
  pub least : head.static_width ≡ static_width_of (format_of head.format) (whole_blocks values)
  pub all : whole_blocks values ++ tail ≡ values

pub parted : (head : Head) (values file blocks starts tail : List ℕ) → Tells head values → (is : IsFileOf first (format_of head.format) values file) (front : ℕ) → front + packed_len (head.count % block_values) 64 ≡ length file
    → blocks ≡ take front file → starts ≡ starts_from head_len is.pieces → tail ≡ tail_of values → Parted head values blocks starts tail
parted head values file blocks starts tail of is front size blocks_are starts_are tail_is =
    let f = format_of head.format in
    let parts = parts_of head values file of is front size in
    let all : whole_blocks values ++ tail ≡ values = ap (λ l. whole_blocks values ++ l) tail_is ∙ sym parts.values_are in
    record {
      are = subst (λ w. AreBlocks f w (whole_blocks values) blocks starts) (sym of.width)
          (subst (λ l. AreBlocks f (static_width_of f values) (whole_blocks values) l starts) (sym blocks_are)
          (subst (AreBlocks f (static_width_of f values) (whole_blocks values) (take front file)) (sym starts_are) parts.blocks));
      few = let few = is.column.few in omega (arith, ap length all, length-append (whole_blocks values) tail);
      short = omega (arith, ap length tail_is, parts.few);
      least = of.width ∙ sym (static_width_of-whole f values);
      all = all;
    }

-- what the head says holds in its own format
pub own_head : (head : Head) (format : Format) (values : List ℕ) → IsHeadOf head first format values → IsHeadOf head first head.format values
own_head head format values of = subst (λ f. IsHeadOf head first f values) (sym of.format_is) of

-- what is left to finish, after the file was gone over and its end taken off
pub ready : (head : Head) (format : Format) (values items file starts blocks tail : List ℕ) → file ≡ items → IsFileOf first (format_of format) values items → IsHeadOf head first format values
    → ((list : List ℕ) (is : IsFileOf first (format_of head.format) list file) → starts ≡ starts_from head_len is.pieces)
    → (front : ℕ) × (front + packed_len (head.count % block_values) 64 ≡ length items) × (blocks ≡ take front items)
    → ((list : List ℕ) → IsFileOf first (format_of head.format) list items → tail ≡ tail_of list) → Parted head values blocks starts tail
ready head format values items file starts blocks tail same is of starts_are front tail_is =
    let own = as_read head format values items is of in
    let there : IsFileOf first (format_of head.format) values file = subst (IsFileOf first (format_of head.format) values) (sym same) own in
    parted head values file blocks starts tail (tells head format values of) there front.0 (front.1 ∙ ap length (sym same)) (front.2 ∙ ap (take front.0) (sym same)) (starts_are values there) (tail_is values own)
