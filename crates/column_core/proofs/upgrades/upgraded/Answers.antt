use Rattle.std.proofs.Common.{◌≡◌, ◌+◌, ◌<◌, ◌≤◌, ◌++◌, ℕ, List, length, IfOk, sym, ap, ap₂, ◌∙◌, subst, arith}
use Rattle.definitions_blocks.specs.Blocks.{block_values}
use Rattle.definitions_blocks.specs.Columns.{max_rows}
use Rattle.definitions_columns.specs.ColumnFiles.{first, whole_blocks, static_width_of, IsFileOf}
use Rattle.block_core.specs.declared.formats.Format.{Format}
use Rattle.block_core.specs.Formats.{format_of}
use Rattle.column_core.specs.Columns.{Shape, Encoding, encoding_of, reserve, shape}
use Rattle.column_core.specs.Heads.{IsHeadOf}
use Rattle.column_core.proofs.UpgradeLemmas.{as_read, own_head, Parted, ready}
use Rattle.column_core.proofs.upgrades.upgraded.Goals as goal

pub head_of-head-requires : goal.head_of-head-requires
head_of-head-requires c = (first, c.requires.0, c.requires.1, subst (IsFileOf first (format_of c.requires.0) c.requires.1) (sym c.as_slice.ensures.value) c.requires.2)

pub starts_in-requires : goal.starts_in-requires
starts_in-requires c =
    let format = c.requires.0 in
    let values = c.requires.1 in
    let head = c.head_of-head.result in
    let of : IsHeadOf head first format values = c.head_of-head.ensures first format values (subst (IsFileOf first (format_of format) values) (sym c.as_slice.ensures.value) c.requires.2) in
    record { file = (values, subst (IsFileOf first (format_of head.format) values) (sym c.as_slice-2.ensures.value) (as_read head format values c.args.file.items c.requires.2 of), own_head head format values of) }

pub take_tail-blocks-requires : goal.take_tail-blocks-requires
take_tail-blocks-requires c =
    let format = c.requires.0 in
    let values = c.requires.1 in
    let head = c.head_of-head.result in
    let of : IsHeadOf head first format values = c.head_of-head.ensures first format values (subst (IsFileOf first (format_of format) values) (sym c.as_slice.ensures.value) c.requires.2) in
    (values, as_read head format values c.args.file.items c.requires.2 of, own_head head format values of)

pub adopt-requires : goal.adopt-requires
adopt-requires c =
    let format = c.requires.0 in
    let values = c.requires.1 in
    let is = c.requires.2 in
    let head = c.head_of-head.result in
    let of : IsHeadOf head first format values = c.head_of-head.ensures first format values (subst (IsFileOf first (format_of format) values) (sym c.as_slice.ensures.value) is) in
    let tail = c.take_tail-blocks.new.tail in
    let left : Parted head values c.take_tail-blocks.result.items c.in_ok-starts.starts.items tail =
    ready head format values c.args.file.items c.as_slice-2.result.now c.in_ok-starts.starts.items c.take_tail-blocks.result.items tail c.as_slice-2.ensures.value is of
    c.in_ok-starts.ensures c.take_tail-blocks.ensures.blocks c.take_tail-blocks.ensures.tail in
    (whole_blocks values, left.are)

pub finish-requires-clause-few : goal.finish-requires-clause-few
finish-requires-clause-few c =
    let format = c.requires.0 in
    let values = c.requires.1 in
    let is = c.requires.2 in
    let head = c.head_of-head.result in
    let of : IsHeadOf head first format values = c.head_of-head.ensures first format values (subst (IsFileOf first (format_of format) values) (sym c.as_slice.ensures.value) is) in
    let tail = c.take_tail-blocks.new.tail in
    let left : Parted head values c.take_tail-blocks.result.items c.in_ok-starts.starts.items tail =
    ready head format values c.args.file.items c.as_slice-2.result.now c.in_ok-starts.starts.items c.take_tail-blocks.result.items tail c.as_slice-2.ensures.value is of
    c.in_ok-starts.ensures c.take_tail-blocks.ensures.blocks c.take_tail-blocks.ensures.tail in
    let adopted : c.adopt.result ≡ encoding_of head.format head.static_width (reserve 0 0) (whole_blocks values) = c.adopt.ensures (whole_blocks values) left.are in
    let few = left.few in
    omega (arith, ap (λ (e : Encoding). length e.values) adopted, ap length c.as_slice-3.ensures.values)

pub finish-requires-clause-short : goal.finish-requires-clause-short
finish-requires-clause-short c =
    let format = c.requires.0 in
    let values = c.requires.1 in
    let is = c.requires.2 in
    let head = c.head_of-head.result in
    let of : IsHeadOf head first format values = c.head_of-head.ensures first format values (subst (IsFileOf first (format_of format) values) (sym c.as_slice.ensures.value) is) in
    let tail = c.take_tail-blocks.new.tail in
    let left : Parted head values c.take_tail-blocks.result.items c.in_ok-starts.starts.items tail =
    ready head format values c.args.file.items c.as_slice-2.result.now c.in_ok-starts.starts.items c.take_tail-blocks.result.items tail c.as_slice-2.ensures.value is of
    c.in_ok-starts.ensures c.take_tail-blocks.ensures.blocks c.take_tail-blocks.ensures.tail in
    let short = left.short in
    omega (arith, ap length c.as_slice-3.ensures.values)

pub finish-requires-clause-least : goal.finish-requires-clause-least
finish-requires-clause-least c =
    let format = c.requires.0 in
    let values = c.requires.1 in
    let is = c.requires.2 in
    let head = c.head_of-head.result in
    let of : IsHeadOf head first format values = c.head_of-head.ensures first format values (subst (IsFileOf first (format_of format) values) (sym c.as_slice.ensures.value) is) in
    let tail = c.take_tail-blocks.new.tail in
    let left : Parted head values c.take_tail-blocks.result.items c.in_ok-starts.starts.items tail =
    ready head format values c.args.file.items c.as_slice-2.result.now c.in_ok-starts.starts.items c.take_tail-blocks.result.items tail c.as_slice-2.ensures.value is of
    c.in_ok-starts.ensures c.take_tail-blocks.ensures.blocks c.take_tail-blocks.ensures.tail in
    let adopted : c.adopt.result ≡ encoding_of head.format head.static_width (reserve 0 0) (whole_blocks values) = c.adopt.ensures (whole_blocks values) left.are in
    subst (λ (e : Encoding). e.width ≡ static_width_of (format_of e.format) e.values) (sym adopted) left.least

pub returns : goal.returns
returns c = λ format values is.
    let head = c.head_of-head.result in
    let of : IsHeadOf head first format values = c.head_of-head.ensures first format values (subst (IsFileOf first (format_of format) values) (sym c.as_slice.ensures.value) is) in
    let tail = c.take_tail-blocks.new.tail in
    let left : Parted head values c.take_tail-blocks.result.items c.in_ok-starts.starts.items tail =
    ready head format values c.args.file.items c.as_slice-2.result.now c.in_ok-starts.starts.items c.take_tail-blocks.result.items tail c.as_slice-2.ensures.value is of
    c.in_ok-starts.ensures c.take_tail-blocks.ensures.blocks c.take_tail-blocks.ensures.tail in
    let adopted : c.adopt.result ≡ encoding_of head.format head.static_width (reserve 0 0) (whole_blocks values) = c.adopt.ensures (whole_blocks values) left.are in
    let all : c.adopt.result.values ++ c.as_slice-3.result.now ≡ values = ap₂ (λ (a b : List ℕ). a ++ b) (ap (λ (e : Encoding). e.values) adopted) c.as_slice-3.ensures.values ∙ left.all in
    let seen : shape c.adopt.result.format (c.adopt.result.values ++ c.as_slice-3.result.now) ≡ shape format values =
    ap₂ (λ (f : Format) (l : List ℕ). shape f l) (ap (λ (e : Encoding). e.format) adopted ∙ of.format_is) all in
    subst (λ (s : Shape). IfOk c.finish.result (λ column. column ≡ s)) seen c.finish.ensures.ok
