use Rattle.std.proofs.Common.{◌≡◌, ◌+◌, ◌/◌, ◌<◌, ◌++◌, ◌∷◌, [], ℕ, List, length, drop, sym, ap, ◌∙◌, subst, arith}
use Rattle.definitions_blocks.specs.Formats.{BeginsWithBlock}
use Rattle.definitions_columns.specs.ColumnFiles.{first, head_len, static_width_of, IsFileOf}
use Rattle.definitions_columns.proofs.FirstVersionLaws.{GoneOver, gone_within, next_begins, found_block}
use Rattle.block_core.specs.Formats.{format_of}
use Rattle.column_core.proofs.UpgradeLemmas.{tells, tells_too, lawful_width, next_of, all_gone}
use Rattle.column_core.proofs.upgrades.starts_in.Goals as goal

pub rest_from-requires : goal.rest_from-requires
rest_from-requires c =
    let f = format_of c.args.head.now.format in
    let file = c.requires.file in
    gone_within f (static_width_of f file.0) file.0 c.args.file.now file.1 c.loop-block._block c.loop-block.place c.loop-block.starts.items (c.loop-block.invariant file.0 file.1)

pub len_of_block-place-requires-clause-lawful : goal.len_of_block-place-requires-clause-lawful
len_of_block-place-requires-clause-lawful c =
    let head = c.args.head.now in
    let file = c.requires.file in
    lawful_width head file.0 c.args.file.now (tells head head.format file.0 file.2) file.1

pub len_of_block-place-requires-clause-begins : goal.len_of_block-place-requires-clause-begins
len_of_block-place-requires-clause-begins c =
    let head = c.args.head.now in
    let file = c.requires.file in
    let next = next_of head file.0 c.args.file.now (tells head head.format file.0 file.2) file.1 c.loop-block._block c.loop-block.place c.loop-block.starts.items c.rest_from.result.now (c.loop-block.invariant file.0 file.1) c.loop-block-test.true c.rest_from.ensures in
    next_begins (format_of head.format) head.static_width file.1.pieces c.loop-block._block c.loop-block.place c.loop-block.starts.items c.rest_from.result.now next

pub loop-block-preserved : goal.loop-block-preserved
loop-block-preserved c = λ values is.
    let head = c.args.head.now in
    let file = c.requires.file in
    let of = tells_too head file.0 values c.args.file.now (tells head head.format file.0 file.2) file.1 is in
    let next = next_of head values c.args.file.now of is c.loop-block._block c.loop-block.place c.loop-block.starts.items c.rest_from.result.now (c.loop-block.invariant values is) c.loop-block-test.true c.rest_from.ensures in
    let grown = found_block (format_of head.format) head.static_width is.pieces c.loop-block._block c.loop-block.place c.len_of_block-place.result c.loop-block.starts.items c.rest_from.result.now next c.len_of_block-place.ensures in
    subst (GoneOver is.pieces (c.loop-block._block + 1) (c.loop-block.place + c.len_of_block-place.result)) (sym c.in_ok-push.ensures.items) grown

pub returns : goal.returns
returns c = λ values is.
    let head = c.args.head.now in
    let file = c.requires.file in
    let of = tells_too head file.0 values c.args.file.now (tells head head.format file.0 file.2) file.1 is in
    all_gone head values c.args.file.now of is c.loop-block._block c.loop-block.place c.loop-block.starts.items (c.loop-block.invariant values is) (omega arith)
