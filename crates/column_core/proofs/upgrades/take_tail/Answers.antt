use Rattle.std.proofs.Common.{◌≡◌, ◌+◌, ◌-◌, ◌%◌, ◌<◌, ◌≤◌, ℕ, List, length, take, drop, refl, sym, ap, ap₂, ◌∙◌, subst, arith}
use Rattle.definitions_blocks.specs.Blocks.{block_values}
use Rattle.definitions_columns.specs.Tails.{IsPackedTail, packed_len}
use Rattle.definitions_columns.specs.ColumnFiles.{first, IsFileOf}
use Rattle.definitions_columns.specs.Sizes.{tail_of}
use Rattle.block_core.specs.Formats.{format_of}
use Rattle.column_core.proofs.UpgradeLemmas.{tells, tells_too, tail_within, parts_of}
use Rattle.column_core.proofs.upgrades.take_tail.Goals as goal

pub overflow_sub-front : goal.overflow_sub-front
overflow_sub-front c =
    let head = c.args.head.now in
    let within = tail_within head c.requires.0 c.args.file.items (tells head head.format c.requires.0 c.requires.2) c.requires.1 in
    omega (arith, within, c.packed_len.ensures.size, c.len.ensures, c.args.file.ok.0)

pub unpack-requires : goal.unpack-requires
unpack-requires c =
    let head = c.args.head.now in
    let of = tells head head.format c.requires.0 c.requires.2 in
    let parts = parts_of head c.requires.0 c.args.file.items of c.requires.1 (c.len.result - c.packed_len.result) (omega (arith, tail_within head c.requires.0 c.args.file.items of c.requires.1, c.packed_len.ensures.size, c.len.ensures, c.args.file.ok.0)) in
    let there : drop (c.len.result - c.packed_len.result) c.args.file.items ≡ c.rest_from.result.now = sym (c.rest_from.ensures ∙ ap (drop (c.len.result - c.packed_len.result)) c.as_slice.ensures.value) in
    (tail_of c.requires.0, subst (IsPackedTail 64 (tail_of c.requires.0)) there parts.tail, omega (arith, parts.few, of.count), omega arith, omega arith)

pub returns-clause-blocks : goal.returns-clause-blocks
returns-clause-blocks c =
    let head = c.args.head.now in
    let of = tells head head.format c.requires.0 c.requires.2 in
    (c.len.result - c.packed_len.result, omega (arith, tail_within head c.requires.0 c.args.file.items of c.requires.1, c.packed_len.ensures.size, c.len.ensures, c.args.file.ok.0), c.truncate.ensures.items)

pub returns-clause-tail : goal.returns-clause-tail
returns-clause-tail c = λ values is.
    let head = c.args.head.now in
    let of = tells_too head c.requires.0 values c.args.file.items (tells head head.format c.requires.0 c.requires.2) c.requires.1 is in
    let parts = parts_of head values c.args.file.items of is (c.len.result - c.packed_len.result) (omega (arith, tail_within head values c.args.file.items of is, c.packed_len.ensures.size, c.len.ensures, c.args.file.ok.0)) in
    let there : drop (c.len.result - c.packed_len.result) c.args.file.items ≡ c.rest_from.result.now = sym (c.rest_from.ensures ∙ ap (drop (c.len.result - c.packed_len.result)) c.as_slice.ensures.value) in
    c.unpack.ensures (tail_of values) (subst (IsPackedTail 64 (tail_of values)) there parts.tail) (omega (arith, parts.few, of.count))
