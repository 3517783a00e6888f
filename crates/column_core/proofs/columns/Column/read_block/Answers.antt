use Rattle.std.proofs.Common.{◌≡◌, ◌<◌, ◌≤◌, ◌/◌, length, sym, ap, ◌∙◌, subst, arith}
use Rattle.definitions_blocks.specs.Blocks.{block_at}
use Rattle.definitions_blocks.specs.Formats.{BlockOf}
use Rattle.definitions_blocks.proofs.BlockLaws.{BlockOf-values}
use Rattle.definitions_columns.specs.Tails.{IsPackedTail}
use Rattle.definitions_columns.specs.ColumnFiles.{static_width_of}
use Rattle.definitions_columns.specs.Sizes.{whole_count, tail_of}
use Rattle.block_core.specs.Formats.{format_of}
use Rattle.column_core.proofs.ColumnLemmas.{held, narrow_tail}
use Rattle.column_core.proofs.columns.Column.read_block.Goals as goal

pub unpack-requires : goal.unpack-requires
unpack-requires g c =
    let is = held c.self.inside.format c.self.inside.stored.0 c.args.self.now c.self.inside.static_width c.self.inside.tail_width c.self.inside.count c.self.inside.bytes.items c.self.view_is c.self.invariant in
    let values = c.args.self.now.values in
    let packed : IsPackedTail c.self.inside.tail_width (tail_of values) c.tail_bytes.result.now = subst (λ w. IsPackedTail w (tail_of values) c.tail_bytes.result.now) (sym is.tail_width_is) c.tail_bytes.ensures in (
      tail_of values,
      packed,
      c.tail_len.ensures.tail,
      omega (arith, c.tail_len.ensures.count),
      subst (λ n. n ≤ 64) (sym is.tail_width_is) (narrow_tail (format_of c.args.self.now.format) values c.self.inside.bytes.items is.file),
    )

pub returns-then-number-whole_blocks : goal.returns-then-number-whole_blocks
returns-then-number-whole_blocks g c =
    let column = c.args.self.now in
    BlockOf-values (format_of column.format) (static_width_of (format_of column.format) column.values) c.decode_block.new.into (block_at column.values c.args.number) c.block_bytes-bytes.result.now
    (rw (c.format.ensures, c.static_width.ensures.width) at c.decode_block.ensures) c.block_bytes-bytes.ensures
