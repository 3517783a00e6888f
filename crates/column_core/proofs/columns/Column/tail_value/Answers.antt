use Rattle.std.proofs.Common.{◌≡◌, ◌<◌, ◌≤◌, length, sym, ap, ◌∙◌, subst, arith}
use Rattle.definitions_columns.specs.Tails.{IsPackedTail}
use Rattle.definitions_columns.specs.Sizes.{tail_of}
use Rattle.block_core.specs.Formats.{format_of}
use Rattle.column_core.proofs.ColumnLemmas.{held, narrow_tail, length-tail_of, tail_of-index}
use Rattle.column_core.proofs.columns.Column.tail_value.Goals as goal

pub pick-requires : goal.pick-requires
pick-requires c =
    let is = held c.self.inside.format c.self.inside.stored.0 c.args.self.now c.self.inside.static_width c.self.inside.tail_width c.self.inside.count c.self.inside.bytes.items c.self.view_is c.self.invariant in
    let values = c.args.self.now.values in
    let packed : IsPackedTail c.self.inside.tail_width (tail_of values) c.tail_bytes.result.now = subst (λ w. IsPackedTail w (tail_of values) c.tail_bytes.result.now) (sym is.tail_width_is) c.tail_bytes.ensures in (
      tail_of values,
      packed,
      omega (arith, c.requires, length-tail_of values),
      omega (arith, length-tail_of values),
      subst (λ n. n ≤ 64) (sym is.tail_width_is) (narrow_tail (format_of c.args.self.now.format) values c.self.inside.bytes.items is.file),
    )

pub returns : goal.returns
returns c =
    let is = held c.self.inside.format c.self.inside.stored.0 c.args.self.now c.self.inside.static_width c.self.inside.tail_width c.self.inside.count c.self.inside.bytes.items c.self.view_is c.self.invariant in
    let values = c.args.self.now.values in
    let packed : IsPackedTail c.self.inside.tail_width (tail_of values) c.tail_bytes.result.now = subst (λ w. IsPackedTail w (tail_of values) c.tail_bytes.result.now) (sym is.tail_width_is) c.tail_bytes.ensures in
    c.pick.ensures (tail_of values) packed (omega (arith, c.requires, length-tail_of values)) ∙ tail_of-index values c.args.place c.requires
