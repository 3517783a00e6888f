use Rattle.std.proofs.Common.{◌≡◌, ◌≤◌, length, drop, sym, ap, ap₂, ◌∙◌, subst, arith}
use Rattle.definitions_columns.specs.Tails.{IsPackedTail}
use Rattle.definitions_columns.specs.ColumnFiles.{second, static_width_of, tail_width_of}
use Rattle.definitions_columns.specs.Sizes.{tail_of}
use Rattle.definitions_columns.proofs.PlaceLaws.{tail_place}
use Rattle.block_core.specs.Formats.{format_of}
use Rattle.column_core.proofs.ColumnLemmas.{held, tail_start}
use Rattle.column_core.proofs.columns.Column.tail_bytes.Goals as goal

pub rest_from-requires : goal.rest_from-requires
rest_from-requires c =
    let is = held c.self.inside.format c.self.inside.stored.0 c.args.self.now c.self.inside.static_width c.self.inside.tail_width c.self.inside.count c.self.inside.bytes.items c.self.view_is c.self.invariant in
    let at = tail_start (format_of c.args.self.now.format) c.args.self.now.values c.self.inside.bytes.items is.file in
    let inside = at.inside in
    omega (arith, c.tail_start.ensures.start, ap length c.as_slice.ensures.value)

pub returns : goal.returns
returns c =
    let is = held c.self.inside.format c.self.inside.stored.0 c.args.self.now c.self.inside.static_width c.self.inside.tail_width c.self.inside.count c.self.inside.bytes.items c.self.view_is c.self.invariant in
    let f = format_of c.args.self.now.format in
    let values = c.args.self.now.values in
    let there = c.rest_from.ensures ∙ ap₂ (λ n l. drop n l) c.tail_start.ensures.start c.as_slice.ensures.value in
    subst (IsPackedTail (tail_width_of second f (tail_of values)) (tail_of values)) (sym there) (tail_place f (static_width_of f values) values c.self.inside.bytes.items is.file)
