use Rattle.std.proofs.Common.{◌≡◌, ◌+◌, ◌-◌, ◌≤◌, ℕ, length, take, drop, sym, ap, ap₂, ◌∙◌, subst, arith}
use Rattle.definitions_blocks.specs.Blocks.{block_at}
use Rattle.definitions_blocks.specs.Formats.{BlockOf}
use Rattle.definitions_columns.specs.ColumnFiles.{static_width_of}
use Rattle.definitions_columns.specs.Sizes.{block_start}
use Rattle.block_core.specs.Formats.{format_of}
use Rattle.column_core.proofs.ColumnLemmas.{held, block_span}
use Rattle.column_core.proofs.columns.Column.block_bytes.Goals as goal

pub part-requires-clause-within : goal.part-requires-clause-within
part-requires-clause-within c =
    let is = held c.self.inside.format c.self.inside.stored.0 c.args.self.now c.self.inside.static_width c.self.inside.tail_width c.self.inside.count c.self.inside.bytes.items c.self.view_is c.self.invariant in
    let at = block_span (format_of c.args.self.now.format) c.args.self.now.values c.self.inside.bytes.items c.args.block is.file c.requires in
    let within = at.within in
    omega (arith, c.block_start-2.ensures, ap length c.as_slice.ensures.value)

pub returns : goal.returns
returns c =
    let is = held c.self.inside.format c.self.inside.stored.0 c.args.self.now c.self.inside.static_width c.self.inside.tail_width c.self.inside.count c.self.inside.bytes.items c.self.view_is c.self.invariant in
    let f = format_of c.args.self.now.format in
    let values = c.args.self.now.values in
    let width = static_width_of f values in
    let at = block_span f values c.self.inside.bytes.items c.args.block is.file c.requires in
    let start = block_start f width values c.args.block in
    let end = block_start f width values (c.args.block + 1) in
    let there : take (end - start) (drop start c.self.inside.bytes.items) ≡ c.part.result.now =
    sym (c.part.ensures ∙ ap₂ (λ (n m : ℕ). take (m - n) (drop n c.as_slice.result.now)) c.block_start.ensures c.block_start-2.ensures ∙ ap (λ l. take (end - start) (drop start l)) c.as_slice.ensures.value) in
    subst (BlockOf f width (block_at values c.args.block)) there at.encoded
