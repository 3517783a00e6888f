use Rattle.std.proofs.Common.{◌≡◌, ◌-◌, ◌%◌, ◌≤◌, ℕ, length, sym, ap, ap₂, ◌∙◌, subst, arith}
use Rattle.definitions_columns.specs.Tails.{packed_len}
use Rattle.block_core.specs.Formats.{format_of}
use Rattle.column_core.proofs.ColumnLemmas.{held, narrow_tail, tail_start}
use Rattle.column_core.proofs.columns.Column.tail_start.Goals as goal

pub packed_len-requires-clause-narrow : goal.packed_len-requires-clause-narrow
packed_len-requires-clause-narrow c =
    let is = held c.self.inside.format c.self.inside.stored.0 c.args.self.now c.self.inside.static_width c.self.inside.tail_width c.self.inside.count c.self.inside.bytes.items c.self.view_is c.self.invariant in
    subst (λ n. n ≤ 64) (sym is.tail_width_is) (narrow_tail (format_of c.args.self.now.format) c.args.self.now.values c.self.inside.bytes.items is.file)

pub overflow_sub-result : goal.overflow_sub-result
overflow_sub-result c =
    let is = held c.self.inside.format c.self.inside.stored.0 c.args.self.now c.self.inside.static_width c.self.inside.tail_width c.self.inside.count c.self.inside.bytes.items c.self.view_is c.self.invariant in
    let at = tail_start (format_of c.args.self.now.format) c.args.self.now.values c.self.inside.bytes.items is.file in
    let size = c.packed_len.ensures.size ∙ ap₂ (λ (n w : ℕ). packed_len n w) c.tail_len.ensures.count is.tail_width_is in
    let within = at.within in
    omega (arith, size, c.len.ensures, c.self.inside.bytes.ok.0)

pub returns : goal.returns
returns c =
    let is = held c.self.inside.format c.self.inside.stored.0 c.args.self.now c.self.inside.static_width c.self.inside.tail_width c.self.inside.count c.self.inside.bytes.items c.self.view_is c.self.invariant in
    let at = tail_start (format_of c.args.self.now.format) c.args.self.now.values c.self.inside.bytes.items is.file in
    let size = c.packed_len.ensures.size ∙ ap₂ (λ (n w : ℕ). packed_len n w) c.tail_len.ensures.count is.tail_width_is in
    let long : c.len.result ≡ length c.self.inside.bytes.items = omega (arith, c.len.ensures, c.self.inside.bytes.ok.0) in
    record { start = ap₂ (λ (a b : ℕ). a - b) long size ∙ at.start }
