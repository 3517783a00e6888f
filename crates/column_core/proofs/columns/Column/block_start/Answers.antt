use Rattle.std.proofs.Common.{◌≡◌, ◌+◌, ◌*◌, ◌<◌, ◌≤◌, ◌^◌, ◌/◌, true, ℕ, length, sym, ap, ◌∙◌, subst, arith}
use Rattle.definitions_blocks.specs.Words.{word_of}
use Rattle.definitions_blocks.specs.Formats.{plain, static}
use Rattle.definitions_columns.specs.ColumnFiles.{second, has_directory, static_width_of}
use Rattle.definitions_columns.specs.Sizes.{block_start}
use Rattle.definitions_columns.proofs.PlaceLaws.{block_start-plain, block_start-static}
use Rattle.block_core.specs.Formats.{format_of}
use Rattle.column_core.specs.Columns.{Shape}
use Rattle.column_core.proofs.ColumnLemmas.{held, listed, entry_is, entries_within}
use Rattle.column_core.proofs.columns.Column.block_start.Goals as goal

pub returns-in-Plain : goal.returns-in-Plain
returns-in-Plain c =
    let is = held c.self.inside.format c.self.inside.stored.0 c.args.self.now c.self.inside.static_width c.self.inside.tail_width c.self.inside.count c.self.inside.bytes.items c.self.view_is c.self.invariant in
    let values = c.args.self.now.values in
    let plain_is : format_of c.args.self.now.format ≡ plain = ap (λ (s : Shape). format_of s.format) (sym c.self.view_is) ∙ ap format_of c.in-Plain.is in
    sym (ap (λ f. block_start f (static_width_of f values) values c.args.block) plain_is ∙ block_start-plain (static_width_of plain values) values c.args.block)

pub returns-in-Static : goal.returns-in-Static
returns-in-Static c =
    let is = held c.self.inside.format c.self.inside.stored.0 c.args.self.now c.self.inside.static_width c.self.inside.tail_width c.self.inside.count c.self.inside.bytes.items c.self.view_is c.self.invariant in
    let values = c.args.self.now.values in
    let static_is : format_of c.args.self.now.format ≡ static = ap (λ (s : Shape). format_of s.format) (sym c.self.view_is) ∙ ap format_of c.in-Static.is in
    let width : c.self.inside.static_width ≡ static_width_of static values = is.width_is ∙ ap (λ f. static_width_of f values) static_is in
    ap (λ w. 16 + 128 * w * c.args.block) width
    ∙ sym (ap (λ f. block_start f (static_width_of f values) values c.args.block) static_is ∙ block_start-static (static_width_of static values) values c.args.block)

pub entry_at-requires : goal.entry_at-requires
entry_at-requires c =
    let is = held c.self.inside.format c.self.inside.stored.0 c.args.self.now c.self.inside.static_width c.self.inside.tail_width c.self.inside.count c.self.inside.bytes.items c.self.view_is c.self.invariant in
    let list : has_directory second (format_of c.args.self.now.format) ≡ true =
    ap (λ (s : Shape). has_directory second (format_of s.format)) (sym c.self.view_is) ∙ listed c.self.inside.format c.in_default.not-Plain c.in_default.not-Static in
    let whole : c.args.block < length c.args.self.now.values / 1024 = omega (arith, c.if-block-whole_blocks.true, c.whole_blocks.ensures) in
    omega (arith, entries_within (format_of c.args.self.now.format) c.args.self.now.values c.self.inside.bytes.items c.args.block is.file whole list, ap length c.as_slice.ensures.value)

pub returns-in_default : goal.returns-in_default
returns-in_default c =
    let is = held c.self.inside.format c.self.inside.stored.0 c.args.self.now c.self.inside.static_width c.self.inside.tail_width c.self.inside.count c.self.inside.bytes.items c.self.view_is c.self.invariant in
    let list : has_directory second (format_of c.args.self.now.format) ≡ true =
    ap (λ (s : Shape). has_directory second (format_of s.format)) (sym c.self.view_is) ∙ listed c.self.inside.format c.in_default.not-Plain c.in_default.not-Static in
    let whole : c.args.block < length c.args.self.now.values / 1024 = omega (arith, c.if-block-whole_blocks.true, c.whole_blocks.ensures) in
    c.entry_at.ensures ∙ ap (λ l. word_of l (2 + c.args.block)) c.as_slice.ensures.value
    ∙ entry_is (format_of c.args.self.now.format) c.args.self.now.values c.self.inside.bytes.items c.args.block is.file whole list (omega (arith, c.as_slice.type_inv.0, ap length c.as_slice.ensures.value))
