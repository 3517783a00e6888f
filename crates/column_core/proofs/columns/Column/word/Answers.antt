use Rattle.std.proofs.Common.{◌≡◌, ◌≤◌, ◌∙◌, length, drop, ap, sym, subst, arith}
use Rattle.definitions_blocks.specs.Words.{words_of}
use Rattle.definitions_blocks.specs.Formats.{plain}
use Rattle.definitions_columns.specs.ColumnFiles.{IsColumnFile, static_width_of}
use Rattle.block_core.specs.Formats.{format_of}
use Rattle.column_core.proofs.ColumnLemmas.{held, tail_start}
use Rattle.column_core.proofs.PlainLemmas.{plain_words}
use Rattle.column_core.proofs.columns.Column.word.Goals as goal

pub rest_from-requires : goal.rest_from-requires
rest_from-requires c =
    let is = held c.self.inside.format c.self.inside.stored.0 c.args.self.now c.self.inside.static_width c.self.inside.tail_width c.self.inside.count c.self.inside.bytes.items c.self.view_is c.self.invariant in
    let inside = (tail_start (format_of c.args.self.now.format) c.args.self.now.values c.self.inside.bytes.items is.file).inside in
    omega (arith, ap length c.as_slice.ensures.value)

pub number_at-requires : goal.number_at-requires
number_at-requires c =
    let is = held c.self.inside.format c.self.inside.stored.0 c.args.self.now c.self.inside.static_width c.self.inside.tail_width c.self.inside.count c.self.inside.bytes.items c.self.view_is c.self.invariant in
    let values = c.args.self.now.values in
    let file : IsColumnFile plain values c.self.inside.bytes.items = subst (λ f. IsColumnFile f values c.self.inside.bytes.items) c.requires.plain is.file in
    let words = c.rest_from.ensures ∙ ap (drop 16) c.as_slice.ensures.value ∙ plain_words (static_width_of plain values) values c.self.inside.bytes.items file in
    (values, file.column.words, words, c.requires.within)

pub returns : goal.returns
returns c =
    let is = held c.self.inside.format c.self.inside.stored.0 c.args.self.now c.self.inside.static_width c.self.inside.tail_width c.self.inside.count c.self.inside.bytes.items c.self.view_is c.self.invariant in
    let values = c.args.self.now.values in
    let file : IsColumnFile plain values c.self.inside.bytes.items = subst (λ f. IsColumnFile f values c.self.inside.bytes.items) c.requires.plain is.file in
    let words = c.rest_from.ensures ∙ ap (drop 16) c.as_slice.ensures.value ∙ plain_words (static_width_of plain values) values c.self.inside.bytes.items file in
    c.number_at.ensures values file.column.words words
