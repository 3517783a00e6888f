use Rattle.std.proofs.Common.{◌≡◌, ◌∙◌, ◌+◌, ◌++◌, List, ℕ, ap, ap₂, get_or, None, Option, arith}
use Rattle.column_core.specs.Columns.{Shape}
use Rattle.answer_text.specs.Checks.{maybe_line, slot_line, lines_of_columns}
use Rattle.answer_text.specs.HeldColumns.{columns_at}
use Rattle.answer_text.proofs.LineLemmas.{lines_from, one_line_more, all_lines, column_held}
use Rattle.answer_text.proofs.checks.push_columns.Goals as goal

pub loop-place-preserved : goal.loop-place-preserved
loop-place-preserved c =
    let l = c.loop-place in
    let slots = columns_at c.args.tables.now c.args.table in
    let definition = get_or c.args.columns.now l.place c.index-columns-place.result in
    let found = c.column.ensures.column ∙ column_held c.args.tables.now c.args.table l.place in
    let named : c.as_str.result.now ≡ definition.name = c.as_str.ensures.text in
    let written : c.push_column.new.text.items ≡ l.text.items ++ slot_line c.args.name.now definition (get_or slots l.place None) =
    c.in_ok-push_column.ensures ∙ ap₂ (λ (name : List ℕ) (column : Option Shape). l.text.items ++ maybe_line c.args.name.now name column) named found in
    ap (λ text. text ++ lines_from (slot_line c.args.name.now) c.args.columns.now slots (l.place + 1)) written
    ∙ one_line_more (slot_line c.args.name.now) c.args.columns.now slots l.place c.requires.same c.args.text.now.items l.text.items (lines_of_columns c.args.name.now c.args.columns.now slots)
    c.index-columns-place.result None c.loop-place-test.true l.invariant

pub returns : goal.returns
returns c =
    let l = c.loop-place in
    all_lines (slot_line c.args.name.now) c.args.columns.now (columns_at c.args.tables.now c.args.table) l.place c.requires.same c.args.text.now.items l.text.items
    (lines_of_columns c.args.name.now c.args.columns.now (columns_at c.args.tables.now c.args.table)) (omega (arith, c.loop-place-test.false)) l.invariant
