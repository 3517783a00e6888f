use Rattle.std.proofs.Common.{◌≡◌, ◌∙◌, List, ℕ, subst, arith}
use Rattle.answer_text.specs.Records.{AddsText}
use Rattle.answer_text.specs.Printed.{Printed, row_by, rows_by}
use Rattle.answer_text.proofs.PrintLemmas.{row_after}
use Rattle.answer_text.proofs.exports.push_rows.Goals as goal

pub loop-row-preserved : goal.loop-row-preserved
loop-row-preserved c =
    let l = c.loop-row in
    let wrote = c.in_ok-push_row.ensures in
    let row = subst (λ (columns : List Printed). AddsText (row_by columns l.row) l.records c.push_row.new.records) l.invariant.same wrote.record in
    record {
      same = wrote.same ∙ l.invariant.same;
      text = row_after c.args.records.now l.records c.push_row.new.records c.args.columns.now l.row l.invariant.text row;
    }

pub returns : goal.returns
returns c =
    let l = c.loop-row in
    let all : l.row ≡ c.args.rows = omega (arith, c.loop-row-test.false, l.auto.row-end) in
    subst (λ (rows : ℕ). AddsText (rows_by c.args.columns.now rows) c.args.records.now l.records) all l.invariant.text
