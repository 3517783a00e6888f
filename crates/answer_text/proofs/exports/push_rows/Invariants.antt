use Rattle.std.proofs.Common.{◌≡◌}
use Rattle.answer_text.specs.Records.{AddsText}
use Rattle.answer_text.specs.Printed.{rows_by}
use Rattle.answer_text.proofs.exports.push_rows.Given as goal

-- the rows so far are written, and the columns are the same
abbrev pub invariant-loop-row : goal.invariant-loop-row
invariant-loop-row l = record {
  same : l.columns ≡ l.fn.columns;
  text : AddsText (rows_by l.fn.columns l.row) l.fn.records l.records;
}
