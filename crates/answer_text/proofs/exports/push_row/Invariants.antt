use Rattle.std.proofs.Common.{◌≡◌, take}
use Rattle.answer_text.specs.Records.{AddsFields}
use Rattle.answer_text.specs.Printed.{printed_fields}
use Rattle.answer_text.proofs.exports.push_row.Given as goal

-- the fields of the columns so far are written, and the columns are the same
abbrev pub invariant-loop-place : goal.invariant-loop-place
invariant-loop-place g l = record {
  same : l.columns ≡ l.fn.columns;
  fields : AddsFields (printed_fields l.row (take l.place l.fn.columns)) l.fn.records l.records;
}
