use Rattle.std.proofs.Common.{map, take}
use Rattle.answer_text.specs.Records.{AddsFields}
use Rattle.answer_text.proofs.exports.push_names.Given as goal

-- the names so far are written
abbrev pub invariant-loop-column : goal.invariant-loop-column
invariant-loop-column l = AddsFields (map (λ column. column.name) (take l.column-index l.columns)) l.fn.records l.records
