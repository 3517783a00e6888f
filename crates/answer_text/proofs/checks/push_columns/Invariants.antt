use Rattle.std.proofs.Common.{◌≡◌, ◌++◌}
use Rattle.answer_text.specs.Checks.{slot_line, lines_of_columns}
use Rattle.answer_text.specs.HeldColumns.{columns_at}
use Rattle.answer_text.proofs.LineLemmas.{lines_from}
use Rattle.answer_text.proofs.checks.push_columns.Given as goal

-- what was written, and the lines of the columns that are left, are the whole
abbrev pub invariant-loop-place : goal.invariant-loop-place
invariant-loop-place l =
    l.text.items ++ lines_from (slot_line l.name) l.columns (columns_at l.tables l.table) l.place
    ≡ l.fn.text.items ++ lines_of_columns l.name l.columns (columns_at l.tables l.table)
