use Rattle.std.proofs.Common.{◌≡◌, ◌++◌, []}
use Rattle.answer_text.specs.Checks.{table_lines, check_text}
use Rattle.answer_text.proofs.LineLemmas.{lines_from}
use Rattle.answer_text.proofs.checks.check_text.Given as goal

-- what was written, and the lines of the tables that are left, are the whole
abbrev pub invariant-loop-table : goal.invariant-loop-table
invariant-loop-table l = l.text.items ++ lines_from table_lines l.schema.tables l.tables l.table ≡ [] ++ check_text l.schema l.tables
