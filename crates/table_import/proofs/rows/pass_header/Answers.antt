use Rattle.table_import.proofs.RecordLemmas.{header_passed, handed_over}
use Rattle.table_import.proofs.rows.pass_header.Goals as goal

pub returns-then-header-clause-passed : goal.returns-then-header-clause-passed
returns-then-header-clause-passed c = rw c.if-header.true
    (handed_over c.next_record.result (λ found next separator records gives. header_passed separator records found _ _ (next separator records gives)) c.next_record.ensures.next)
