use Rattle.std.proofs.Common.{arith, ◌∙◌}
use Rattle.csv.specs.Records.{fields_of}
use Rattle.definitions_outcomes.proofs.ComputedLaws.{handed_on}
use Rattle.table_import.proofs.RecordLemmas.{none_left, one_left}
use Rattle.table_import.proofs.ReadLemmas.{rows_of, standing_all, standing_refused, standing_full, standing_more}
use Rattle.table_import.proofs.rows.read_rows.Goals as goal

pub returns-then-not-branch-clause-rows : goal.returns-then-not-branch-clause-rows
returns-then-not-branch-clause-rows c = λ records gives.
    let table = c.args.table.now in
    let loop = c.loop-done in
    let standing = loop.invariant.standing records gives in
    let next = c.in_ok-next_record.ensures.next table.separator standing.rest standing.gives in
    let gone = none_left table.separator standing.rest c.in_ok-next_record.field-0 _ _ next c.if-not-branch.true in
    standing_all table c.args.limit (rows_of table c.args.limit records) loop.columns loop.keys.keys loop.reader loop.done standing (omega arith) gone

pub returns-in_err-add_row-clause-refused : goal.returns-in_err-add_row-clause-refused
returns-in_err-add_row-clause-refused c = λ records gives.
    let table = c.args.table.now in
    let limit = c.args.limit in
    let loop = c.loop-done in
    let standing = loop.invariant.standing records gives in
    let next = c.in_ok-next_record.ensures.next table.separator standing.rest standing.gives in
    let (rest, is, more) = one_left table.separator standing.rest c.in_ok-next_record.field-0 _ _ next c.if-not-branch.false in
    let error = c.in_err-add_row.field-0.0 in
    handed_on c.from_residual-in_err-add_row.result error _ c.from_residual-in_err-add_row.ensures.1 (λ other.
    standing_refused table limit (rows_of table limit records) loop.columns loop.keys.keys loop.reader loop.done standing (fields_of c.next_record.new.record) rest is error
    (c.in_err-add_row.ensures.refused limit standing.rows (omega arith) standing.have standing.known other))

pub loop-done-preserved : goal.loop-done-preserved
loop-done-preserved c =
    let table = c.args.table.now in
    let limit = c.args.limit in
    let loop = c.loop-done in
    record {
      kinds = c.in_ok-add_row.ensures.kinds ∙ loop.invariant.kinds;
      standing = λ records gives.
          let standing = loop.invariant.standing records gives in
          let next = c.in_ok-next_record.ensures.next table.separator standing.rest standing.gives in
          let (rest, is, more) = one_left table.separator standing.rest c.in_ok-next_record.field-0 _ _ next c.if-not-branch.false in
          standing_more table limit (rows_of table limit records) loop.columns loop.keys.keys loop.reader loop.done standing (fields_of c.next_record.new.record) rest is
          c.add_row.new.columns c.add_row.new.keys.keys c.next_record.new.reader more
          (c.in_ok-add_row.ensures.taken limit standing.rows (omega arith) standing.have standing.known);
    }

pub returns-then-branch-clause-refused : goal.returns-then-branch-clause-refused
returns-then-branch-clause-refused c = λ records gives other.
    let table = c.args.table.now in
    let limit = c.args.limit in
    let loop = c.loop-done in
    let standing = loop.invariant.standing records gives in
    let next = c.in_ok-next_record-2.ensures.next table.separator standing.rest standing.gives in
    let (rest, is, more) = one_left table.separator standing.rest c.in_ok-next_record-2.field-0 _ _ next c.if-branch.true in
    standing_full table limit (rows_of table limit records) loop.columns loop.keys.keys loop.reader loop.done standing (fields_of c.next_record-2.new.record) rest is (omega arith)

pub returns-clause-rows : goal.returns-clause-rows
returns-clause-rows c = λ records gives.
    let table = c.args.table.now in
    let loop = c.loop-done in
    let standing = loop.invariant.standing records gives in
    let next = c.in_ok-next_record-2.ensures.next table.separator standing.rest standing.gives in
    let gone = none_left table.separator standing.rest c.in_ok-next_record-2.field-0 _ _ next c.if-branch.false in
    standing_all table c.args.limit (rows_of table c.args.limit records) loop.columns loop.keys.keys loop.reader loop.done standing (omega arith) gone
