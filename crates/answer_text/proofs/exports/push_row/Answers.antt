use Rattle.std.proofs.Common.{◌≤◌, List, ap, subst, length, arith}
use Rattle.std.proofs.lemmas.List.{take_all}
use Rattle.std.proofs.lemmas.Result.{on_ok_weaker}
use Rattle.answer_text.specs.Records.{AddsFields}
use Rattle.answer_text.specs.Printed.{Printed, printed_fields}
use Rattle.answer_text.proofs.PrintLemmas.{record_after}
use Rattle.answer_text.proofs.exports.push_row.Goals as goal

pub returns-clause-record : goal.returns-clause-record
returns-clause-record g c =
    let l = c.loop-place in
    let past : length c.args.columns.now ≤ l.place = omega (arith, c.loop-place-test.false, ap length l.invariant.same) in
    let written = subst (λ (columns : List Printed). AddsFields (printed_fields c.args.row columns) c.args.records.now l.records) (take_all l.place c.args.columns.now past) l.invariant.fields in
    on_ok_weaker c.end.result (λ ended. record_after c.args.records.now l.records c.end.new.self (printed_fields c.args.row c.args.columns.now) written ended) c.end.ensures
