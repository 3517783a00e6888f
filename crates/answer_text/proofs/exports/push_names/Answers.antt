use Rattle.std.proofs.Common.{◌≤◌, List, map, subst, length, arith}
use Rattle.std.proofs.lemmas.List.{take_all}
use Rattle.std.proofs.lemmas.Result.{on_ok_weaker}
use Rattle.catalog_core.specs.declared.schemas.ColumnDef.{ColumnDef}
use Rattle.answer_text.specs.Records.{AddsFields}
use Rattle.answer_text.proofs.PrintLemmas.{record_after}
use Rattle.answer_text.proofs.exports.push_names.Goals as goal

pub returns : goal.returns
returns c =
    let l = c.loop-column in
    let past : length c.args.columns.now ≤ l.column-index = omega (arith, c.loop-column-test.false) in
    let written = subst (λ (columns : List ColumnDef). AddsFields (map (λ (column : ColumnDef). column.name) columns) c.args.records.now l.records) (take_all l.column-index c.args.columns.now past) l.invariant in
    on_ok_weaker c.end.result (λ ended. record_after c.args.records.now l.records c.end.new.self (map (λ (column : ColumnDef). column.name) c.args.columns.now) written ended) c.end.ensures
