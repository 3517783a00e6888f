use Rattle.std.proofs.Common.{List, ◌∙◌}
use Rattle.std.proofs.lemmas.Result.{err_from_is_err_and}
use Rattle.table_core.specs.Tables.{TableState}
use Rattle.database_core.specs.NowViews.{now_view}
use Rattle.database_core.proofs.FillLemmas.{column_refused, texts_refused, column_put}
use Rattle.database_core.proofs.filling.add_column.Goals as goal

pub returns-in_err-column-clause-step : goal.returns-in_err-column-clause-step
returns-in_err-column-clause-step g c = λ files told.
    let p = err_from_is_err_and c.from_residual.result c.from_residual.ensures.1 in
    let view : Unit {0} → List TableState = λ done. c.args.tables.now in
    rw (p.1, p.2)
    (column_refused files c.args.table.now (now_view c.args.now) c.args.tables.now c.args.id c.args.definition.now view c.in_err-column.field-0.0
    (rw c.column_file_name-file.ensures at (c.in_err-column.ensures.step files told)))

pub returns-in_err-dictionary-clause-step : goal.returns-in_err-dictionary-clause-step
returns-in_err-dictionary-clause-step g c = λ files told.
    let p = err_from_is_err_and c.from_residual-in_err-dictionary.result c.from_residual-in_err-dictionary.ensures.1 in
    let view : Unit {0} → List TableState = λ done. c.args.tables.now in
    rw (p.1, p.2)
    (texts_refused files c.args.table.now (now_view c.args.now) c.args.tables.now c.args.id c.args.definition.now view c.in_ok-column.column c.in_err-dictionary.field-0.0
    (rw c.column_file_name-file.ensures at (c.in_ok-column.ensures.step files told))
    (c.in_err-dictionary.ensures.step files (c.in_ok-column.ensures.kept.files ∙ told)))

pub returns-clause-step : goal.returns-clause-step
returns-clause-step g c = λ files told.
    let view : Unit {0} → List TableState = λ done. c.put.new.tables in
    column_put files c.args.table.now (now_view c.args.now) c.args.tables.now c.args.id c.args.definition.now view c.in_ok-column.column c.in_ok-dictionary.dictionary c.put.result
    (rw c.column_file_name-file.ensures at (c.in_ok-column.ensures.step files told))
    (c.in_ok-dictionary.ensures.step files (c.in_ok-column.ensures.kept.files ∙ told))
    (rw c.column_file_name-file.ensures at c.put.ensures.step)
