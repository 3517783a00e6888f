use Rattle.std.proofs.Common.{Err, sym}
use Rattle.std.proofs.lemmas.Result.{err_from_is_err_and}
use Rattle.definitions_outcomes.specs.Outcomes.{Gives}
use Rattle.engine_tool.specs.Replies.{column_bytes, for_rows, ValuesOf, RowsOf}
use Rattle.engine_tool.specs.Views.{values_of}
use Rattle.table_commands.proofs.StepLemmas.{Ends-stopped, Ends-went, Ends-computed}
use Rattle.engine_tool.proofs.loading.column_of.Goals as goal

pub returns-in_err-column-clause-step : goal.returns-in_err-column-clause-step
returns-in_err-column-clause-step g c = λ files told.
    let p = err_from_is_err_and c.from_residual-in_err-column.result c.from_residual-in_err-column.ensures.1 in
    let name = c.column_file_name-file.result in
    let rows = c.args.now.rows in
    let bytes = c.in_ok-bytes.bytes in
    rw (p.1, p.2, ← c.column_file_name-file.ensures)
    (Ends-went values_of (Gives (column_bytes files name)) (RowsOf name rows) bytes (Err c.in_err-column.field-0.0) (sym (c.in_ok-bytes.ensures.step files told))
    (Ends-stopped values_of (ValuesOf name bytes) (λ values. Gives (for_rows name rows values)) values_of c.in_err-column.field-0.0 c.in_err-column.ensures.step))

pub returns-clause-step : goal.returns-clause-step
returns-clause-step g c = λ files told.
    let name = c.column_file_name-file.result in
    let rows = c.args.now.rows in
    let bytes = c.in_ok-bytes.bytes in
    let values = c.in_ok-column.column.values in
    rw (← c.column_file_name-file.ensures)
    (Ends-went values_of (Gives (column_bytes files name)) (RowsOf name rows) bytes c.for_rows.result (sym (c.in_ok-bytes.ensures.step files told))
    (Ends-went values_of (ValuesOf name bytes) (λ found. Gives (for_rows name rows found)) values c.for_rows.result c.in_ok-column.ensures.step
    (Ends-computed values_of c.for_rows.result (for_rows name rows values) c.for_rows.ensures.step)))
