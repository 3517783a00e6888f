use Rattle.std.proofs.Common.{◌≡◌, ◌∙◌, ◌<◌, ◌++◌, [], List, ℕ, Option, Some, None, ap, ap₂, get_or, slice_get, length, unwrap_or, refl, arith}
use Rattle.std.proofs.lemmas.Option.{slice_get_read, slice_get-get_or}
use Rattle.table_core.specs.Tables.{TableState, rows_of}
use Rattle.answer_text.specs.Printed.{Printed, header_by, rows_by}
use Rattle.answer_text.proofs.LineLemmas.{same_count, same_columns}
use Rattle.answer_text.proofs.PrintLemmas.{whole_export}
use Rattle.answer_text.proofs.exports.export_text.Goals as goal

no_table : TableState
no_table = record { key = None; rows = None; columns = [] }

pub printed_columns-requires-clause-count : goal.printed_columns-requires-clause-count
printed_columns-requires-clause-count c =
    let within : c.args.table < length c.as_slice.result.now = rw c.as_slice.ensures c.requires.within in
    let is : slice_get c.args.schema.now.tables c.args.table ≡ Some c.index-as_slice-table.result =
    rw (← c.as_slice.ensures) (slice_get_read c.as_slice.result.now _ c.args.table c.index-as_slice-table.result refl within c.index-as_slice-table.is) in
    same_columns c.args.schema.now c.args.tables.now c.args.table c.index-as_slice-table.result c.requires.held.of is ∙ ap length (rw c.as_slice-count.ensures refl)

pub returns : goal.returns
returns c =
    let schema = c.args.schema.now in
    let tables = c.args.tables.now in
    let definition = c.index-as_slice-table.result in
    let within : c.args.table < length c.as_slice.result.now = rw c.as_slice.ensures c.requires.within in
    let is : slice_get schema.tables c.args.table ≡ Some definition =
    rw (← c.as_slice.ensures) (slice_get_read c.as_slice.result.now _ c.args.table definition refl within c.index-as_slice-table.is) in
    let count = same_count schema tables c.requires.held.of in
    let held = slice_get-get_or tables c.args.table no_table (omega (arith, c.requires.within, count)) in
    let headed = c.in_ok-push_header.ensures definition.separator [] c.new-records.ensures in
    let wrote = c.in_ok-push_rows.ensures definition.separator (header_by definition definition.separator) headed in
    let rows : c.unwrap_or-rows.result ≡ unwrap_or (rows_of tables c.args.table) 0 = c.unwrap_or-rows.ensures ∙ ap (λ (rows : Option ℕ). unwrap_or rows 0) c.rows.ensures in
    c.from_vec.ensures ∙ c.in_ok-into_text.ensures definition.separator _ wrote
    ∙ ap₂ (λ (columns : List Printed) (rows : ℕ). header_by definition definition.separator ++ rows_by columns rows definition.separator) (c.as_mut_slice.ensures.value ∙ c.in_ok-columns.ensures.columns) rows
    ∙ whole_export schema tables c.args.table definition (get_or tables c.args.table no_table) is held
