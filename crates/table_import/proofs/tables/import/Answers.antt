use Rattle.std.proofs.Common.{arith, ◌∙◌, length, sym, ap}
use Rattle.table_import.proofs.AllLemmas.{handed_back}
use Rattle.table_import.proofs.FinishLemmas.{no_rows}
use Rattle.table_import.proofs.WholeLemmas.{imported_lawful}
use Rattle.table_import.proofs.TableLemmas.{all_few, all_lawful, hold_rows, table_columns}
use Rattle.table_import.proofs.tables.import.Goals as goal

pub import_rows-requires-clause-begun : goal.import_rows-requires-clause-begun
import_rows-requires-clause-begun c = rw c.as_mut_slice.ensures.value (no_rows c.args.table.now c.in_ok-columns.columns.items (rw c.as_slice-definitions.ensures at c.in_ok-columns.ensures))

pub finished-requires-clause-few : goal.finished-requires-clause-few
finished-requires-clause-few c =
    let columns = c.in_ok-columns.columns in
    let now = c.import_rows.new.columns in
    let value = ap length c.as_mut_slice.ensures.value in
    let all = c.in_ok-import_rows.ensures.rows in
    rw (handed_back columns.len now columns.items (c.import_rows.auto.columns ∙ value) (sym c.as_mut_slice.ensures.len ∙ value))
    (all_few c.args.table.now all.all now all.rows (omega (arith, all.few, c.requires.few)))

pub finished-requires-clause-lawful : goal.finished-requires-clause-lawful
finished-requires-clause-lawful c =
    let columns = c.in_ok-columns.columns in
    let now = c.import_rows.new.columns in
    let value = ap length c.as_mut_slice.ensures.value in
    let all = c.in_ok-import_rows.ensures.rows in
    rw (handed_back columns.len now columns.items (c.import_rows.auto.columns ∙ value) (sym c.as_mut_slice.ensures.len ∙ value))
    (all_lawful c.args.table.now all.all now all.rows (imported_lawful c.args.table.now c.args.limit c.args.text.now all.all all.gives).0)

pub returns-clause-rows : goal.returns-clause-rows
returns-clause-rows c =
    let columns = c.in_ok-columns.columns in
    let now = c.import_rows.new.columns in
    let value = ap length c.as_mut_slice.ensures.value in
    let all = c.in_ok-import_rows.ensures.rows in
    let back = handed_back columns.len now columns.items (c.import_rows.auto.columns ∙ value) (sym c.as_mut_slice.ensures.len ∙ value) in
    (all.all, all.gives, rw c.from_vec.ensures (hold_rows c.args.table.now all.all now all.rows c.in_ok-finished.field-0.items (rw back at c.in_ok-finished.ensures)))

pub returns-clause-fits : goal.returns-clause-fits
returns-clause-fits c =
    let columns = c.in_ok-columns.columns in
    let now = c.import_rows.new.columns in
    let value = ap length c.as_mut_slice.ensures.value in
    let all = c.in_ok-import_rows.ensures.rows in
    let back = handed_back columns.len now columns.items (c.import_rows.auto.columns ∙ value) (sym c.as_mut_slice.ensures.len ∙ value) in
    let lawful = imported_lawful c.args.table.now c.args.limit c.args.text.now all.all all.gives in
    (length all.all, all.few, rw c.from_vec.ensures (table_columns c.args.table.now all.all now all.rows c.in_ok-finished.field-0.items (rw back at c.in_ok-finished.ensures) c.requires.lawful lawful.1))
