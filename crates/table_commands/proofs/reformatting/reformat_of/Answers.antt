use Rattle.std.proofs.Common.{◌≡◌, ◌∙◌, List, Ok, ap, sym, subst, map}
use Rattle.std.proofs.lemmas.Result.{err_from_is_err_and}
use Rattle.catalog_core.specs.declared.schemas.ColumnDef.{ColumnDef}
use Rattle.catalog_core.specs.declared.schemas.TableDef.{TableDef}
use Rattle.table_core.specs.Tables.{Stored, TableState, rows_of}
use Rattle.table_core.specs.Views.{stored_of}
use Rattle.table_core.proofs.PlaceLemmas.{is_some_value}
use Rattle.database_core.specs.Saving.{AreColumnsOf, row_count}
use Rattle.table_commands.specs.Exporting.{WholeTable}
use Rattle.table_commands.specs.Databases.{definition_of}
use Rattle.table_commands.specs.Reformatting.{held_in, reformatted_line, IsReformat}
use Rattle.table_commands.specs.Saving.{There, AreStoredAs}
use Rattle.table_commands.specs.Views.{AreHeld, ready_view}
use Rattle.table_commands.proofs.StepLemmas.{Ends-stopped, Ends-went}
use Rattle.table_commands.proofs.HeldLemmas.{held_whole, fits_own}
use Rattle.table_commands.proofs.reformatting.reformat_of.Goals as goal

pub returns-in_err-tables-clause-step : goal.returns-in_err-tables-clause-step
returns-in_err-tables-clause-step g c = λ files told.
    let p = err_from_is_err_and c.from_residual.result c.from_residual.ensures.1 in
    let found = c.args.found in
    rw (p.1, p.2)
    (Ends-stopped ready_view (WholeTable files found) (λ tables. There (IsReformat found tables)) (λ (tables : List TableState). tables) c.in_err-tables.field-0.0 (c.in_err-tables.ensures.step files told))

pub reformatted_columns-requires-clause-held : goal.reformatted_columns-requires-clause-held
reformatted_columns-requires-clause-held g c =
    let found = c.args.found in
    let tables = c.in_ok-tables.tables in
    let defined : c.as_slice.result.now ≡ (definition_of found).columns = c.as_slice.ensures ∙ ap (λ (one : TableDef). one.columns) c.definition.ensures in
    subst (λ (definitions : List ColumnDef). AreHeld definitions found.table tables) (sym defined) (held_whole found tables c.requires c.in_ok-tables.ensures.held)

pub prepare-requires-clause-fits : goal.prepare-requires-clause-fits
prepare-requires-clause-fits g c =
    let found = c.args.found in
    let columns = map stored_of c.in_ok-columns.columns in
    let rows = is_some_value (rows_of c.in_ok-tables.tables found.table) c.in_ok-tables.ensures.held.held.rows.0 in
    let defined : c.as_slice.result.now ≡ (definition_of found).columns = c.as_slice.ensures ∙ ap (λ (one : TableDef). one.columns) c.definition.ensures in
    fits_own rows.0 (definition_of found).columns columns (subst (λ (definitions : List ColumnDef). AreColumnsOf rows.0 definitions columns) defined (c.in_ok-columns.ensures.fits rows.0 rows.1))

pub returns-clause-step : goal.returns-clause-step
returns-clause-step g c = λ files told.
    let found = c.args.found in
    let tables = c.in_ok-tables.tables in
    let ready = c.in_ok-prepare.field-0 in
    let made = c.in_ok-prepare.ensures in
    let defined : c.as_slice.result.now ≡ (definition_of found).columns = c.as_slice.ensures ∙ ap (λ (one : TableDef). one.columns) c.definition.ensures in
    let all : map stored_of ready.columns ≡ map stored_of c.in_ok-columns.columns = ap (map stored_of) made.table.1 in
    let stored : AreStoredAs (definition_of found).columns (held_in tables found.table) (map stored_of ready.columns) =
    subst (λ (definitions : List ColumnDef). AreStoredAs definitions (held_in tables found.table) (map stored_of ready.columns)) defined
    (subst (λ (columns : List Stored). AreStoredAs c.as_slice.result.now (held_in tables found.table) columns) (sym all) c.in_ok-columns.ensures.stored) in
    let line : ready.line ≡ reformatted_line (definition_of found) (row_count (map stored_of ready.columns)) =
    made.line ∙ ap (λ (columns : List Stored). reformatted_line (definition_of found) (row_count columns)) (sym all) in
    Ends-went ready_view (WholeTable files found) (λ tables. There (IsReformat found tables)) tables (Ok ready) (c.in_ok-tables.ensures.step files told) (ap definition_of made.table.0, stored, line)
