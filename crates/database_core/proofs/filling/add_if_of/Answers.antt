use Rattle.std.proofs.Common.{◌≡◌, List, Some, Ok, refl, sym, subst, inl}
use Rattle.std.specs.Prelude.{OnOk}
use Rattle.std.proofs.lemmas.Result.{on_ok_weaker}
use Rattle.definitions_outcomes.specs.Outcomes.{Each}
use Rattle.catalog_core.specs.Columns.{column_at}
use Rattle.catalog_core.specs.declared.columns.ColumnId.{ColumnId}
use Rattle.table_core.specs.Tables.{TableState}
use Rattle.database_core.specs.NowViews.{now_view}
use Rattle.database_core.specs.Filling.{Puts, FitsKind}
use Rattle.database_core.specs.Opening.{ColumnStep}
use Rattle.database_core.specs.Opens.{Opens}
use Rattle.database_core.proofs.FillLemmas.{one_turn, is_of, column_is, column_fits}
use Rattle.database_core.proofs.filling.add_if_of.Goals as goal

known : (g : _) (c : goal.After-add_column g) → column_at c.args.schema.now c.args.id ≡ Some c.index-as_slice-id.result
known g c =
    column_is c.args.schema.now c.args.table c.args.id c.args.definition.now c.index-as_slice-id.result c.requires.definition c.if-id-table.false c.requires.known
    (rw c.as_slice.ensures at c.index-as_slice-id.is)

pub returns-clause-step : goal.returns-clause-step
returns-clause-step g c = λ files told.
    let view : Unit {0} → List TableState = λ done. c.add_column.new.tables in
    let step = ColumnStep files c.args.schema.now c.args.definition.now.name (now_view c.args.now) in
    subst (λ (ids : List ColumnId). Opens view c.add_column.result (Each step c.args.tables.now ids)) (sym (is_of c.args.table c.args.id c.if-id-table.false))
    (one_turn step c.args.tables.now c.args.id view c.add_column.result (rw (known g c) (c.add_column.ensures.step files told)))

pub returns-clause-run : goal.returns-clause-run
returns-clause-run g c =
    let after = c.add_column.new.tables in
    let tables = c.args.tables.now in
    subst (λ (ids : List ColumnId). OnOk c.add_column.result (Each (Puts (FitsKind c.args.schema.now)) tables ids (Ok after))) (sym (is_of c.args.table c.args.id c.if-id-table.false))
    (on_ok_weaker c.add_column.result (λ puts. inl (after, column_fits c.args.schema.now c.index-as_slice-id.result tables c.args.id (Ok after) (known g c) puts, refl)) c.add_column.ensures.run)
