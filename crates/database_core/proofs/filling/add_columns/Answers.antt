use Rattle.std.proofs.Common.{◌+◌, Bool, List, get_or, drop, ◌∙◌, subst}
use Rattle.std.specs.Prelude.{◌==◌}
use Rattle.std.proofs.lemmas.Result.{err_from_is_err_and}
use Rattle.definitions_outcomes.specs.Outcomes.{Each}
use Rattle.catalog_core.specs.Columns.{columns_of_table}
use Rattle.catalog_core.specs.declared.columns.ColumnId.{ColumnId}
use Rattle.table_core.specs.Tables.{TableState}
use Rattle.database_core.specs.NowViews.{now_view}
use Rattle.database_core.specs.Filling.{Puts, FitsKind, IsFilling}
use Rattle.database_core.specs.Opening.{ColumnStep}
use Rattle.database_core.proofs.LoopLemmas.{column_turn, turn_goes, turn_stops, awaits_if_of, filling_goes}
use Rattle.database_core.proofs.TableLemmas.{id_of}
use Rattle.database_core.proofs.filling.add_columns.Goals as goal

pub add_if_of-requires-clause-awaited : goal.add_if_of-requires-clause-awaited
add_if_of-requires-clause-awaited g c =
    let l = c.loop-id in
    let schema = c.args.schema.now in
    let columns = c.args.needs.now.columns in
    let id = get_or c.as_slice-id-items.result.now l.id-index (id_of 0 0) in
    let turn = column_turn schema c.args.needs.now c.as_slice-id-items.result.now l.id-index (id_of 0 0) c.requires.lawful c.as_slice-id-items.ensures c.loop-id-test.true in
    awaits_if_of schema l.tables id (drop (l.id-index + 1) columns) c.args.table c.args.now.rows turn.holds
    (subst (λ (ids : List ColumnId). IsFilling schema ids c.args.table c.args.now.rows l.tables) turn.here l.invariant.filling)

pub returns-in_err-add_if_of-clause-step : goal.returns-in_err-add_if_of-clause-step
returns-in_err-add_if_of-clause-step g c = λ files told.
    let p = err_from_is_err_and c.from_residual.result c.from_residual.ensures.1 in
    let l = c.loop-id in
    let schema = c.args.schema.now in
    let needs = c.args.needs.now in
    let test : ColumnId → Bool = λ one. one.table == c.args.table in
    let id = get_or c.as_slice-id-items.result.now l.id-index (id_of 0 0) in
    let turn = column_turn schema needs c.as_slice-id-items.result.now l.id-index (id_of 0 0) c.requires.lawful c.as_slice-id-items.ensures c.loop-id-test.true in
    let step = ColumnStep files schema c.args.definition.now.name (now_view c.args.now) in
    let view : Unit {0} → List TableState = λ done. c.add_if_of.new.tables in
    rw (p.1, p.2)
    (turn_stops step (Each step c.args.tables.now (columns_of_table needs c.args.table)) test needs.columns l.id-index l.tables view view id turn.within turn.is c.in_err-add_if_of.field-0.0
    (c.in_err-add_if_of.ensures.step files (l.invariant.files ∙ told)) (l.invariant.step files told))

pub loop-id-preserved : goal.loop-id-preserved
loop-id-preserved g c =
    let l = c.loop-id in
    let schema = c.args.schema.now in
    let needs = c.args.needs.now in
    let table = c.args.table in
    let rows = c.args.now.rows in
    let test : ColumnId → Bool = λ one. one.table == table in
    let id = get_or c.as_slice-id-items.result.now l.id-index (id_of 0 0) in
    let turn = column_turn schema needs c.as_slice-id-items.result.now l.id-index (id_of 0 0) c.requires.lawful c.as_slice-id-items.ensures c.loop-id-test.true in
    let after = c.add_if_of.new.tables in
    let fits = FitsKind schema in
    record {
      filling = filling_goes fits schema l.tables after id (drop (l.id-index + 1) needs.columns) table rows turn.apart turn.holds
          (subst (λ (ids : List ColumnId). IsFilling schema ids table rows l.tables) turn.here l.invariant.filling) c.in_ok-add_if_of.ensures.run;
      step = λ files told.
          let step = ColumnStep files schema c.args.definition.now.name (now_view c.args.now) in
          turn_goes step (Each step c.args.tables.now (columns_of_table needs table)) test needs.columns l.id-index l.tables id turn.within turn.is after
          (c.in_ok-add_if_of.ensures.step files (l.invariant.files ∙ told)) (l.invariant.step files told);
      run = turn_goes (Puts fits) (Each (Puts fits) c.args.tables.now (columns_of_table needs table)) test needs.columns l.id-index l.tables id turn.within turn.is after c.in_ok-add_if_of.ensures.run l.invariant.run;
      files = c.in_ok-add_if_of.ensures.kept.files ∙ l.invariant.files;
      calm = c.in_ok-add_if_of.ensures.kept.calm (λ e. cc) ∙ l.invariant.calm;
    }
