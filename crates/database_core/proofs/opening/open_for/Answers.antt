use Rattle.std.proofs.Common.{◌≤◌, ◌+◌, ℕ, List, get_or, drop, length, refl, ◌∙◌, subst}
use Rattle.std.proofs.lemmas.Result.{err_from_is_err_and}
use Rattle.definitions_outcomes.specs.Outcomes.{Each}
use Rattle.table_core.specs.Tables.{TableState, nothing_yet}
use Rattle.database_core.specs.Filling.{FillsSome, IsEmpty}
use Rattle.database_core.specs.Opening.{TableStep, Opened}
use Rattle.database_core.proofs.FilledLemmas.{hold_needs}
use Rattle.database_core.proofs.LoopLemmas.{table_turn, item_goes, item_stops, items_end, empty_first, empty_goes, empty_yet}
use Rattle.database_core.proofs.opening.open_for.Goals as goal

pub loop-table-init : goal.loop-table-init
loop-table-init g c =
    let schema = c.args.schema.now in
    let needs = c.args.needs.now in
    record {
      empty = empty_yet schema needs c.in_ok-tables.tables c.in_ok-tables.ensures.empty;
      step = λ files told end left. subst (λ (s : List TableState). Each (TableStep files schema needs) s needs.tables end) c.in_ok-tables.ensures.empty left;
      run = λ end left. subst (λ (s : List TableState). Each (FillsSome schema needs) s needs.tables end) c.in_ok-tables.ensures.empty left;
      files = refl;
      calm = refl;
    }

pub fill_table-requires-clause-empty : goal.fill_table-requires-clause-empty
fill_table-requires-clause-empty g c =
    let l = c.loop-table in
    let schema = c.args.schema.now in
    let needs = c.args.needs.now in
    let table = get_or c.as_slice-table-items.result.now l.table-index 0 in
    let turn = table_turn schema needs c.as_slice-table-items.result.now l.table-index 0 c.requires.ordered c.as_slice-table-items.ensures c.loop-table-test.true in
    empty_first schema needs l.tables table (drop (l.table-index + 1) needs.tables) (subst (λ (items : List ℕ). IsEmpty schema needs l.tables items) turn.here l.invariant.empty)

pub returns-in_err-fill_table-clause-step : goal.returns-in_err-fill_table-clause-step
returns-in_err-fill_table-clause-step g c = λ files told.
    let p = err_from_is_err_and c.from_residual-in_err-fill_table.result c.from_residual-in_err-fill_table.ensures.1 in
    let l = c.loop-table in
    let schema = c.args.schema.now in
    let needs = c.args.needs.now in
    let table = get_or c.as_slice-table-items.result.now l.table-index 0 in
    let turn = table_turn schema needs c.as_slice-table-items.result.now l.table-index 0 c.requires.ordered c.as_slice-table-items.ensures c.loop-table-test.true in
    let view : Unit {0} → List TableState = λ done. c.fill_table.new.tables in
    let see : List TableState → List TableState = λ tables. tables in
    rw (p.1, p.2)
    (item_stops (TableStep files schema needs) (Opened files schema needs) needs.tables l.table-index l.tables view see table turn.within turn.is c.in_err-fill_table.field-0.0
    (c.in_err-fill_table.ensures.step files (l.invariant.files ∙ told)) (l.invariant.step files told))

pub loop-table-preserved : goal.loop-table-preserved
loop-table-preserved g c =
    let l = c.loop-table in
    let schema = c.args.schema.now in
    let needs = c.args.needs.now in
    let table = get_or c.as_slice-table-items.result.now l.table-index 0 in
    let turn = table_turn schema needs c.as_slice-table-items.result.now l.table-index 0 c.requires.ordered c.as_slice-table-items.ensures c.loop-table-test.true in
    let after = c.fill_table.new.tables in
    record {
      empty = empty_goes schema needs l.tables after table (drop (l.table-index + 1) needs.tables) c.requires.ordered turn.holds.within turn.apart
          (subst (λ (items : List ℕ). IsEmpty schema needs l.tables items) turn.here l.invariant.empty) c.in_ok-fill_table.ensures.run;
      step = λ files told.
          item_goes (TableStep files schema needs) (Opened files schema needs) needs.tables l.table-index l.tables table turn.within turn.is after
          (c.in_ok-fill_table.ensures.step files (l.invariant.files ∙ told)) (l.invariant.step files told);
      run = item_goes (FillsSome schema needs) (Each (FillsSome schema needs) (nothing_yet schema) needs.tables) needs.tables l.table-index l.tables table turn.within turn.is after
          c.in_ok-fill_table.ensures.run l.invariant.run;
      files = c.in_ok-fill_table.ensures.kept.files ∙ l.invariant.files;
      calm = c.in_ok-fill_table.ensures.kept.calm (λ e. cc) ∙ l.invariant.calm;
    }

pub returns-clause-held : goal.returns-clause-held
returns-clause-held g c =
    let l = c.loop-table in
    let schema = c.args.schema.now in
    let needs = c.args.needs.now in
    let past : length needs.tables ≤ l.table-index = rw c.as_slice-table-items.ensures at c.loop-table-test.false in
    hold_needs schema needs l.tables c.requires.ordered
    (items_end (FillsSome schema needs) (Each (FillsSome schema needs) (nothing_yet schema) needs.tables) needs.tables l.table-index l.tables past l.invariant.run)
