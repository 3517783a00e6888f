use Rattle.std.proofs.Common.{◌≡◌, List, Some, Ok, Err, length, refl, ◌∙◌, subst}
use Rattle.std.specs.Prelude.{IfSome, IsTrue, nat_eq}
use Rattle.std.specs.List.{IsDistinct}
use Rattle.std.proofs.lemmas.Result.{err_from_is_err_and, on_ok_weaker}
use Rattle.std.proofs.lemmas.Option.{slice_get_read}
use Rattle.definitions_outcomes.specs.Outcomes.{Each}
use Rattle.catalog_core.specs.Columns.{table_at, columns_of_table}
use Rattle.table_core.specs.Tables.{TableState, key_values}
use Rattle.table_core.specs.Held.{is_key_needed}
use Rattle.database_core.specs.NowViews.{now_view}
use Rattle.database_core.specs.Filling.{Puts, FitsKind}
use Rattle.database_core.specs.Opening.{ColumnStep}
use Rattle.database_core.specs.Opens.{Opens}
use Rattle.database_core.proofs.FillLemmas.{now_refused, columns_refused, key_ended, keys_known}
use Rattle.database_core.proofs.LoopLemmas.{begin_filling, key_there}
use Rattle.database_core.proofs.filling.fill_table.Goals as goal

pub returns-in_err-now-clause-step : goal.returns-in_err-now-clause-step
returns-in_err-now-clause-step g c = λ files told.
    let p = err_from_is_err_and c.from_residual.result c.from_residual.ensures.1 in
    let schema = c.args.schema.now in
    let needs = c.args.needs.now in
    let table = c.args.table in
    let definition = c.index-as_slice-table.result in
    let known : table_at schema table ≡ Some definition =
    slice_get_read schema.tables (length schema.tables) table definition refl c.requires.within (rw c.as_slice.ensures at c.index-as_slice-table.is) in
    let view : Unit {0} → List TableState = λ done. c.args.tables.now in
    rw (p.1, p.2) (now_refused files schema needs c.args.tables.now table definition known view now_view c.in_err-now.field-0.0 (c.in_err-now.ensures.step files told))

pub add_columns-requires-clause-definition : goal.add_columns-requires-clause-definition
add_columns-requires-clause-definition g c =
    let schema = c.args.schema.now in
    let table = c.args.table in
    let definition = c.index-as_slice-table.result in
    let known : table_at schema table ≡ Some definition =
    slice_get_read schema.tables (length schema.tables) table definition refl c.requires.within (rw c.as_slice.ensures at c.index-as_slice-table.is) in
    known

pub add_columns-requires-clause-filling : goal.add_columns-requires-clause-filling
add_columns-requires-clause-filling g c =
    begin_filling c.args.schema.now c.args.needs.now c.args.tables.now c.start.new.self c.args.table c.in_ok-now.now.rows c.requires.within c.start.ensures.started c.requires.empty

pub returns-in_err-add_columns-clause-step : goal.returns-in_err-add_columns-clause-step
returns-in_err-add_columns-clause-step g c = λ files told.
    let p = err_from_is_err_and c.from_residual-in_err-add_columns.result c.from_residual-in_err-add_columns.ensures.1 in
    let schema = c.args.schema.now in
    let needs = c.args.needs.now in
    let table = c.args.table in
    let definition = c.index-as_slice-table.result in
    let known : table_at schema table ≡ Some definition =
    slice_get_read schema.tables (length schema.tables) table definition refl c.requires.within (rw c.as_slice.ensures at c.index-as_slice-table.is) in
    let now = now_view c.in_ok-now.now in
    let view : Unit {0} → List TableState = λ done. c.add_columns.new.tables in
    rw (p.1, p.2)
    (columns_refused files schema needs c.args.tables.now table definition known view view now c.in_err-add_columns.field-0.0 (c.in_ok-now.ensures.step files told)
    (subst (λ (s : List TableState). Opens view (Err c.in_err-add_columns.field-0.0) (Each (ColumnStep files schema definition.name now) s (columns_of_table needs table))) c.start.ensures.started
    (c.in_err-add_columns.ensures.step files (c.in_ok-now.ensures.kept.files ∙ told))))

pub check_key-requires : goal.check_key-requires
check_key-requires g c =
    let schema = c.args.schema.now in
    let needs = c.args.needs.now in
    let table = c.args.table in
    let definition = c.index-as_slice-table.result in
    let known : table_at schema table ≡ Some definition =
    slice_get_read schema.tables (length schema.tables) table definition refl c.requires.within (rw c.as_slice.ensures at c.index-as_slice-table.is) in
    let filling = begin_filling schema needs c.args.tables.now c.start.new.self table c.in_ok-now.now.rows c.requires.within c.start.ensures.started c.requires.empty in
    key_there (FitsKind schema) schema needs definition table c.in_ok-now.now.rows c.start.new.self c.add_columns.new.tables c.requires.lawful known filling c.in_ok-add_columns.ensures.run

pub returns-clause-step : goal.returns-clause-step
returns-clause-step g c = λ files told.
    let schema = c.args.schema.now in
    let needs = c.args.needs.now in
    let table = c.args.table in
    let definition = c.index-as_slice-table.result in
    let known : table_at schema table ≡ Some definition =
    slice_get_read schema.tables (length schema.tables) table definition refl c.requires.within (rw c.as_slice.ensures at c.index-as_slice-table.is) in
    let now = now_view c.in_ok-now.now in
    let filled = c.add_columns.new.tables in
    let view : Unit {0} → List TableState = λ done. filled in
    key_ended files schema needs c.args.tables.now table definition known view now filled c.check_key.result (c.in_ok-now.ensures.step files told)
    (subst (λ (s : List TableState). Each (ColumnStep files schema definition.name now) s (columns_of_table needs table) (Ok filled)) c.start.ensures.started
    (c.in_ok-add_columns.ensures.step files (c.in_ok-now.ensures.kept.files ∙ told)))
    c.check_key.ensures.step

pub returns-clause-run : goal.returns-clause-run
returns-clause-run g c =
    let schema = c.args.schema.now in
    let needs = c.args.needs.now in
    let table = c.args.table in
    let definition = c.index-as_slice-table.result in
    let known : table_at schema table ≡ Some definition =
    slice_get_read schema.tables (length schema.tables) table definition refl c.requires.within (rw c.as_slice.ensures at c.index-as_slice-table.is) in
    let filled = c.add_columns.new.tables in
    on_ok_weaker c.check_key.result (λ (differ : IsTrue (is_key_needed definition needs table) → IfSome (key_values filled table) (IsDistinct nat_eq)). record {
      rows = c.in_ok-now.now.rows;
      counted = tt;
      filled = filled;
      columns = subst (λ (s : List TableState). Each (Puts (FitsKind schema)) s (columns_of_table needs table) (Ok filled)) c.start.ensures.started c.in_ok-add_columns.ensures.run;
      keys = keys_known schema needs filled table definition known differ;
      done = refl;
    })
    c.check_key.ensures.differ
