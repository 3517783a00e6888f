use Rattle.std.proofs.Common.{◌≡◌, ℕ, List, Some, Ok, Err}
use Rattle.std.proofs.lemmas.Result.{err_from_is_err_and, IfOk-weaker}
use Rattle.definitions_outcomes.specs.Outcomes.{Gives, Then}
use Rattle.stream_core.specs.Files.{Files}
use Rattle.table_commands.specs.Databases.{TableStep, definition_of}
use Rattle.table_commands.specs.Importing.{max_import, import_too_long, rows_in, IsImport, ImportOf}
use Rattle.table_commands.specs.Refusals.{limited}
use Rattle.table_commands.specs.Saving.{There}
use Rattle.table_commands.specs.Views.{ready_view}
use Rattle.table_commands.specs.declared.saving.Ready.{Ready}
use Rattle.table_commands.proofs.StepLemmas.{Ends-stopped, Ends-went, Ends-computed}
use Rattle.table_commands.proofs.importing.ready_import.Goals as goal

-- the text was not read, or is too long
pub returns-in_err-text-clause-step : goal.returns-in_err-text-clause-step
returns-in_err-text-clause-step g c = λ files text told given.
    let p = err_from_is_err_and c.from_residual-in_err-text.result c.from_residual-in_err-text.ensures.1 in
    let name = c.args.table.now in
    let found = c.in_ok-found.found in
    let table = definition_of found in
    let stopped = c.in_err-text.field-0.0 in
    let bytes = limited max_import import_too_long text in
    rw (p.1, p.2)
    (Ends-went ready_view (TableStep files name) (ImportOf text) found (Err stopped) (c.in_ok-found.ensures.step files told)
    (Ends-stopped ready_view (Gives bytes) (λ (b : List ℕ). Then (Gives (rows_in table b)) (λ rows. There (IsImport table rows))) (λ (b : List ℕ). b) stopped
    (Ends-computed (λ (b : List ℕ). b) (Err stopped) bytes (c.in_err-text.ensures.step text given))))

-- where a table was found, the input was read
pub returns-in_err-text-clause-unheard : goal.returns-in_err-text-clause-unheard
returns-in_err-text-clause-unheard g c = λ files told none. absurd (none c.in_ok-found.found (c.in_ok-found.ensures.step files told))

pub returns-clause-unheard : goal.returns-clause-unheard
returns-clause-unheard g c = λ files told none. absurd (none c.in_ok-found.found (c.in_ok-found.ensures.step files told))

pub returns-clause-of : goal.returns-clause-of
returns-clause-of g c =
    IfOk-weaker c.import_of.result (λ (one : Ready). one.found ≡ c.in_ok-found.found)
    (λ (one : Ready). (files : Files) → g.S.Store.files c.args.store.now ≡ Some files → TableStep files c.args.table.now (Ok one.found))
    (λ one is files told. rw is (c.in_ok-found.ensures.step files told)) c.import_of.ensures.of
