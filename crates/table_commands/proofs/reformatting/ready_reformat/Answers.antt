use Rattle.std.proofs.Common.{◌≡◌, ◌∙◌, Some, Ok, subst, sym}
use Rattle.std.proofs.lemmas.Result.{err_from_is_err_and, IfOk-weaker}
use Rattle.stream_core.specs.Files.{Files}
use Rattle.table_commands.specs.Databases.{TableStep}
use Rattle.table_commands.specs.Reformatting.{ReformatOf}
use Rattle.table_commands.specs.Views.{ready_view}
use Rattle.table_commands.specs.declared.databases.Found.{Found}
use Rattle.table_commands.proofs.StepLemmas.{Ends-stopped, Ends-went}
use Rattle.table_commands.proofs.reformatting.ready_reformat.Goals as goal

pub returns-in_err-found-clause-step : goal.returns-in_err-found-clause-step
returns-in_err-found-clause-step g c = λ files told.
    let p = err_from_is_err_and c.from_residual.result c.from_residual.ensures.1 in
    let name = c.args.table.now in
    rw (p.1, p.2)
    (Ends-stopped ready_view (TableStep files name) (ReformatOf files) (λ (found : Found). found) c.in_err-found.field-0.0 (c.in_err-found.ensures.step files told))

pub returns-clause-step : goal.returns-clause-step
returns-clause-step g c = λ files told.
    let name = c.args.table.now in
    Ends-went ready_view (TableStep files name) (ReformatOf files) c.in_ok-found.found c.reformat_of.result (c.in_ok-found.ensures.step files told)
    (c.reformat_of.ensures.step files (c.in_ok-found.ensures.kept.files ∙ told))

pub returns-clause-of : goal.returns-clause-of
returns-clause-of g c =
    let name = c.args.table.now in
    IfOk-weaker c.reformat_of.result (λ one. one.found ≡ c.in_ok-found.found) (λ one. (files : Files) → g.S.Store.files c.args.store.now ≡ Some files → TableStep files name (Ok one.found))
    (λ one same files told. subst (λ (found : Found). TableStep files name (Ok found)) (sym same) (c.in_ok-found.ensures.step files told)) c.reformat_of.ensures.of
