use Rattle.std.proofs.Common.{ℕ, List, ◌∙◌}
use Rattle.std.proofs.lemmas.Result.{err_from_is_err_and}
use Rattle.table_commands.specs.declared.databases.Found.{Found}
use Rattle.table_commands.specs.Databases.{TableStep}
use Rattle.table_commands.specs.Exporting.{ExportOf}
use Rattle.table_commands.proofs.StepLemmas.{Ends-stopped, Ends-went}
use Rattle.table_commands.proofs.exporting.export_answer.Goals as goal

pub returns-in_err-found-clause-step : goal.returns-in_err-found-clause-step
returns-in_err-found-clause-step g c = λ files told.
    let p = err_from_is_err_and c.from_residual.result c.from_residual.ensures.1 in
    let name = c.args.table.now in
    rw (p.1, p.2)
    (Ends-stopped (λ (b : List ℕ). b) (TableStep files name) (ExportOf files) (λ (found : Found). found) c.in_err-found.field-0.0 (c.in_err-found.ensures.step files told))

pub returns-clause-step : goal.returns-clause-step
returns-clause-step g c = λ files told.
    let name = c.args.table.now in
    Ends-went (λ (b : List ℕ). b) (TableStep files name) (ExportOf files) c.in_ok-found.found c.export_of.result (c.in_ok-found.ensures.step files told)
    (c.export_of.ensures.step files (c.in_ok-found.ensures.kept.files ∙ told))
