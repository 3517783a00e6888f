use Rattle.std.proofs.Common.{ℕ, List, ◌∙◌}
use Rattle.std.proofs.lemmas.Result.{err_from_is_err_and}
use Rattle.catalog_core.specs.declared.schemas.Schema.{Schema}
use Rattle.table_commands.specs.Checking.{CheckOf}
use Rattle.table_commands.specs.Databases.{SchemaStep}
use Rattle.table_commands.proofs.StepLemmas.{Ends-stopped, Ends-went}
use Rattle.table_commands.proofs.checking.check_answer.Goals as goal

pub returns-in_err-schema-clause-step : goal.returns-in_err-schema-clause-step
returns-in_err-schema-clause-step g c = λ files told.
    let p = err_from_is_err_and c.from_residual.result c.from_residual.ensures.1 in
    rw (p.1, p.2)
    (Ends-stopped (λ (b : List ℕ). b) (SchemaStep files) (CheckOf files) (λ (schema : Schema). schema) c.in_err-schema.field-0.0 (c.in_err-schema.ensures.step files told))

pub returns-clause-step : goal.returns-clause-step
returns-clause-step g c = λ files told.
    Ends-went (λ (b : List ℕ). b) (SchemaStep files) (CheckOf files) c.in_ok-schema.schema c.check_of.result (c.in_ok-schema.ensures.step files told)
    (c.check_of.ensures.step files (c.in_ok-schema.ensures.kept.files ∙ told))
