use Rattle.std.proofs.lemmas.Result.{err_from_is_err_and}
use Rattle.definitions_outcomes.specs.Outcomes.{Gives}
use Rattle.catalog_core.specs.declared.schemas.Schema.{Schema}
use Rattle.table_commands.specs.Databases.{SchemaStep, found_in}
use Rattle.table_commands.specs.declared.databases.Found.{Found}
use Rattle.table_commands.proofs.StepLemmas.{Ends-stopped, Ends-went, Ends-computed}
use Rattle.table_commands.proofs.databases.found_table.Goals as goal

pub returns-in_err-schema-clause-step : goal.returns-in_err-schema-clause-step
returns-in_err-schema-clause-step g c = λ files told.
    let p = err_from_is_err_and c.from_residual.result c.from_residual.ensures.1 in
    let name = c.args.name.now in
    rw (p.1, p.2)
    (Ends-stopped (λ (found : Found). found) (SchemaStep files) (λ schema. Gives (found_in schema name)) (λ (schema : Schema). schema) c.in_err-schema.field-0.0 (c.in_err-schema.ensures.step files told))

pub returns-clause-step : goal.returns-clause-step
returns-clause-step g c = λ files told.
    let name = c.args.name.now in
    Ends-went (λ (found : Found). found) (SchemaStep files) (λ schema. Gives (found_in schema name)) c.in_ok-schema.schema c.found_in.result (c.in_ok-schema.ensures.step files told)
    (Ends-computed (λ (found : Found). found) c.found_in.result (found_in c.in_ok-schema.schema name) c.found_in.ensures.step)
