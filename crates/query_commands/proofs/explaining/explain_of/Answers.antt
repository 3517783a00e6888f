use Rattle.std.proofs.Common.{ℕ, List}
use Rattle.std.proofs.lemmas.Result.{err_from_is_err_and}
use Rattle.catalog_core.specs.declared.schemas.Schema.{Schema}
use Rattle.query_text.specs.Views.{query_view}
use Rattle.table_commands.specs.Databases.{SchemaStep}
use Rattle.table_commands.proofs.StepLemmas.{Ends-stopped, Ends-went}
use Rattle.query_commands.specs.Explaining.{ExplainIn}
use Rattle.query_commands.proofs.explaining.explain_of.Goals as goal

pub returns-in_err-schema-clause-step : goal.returns-in_err-schema-clause-step
returns-in_err-schema-clause-step g c = λ files told.
    let p = err_from_is_err_and c.from_residual.result c.from_residual.ensures.1 in
    rw (p.1, p.2)
    (Ends-stopped (λ (b : List ℕ). b) (SchemaStep files) (ExplainIn (query_view c.args.query.now)) (λ (schema : Schema). schema) c.in_err-schema.field-0.0 (c.in_err-schema.ensures.step files told))

pub returns-clause-step : goal.returns-clause-step
returns-clause-step g c = λ files told.
    Ends-went (λ (b : List ℕ). b) (SchemaStep files) (ExplainIn (query_view c.args.query.now)) c.in_ok-schema.schema c.explain_in.result (c.in_ok-schema.ensures.step files told)
    c.explain_in.ensures.step
