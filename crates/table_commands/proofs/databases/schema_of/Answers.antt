use Rattle.std.proofs.Common.{sym}
use Rattle.definitions_outcomes.specs.Outcomes.{Gives}
use Rattle.catalog_core.specs.declared.schemas.Schema.{Schema}
use Rattle.table_commands.specs.Databases.{schema_bytes, SchemaIn}
use Rattle.table_commands.proofs.StepLemmas.{Ends-went}
use Rattle.table_commands.proofs.databases.schema_of.Goals as goal

pub returns-clause-step : goal.returns-clause-step
returns-clause-step g c = λ files told.
    Ends-went (λ (schema : Schema). schema) (Gives (schema_bytes files)) SchemaIn c.in_ok-bytes.bytes c.schema_in.result (sym (c.in_ok-bytes.ensures.step files told))
    (rw c.as_slice.ensures at c.schema_in.ensures.step)
