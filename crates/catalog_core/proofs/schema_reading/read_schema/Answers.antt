use Rattle.toml.specs.View.{table_view}
use Rattle.catalog_core.proofs.LawfulLemmas.{answer_keeps}
use Rattle.catalog_core.proofs.schema_reading.read_schema.Goals as goal

pub returns-in-Ok-clause-lawful : goal.returns-in-Ok-clause-lawful
returns-in-Ok-clause-lawful c = answer_keeps (table_view c.in-Ok.keys) c.schema_in.result c.schema_in.ensures
