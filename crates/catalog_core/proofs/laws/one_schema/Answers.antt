use Rattle.catalog_core.proofs.SchemaLaws.{one_schema}
use Rattle.catalog_core.proofs.laws.one_schema.Goals as goal

pub returns : goal.returns
returns c = one_schema
