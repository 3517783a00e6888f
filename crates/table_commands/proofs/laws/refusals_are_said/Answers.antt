use Rattle.table_commands.proofs.CheckLaws.{said_of_schema, said_of_opening}
use Rattle.table_commands.proofs.ImportLaws.{said_of_import}
use Rattle.table_commands.proofs.laws.refusals_are_said.Goals as goal

pub returns-clause-schema : goal.returns-clause-schema
returns-clause-schema c = said_of_schema

pub returns-clause-opening : goal.returns-clause-opening
returns-clause-opening c = said_of_opening

pub returns-clause-import : goal.returns-clause-import
returns-clause-import c = said_of_import
