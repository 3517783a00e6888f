use Rattle.query_commands.proofs.QueryLaws.{said_of_text, said_of_binding}
use Rattle.query_commands.proofs.laws.query_refusals_are_said.Goals as goal

pub returns-clause-text : goal.returns-clause-text
returns-clause-text c = said_of_text

pub returns-clause-binding : goal.returns-clause-binding
returns-clause-binding c = said_of_binding
