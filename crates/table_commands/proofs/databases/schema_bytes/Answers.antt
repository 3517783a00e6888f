use Rattle.table_commands.proofs.databases.schema_bytes.Goals as goal

pub returns-clause-step : goal.returns-clause-step
returns-clause-step g c = λ files told. rw c.schema_file.ensures at (c.bytes_of.ensures.step files told)
