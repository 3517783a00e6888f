use Rattle.table_commands.proofs.exporting.whole_table.Goals as goal

pub returns-clause-step : goal.returns-clause-step
returns-clause-step g c = λ files told. rw c.in_ok-needs.ensures.needs at (c.opened.ensures.step files told)
