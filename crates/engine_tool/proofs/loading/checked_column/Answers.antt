use Rattle.engine_tool.proofs.loading.checked_column.Goals as goal

pub returns-in-Err-clause-step : goal.returns-in-Err-clause-step
returns-in-Err-clause-step c = c.column_stop.ensures.step c.args.bytes c.in-Err.ensures.fault
