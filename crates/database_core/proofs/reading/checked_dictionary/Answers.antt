use Rattle.database_core.proofs.reading.checked_dictionary.Goals as goal

pub returns-in-Err-clause-step : goal.returns-in-Err-clause-step
returns-in-Err-clause-step c = c.dictionary_error.ensures.step c.args.bytes c.in-Err.ensures.fault
