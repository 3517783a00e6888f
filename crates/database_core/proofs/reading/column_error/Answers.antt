use Rattle.std.proofs.Common.{rules}
use Rattle.database_core.proofs.StepLemmas.{fault_named}
use Rattle.database_core.proofs.reading.column_error.Goals as goal

pub returns-in_default-clause-step : goal.returns-in_default-clause-step
returns-in_default-clause-step c = λ bytes says.
    rw c.copy_of.ensures (fault_named c.args.file.now bytes c.args.found (search rules) says)
