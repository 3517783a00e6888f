use Rattle.column_file.specs.Faults.{fault_of, IsFirstFile}
use Rattle.table_commands.specs.Stops.{what_text}
use Rattle.engine_tool.proofs.FaultLemmas.{fault_named}
use Rattle.engine_tool.proofs.loading.column_stop.Goals as goal

pub returns-in-Some-clause-step : goal.returns-in-Some-clause-step
returns-in-Some-clause-step c = λ bytes says.
    rw c.refused.ensures
    (fault_named c.args.file.now bytes (fault_of c.args.error) (what_text c.in-Some.what) (IsFirstFile bytes) says c.in-Some.ensures.what)
