use Rattle.definitions_columns.proofs.FaultLaws.{no_fault}
use Rattle.column_file.proofs.laws.no_fault.Goals as goal

pub returns : goal.returns
returns c = no_fault
