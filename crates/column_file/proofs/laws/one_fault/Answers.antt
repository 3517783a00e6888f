use Rattle.definitions_columns.proofs.FaultLaws.{one_fault}
use Rattle.column_file.proofs.laws.one_fault.Goals as goal

pub returns : goal.returns
returns c = one_fault
