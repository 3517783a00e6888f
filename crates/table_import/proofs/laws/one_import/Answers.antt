use Rattle.table_import.proofs.ImportLaws.{one_import}
use Rattle.table_import.proofs.laws.one_import.Goals as goal

pub returns : goal.returns
returns c = one_import
