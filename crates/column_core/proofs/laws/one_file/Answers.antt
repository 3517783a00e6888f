use Rattle.definitions_columns.proofs.FileLaws.{one_file}
use Rattle.column_core.proofs.laws.one_file.Goals as goal

pub returns : goal.returns
returns c = one_file
