use Rattle.definitions_columns.proofs.FileLaws.{has_file}
use Rattle.column_core.proofs.laws.has_file.Goals as goal

pub returns : goal.returns
returns c = has_file
