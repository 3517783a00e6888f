use Rattle.definitions_columns.proofs.FileLaws.{one_column}
use Rattle.column_core.proofs.laws.one_column.Goals as goal

pub returns : goal.returns
returns c = one_column
