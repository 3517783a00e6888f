use Rattle.definitions_columns.specs.ColumnFiles.{static_width_of}
use Rattle.definitions_columns.proofs.SizeLaws.{IsEncoded-size}
use Rattle.column_core.proofs.laws.file_size.Goals as goal

pub returns : goal.returns
returns c = λ format values bytes is. IsEncoded-size format (static_width_of format values) values bytes is
