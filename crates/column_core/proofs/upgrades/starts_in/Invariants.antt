-- the blocks so far were gone over
use Rattle.std.proofs.Common.{ℕ, List}
use Rattle.definitions_columns.specs.ColumnFiles.{first, IsFileOf}
use Rattle.definitions_columns.proofs.FirstVersionLaws.{GoneOver}
use Rattle.block_core.specs.Formats.{format_of}
use Rattle.column_core.proofs.upgrades.starts_in.Given as goal

abbrev pub invariant-loop-block : goal.invariant-loop-block
invariant-loop-block l = (values : List ℕ) (is : IsFileOf first (format_of l.head.format) values l.file) → GoneOver is.pieces l._block l.place l.starts.items
