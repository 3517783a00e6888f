use Rattle.definitions_blocks.proofs.BlockLaws.{BlockOf-one}
use Rattle.column_core.proofs.laws.one_encoding.Goals as goal

pub returns : goal.returns
returns c = BlockOf-one
