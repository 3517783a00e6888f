use Rattle.definitions_blocks.proofs.BlockLaws.{BlockOf-encoding}
use Rattle.column_core.proofs.laws.has_block.Goals as goal

pub returns : goal.returns
returns c = BlockOf-encoding
