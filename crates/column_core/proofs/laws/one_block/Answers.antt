use Rattle.definitions_blocks.proofs.BlockLaws.{BlockOf-front}
use Rattle.column_core.proofs.laws.one_block.Goals as goal

pub returns : goal.returns
returns c = BlockOf-front
