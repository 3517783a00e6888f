use Rattle.std.proofs.Common.{sym}
use Rattle.definitions_blocks.proofs.WidthLaws.{width_of-is}
use Rattle.block_formats.proofs.dynamic_blocks.DynamicPacking.head_of.Goals as goal

pub returns : goal.returns
returns g c = sym (width_of-is c.width_of.result c.args.full.now c.width_of.ensures.least c.width_of.ensures.narrow)
