use Rattle.definitions_blocks.proofs.DeltaLaws.{AreDelta1Differences-one, AreDelta16Differences-one}
use Rattle.definitions_blocks.proofs.ReferenceLaws.{AreReferenceDifferences-one}
use Rattle.cascade_formats.proofs.laws.differences_have_one_block.Goals as goal

pub returns : goal.returns
returns c = record { delta1 = AreDelta1Differences-one; delta16 = AreDelta16Differences-one; reference = AreReferenceDifferences-one }
