use Rattle.cascade_formats.proofs.ReferenceBlocks.{reference_joined}
use Rattle.cascade_formats.proofs.references.ReferenceTransform.join.Goals as goal

pub returns : goal.returns
returns g c = reference_joined c.args.base c.requires.0 c.args.block.now c.as_mut_slice.result.now c.raise.new.block c.requires.1 c.as_mut_slice.ensures.value c.raise.ensures
