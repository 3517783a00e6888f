use Rattle.std.proofs.Common.{◌≡◌, length, ap, ◌∙◌}
use Rattle.std.specs.List.{refill}
use Rattle.definitions_blocks.specs.Differences.{least_of, reference_of}
use Rattle.definitions_blocks.proofs.ReferenceLaws.{AreReferenceDifferences-of}
use Rattle.cascade_formats.proofs.ReferenceBlocks.{reference_written}
use Rattle.cascade_formats.proofs.references.ReferenceTransform.split.Goals as goal

pub returns : goal.returns
returns g c =
    let full = c.args.full.now in
    let base = c.extremes-least.ensures.least ∙ ap least_of c.as_slice-values.ensures.values in
    let differences : refill (length c.fill.new.self) c.fill.new.self c.lower.new.into ≡ reference_of full =
    reference_written (length c.fill.new.self) c.fill.new.self c.lower.new.into c.as_slice-values.result.now full c.fill.ensures.length c.as_slice-values.ensures.values c.requires c.lower.ensures in
    record { base = base; differences = differences; each = AreReferenceDifferences-of c.extremes-least.result.0 full _ c.requires base differences }
