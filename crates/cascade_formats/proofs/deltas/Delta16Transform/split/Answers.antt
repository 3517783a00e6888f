use Rattle.std.proofs.Common.{◌≡◌, length, ap, ◌∙◌}
use Rattle.std.specs.List.{refill}
use Rattle.definitions_blocks.specs.Differences.{first_of, delta16_of}
use Rattle.definitions_blocks.proofs.DeltaLaws.{AreDelta16Differences-of}
use Rattle.cascade_formats.proofs.DeltaBlocks.{lagged_written}
use Rattle.cascade_formats.proofs.deltas.Delta16Transform.split.Goals as goal

pub returns : goal.returns
returns g c =
    let full = c.args.full.now in
    let base = c.subtract_earlier.ensures.base ∙ ap first_of c.as_slice.ensures.values in
    let differences : refill (length c.fill.new.self) c.fill.new.self c.subtract_earlier.new.into ≡ delta16_of full =
    lagged_written 16 (length c.fill.new.self) c.fill.new.self c.subtract_earlier.new.into c.as_slice.result.now full c.fill.ensures.length c.as_slice.ensures.values c.requires c.subtract_earlier.ensures.differences in
    record { base = base; differences = differences; each = AreDelta16Differences-of c.subtract_earlier.result full _ c.requires base differences }
