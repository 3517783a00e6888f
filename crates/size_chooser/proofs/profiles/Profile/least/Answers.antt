use Rattle.block_core.specs.Formats.{format_of}
use Rattle.size_chooser.proofs.LeastLemmas.{IsLeast-from_place}
use Rattle.size_chooser.proofs.profiles.Profile.least.Goals as goal

pub returns : goal.returns
returns c = λ values is.
    IsLeast-from_place values c.sizes.result c.least_place.result (format_of c.format_at.result) (c.sizes.ensures.sizes values is) c.format_at.ensures c.least_place.ensures.least c.least_place.ensures.first
