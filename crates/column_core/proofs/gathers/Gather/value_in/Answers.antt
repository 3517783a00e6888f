use Rattle.std.proofs.Common.{◌≡◌, ◌/◌, ◌<◌, length, ap, ◌∙◌, arith}
use Rattle.definitions_blocks.specs.Blocks.{block_values}
use Rattle.column_core.proofs.BlockAtLemmas.{length-block_at}
use Rattle.column_core.proofs.gathers.Gather.value_in.Goals as goal

pub bounds-as_slice-place : goal.bounds-as_slice-place
bounds-as_slice-place g c =
    let j = c.self.inside in
    let same : j.column.now.values ≡ c.args.self.now = c.self.view_is ∙ c.may_pick.ensures in
    let whole : c.args.number < length j.column.now.values / block_values = rw same c.requires.whole in
    omega (arith, ap length (c.as_slice.ensures.values ∙ c.read_block.ensures), length-block_at j.column.now.values c.args.number whole, c.requires.within)
