use Rattle.std.proofs.Common.{◌∙◌}
use Rattle.column_core.proofs.BlockAtLemmas.{block_at-index}
use Rattle.column_core.proofs.gathers.Gather.find.Goals as goal

pub returns-then-number-whole_blocks-clause-value : goal.returns-then-number-whole_blocks-clause-value
returns-then-number-whole_blocks-clause-value g c = c.value_in.ensures.value ∙ block_at-index c.args.self.now c.args.place
