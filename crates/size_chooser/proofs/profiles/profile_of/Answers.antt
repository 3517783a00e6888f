use Rattle.std.proofs.Common.{[]}
use Rattle.size_chooser.proofs.profiles.profile_of.Goals as goal

pub invariant_of-result : goal.invariant_of-result
invariant_of-result c = (c.args.values.now, c.extend.ensures.taken [] c.new-tally.ensures.none)

pub returns : goal.returns
returns c = c.extend.ensures.taken [] c.new-tally.ensures.none
