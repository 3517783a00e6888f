use Rattle.size_chooser.proofs.LeastLemmas.{one_least}
use Rattle.size_chooser.proofs.laws.one_least.Goals as goal

pub returns : goal.returns
returns c = one_least
