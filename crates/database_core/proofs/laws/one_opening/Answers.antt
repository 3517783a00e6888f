use Rattle.database_core.proofs.OneOpeningLemmas.{one_opening}
use Rattle.database_core.proofs.laws.one_opening.Goals as goal

pub returns : goal.returns
returns c = one_opening
