use Rattle.database_core.proofs.SavedLemmas.{one_saved}
use Rattle.database_core.proofs.laws.one_saved.Goals as goal

pub returns : goal.returns
returns c = one_saved
