use Rattle.database_core.proofs.SavedLemmas.{saved_stands}
use Rattle.database_core.proofs.laws.saved_stands.Goals as goal

pub returns : goal.returns
returns c = saved_stands
