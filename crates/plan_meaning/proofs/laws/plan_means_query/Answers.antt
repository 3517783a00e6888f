use Rattle.plan_meaning.proofs.LawProofs.{means_query}
use Rattle.plan_meaning.proofs.laws.plan_means_query.Goals as goal

pub returns : goal.returns
returns c = means_query
