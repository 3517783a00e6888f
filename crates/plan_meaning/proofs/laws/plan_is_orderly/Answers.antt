use Rattle.plan_meaning.proofs.LawProofs.{is_orderly}
use Rattle.plan_meaning.proofs.laws.plan_is_orderly.Goals as goal

pub returns : goal.returns
returns c = is_orderly
