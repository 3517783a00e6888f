use Rattle.plan_meaning.proofs.LawProofs.{fits}
use Rattle.plan_meaning.proofs.laws.plan_fits.Goals as goal

pub returns : goal.returns
returns c = fits
