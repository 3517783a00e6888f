use Rattle.database_core.proofs.StandingLemmas.{opened_stands}
use Rattle.database_core.proofs.StandingOpensLemmas.{standing_opens}
use Rattle.database_core.proofs.laws.opened_stands.Goals as goal

pub returns-clause-stands : goal.returns-clause-stands
returns-clause-stands c = opened_stands

pub returns-clause-opens : goal.returns-clause-opens
returns-clause-opens c = standing_opens
