use Rattle.plan_meaning.proofs.GroupsLaws.{groups_are_distinct}
use Rattle.plan_meaning.proofs.laws.groups_are_distinct.Goals as goal

pub returns : goal.returns
returns c = groups_are_distinct
