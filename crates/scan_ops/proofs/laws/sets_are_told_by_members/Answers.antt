use Rattle.scan_ops.proofs.SetMeaningLaws.{intersections_have_both, unions_have_either}
use Rattle.scan_ops.proofs.laws.sets_are_told_by_members.Goals as goal

pub returns-clause-intersections : goal.returns-clause-intersections
returns-clause-intersections c = intersections_have_both

pub returns-clause-unions : goal.returns-clause-unions
returns-clause-unions c = unions_have_either
