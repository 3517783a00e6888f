use Rattle.plan_core.proofs.ChoiceLemmas.{choices_are}
use Rattle.plan_core.proofs.planner.Planner.condition.Goals as goal

pub returns-in-OneOf-clause-made : goal.returns-in-OneOf-clause-made
returns-in-OneOf-clause-made c = rw (c.in-OneOf.is, ← choices_are c.in-OneOf.literals, ← c.as_slice.ensures) c.choice.ensures.made
