use Rattle.plan_core.proofs.SizeLemmas.{plan_fits}
use Rattle.plan_core.proofs.groups.plan_of.Goals as goal

pub make_plan-requires : goal.make_plan-requires
make_plan-requires c = record { room = plan_fits c.args.schema.now c.args.bound.now c.requires.lawful c.requires.binding }
