use Rattle.toml.specs.View.{table_view}
use Rattle.plan_core.specs.Views.{plan_view}
use Rattle.plan_core.proofs.StrategyLemmas.{answer_keeps}
use Rattle.plan_core.proofs.strategy_reading.read_strategy.Goals as goal

pub returns-in-Ok-clause-lawful : goal.returns-in-Ok-clause-lawful
returns-in-Ok-clause-lawful c = answer_keeps (plan_view c.args.plan.now) (table_view c.in-Ok.keys) c.strategy_in.result c.strategy_in.ensures
