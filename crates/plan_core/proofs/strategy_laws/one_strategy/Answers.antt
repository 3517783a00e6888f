use Rattle.plan_core.proofs.StrategyLaws.{one_strategy}
use Rattle.plan_core.proofs.strategy_laws.one_strategy.Goals as goal

pub returns : goal.returns
returns c = one_strategy
