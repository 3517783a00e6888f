use Rattle.std.proofs.Common.{◌≡◌, ◌∙◌, true, sym}
use Rattle.stream_core.specs.Names.{is_name}
use Rattle.plan_core.proofs.StrategyLemmas.{name_short, named}
use Rattle.plan_core.proofs.strategy_reading.name_in.Goals as goal

pub returns-then-is_name : goal.returns-then-is_name
returns-then-is_name c =
    let yes : is_name c.args.key.now ≡ true = sym c.is_name.ensures ∙ c.if-is_name.true in
    rw yes (named c.of.result c.args.key.now (c.of.ensures.fits.1 (name_short c.args.key.now yes)) c.of.ensures.value)
