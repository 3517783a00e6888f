-- the entries stay
use Rattle.std.proofs.Common.{◌≡◌}
use Rattle.chain_table.proofs.chain.Chain.balance.Given as goal

abbrev pub invariant-loop : goal.invariant-loop
invariant-loop l = l.self ≡ l.fn.self
