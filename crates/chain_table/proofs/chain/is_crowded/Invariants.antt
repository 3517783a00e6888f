-- the key has not changed so often yet
use Rattle.std.proofs.Common.{◌<◌}
use Rattle.chain_table.proofs.chain.is_crowded.Given as goal

abbrev pub invariant-loop : goal.invariant-loop
invariant-loop l = l.changes < 16
