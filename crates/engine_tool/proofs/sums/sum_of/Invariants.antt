use Rattle.std.proofs.Common.{◌≡◌, ◌*◌, ◌≤◌, take, sum}
use Rattle.engine_tool.proofs.sums.sum_of.Given as goal

-- the total is the sum so far, of so many numbers below 2^64
abbrev pub invariant-loop-value : goal.invariant-loop-value
invariant-loop-value l = record { so_far : l.total ≡ sum (take l.value-index l.values); small : l.total ≤ 18446744073709551615 * l.value-index }
