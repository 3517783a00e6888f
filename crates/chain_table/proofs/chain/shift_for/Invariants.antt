-- some bits tell the bucket, and not all
use Rattle.std.proofs.Common.{◌<◌}
use Rattle.chain_table.proofs.chain.shift_for.Given as goal

abbrev pub invariant-loop-bits : goal.invariant-loop-bits
invariant-loop-bits l = record {
  some : 0 < l.shift;
  few : l.shift < 64;
}
