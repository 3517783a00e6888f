-- the halves so far are those of the sum of the products so far, if no value so far is 2^32 or more
use Rattle.std.proofs.Common.{◌≡◌, ◌+◌, ◌*◌, ◌^◌, ◌≤◌, take, sum}
use Rattle.definitions_operators.specs.Groups.{products_of}
use Rattle.sum_ops.proofs.blocks.narrow_product.Given as goal

abbrev pub invariant-loop-row : goal.invariant-loop-row
invariant-loop-row l = record {
  low : l.low ≤ l.row * 4294967295;
  high : l.high ≤ l.row * 4294967295;
  above : l.above ≤ l.row * 8589934590;
  sum : l.above ≡ 0 → l.low + l.high * 2 ^ 32 ≡ sum (take l.row (products_of l.first l.second));
}
