use Rattle.std.proofs.Common.{arith}
use Rattle.chain_table.proofs.ChainLaws.{IsChained-empty}
use Rattle.chain_table.proofs.chain.Chain.new.Goals as goal

pub invariant_of-result : goal.invariant_of-result
invariant_of-result c = (
  IsChained-empty 0x9E37_79B9_7F4A_7C15 c.new.result.items c.new-2.result.items c.new-3.result.items c.new-4.result.items c.new.ensures.items c.new-2.ensures.items c.new-3.ensures.items c.new-4.ensures.items,
  omega arith,
  omega arith,
  omega arith,
)
