use Rattle.std.proofs.Common.{◌∙◌, replicate, ap, arith}
use Rattle.chain_table.proofs.ChainLaws.{IsChained-reserved}
use Rattle.chain_table.proofs.chain.Chain.with_room.Goals as goal

pub invariant_of-result : goal.invariant_of-result
invariant_of-result c = (
  IsChained-reserved 0x9E37_79B9_7F4A_7C15 c.shift_for-shift.result c.args.count c.in_ok-zeros.field-0.items c.in_ok-with_capacity.field-0.items c.in_ok-with_capacity-2.field-0.items c.in_ok-with_capacity-3.field-0.items
      (c.in_ok-zeros.ensures ∙ ap (λ n. replicate n 0) c.bucket_count.ensures) c.in_ok-with_capacity.ensures.items c.in_ok-with_capacity-2.ensures.items c.in_ok-with_capacity-3.ensures.items (omega (arith, c.requires)) c.shift_for-shift.ensures.few,
  c.in_ok-with_capacity.ensures.capacity,
  c.in_ok-with_capacity-2.ensures.capacity,
  c.in_ok-with_capacity-3.ensures.capacity,
)
