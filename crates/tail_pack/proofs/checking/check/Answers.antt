use Rattle.std.proofs.Common.{◌∙◌, sym, subst, ◌*◌, ◌≤◌}
use Rattle.definitions_columns.proofs.TailLaws.{IsPackedTail-back}
use Rattle.tail_pack.proofs.checking.check.Goals as goal

pub returns-then-bytes-packed_len : goal.returns-then-bytes-packed_len
returns-then-bytes-packed_len c = (
  (λ clear. IsPackedTail-back c.args.width c.args.count c.args.bytes.now (λ i. (c.type_inv.bytes i).fits) (c.if-bytes-packed_len.true ∙ c.packed_len.ensures.size) (c.ends_clear.ensures.0 clear)),
  (λ tail. c.ends_clear.ensures.1 (λ k past. tail.2.unused k (subst (λ n. n * c.args.width ≤ k) (sym tail.1) past))),
)
