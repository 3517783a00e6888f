use Rattle.tail_pack.proofs.Windows.{value_from_bits}
use Rattle.tail_pack.proofs.reading.pick.Goals as goal

pub returns : goal.returns
returns c = λ values tail within. value_from_bits c.args.width c.value_at.result c.args.place values c.args.bytes.now tail within c.value_at.ensures.small c.value_at.ensures.bits
