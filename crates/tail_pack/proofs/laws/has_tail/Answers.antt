use Rattle.definitions_columns.proofs.TailLaws.{IsPackedTail-some}
use Rattle.tail_pack.proofs.laws.has_tail.Goals as goal

pub returns : goal.returns
returns c = IsPackedTail-some
