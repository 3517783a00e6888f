use Rattle.definitions_columns.proofs.TailLaws.{IsPackedTail-one}
use Rattle.tail_pack.proofs.laws.one_tail.Goals as goal

pub returns : goal.returns
returns c = IsPackedTail-one
