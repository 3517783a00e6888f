use Rattle.definitions_columns.proofs.TailLaws.{IsPackedTail-values}
use Rattle.tail_pack.proofs.laws.one_unpacked.Goals as goal

pub returns : goal.returns
returns c = IsPackedTail-values
