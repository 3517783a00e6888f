use Rattle.definitions_columns.proofs.TailLaws.{IsPackedTail-words}
use Rattle.tail_pack.proofs.laws.word_tail.Goals as goal

pub returns : goal.returns
returns c = IsPackedTail-words
