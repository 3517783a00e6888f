use Rattle.tail_pack.proofs.Windows.{padded_byte}
use Rattle.tail_pack.proofs.reading.padded.Goals as goal

pub returns : goal.returns
returns c = λ k. padded_byte c.args.rest.now c.copy_from_slice.new.self 16 k c.copy_from_slice.ensures.after
