use Rattle.std.proofs.Common.{◌+◌, ◌*◌, refl, arith}
use Rattle.strand_pack.proofs.WordBits.{word_written}
use Rattle.strand_pack.proofs.words.put_word.Goals as goal

pub returns-clause-written : goal.returns-clause-written
returns-clause-written c = word_written c.args.into.now c.set_word.new.into c.args.word c.args.place (8 * c.args.place + 8) c.ranges.word.fits refl (omega arith) c.set_word.ensures
