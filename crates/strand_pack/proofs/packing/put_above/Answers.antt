use Rattle.strand_pack.proofs.LaneLaws.{above_at}
use Rattle.strand_pack.proofs.packing.put_above.Goals as goal

pub returns-clause-each : goal.returns-clause-each
returns-clause-each g c = λ lane within. above_at c.or.result c.args.words c.shift_up.result c.args.values g.row.L c.args.bits lane c.requires.words c.requires.values c.shift_up.ensures c.or.ensures within
