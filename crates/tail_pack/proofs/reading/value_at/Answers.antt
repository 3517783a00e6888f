use Rattle.std.proofs.Common.{◌*◌}
use Rattle.tail_pack.proofs.Windows.{field-bit, field-lt}
use Rattle.tail_pack.proofs.reading.value_at.Goals as goal

pub returns-clause-bits : goal.returns-clause-bits
returns-clause-bits c = λ b within. field-bit c.args.bytes.now c.args.width c.window_at.result (c.args.place * c.args.width) c.from-mask.result b c.requires.narrow c.from-mask.ensures c.window_at.ensures within

pub returns-clause-small : goal.returns-clause-small
returns-clause-small c = field-lt c.args.width c.window_at.result _ c.from-mask.result c.requires.narrow c.from-mask.ensures
