use Rattle.std.proofs.Common.{refl}
use Rattle.size_chooser.proofs.FormatSumLemmas.{IsFormatSumOf-push}
use Rattle.size_chooser.proofs.format_sums.FormatSumMeter.add.Goals as goal

pub returns-clause-added : goal.returns-clause-added
returns-clause-added c = λ blocks is.
    IsFormatSumOf-push c.args.self.now _ c.width_in.result c.size_in.result blocks c.args.block.now is c.requires.full
    c.width_in.ensures.narrow c.width_in.ensures.widest c.size_in.ensures.size c.size_in.ensures.small refl c.max-self.ensures refl
