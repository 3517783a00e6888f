use Rattle.std.proofs.Common.{refl}
use Rattle.size_chooser.proofs.SumLemmas.{AreSumsOf-push}
use Rattle.size_chooser.proofs.sums.BlockSums.plus.Goals as goal

pub returns : goal.returns
returns c = λ blocks last are is full.
    AreSumsOf-push c.args.self c.args.block _ blocks last are is full
    (record { width = c.max.ensures; dynamic = refl; runs = refl; delta1_dynamic = refl; delta16_dynamic = refl; reference_dynamic = refl; delta1_runs = refl })
