use Rattle.std.proofs.Common.{◌++◌, drop, ap, ◌∙◌, arith}
use Rattle.std.proofs.lemmas.Simd.{put_chunk_is}
use Rattle.lane_core.proofs.vectors.Lanes.store.Goals as goal

pub returns-clause-stored : goal.returns-clause-stored
returns-clause-stored g c =
    rw (← c.self.view_is)
    (put_chunk_is 0 c.args.into.now c.self.inside.lanes (omega arith) ∙ ap (λ n. c.self.inside.lanes ++ drop n c.args.into.now) c.self.invariant)
