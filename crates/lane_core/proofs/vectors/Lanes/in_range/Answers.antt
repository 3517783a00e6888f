use Rattle.std.proofs.Common.{◌≤◌, arith}
use Rattle.lane_core.proofs.RangeMask.{mask_is, mask_lt, mask_fits, mask_bit}
use Rattle.lane_core.proofs.vectors.Lanes.in_range.Goals as goal

pub overflow_cast-result : goal.overflow_cast-result
overflow_cast-result g c =
    let long = c.self.invariant in
    let short : g.row.L ≤ 64 = omega arith in
    rw mask_is (mask_fits _ _ _ long (omega arith))

pub returns-clause-lanes : goal.returns-clause-lanes
returns-clause-lanes g c = λ few lane within.
    let long = c.self.invariant in
    let short : g.row.L ≤ 64 = omega arith in
    rw (mask_is, ← c.self.view_is)
    (mask_bit c.args.low c.args.high c.self.inside.lanes lane (omega arith) (omega arith) (c.words_fit.ensures lane) (omega arith))

pub returns-clause-no_more : goal.returns-clause-no_more
returns-clause-no_more g c =
    let long = c.self.invariant in
    let short : g.row.L ≤ 64 = omega arith in
    rw mask_is (mask_lt _ _ _ long)
