-- The lanes so far are added up, and each of them is below 2 ^ 64.
use Rattle.std.proofs.Common.{◌≡◌, ◌*◌, ◌≤◌, sum, take}
use Rattle.lane_core.proofs.vectors.Lanes.sum_u128.Given as goal

abbrev pub invariant-loop-lane : goal.invariant-loop-lane
invariant-loop-lane g l = record { added : l.total ≡ sum (take l.lane-index l.lane-items); bounded : l.total ≤ 18446744073709551615 * l.lane-index }
