use Rattle.std.proofs.Common.{arith, ap, length}
use Rattle.plan_core.proofs.SizeLemmas.{each_size}
use Rattle.plan_core.proofs.groups.make_plan.Goals as goal

pub add_groups-requires : goal.add_groups-requires
add_groups-requires c =
    let first = c.in_ok-planner.ensures.columns in
    let groups = each_size 3 c.args.bound.now.groups in
    let room = c.requires.room in
    record { room = omega (arith, first, groups, room) }

pub add_sums-requires : goal.add_sums-requires
add_sums-requires c =
    let first = c.in_ok-planner.ensures.columns in
    let groups = each_size 3 c.args.bound.now.groups in
    let second = c.in_ok-groups.ensures.columns in
    let sums = each_size 4 c.args.bound.now.sums in
    let room = c.requires.room in
    record { room = omega (arith, first, groups, second, sums, room); count = omega (arith, room) }

pub keys_at-requires : goal.keys_at-requires
keys_at-requires c =
    let first = c.in_ok-planner.ensures.columns in
    let groups = each_size 3 c.args.bound.now.groups in
    let second = c.in_ok-groups.ensures.columns in
    let sums = each_size 4 c.args.bound.now.sums in
    let third = c.in_ok-sums.ensures.columns in
    let same = ap length c.as_slice.ensures.value in
    let count = c.in_ok-groups.ensures.count in
    let room = c.requires.room in
    record { room = omega (arith, first, groups, second, sums, third, same, count, room) }
