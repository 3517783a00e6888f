use Rattle.std.proofs.Common.{◌<◌, length, arith, ap}
use Rattle.std.proofs.lemmas.List.Sums.{sum_by_more_le}
use Rattle.catalog_core.specs.declared.columns.ColumnId.{ColumnId}
use Rattle.plan_core.proofs.groups.add_groups.Goals as goal

pub add_column-requires : goal.add_column-requires
add_column-requires c =
    let groups = c.args.bound.now.groups in
    let none : ColumnId = record { table = 0; column = 0 } in
    let same = ap length c.as_slice-id-items.ensures in
    let within : c.loop-id.id-index < length groups = omega arith in
    let less = sum_by_more_le (λ (id : ColumnId). 3) groups c.loop-id.id-index none within in
    let so_far = c.loop-id.invariant.columns in
    let room = c.requires.room in
    record { room = omega (arith, less, so_far, room) }
