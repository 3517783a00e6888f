use Rattle.std.proofs.Common.{◌+◌, ◌<◌, length, arith, ap}
use Rattle.std.proofs.lemmas.List.Sums.{sum_by_more_le}
use Rattle.catalog_core.specs.declared.columns.ColumnId.{ColumnId}
use Rattle.query_bind.specs.declared.bounds.JoinTo.{JoinTo}
use Rattle.plan_core.specs.Sizes.{sizes_of}
use Rattle.plan_core.proofs.dimensions.add_all.Goals as goal

pub add_one-requires : goal.add_one-requires
add_one-requires c =
    let joins = c.args.bound.now.joins in
    let size = sizes_of c.args.bound.now.conditions + 1 in
    let id : ColumnId = record { table = 0; column = 0 } in
    let none : JoinTo = record { fact_column = id; key = id } in
    let same = ap length c.as_slice-to-items.ensures in
    let within : c.loop-to.to-index < length joins = omega arith in
    let less = sum_by_more_le (λ (to : JoinTo). size) joins c.loop-to.to-index none within in
    let so_far = c.loop-to.invariant.columns in
    let room = c.requires.room in
    record { room = omega (arith, less, so_far, room) }
