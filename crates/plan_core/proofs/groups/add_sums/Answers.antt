use Rattle.std.proofs.Common.{◌<◌, length, arith, ap}
use Rattle.std.proofs.lemmas.List.Sums.{sum_by_more_le}
use Rattle.catalog_core.specs.declared.columns.ColumnId.{ColumnId}
use Rattle.query_bind.specs.declared.bounds.SumOf.{SumOf}
use Rattle.query_bind.specs.declared.bounds.SumOf.TheVariants as variant
use Rattle.plan_core.proofs.groups.add_sums.Goals as goal

pub add_sum-requires : goal.add_sum-requires
add_sum-requires c =
    let sums = c.args.bound.now.sums in
    let id : ColumnId = record { table = 0; column = 0 } in
    let same = ap length c.as_slice-sum-items.ensures in
    let within : c.loop-sum.sum-index < length sums = omega arith in
    let less = sum_by_more_le (λ (sum : SumOf). 4) sums c.loop-sum.sum-index (variant.Plain id) within in
    let so_far = c.loop-sum.invariant.columns in
    let room = c.requires.room in
    record { room = omega (arith, less, so_far, room) }
