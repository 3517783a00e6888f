use Rattle.std.proofs.Common.{◌≡◌, ℕ, ◌+◌, ◌-◌, ◌*◌, ◌≤◌, length, take, drop, sum, ap, ap₂, ◌∙◌, arith}
use Rattle.std.proofs.lemmas.List.{length-take}
use Rattle.definitions_blocks.specs.Blocks.{block_values, block_at}
use Rattle.sum_ops.proofs.CellLaws.{sum-block, block-slice}
use Rattle.sum_ops.proofs.plain.add_values.Goals as goal

pub loop-number-preserved : goal.loop-number-preserved
loop-number-preserved c =
    let values = c.args.values.now in
    let number = c.loop-number.number in
    let count = c.min-end.result - number * block_values in
    let piece = take count (drop (number * block_values) values) in
    let block : piece ≡ block_at values number = block-slice number count values (omega (arith, c.min-end.ensures)) in
    let short : length piece ≤ block_values = omega (arith, length-take count (drop (number * block_values) values), c.min-end.ensures) in
    record {
      total = ap₂ (λ (a b : ℕ). a + b) c.loop-number.invariant.total (c.block_sum-total.ensures.sum ∙ ap sum block) ∙ sum-block number values;
      small = omega (arith, c.loop-number.invariant.small, c.block_sum-total.ensures.small, short);
    }
