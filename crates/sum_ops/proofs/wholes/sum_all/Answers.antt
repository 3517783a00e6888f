use Rattle.std.proofs.Common.{◌≡◌, ℕ, ◌+◌, List, sum, ap, ap₂, ◌∙◌, arith}
use Rattle.definitions_blocks.specs.Blocks.{block_at}
use Rattle.sum_ops.proofs.CellLaws.{sum-block}
use Rattle.sum_ops.proofs.wholes.sum_all.Goals as goal

pub loop-number-preserved : goal.loop-number-preserved
loop-number-preserved g c =
    let values = g.V.BlockSource.list c.args.values.now in
    let number = c.loop-number.number in
    let block : c.as_slice.result.now ≡ block_at values number = c.as_slice.ensures.values ∙ c.block.ensures.values ∙ ap (λ (l : List ℕ). block_at l number) c.loop-number.invariant.kept in
    record {
      kept = c.block.ensures.list ∙ c.loop-number.invariant.kept;
      total = ap₂ (λ (a b : ℕ). a + b) c.loop-number.invariant.total (c.block_sum-total.ensures.sum ∙ ap sum block) ∙ sum-block number values;
      small = omega (arith, c.loop-number.invariant.small, c.block_sum-total.ensures.small, c.as_slice.ensures.short);
      later = omega (arith, c.loop-number.invariant.later, c.block.ensures.later);
      steps = omega (arith, c.loop-number.invariant.steps, c.block.ensures.steps);
    }
