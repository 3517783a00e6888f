use Rattle.std.proofs.Common.{◌≡◌, ◌∙◌, ℕ, ◌++◌, ap, ap₂, arith, List}
use Rattle.definitions_blocks.specs.Blocks.{block_at}
use Rattle.scan_ops.proofs.ProjectLaws.{take-next}
use Rattle.join_ops.proofs.key_maps.list_of.Goals as goal

pub loop-number-preserved : goal.loop-number-preserved
loop-number-preserved g c =
    let keys = g.S.BlockSource.list c.args.keys.now in
    let number = c.loop-number.number in
    let is : c.as_slice.result.now ≡ block_at keys number = c.as_slice.ensures.values ∙ c.block.ensures.values ∙ ap (λ (l : List ℕ). block_at l number) c.loop-number.invariant.kept in
    record {
      list = c.in_ok-extend_from_slice.ensures.items ∙ ap₂ (λ (a b : List ℕ). a ++ b) c.loop-number.invariant.list is ∙ take-next number keys;
      kept = c.block.ensures.list ∙ c.loop-number.invariant.kept;
      later = omega (arith, c.loop-number.invariant.later, c.block.ensures.later);
      steps = omega (arith, c.loop-number.invariant.steps, c.block.ensures.steps);
    }
