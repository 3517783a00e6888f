use Rattle.std.proofs.Common.{◌≡◌, ◌∙◌, ℕ, ◌*◌, ◌≤◌, ◌++◌, All, ap, subst, arith, take, List}
use Rattle.std.proofs.lemmas.List.{take_all}
use Rattle.std.proofs.lemmas.List.Elements.{All-append, All-weaker}
use Rattle.definitions_blocks.specs.Blocks.{block_values, block_at}
use Rattle.scan_ops.proofs.ProjectLaws.{take-next}
use Rattle.join_ops.proofs.ranges.range_of.Goals as goal

pub loop-number-preserved : goal.loop-number-preserved
loop-number-preserved g c =
    let keys = g.S.BlockSource.list c.args.keys.now in
    let number = c.loop-number.number in
    let is : c.as_slice.result.now ≡ block_at keys number = c.as_slice.ensures.values ∙ c.block.ensures.values ∙ ap (λ (l : List ℕ). block_at l number) c.loop-number.invariant.kept in
    let low = c.widened-range.result.low in
    let high = c.widened-range.result.high in
    let before = All-weaker (λ key. (c.loop-number.range.low ≤ key) × (key ≤ c.loop-number.range.high)) (λ key. (low ≤ key) × (key ≤ high))
    (λ key inside. (omega (arith, inside.0, c.widened-range.ensures.low), omega (arith, inside.1, c.widened-range.ensures.high))) (take (number * block_values) keys) c.loop-number.invariant.within in
    record {
      within = subst (All (λ key. (low ≤ key) × (key ≤ high))) (ap (λ (l : List ℕ). take (number * block_values) keys ++ l) is ∙ take-next number keys)
          (All-append (λ key. (low ≤ key) × (key ≤ high)) (take (number * block_values) keys) c.as_slice.result.now before c.widened-range.ensures.within);
      kept = c.block.ensures.list ∙ c.loop-number.invariant.kept;
      later = omega (arith, c.loop-number.invariant.later, c.block.ensures.later);
      steps = omega (arith, c.loop-number.invariant.steps, c.block.ensures.steps);
    }

pub returns-clause-within : goal.returns-clause-within
returns-clause-within g c =
    let keys = g.S.BlockSource.list c.args.keys.now in
    subst (All (λ key. (c.loop-number.range.low ≤ key) × (key ≤ c.loop-number.range.high)))
    (take_all (c.loop-number.number * block_values) keys (omega (arith, c.loop-number-test.false, c.div_ceil-number-end.ensures, c.count.ensures.count)))
    c.loop-number.invariant.within
