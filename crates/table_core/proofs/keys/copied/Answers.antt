use Rattle.std.proofs.Common.{◌≡◌, ◌+◌, ◌*◌, ◌++◌, List, ℕ, take, sym, ap, ap₂, ◌∙◌, arith}
use Rattle.std.proofs.Math.Seq.{take-add}
use Rattle.definitions_blocks.specs.Blocks.{block_values, block_at}
use Rattle.table_core.proofs.keys.copied.Goals as goal

pub loop-number-preserved : goal.loop-number-preserved
loop-number-preserved c =
    let values = c.args.column.now.values in
    let at = c.loop-number.number * block_values in
    let block : c.as_slice.result.now ≡ block_at values c.loop-number.number =
    c.as_slice.ensures.values ∙ c.block.ensures.values ∙ ap (λ l. block_at l c.loop-number.number) c.loop-number.invariant.source in
    let next : at + block_values ≡ (c.loop-number.number + 1) * block_values = omega arith in
    record {
      copied =
          c.in_ok-extend_from_slice.ensures.items ∙ ap₂ (λ (a : List ℕ) (b : List ℕ). a ++ b) c.loop-number.invariant.copied block
          ∙ sym (take-add at block_values values) ∙ ap (λ n. take n values) next;
      source = c.block.ensures.list ∙ c.loop-number.invariant.source;
    }
