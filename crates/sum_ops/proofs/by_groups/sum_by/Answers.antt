use Rattle.std.proofs.Common.{refl, ◌≡◌, ℕ, ◌*◌, List, length, take, ap, ap₂, ◌∙◌, sym, arith}
use Rattle.definitions_blocks.specs.Blocks.{block_values, block_at}
use Rattle.sum_ops.specs.Cells.{cells_after}
use Rattle.sum_ops.proofs.ZipLaws.{same_block}
use Rattle.sum_ops.proofs.CellLaws.{cells_after-none, cells_after-append, length-cells_after, block_ids, take_block, same_take}
use Rattle.sum_ops.proofs.by_groups.sum_by.Goals as goal

pub loop-number-init : goal.loop-number-init
loop-number-init g c = record { kept_values = refl; kept_ids = refl; sums = sym (cells_after-none c.args.sums.now c.tell_cells.ensures); later = omega arith; steps = omega arith }

pub add_rows-requires-clause-same : goal.add_rows-requires-clause-same
add_rows-requires-clause-same g c =
    let column = g.V.BlockSource.list c.args.values.now in
    let groups = g.I.BlockSource.list c.args.ids.now in
    let k = c.loop-number.number in
    let is_block : c.as_slice.result.now ≡ block_at column k = c.as_slice.ensures.values ∙ c.block.ensures.values ∙ ap (λ l. block_at l k) c.loop-number.invariant.kept_values in
    let is_groups : c.as_slice-in-loop-number.result.now ≡ block_at groups k =
    c.as_slice-in-loop-number.ensures.values ∙ c.block-in-loop-number.ensures.values ∙ ap (λ l. block_at l k) c.loop-number.invariant.kept_ids in
    ap length is_block ∙ same_block column groups k c.requires.same ∙ ap length (sym is_groups)

pub add_rows-requires-clause-groups : goal.add_rows-requires-clause-groups
add_rows-requires-clause-groups g c =
    let column = g.V.BlockSource.list c.args.values.now in
    let groups = g.I.BlockSource.list c.args.ids.now in
    let k = c.loop-number.number in
    let is_groups : c.as_slice-in-loop-number.result.now ≡ block_at groups k =
    c.as_slice-in-loop-number.ensures.values ∙ c.block-in-loop-number.ensures.values ∙ ap (λ l. block_at l k) c.loop-number.invariant.kept_ids in
    let long : length c.loop-number.sums ≡ length c.args.sums.now = ap length c.loop-number.invariant.sums ∙ length-cells_after c.args.sums.now (take (k * block_values) column) (take (k * block_values) groups) in
    block_ids groups c.as_slice-in-loop-number.result.now k (length c.args.sums.now) (length c.loop-number.sums) is_groups (sym long) c.requires.groups

pub loop-number-preserved : goal.loop-number-preserved
loop-number-preserved g c =
    let column = g.V.BlockSource.list c.args.values.now in
    let groups = g.I.BlockSource.list c.args.ids.now in
    let k = c.loop-number.number in
    let start = c.args.sums.now in
    let is_block : c.as_slice.result.now ≡ block_at column k = c.as_slice.ensures.values ∙ c.block.ensures.values ∙ ap (λ l. block_at l k) c.loop-number.invariant.kept_values in
    let is_groups : c.as_slice-in-loop-number.result.now ≡ block_at groups k =
    c.as_slice-in-loop-number.ensures.values ∙ c.block-in-loop-number.ensures.values ∙ ap (λ l. block_at l k) c.loop-number.invariant.kept_ids in
    record {
      kept_values = c.block.ensures.list ∙ c.loop-number.invariant.kept_values;
      kept_ids = c.block-in-loop-number.ensures.list ∙ c.loop-number.invariant.kept_ids;
      sums = c.add_rows.ensures
          ∙ ap (λ (l : List ℕ). cells_after l c.as_slice.result.now c.as_slice-in-loop-number.result.now) c.loop-number.invariant.sums
          ∙ ap₂ (λ (vs is : List ℕ). cells_after (cells_after start (take (k * block_values) column) (take (k * block_values) groups)) vs is) is_block is_groups
          ∙ cells_after-append start (take (k * block_values) column) (take (k * block_values) groups) (block_at column k) (block_at groups k) (same_take (k * block_values) column groups c.requires.same)
          ∙ ap₂ (λ (vs is : List ℕ). cells_after start vs is) (take_block column k) (take_block groups k);
      later = omega (arith, c.block.ensures.later, c.block-in-loop-number.ensures.later, c.loop-number.invariant.later);
      steps = omega (arith, c.block.ensures.steps, c.block-in-loop-number.ensures.steps, c.loop-number.invariant.steps);
    }
