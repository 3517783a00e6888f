use Rattle.std.proofs.Common.{refl, ◌≡◌, ℕ, ◌*◌, ◌≤◌, List, length, take, ap, ap₂, ◌∙◌, sym, arith}
use Rattle.std.proofs.lemmas.List.{take_all}
use Rattle.definitions_blocks.specs.Blocks.{block_values, block_at}
use Rattle.sum_ops.specs.Cells.{cells_after}
use Rattle.definitions_operators.specs.Groups.{products_of}
use Rattle.sum_ops.proofs.ZipLaws.{same_block, length-products_of, products_of-block}
use Rattle.sum_ops.proofs.CellLaws.{cells_after-none, cells_after-append, length-cells_after, block_ids, take_block, same_take}
use Rattle.sum_ops.proofs.by_groups.sum_product_by.Goals as goal

pub loop-number-init : goal.loop-number-init
loop-number-init g c = record { kept_first = refl; kept_second = refl; kept_ids = refl; sums = sym (cells_after-none c.args.sums.now c.tell_cells.ensures); later = omega arith; steps = omega arith }

pub add_products-requires-clause-same : goal.add_products-requires-clause-same
add_products-requires-clause-same g c =
    let firsts = g.A.BlockSource.list c.args.first.now in
    let ids = g.I.BlockSource.list c.args.ids.now in
    let k = c.loop-number.number in
    let is_first : c.as_slice.result.now ≡ block_at firsts k = c.as_slice.ensures.values ∙ c.block.ensures.values ∙ ap (λ l. block_at l k) c.loop-number.invariant.kept_first in
    let is_ids : c.as_slice-in-loop-number-2.result.now ≡ block_at ids k =
    c.as_slice-in-loop-number-2.ensures.values ∙ c.block-in-loop-number-2.ensures.values ∙ ap (λ l. block_at l k) c.loop-number.invariant.kept_ids in
    ap length is_first ∙ same_block firsts ids k c.requires.same ∙ ap length (sym is_ids)

pub add_products-requires-clause-second_same : goal.add_products-requires-clause-second_same
add_products-requires-clause-second_same g c =
    let seconds = g.B.BlockSource.list c.args.second.now in
    let ids = g.I.BlockSource.list c.args.ids.now in
    let k = c.loop-number.number in
    let is_second : c.as_slice-in-loop-number.result.now ≡ block_at seconds k =
    c.as_slice-in-loop-number.ensures.values ∙ c.block-in-loop-number.ensures.values ∙ ap (λ l. block_at l k) c.loop-number.invariant.kept_second in
    let is_ids : c.as_slice-in-loop-number-2.result.now ≡ block_at ids k =
    c.as_slice-in-loop-number-2.ensures.values ∙ c.block-in-loop-number-2.ensures.values ∙ ap (λ l. block_at l k) c.loop-number.invariant.kept_ids in
    ap length is_second ∙ same_block seconds ids k c.requires.second_same ∙ ap length (sym is_ids)

pub add_products-requires-clause-groups : goal.add_products-requires-clause-groups
add_products-requires-clause-groups g c =
    let products : List ℕ = products_of (g.A.BlockSource.list c.args.first.now) (g.B.BlockSource.list c.args.second.now) in
    let ids = g.I.BlockSource.list c.args.ids.now in
    let k = c.loop-number.number in
    let is_ids : c.as_slice-in-loop-number-2.result.now ≡ block_at ids k =
    c.as_slice-in-loop-number-2.ensures.values ∙ c.block-in-loop-number-2.ensures.values ∙ ap (λ l. block_at l k) c.loop-number.invariant.kept_ids in
    let long : length c.loop-number.sums ≡ length c.args.sums.now = ap length c.loop-number.invariant.sums ∙ length-cells_after c.args.sums.now (take (k * block_values) products) (take (k * block_values) ids) in
    block_ids ids c.as_slice-in-loop-number-2.result.now k (length c.args.sums.now) (length c.loop-number.sums) is_ids (sym long) c.requires.groups

pub loop-number-preserved : goal.loop-number-preserved
loop-number-preserved g c =
    let firsts : List ℕ = g.A.BlockSource.list c.args.first.now in
    let seconds : List ℕ = g.B.BlockSource.list c.args.second.now in
    let products : List ℕ = products_of firsts seconds in
    let ids = g.I.BlockSource.list c.args.ids.now in
    let k = c.loop-number.number in
    let start = c.args.sums.now in
    let is_first : c.as_slice.result.now ≡ block_at firsts k = c.as_slice.ensures.values ∙ c.block.ensures.values ∙ ap (λ l. block_at l k) c.loop-number.invariant.kept_first in
    let is_second : c.as_slice-in-loop-number.result.now ≡ block_at seconds k =
    c.as_slice-in-loop-number.ensures.values ∙ c.block-in-loop-number.ensures.values ∙ ap (λ l. block_at l k) c.loop-number.invariant.kept_second in
    let is_ids : c.as_slice-in-loop-number-2.result.now ≡ block_at ids k =
    c.as_slice-in-loop-number-2.ensures.values ∙ c.block-in-loop-number-2.ensures.values ∙ ap (λ l. block_at l k) c.loop-number.invariant.kept_ids in
    let is_products : products_of c.as_slice.result.now c.as_slice-in-loop-number.result.now ≡ block_at products k =
    ap₂ (λ (xs ys : List ℕ). products_of xs ys) is_first is_second ∙ products_of-block firsts seconds k in
    let even : length firsts ≡ length seconds = c.requires.same ∙ sym c.requires.second_same in
    let long : length products ≡ length ids = length-products_of firsts seconds even ∙ c.requires.second_same in
    record {
      kept_first = c.block.ensures.list ∙ c.loop-number.invariant.kept_first;
      kept_second = c.block-in-loop-number.ensures.list ∙ c.loop-number.invariant.kept_second;
      kept_ids = c.block-in-loop-number-2.ensures.list ∙ c.loop-number.invariant.kept_ids;
      sums = c.add_products.ensures
          ∙ ap (λ (l : List ℕ). cells_after l (products_of c.as_slice.result.now c.as_slice-in-loop-number.result.now) c.as_slice-in-loop-number-2.result.now) c.loop-number.invariant.sums
          ∙ ap₂ (λ (vs is : List ℕ). cells_after (cells_after start (take (k * block_values) products) (take (k * block_values) ids)) vs is) is_products is_ids
          ∙ cells_after-append start (take (k * block_values) products) (take (k * block_values) ids) (block_at products k) (block_at ids k) (same_take (k * block_values) products ids long)
          ∙ ap₂ (λ (vs is : List ℕ). cells_after start vs is) (take_block products k) (take_block ids k);
      later = omega (arith, c.block.ensures.later, c.block-in-loop-number.ensures.later, c.block-in-loop-number-2.ensures.later, c.loop-number.invariant.later);
      steps = omega (arith, c.block.ensures.steps, c.block-in-loop-number.ensures.steps, c.block-in-loop-number-2.ensures.steps, c.loop-number.invariant.steps);
    }

pub returns-clause-sums : goal.returns-clause-sums
returns-clause-sums g c =
    let firsts : List ℕ = g.A.BlockSource.list c.args.first.now in
    let seconds : List ℕ = g.B.BlockSource.list c.args.second.now in
    let products : List ℕ = products_of firsts seconds in
    let ids = g.I.BlockSource.list c.args.ids.now in
    let k = c.loop-number.number in
    let long : length products ≡ length ids = length-products_of firsts seconds (c.requires.same ∙ sym c.requires.second_same) ∙ c.requires.second_same in
    let done : length ids ≤ k * block_values = omega (arith, c.div_ceil-number-end.ensures, c.count.ensures.count) in
    c.loop-number.invariant.sums ∙ ap₂ (λ (vs is : List ℕ). cells_after c.args.sums.now vs is) (take_all (k * block_values) products (omega arith)) (take_all (k * block_values) ids done)
