use Rattle.std.proofs.Common.{◌≡◌, ℕ, ◌*◌, ◌≤◌, List, length, get_or, sum, ap, ap₂, ◌∙◌, sym, arith}
use Rattle.definitions_blocks.specs.Blocks.{block_values, block_at}
use Rattle.definitions_operators.specs.Groups.{products_of}
use Rattle.sum_ops.specs.Cells.{cell_of}
use Rattle.sum_ops.proofs.CellLaws.{cell-block, cell-all}
use Rattle.sum_ops.proofs.ZipLaws.{same_block, length-products_of, products_of-block}
use Rattle.sum_ops.proofs.wholes.sum_product_all.Goals as goal

pub block_product-requires-clause-same : goal.block_product-requires-clause-same
block_product-requires-clause-same g c =
    let firsts = g.A.BlockSource.list c.args.first.now in
    let seconds = g.B.BlockSource.list c.args.second.now in
    let number = c.loop-number.number in
    let left : c.as_slice.result.now ≡ block_at firsts number = c.as_slice.ensures.values ∙ c.block.ensures.values ∙ ap (λ (l : List ℕ). block_at l number) c.loop-number.invariant.kept_first in
    let right : c.as_slice-in-loop-number.result.now ≡ block_at seconds number =
    c.as_slice-in-loop-number.ensures.values ∙ c.block-in-loop-number.ensures.values ∙ ap (λ (l : List ℕ). block_at l number) c.loop-number.invariant.kept_second in
    ap length left ∙ same_block firsts seconds number c.requires.same ∙ ap length (sym right)

pub loop-number-preserved : goal.loop-number-preserved
loop-number-preserved g c =
    let firsts : List ℕ = g.A.BlockSource.list c.args.first.now in
    let seconds : List ℕ = g.B.BlockSource.list c.args.second.now in
    let products : List ℕ = products_of firsts seconds in
    let number = c.loop-number.number in
    let left : c.as_slice.result.now ≡ block_at firsts number = c.as_slice.ensures.values ∙ c.block.ensures.values ∙ ap (λ (l : List ℕ). block_at l number) c.loop-number.invariant.kept_first in
    let right : c.as_slice-in-loop-number.result.now ≡ block_at seconds number =
    c.as_slice-in-loop-number.ensures.values ∙ c.block-in-loop-number.ensures.values ∙ ap (λ (l : List ℕ). block_at l number) c.loop-number.invariant.kept_second in
    let block : products_of c.as_slice.result.now c.as_slice-in-loop-number.result.now ≡ block_at products number =
    ap₂ (λ (xs ys : List ℕ). products_of xs ys) left right ∙ products_of-block firsts seconds number in
    record {
      kept_first = c.block.ensures.list ∙ c.loop-number.invariant.kept_first;
      kept_second = c.block-in-loop-number.ensures.list ∙ c.loop-number.invariant.kept_second;
      sums = c.add_total.ensures
          ∙ cell-block c.loop-number.sums products (get_or c.args.sums.now 0 0) number c.block_product.result c.loop-number.invariant.sums
          (c.block_product.ensures.cell ∙ ap (λ (l : List ℕ). cell_of (sum l)) block);
      later = omega (arith, c.loop-number.invariant.later, c.block.ensures.later, c.block-in-loop-number.ensures.later);
      steps = omega (arith, c.loop-number.invariant.steps, c.block.ensures.steps, c.block-in-loop-number.ensures.steps);
    }

pub returns-clause-sums : goal.returns-clause-sums
returns-clause-sums g c =
    let firsts : List ℕ = g.A.BlockSource.list c.args.first.now in
    let seconds : List ℕ = g.B.BlockSource.list c.args.second.now in
    let products : List ℕ = products_of firsts seconds in
    let done : length products ≤ c.loop-number.number * block_values =
    omega (arith, length-products_of firsts seconds c.requires.same, c.requires.same, c.div_ceil-number-end.ensures, c.count.ensures.count, c.loop-number-test.false) in
    cell-all c.loop-number.sums products (get_or c.args.sums.now 0 0) (c.loop-number.number * block_values) done c.loop-number.invariant.sums
