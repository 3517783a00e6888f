use Rattle.std.proofs.Common.{◌≡◌, ℕ, ◌-◌, ◌*◌, ◌≤◌, List, length, take, drop, get_or, sum, ap, ap₂, ◌∙◌, arith}
use Rattle.definitions_blocks.specs.Blocks.{block_values, block_at}
use Rattle.definitions_operators.specs.Groups.{products_of}
use Rattle.sum_ops.specs.Cells.{cell_of}
use Rattle.sum_ops.proofs.CellLaws.{block-slice, cell-block, cell-all}
use Rattle.sum_ops.proofs.ZipLaws.{length-products_of, products_of-block}
use Rattle.sum_ops.proofs.plain.add_all_products.Goals as goal

pub loop-number-preserved : goal.loop-number-preserved
loop-number-preserved c =
    let firsts = c.args.first.now in
    let seconds = c.args.second.now in
    let products : List ℕ = products_of firsts seconds in
    let number = c.loop-number.number in
    let start = number * block_values in
    let count = c.min-end.result - start in
    let left : take count (drop start firsts) ≡ block_at firsts number = block-slice number count firsts (omega (arith, c.min-end.ensures)) in
    let right : take count (drop start seconds) ≡ block_at seconds number = block-slice number count seconds (omega (arith, c.min-end.ensures, c.requires.same)) in
    let block : products_of (take count (drop start firsts)) (take count (drop start seconds)) ≡ block_at products number =
    ap₂ (λ (xs ys : List ℕ). products_of xs ys) left right ∙ products_of-block firsts seconds number in
    c.add_total.ensures
    ∙ cell-block c.loop-number.sums products (get_or c.args.sums.now 0 0) number c.block_product.result c.loop-number.invariant
    (c.block_product.ensures.cell ∙ ap (λ (l : List ℕ). cell_of (sum l)) block)

pub returns : goal.returns
returns c =
    let firsts = c.args.first.now in
    let seconds = c.args.second.now in
    let products : List ℕ = products_of firsts seconds in
    let done : length products ≤ c.loop-number.number * block_values =
    omega (arith, length-products_of firsts seconds c.requires.same, c.requires.same, c.div_ceil-number-end.ensures, c.loop-number-test.false) in
    cell-all c.loop-number.sums products (get_or c.args.sums.now 0 0) (c.loop-number.number * block_values) done c.loop-number.invariant
