use Rattle.std.proofs.Common.{◌≡◌, ℕ, ◌+◌, ◌*◌, List, length, take, get_or, sum, ap, ap₂, ◌∙◌, sym, arith}
use Rattle.std.proofs.lemmas.List.{take_all}
use Rattle.definitions_operators.specs.Groups.{products_of}
use Rattle.sum_ops.specs.Cells.{cell_of}
use Rattle.sum_ops.proofs.CellLaws.{cell_step}
use Rattle.sum_ops.proofs.ZipLaws.{length-products_of, sum-products_of}
use Rattle.sum_ops.proofs.blocks.wide_product.Goals as goal

pub loop-row-preserved : goal.loop-row-preserved
loop-row-preserved c =
    let firsts = c.args.first.now in
    let seconds = c.args.second.now in
    let row = c.loop-row.row in
    let so_far : ℕ = sum (take row (products_of firsts seconds)) in
    record {
      cell = ap (λ (n : ℕ). cell_of (c.loop-row.total + n)) (c.min-total.ensures ∙ ap₂ (λ (x y : ℕ). cell_of (x * y)) c.from.ensures c.from-in-loop-row.ensures)
          ∙ cell_step c.loop-row.total so_far (get_or firsts row 0 * get_or seconds row 0) c.loop-row.invariant.cell
          ∙ ap cell_of (sym (sum-products_of firsts seconds row c.requires.same (omega arith)));
      small = omega (arith, c.min-total.ensures, c.loop-row.invariant.small);
    }

pub returns-clause-cell : goal.returns-clause-cell
returns-clause-cell c =
    let products : List ℕ = products_of c.args.first.now c.args.second.now in
    let long : length products ≡ length c.args.second.now = length-products_of c.args.first.now c.args.second.now c.requires.same in
    c.loop-row.invariant.cell ∙ ap (λ (l : List ℕ). cell_of (sum l)) (take_all c.loop-row.row products (omega arith))
