use Rattle.std.proofs.Common.{◌≡◌, ℕ, ◌+◌, ◌*◌, ◌^◌, ◌<◌, List, bit_and, length, take, get_or, sum, ap, ap₂, ◌∙◌, sym, arith}
use Rattle.std.proofs.lemmas.List.{take_all}
use Rattle.definitions_operators.specs.Groups.{products_of}
use Rattle.sum_ops.proofs.HalfLaws.{half, low-small, high-small, low-all, product-fits, halves-join}
use Rattle.sum_ops.proofs.ZipLaws.{length-products_of, sum-products_of}
use Rattle.sum_ops.proofs.blocks.narrow_product.Goals as goal

pub loop-row-preserved : goal.loop-row-preserved
loop-row-preserved c =
    let firsts = c.args.first.now in
    let seconds = c.args.second.now in
    let row = c.loop-row.row in
    let so_far : ℕ = sum (take row (products_of firsts seconds)) in
    let a = get_or firsts row 0 in
    let b = get_or seconds row 0 in
    let a_fits : a < 2 ^ 64 = omega (arith, c.type_inv.first row) in
    let b_fits : b < 2 ^ 64 = omega (arith, c.type_inv.second row) in
    let product : ℕ = bit_and a half * bit_and b half in
    record {
      low = omega (arith, low-small product, c.loop-row.invariant.low);
      high = omega (arith, high-small product (product-fits a b), c.loop-row.invariant.high);
      above = omega (arith, high-small a a_fits, high-small b b_fits, c.loop-row.invariant.above);
      sum = λ none.
          halves-join c.loop-row.low c.loop-row.high so_far product (c.loop-row.invariant.sum (omega arith))
          ∙ ap₂ (λ (x y : ℕ). so_far + x * y) (low-all a (omega arith)) (low-all b (omega arith))
          ∙ sym (sum-products_of firsts seconds row c.requires.same (omega arith));
    }

pub returns-clause-sum : goal.returns-clause-sum
returns-clause-sum c =
    let products : List ℕ = products_of c.args.first.now c.args.second.now in
    let long : length products ≡ length c.args.second.now = length-products_of c.args.first.now c.args.second.now c.requires.same in
    ap₂ (λ (low high : ℕ). low + high * 4294967296) c.from.ensures c.from-2.ensures
    ∙ c.loop-row.invariant.sum (omega arith)
    ∙ ap sum (take_all c.loop-row.row products (omega arith))
