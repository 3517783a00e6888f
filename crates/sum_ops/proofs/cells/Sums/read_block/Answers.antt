use Rattle.std.proofs.Common.{◌≡◌, ℕ, ◌+◌, ◌-◌, ◌*◌, ◌<◌, ◌++◌, ◌∷◌, [], List, length, take, drop, get_or, ap, ap₂, ◌∙◌, sym, arith}
use Rattle.std.proofs.lemmas.List.{take_more, take_all}
use Rattle.definitions_blocks.specs.Blocks.{block_values, block_at}
use Rattle.sum_ops.proofs.CellLaws.{block-slice}
use Rattle.sum_ops.proofs.cells.Sums.read_block.Goals as goal

pub overflow_mul-first : goal.overflow_mul-first
overflow_mul-first c = omega (arith, c.requires.within, ap length c.self.view_is, c.self.invariant.1)

pub loop-cell-preserved : goal.loop-cell-preserved
loop-cell-preserved c =
    let number = c.args.number in
    let start = number * block_values in
    let count = c.min-count.result in
    let read = c.as_slice-cells.result.now in
    let block : List ℕ = block_at c.args.self.now number in
    let piece : take (start + count - start) (drop start read) ≡ block =
    ap (λ (n : ℕ). take n (drop start read)) (omega arith) ∙ block-slice number count read c.min-count.ensures ∙ ap (λ (l : List ℕ). block_at l number) (c.as_slice-cells.ensures.value ∙ c.self.view_is) in
    let within : c.loop-cell.cell-index < length block = omega (arith, ap length piece, c.loop-cell-test.true) in
    c.push.ensures
    ∙ ap₂ (λ (front : List ℕ) (cell : ℕ). front ++ cell ∷ []) c.loop-cell.invariant (ap (λ (l : List ℕ). get_or l c.loop-cell.cell-index 0) piece)
    ∙ sym (take_more block c.loop-cell.cell-index 0 within)

pub returns : goal.returns
returns c =
    let number = c.args.number in
    let start = number * block_values in
    let count = c.min-count.result in
    let read = c.as_slice-cells.result.now in
    let block : List ℕ = block_at c.args.self.now number in
    let piece : take (start + count - start) (drop start read) ≡ block =
    ap (λ (n : ℕ). take n (drop start read)) (omega arith) ∙ block-slice number count read c.min-count.ensures ∙ ap (λ (l : List ℕ). block_at l number) (c.as_slice-cells.ensures.value ∙ c.self.view_is) in
    c.loop-cell.invariant ∙ take_all c.loop-cell.cell-index block (omega (arith, ap length piece, c.loop-cell-test.false))
