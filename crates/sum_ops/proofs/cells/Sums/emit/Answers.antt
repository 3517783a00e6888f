use Rattle.std.proofs.Common.{◌≡◌, ℕ, ◌+◌, ◌*◌, ◌≤◌, List, ◌++◌, take, length, ap, ◌∙◌, subst, arith}
use Rattle.std.proofs.lemmas.Bool.{false≢true}
use Rattle.definitions_blocks.specs.Blocks.{block_values}
use Rattle.definitions_blocks.specs.Columns.{max_rows}
use Rattle.sum_ops.proofs.CellLaws.{take_block}
use Rattle.sum_ops.proofs.EmitLaws.{IsPiece, piece_holds, piece_few, piece_prefix, on_err, block-piece}
use Rattle.sum_ops.proofs.cells.Sums.emit.Goals as goal

pub extend-requires : goal.extend-requires
extend-requires g c =
    let whole : List ℕ = c.args.self.now in
    let number = c.loop-number.number in
    let before = take (number * block_values) whole in
    let piece = c.as_slice.result.now in
    let is : IsPiece before piece whole = block-piece number whole piece (c.as_slice.ensures.values ∙ c.read_block.ensures) in
    let few : length whole ≤ max_rows = omega (arith, ap length c.self.view_is, c.self.invariant.1) in (
      before,
      c.loop-number.invariant.emitted,
      piece_few before piece whole is few,
      piece_holds g.O.Emit.scope g.met.O.Emit.scope_law (g.O.Emit.frame c.loop-number.out) (g.O.Emit.frame c.args.out.now) c.loop-number.invariant.frame before piece whole is c.requires.in_scope,
    )

pub returns-in_err-extend-clause-err : goal.returns-in_err-extend-clause-err
returns-in_err-extend-clause-err g c =
    let whole : List ℕ = c.args.self.now in
    let number = c.loop-number.number in
    let before = take (number * block_values) whole in
    let piece = c.as_slice.result.now in
    let is : IsPiece before piece whole = block-piece number whole piece (c.as_slice.ensures.values ∙ c.read_block.ensures) in
    let taken = c.in_err-extend.ensures.err in
    on_err c.from_residual.result
    (piece_prefix (g.O.Emit.pushed c.extend.new.self) taken.0 before piece whole is (taken.1 before c.loop-number.invariant.emitted))

pub returns-in_err-extend-clause-sure : goal.returns-in_err-extend-clause-sure
returns-in_err-extend-clause-sure g c = λ roomy.
    let whole : List ℕ = c.args.self.now in
    let number = c.loop-number.number in
    let before = take (number * block_values) whole in
    let piece = c.as_slice.result.now in
    let is : IsPiece before piece whole = block-piece number whole piece (c.as_slice.ensures.values ∙ c.read_block.ensures) in
    absurd (false≢true (c.in_err-extend.ensures.sure before c.loop-number.invariant.emitted
    (piece_holds g.O.Emit.room g.met.O.Emit.room_law (g.O.Emit.frame c.loop-number.out) (g.O.Emit.frame c.args.out.now) c.loop-number.invariant.frame before piece whole is roomy)))

pub loop-number-preserved : goal.loop-number-preserved
loop-number-preserved g c =
    let whole : List ℕ = c.args.self.now in
    let number = c.loop-number.number in
    let before = take (number * block_values) whole in
    let next : before ++ c.as_slice.result.now ≡ take ((number + 1) * block_values) whole =
    ap (λ (l : List ℕ). before ++ l) (c.as_slice.ensures.values ∙ c.read_block.ensures) ∙ take_block whole number in
    record {
      emitted = subst (g.O.Emit.pushed c.extend.new.self) next (c.in_ok-extend.ensures.ok before c.loop-number.invariant.emitted);
      frame = c.in_ok-extend.ensures.frame ∙ c.loop-number.invariant.frame;
    }
