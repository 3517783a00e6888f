use Rattle.std.proofs.Common.{suc, subst, arith}
use Rattle.std.proofs.lemmas.Bool.{false≢true}
use Rattle.tests_columns.specs.Squares.{squares}
use Rattle.tests_columns.proofs.SquareLemmas.{length-squares, take-squares, holds_of_first, on_err}
use Rattle.tests_columns.proofs.generic.push_squares.Goals as goal

pub push-requires : goal.push-requires
push-requires g c =
    let n = c.loop-number.number in (
      squares n,
      c.loop-number.invariant.taken,
      omega (arith, length-squares n, c.requires.few, c.loop-number-test.true),
      holds_of_first g.E.Emit.scope g.met.E.Emit.scope_law (g.E.Emit.frame c.loop-number.into) (g.E.Emit.frame c.args.into.now) c.loop-number.invariant.frame (suc n) c.args.below (omega (arith, c.loop-number-test.true)) c.requires.in_scope,
    )

pub returns-in_err-push-clause-err : goal.returns-in_err-push-clause-err
returns-in_err-push-clause-err g c =
    let n = c.loop-number.number in
    on_err c.from_residual.result (n, subst (g.E.Emit.pushed c.push.new.self) (take-squares n c.args.below (omega (arith, c.loop-number-test.true))) (c.in_err-push.ensures.err (squares n) c.loop-number.invariant.taken))

pub returns-in_err-push-clause-sure : goal.returns-in_err-push-clause-sure
returns-in_err-push-clause-sure g c = λ holds.
    let n = c.loop-number.number in
    absurd (false≢true (c.in_err-push.ensures.sure (squares n) c.loop-number.invariant.taken
    (holds_of_first g.E.Emit.room g.met.E.Emit.room_law (g.E.Emit.frame c.loop-number.into) (g.E.Emit.frame c.args.into.now) c.loop-number.invariant.frame (suc n) c.args.below (omega (arith, c.loop-number-test.true)) holds)))
