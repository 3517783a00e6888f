use Rattle.std.proofs.Common.{◌++◌, take, arith, length-append}
use Rattle.std.proofs.lemmas.List.{length-take}
use Rattle.std.proofs.lemmas.Bool.{false≢true}
use Rattle.block_core.proofs.PrefixLemmas.{next_holds}
use Rattle.block_core.proofs.emitters.Emit.extend.Goals as goal

pub push-requires : goal.push-requires
push-requires g c =
    let values = c.args.values.now in
    let n = c.loop-value.value-index in
    let list = c.requires.0 in (
      list ++ take n values,
      c.loop-value.invariant.taken list c.requires.1,
      omega (arith, length-append list (take n values), length-take n values, c.requires.2, c.loop-value-test.true),
      next_holds g.Self.Emit.scope g.met.Self.Emit.scope_law (g.Self.Emit.frame c.loop-value.self) (g.Self.Emit.frame c.args.self.now) c.loop-value.invariant.frame n list values (omega (arith, c.loop-value-test.true)) c.requires.3,
    )

pub returns-in_err-push-clause-sure : goal.returns-in_err-push-clause-sure
returns-in_err-push-clause-sure g c = λ list pushed holds.
    let values = c.args.values.now in
    let n = c.loop-value.value-index in
    absurd (false≢true (c.in_err-push.ensures.sure (list ++ take n values) (c.loop-value.invariant.taken list pushed)
    (next_holds g.Self.Emit.room g.met.Self.Emit.room_law (g.Self.Emit.frame c.loop-value.self) (g.Self.Emit.frame c.args.self.now) c.loop-value.invariant.frame n list values (omega (arith, c.loop-value-test.true)) holds)))
