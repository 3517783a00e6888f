use Rattle.std.proofs.Common.{[], take, arith}
use Rattle.std.proofs.lemmas.List.{length-take}
use Rattle.block_core.proofs.PrefixLemmas.{next_holds}
use Rattle.tests_sizes.proofs.generic.push_each.Goals as goal

pub push-requires : goal.push-requires
push-requires g c =
    let values = c.args.values.now in
    let n = c.loop-value.value-index in (
      take n values,
      c.loop-value.invariant.taken,
      omega (arith, length-take n values, c.requires.few, c.loop-value-test.true),
      next_holds g.E.Emit.scope g.met.E.Emit.scope_law (g.E.Emit.frame c.loop-value.into) (g.E.Emit.frame c.args.into.now) c.loop-value.invariant.frame n [] values c.loop-value-test.true c.requires.in_scope,
    )
