use Rattle.std.proofs.Common.{◌≡◌, ◌+◌, ◌++◌, ℕ, List, length, take, ap, ◌∙◌, subst, arith}
use Rattle.std.proofs.lemmas.List.{length-drop, take_all}
use Rattle.block_core.proofs.PrefixLemmas.{more_of}
use Rattle.size_chooser.specs.Tallies.{IsTallyOf}
use Rattle.size_chooser.proofs.tallies.Tally.extend.Goals as goal

pub loop-taken-preserved : goal.loop-taken-preserved
loop-taken-preserved g c =
    let at = c.loop-taken.taken in
    let n = c.take_some-taken.result in
    let values = c.args.values.now in
    let now = c.take_some-taken.new.self in
    record {
      within = omega (arith, c.take_some-taken.ensures.within, ap length c.rest_from.ensures, length-drop at values);
      tally = λ list is.
          let next : (list ++ take at values) ++ take n c.rest_from.result.now ≡ list ++ take (at + n) values =
          ap (λ (l : List ℕ). (list ++ take at values) ++ take n l) c.rest_from.ensures ∙ more_of at n list values in
          subst (IsTallyOf g.M.Meter.measured now.count now.block now.meter) next (c.take_some-taken.ensures.taken (list ++ take at values) (c.loop-taken.invariant.tally list is));
      frame = c.take_some-taken.ensures.frame ∙ c.loop-taken.invariant.frame;
    }

pub returns-clause-taken : goal.returns-clause-taken
returns-clause-taken g c = λ list is.
    let now = c.loop-taken.self in
    let all : take c.loop-taken.taken c.args.values.now ≡ c.args.values.now = take_all c.loop-taken.taken c.args.values.now (omega arith) in
    subst (λ (l : List ℕ). IsTallyOf g.M.Meter.measured now.count now.block now.meter (list ++ l)) all (c.loop-taken.invariant.tally list is)
