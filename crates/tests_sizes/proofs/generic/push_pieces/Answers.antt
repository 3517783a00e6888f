use Rattle.std.proofs.Common.{◌≡◌, ◌≤◌, ◌+◌, ◌-◌, ◌++◌, [], ℕ, List, true, length, take, drop, ap, ◌∙◌, subst, arith}
use Rattle.std.proofs.lemmas.List.{take-append-drop, length-take, length-drop}
use Rattle.block_core.proofs.PrefixLemmas.{more_of}
use Rattle.tests_sizes.proofs.generic.push_pieces.Goals as goal

-- the values up to a place, and those from there up to an end
joined : (at end : ℕ) (values part : List ℕ) → at ≤ end → part ≡ take (end - at) (drop at values) → take at values ++ part ≡ take end values
joined at end values part order is =
    let sum : at + (end - at) ≡ end = omega arith in
    ap (λ (l : List ℕ). take at values ++ l) is ∙ more_of at (end - at) [] values ∙ ap (λ n. take n values) sum

pub extend-requires : goal.extend-requires
extend-requires g c =
    let values = c.args.values.now in
    let at = c.loop-taken.taken in
    let end = c.min-end.result in
    let order : at ≤ end = omega (arith, c.min-end.ensures) in
    let next : take at values ++ c.part.result.now ≡ take end values = joined at end values c.part.result.now order c.part.ensures in
    let now = c.loop-taken.into in
    let scope = g.E.Emit.scope in
    let front : scope (g.E.Emit.frame c.args.into.now) (take end values) ≡ true =
    g.met.E.Emit.scope_law (g.E.Emit.frame c.args.into.now) (take end values) (drop end values) (ap (scope (g.E.Emit.frame c.args.into.now)) (take-append-drop end values) ∙ c.requires.in_scope) in (
      take at values,
      c.loop-taken.invariant.pushed,
      omega (arith, length-take at values, ap length c.part.ensures, length-take (end - at) (drop at values), length-drop at values, c.requires.few, c.min-end.ensures),
      ap (scope (g.E.Emit.frame now)) next ∙ ap (λ f. scope f (take end values)) c.loop-taken.invariant.frame ∙ front,
    )

pub loop-taken-preserved : goal.loop-taken-preserved
loop-taken-preserved g c =
    let values = c.args.values.now in
    let at = c.loop-taken.taken in
    let end = c.min-end.result in
    let order : at ≤ end = omega (arith, c.min-end.ensures) in
    let next : take at values ++ c.part.result.now ≡ take end values = joined at end values c.part.result.now order c.part.ensures in
    record {
      within = omega (arith, c.min-end.ensures);
      pushed = subst (g.E.Emit.pushed c.extend.new.self) next (c.in_ok-extend.ensures.ok (take at values) c.loop-taken.invariant.pushed);
      frame = c.extend.ensures.frame ∙ c.loop-taken.invariant.frame;
    }
