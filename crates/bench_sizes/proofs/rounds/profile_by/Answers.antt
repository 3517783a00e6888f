use Rattle.std.proofs.Common.{◌≡◌, ◌+◌, ◌-◌, ◌++◌, [], ℕ, List, take, ap, ◌∙◌, subst, arith}
use Rattle.block_core.proofs.PrefixLemmas.{more_of}
use Rattle.size_chooser.specs.Profiles.{IsProfileOf}
use Rattle.bench_sizes.proofs.rounds.profile_by.Goals as goal

pub loop-taken-preserved : goal.loop-taken-preserved
loop-taken-preserved c =
    let values = c.args.values.now in
    let at = c.loop-taken.taken in
    let end = c.min-end.result in
    let list = take at values in
    let sum : at + (end - at) ≡ end = omega (arith, c.min-end.ensures) in
    let next : list ++ c.part.result.now ≡ take end values = ap (λ (l : List ℕ). list ++ l) c.part.ensures ∙ more_of at (end - at) [] values ∙ ap (λ n. take n values) sum in
    record {
      within = omega (arith, c.min-end.ensures);
      profile = subst (IsProfileOf c.extend-taken.new.self) next (c.extend-taken.ensures.taken list c.loop-taken.invariant.profile);
    }
