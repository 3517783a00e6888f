use Rattle.std.proofs.Common.{◌≤◌, ◌∷◌, [], All, sym, subst, arith, take, get_or}
use Rattle.std.proofs.lemmas.List.{take_all, take_more}
use Rattle.std.proofs.lemmas.List.Elements.{All-append, All-weaker, All-cons}
use Rattle.join_ops.proofs.ranges.widened.Goals as goal

pub loop-key-preserved : goal.loop-key-preserved
loop-key-preserved c =
    let keys = c.args.keys.now in
    let i = c.loop-key.key-index in
    let low = c.min.result in
    let high = c.max.result in
    let before = All-weaker (λ key. (c.loop-key.wide.low ≤ key) × (key ≤ c.loop-key.wide.high)) (λ key. (low ≤ key) × (key ≤ high))
    (λ key inside. (omega (arith, inside.0, c.min.ensures), omega (arith, inside.1, c.max.ensures))) (take i keys) c.loop-key.invariant.within in
    let here : (low ≤ get_or keys i 0) × (get_or keys i 0 ≤ high) = (omega (arith, c.min.ensures), omega (arith, c.max.ensures)) in
    record {
      low = omega (arith, c.min.ensures, c.loop-key.invariant.low);
      high = omega (arith, c.max.ensures, c.loop-key.invariant.high);
      within = subst (All (λ key. (low ≤ key) × (key ≤ high))) (sym (take_more keys i 0 c.loop-key-test.true))
          (All-append (λ key. (low ≤ key) × (key ≤ high)) (take i keys) (get_or keys i 0 ∷ []) before (All-cons (λ key. (low ≤ key) × (key ≤ high)) (get_or keys i 0) [] here (λ k d within. absurd (omega arith))));
    }

pub returns-clause-within : goal.returns-clause-within
returns-clause-within c =
    subst (All (λ key. (c.loop-key.wide.low ≤ key) × (key ≤ c.loop-key.wide.high))) (take_all c.loop-key.key-index c.args.keys.now c.loop-key-test.false) c.loop-key.invariant.within
