use Rattle.std.proofs.Common.{◌≡◌, ℕ, ◌+◌, ◌<◌, ◌≤◌, get_or, bit_or, arith, below_more}
use Rattle.std.proofs.lemmas.Nat.{le_or_l, le_or_r}
use Rattle.cascade_formats.proofs.references.zeros_and_bits.Goals as goal
use Rattle.cascade_formats.proofs.references.zeros_and_bits.Goals.{then-value-eq0, else-value-eq0}

pub loop-value-preserved : goal.loop-value-preserved
loop-value-preserved c =
    let values = c.args.values.now in
    let place = c.loop-value.value-index in
    let was = c.loop-value.invariant in
    let bits = c.loop-value.bits in
    let each : (k : ℕ) → k < place + 1 → get_or values k 0 ≤ bit_or bits (get_or values place 0) =
    below_more _ _ (λ k below. let old = was.each k below in let kept = le_or_l bits (get_or values place 0) in omega arith) (le_or_r bits (get_or values place 0)) in
    elim c.if-value-eq0.branch [
      | then-value-eq0 w ↦
          let more = w.zeros-is in
          record {
            few = let few = was.few in omega arith;
            some = λ none. absurd (omega arith);
            none = λ all. let above : 0 < get_or values place 0 = all place (omega arith) in let zero = w.if-value-eq0 in absurd (omega arith);
            each = each;
          }
      | else-value-eq0 w ↦
          let same = w.zeros-is in
          record {
            few = let few = was.few in omega arith;
            some = λ none. below_more _ _ (was.some (omega arith)) (let other = w.if-value-eq0 in omega arith);
            none = λ all. let before : c.loop-value.zeros ≡ 0 = was.none (λ k below. all k (omega arith)) in omega arith;
            each = each;
          }
    ]
