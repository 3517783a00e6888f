use Rattle.std.proofs.Common.{◌≡◌, ◌∙◌, ◌+◌, ◌-◌, ◌<◌, ◌≤◌, ◌++◌, ◌∷◌, [], ap, arith, get_or, ℕ, length}
use Rattle.std.proofs.lemmas.List.{length-set, get_or-set_other}
use Rattle.definitions_operators.specs.Operators.{has}
use Rattle.join_ops.specs.KeySets.{marked}
use Rattle.join_ops.proofs.KeyLaws.{same-next}
use Rattle.join_ops.proofs.DenseLaws.{marked-set}
use Rattle.join_ops.proofs.dense_sets.mark_keys.Goals as goal

pub loop-key-preserved : goal.loop-key-preserved
loop-key-preserved c =
    let low = c.args.low in
    let marks = c.loop-key.marks in
    let keys = c.args.keys.now in
    let i = c.loop-key.key-index in
    let key = get_or keys i 0 in
    let distance = key - low in
    let inside = c.requires.within i 0 c.loop-key-test.true in
    let from : low ≤ key = inside.0 in
    let upto : key + 1 < low + length c.args.marks.now = inside.1 in
    let apart : length c.args.marks.now - 1 ≡ distance → ⊥ = λ same. absurd (omega (arith, same, from, upto)) in
    record {
      kept = length-set marks distance 1 ∙ c.loop-key.invariant.kept;
      last = get_or-set_other marks distance (length c.args.marks.now - 1) 1 0 apart ∙ c.loop-key.invariant.last;
      keys = λ value. marked-set low distance marks (omega (arith, from, upto, c.loop-key.invariant.kept)) value
          ∙ ap (λ (k : ℕ). has (marked low marks ++ k ∷ []) value) (omega (arith, from))
          ∙ same-next (marked low c.args.marks.now) (marked low marks) keys i c.loop-key-test.true c.loop-key.invariant.keys value;
    }
