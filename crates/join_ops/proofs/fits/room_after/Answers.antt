use Rattle.std.proofs.Common.{◌≡◌, ◌∙◌, ◌+◌, ◌<◌, ℕ, List, length, take, drop, get_or, ap, sym, arith, length-append}
use Rattle.std.proofs.lemmas.List.{take-append-drop}
use Rattle.definitions_operators.specs.Operators.{places_of}
use Rattle.join_ops.specs.Joins.{rights_from}
use Rattle.join_ops.proofs.JoinLaws.{rights_from-more, rights_from-append}
use Rattle.join_ops.proofs.fits.room_after.Goals as goal

-- one value more
more : (keys values : List ℕ) (i : ℕ) → i < length values
    → length (rights_from keys (take (i + 1) values)) ≡ length (rights_from keys (take i values)) + length (places_of keys (get_or values i 0))
more keys values i within =
    ap length (sym (rights_from-more keys i values within)) ∙ length-append (rights_from keys (take i values)) (places_of keys (get_or values i 0))

pub returns-in-None : goal.returns-in-None
returns-in-None c =
    let keys = c.args.keys.now in
    let values = c.args.values.now in
    let i = c.loop-value.value-index in
    let all : length (rights_from keys values) ≡ length (rights_from keys (take (i + 1) values)) + length (rights_from keys (drop (i + 1) values)) =
    ap (λ (l : List ℕ). length (rights_from keys l)) (sym (take-append-drop (i + 1) values)) ∙ ap length (rights_from-append keys (take (i + 1) values) (drop (i + 1) values))
    ∙ length-append (rights_from keys (take (i + 1) values)) (rights_from keys (drop (i + 1) values)) in
    omega (arith, all, more keys values i c.loop-value-test.true, c.loop-value.invariant.count, c.in-None.ensures)

pub loop-value-preserved : goal.loop-value-preserved
loop-value-preserved c = record {
  count = omega (arith, more c.args.keys.now c.args.values.now c.loop-value.value-index c.loop-value-test.true, c.loop-value.invariant.count, c.in-Some.ensures);
}
