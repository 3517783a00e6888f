use Rattle.std.proofs.Common.{◌≡◌, ◌∙◌, ◌+◌, ◌++◌, List, ℕ, drop, map, take, arith, ap, sym}
use Rattle.definitions_operators.specs.Operators.{passing_places}
use Rattle.definitions_operators.proofs.PositionLaws.{passing_places-block}
use Rattle.join_ops.proofs.plain.places_in.Goals as goal

pub loop-first-preserved : goal.loop-first-preserved
loop-first-preserved g c =
    let test = g.T.PlaceTest.passes c.args.test.now in
    let values = c.args.values.now in
    let first = c.loop-first.first in
    let n = c.min.result in
    let block : List ℕ = map (λ place. first + place) (passing_places test (take n (drop first values))) in
    let marked : take c.mark-kept.result c.mark-kept.new.places ≡ block =
    c.mark-kept.ensures.places ∙ ap (λ (k : ℕ). map (λ place. first + place) (passing_places test (take k (drop first values)))) (omega arith) in
    record {
      within = omega arith;
      places =
          c.in_ok-extend_from_slice.ensures.items
          ∙ ap (λ (rows : List ℕ). c.loop-first.places.items ++ rows) marked
          ∙ ap (λ (items : List ℕ). items ++ block) c.loop-first.invariant.places
          ∙ sym (passing_places-block test first n values (omega arith));
    }
