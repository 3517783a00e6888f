use Rattle.std.proofs.Common.{◌≡◌, ◌∙◌, ◌+◌, ◌++◌, ℕ, List, take, get_or, ap, sym, arith}
use Rattle.std.proofs.lemmas.List.{take_all}
use Rattle.definitions_operators.specs.Operators.{places_of}
use Rattle.join_ops.specs.Joins.{lefts_of, lefts_from, rights_from}
use Rattle.join_ops.proofs.JoinLaws.{lefts_from-more, rights_from-more}
use Rattle.join_ops.proofs.MeaningLaws.{lefts-are, rights-are}
use Rattle.join_ops.proofs.plain.join.Goals as goal

pub loop-place-preserved : goal.loop-place-preserved
loop-place-preserved c =
    let keys = c.args.keys.now in
    let values = c.args.probe.now in
    let place = c.loop-place.place in
    let at : place ≡ 0 + place = omega arith in
    record {
      left = c.in_ok-append_pairs.ensures.left ∙ ap (λ (l : List ℕ). l ++ lefts_of place (places_of keys (get_or values place 0))) c.loop-place.invariant.left
          ∙ ap (λ (n : ℕ). lefts_from keys 0 (take place values) ++ lefts_of n (places_of keys (get_or values place 0))) at ∙ lefts_from-more keys 0 place values c.loop-place-test.true;
      right = c.in_ok-append_pairs.ensures.right ∙ ap (λ (l : List ℕ). l ++ places_of keys (get_or values place 0)) c.loop-place.invariant.right
          ∙ rights_from-more keys place values c.loop-place-test.true;
    }

pub returns-clause-left : goal.returns-clause-left
returns-clause-left c =
    let keys = c.args.keys.now in
    let values = c.args.probe.now in
    c.from_vec.ensures ∙ c.loop-place.invariant.left ∙ ap (lefts_from keys 0) (take_all c.loop-place.place values c.loop-place-test.false) ∙ sym (lefts-are values keys)

pub returns-clause-right : goal.returns-clause-right
returns-clause-right c =
    let keys = c.args.keys.now in
    let values = c.args.probe.now in
    c.from_vec-2.ensures ∙ c.loop-place.invariant.right ∙ ap (rights_from keys) (take_all c.loop-place.place values c.loop-place-test.false) ∙ sym (rights-are values keys)
