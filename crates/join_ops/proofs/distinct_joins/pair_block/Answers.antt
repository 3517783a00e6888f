use Rattle.std.proofs.Common.{◌≡◌, ◌∙◌, ◌+◌, ◌∷◌, [], inl, inr, ◌⊎◌, take, get_or, ap, sym, arith}
use Rattle.std.proofs.lemmas.List.{length-set}
use Rattle.definitions_operators.specs.Operators.{places_of}
use Rattle.join_ops.specs.Joins.{lefts_of, lefts_from, rights_from}
use Rattle.join_ops.proofs.DistinctLaws.{one_key, kept-next}
use Rattle.join_ops.proofs.JoinLaws.{lefts_from-more, rights_from-more}
use Rattle.join_ops.proofs.distinct_joins.pair_block.Goals as goal

pub loop-value-preserved : goal.loop-value-preserved
loop-value-preserved g c =
    let keys = g.T.FirstLinks.keys c.args.table.now in
    let values = c.args.values.now in
    let i = c.loop-value.value-index in
    let kept = c.loop-value.kept in
    let value = get_or values i 0 in
    let link = c.link_of-link.result in
    let one = one_key keys value link c.requires.distinct c.link_of-link.ensures in
    let more = c.min.result in
    let left : ((more ≡ 0) × (lefts_of (c.args.first + i) (places_of keys value) ≡ [])) ⊎ ((more ≡ 1) × (lefts_of (c.args.first + i) (places_of keys value) ≡ c.loop-value.place ∷ [])) = elim one [
      | inl none ↦ inl (omega (arith, none.0, c.min.ensures), ap (lefts_of (c.args.first + i)) none.1)
      | inr some ↦ inr (omega (arith, some.0, c.min.ensures), ap (lefts_of (c.args.first + i)) some.1 ∙ ap (λ p. p ∷ []) (sym c.loop-value.invariant.place))
    ] in
    let right : ((more ≡ 0) × (places_of keys value ≡ [])) ⊎ ((more ≡ 1) × (places_of keys value ≡ c.from.result ∷ [])) = elim one [
      | inl none ↦ inl (omega (arith, none.0, c.min.ensures), none.1)
      | inr some ↦ inr (omega (arith, some.0, c.min.ensures), some.1 ∙ ap (λ p. p ∷ []) (omega (arith, c.from.ensures, c.saturating_sub.ensures)))
    ] in
    record {
      count = elim one [
        | inl none ↦ omega (arith, none.0, c.min.ensures, c.loop-value.invariant.count)
        | inr some ↦ omega (arith, some.0, c.min.ensures, c.loop-value.invariant.count)
      ];
      place = omega (arith, c.loop-value.invariant.place);
      left_room = length-set c.loop-value.lefts kept c.loop-value.place ∙ c.loop-value.invariant.left_room;
      right_room = length-set c.loop-value.rights kept c.from.result ∙ c.loop-value.invariant.right_room;
      lefts = kept-next c.loop-value.lefts (lefts_from keys c.args.first (take i values)) (lefts_of (c.args.first + i) (places_of keys value)) kept more c.loop-value.place
          (omega (arith, c.loop-value.invariant.left_room, c.loop-value.invariant.count, c.requires.left_room, c.loop-value-test.true)) c.loop-value.invariant.lefts left
          ∙ lefts_from-more keys c.args.first i values c.loop-value-test.true;
      rights = kept-next c.loop-value.rights (rights_from keys (take i values)) (places_of keys value) kept more c.from.result
          (omega (arith, c.loop-value.invariant.right_room, c.loop-value.invariant.count, c.requires.right_room, c.loop-value-test.true)) c.loop-value.invariant.rights right
          ∙ rights_from-more keys i values c.loop-value-test.true;
    }
