use Rattle.std.proofs.Common.{◌≡◌, ℕ, ◌+◌, ◌++◌, ◌∷◌, drop, get_or, ap, ◌∙◌, arith}
use Rattle.std.specs.List.{list_any}
use Rattle.std.proofs.lemmas.List.{drop_more}
use Rattle.definitions_operators.proofs.GroupWords.{new_place}
use Rattle.group_ops.specs.Pairs.{same_pair, pairs_of}
use Rattle.group_ops.proofs.RowLaws.{fresh_place, seen_place, row_ids, row_extents, row_seen, row_longer, place_longer}
use Rattle.group_ops.proofs.rows.number_values.Goals as goal
use Rattle.group_ops.proofs.rows.number_values.Goals.{then-found, else-found}

pub loop-value-preserved : goal.loop-value-preserved
loop-value-preserved c =
    let i = c.loop-value.value-index in
    let values = c.args.values.now in
    let pair : ℕ × ℕ = (0, get_or values i 0) in
    let items = pairs_of (drop i values) in
    let rest = pairs_of (drop (i + 1) values) in
    let seen = c.loop-value.table in
    let place = c.loop-value.place in
    let known = list_any (same_pair pair) seen in
    let fresh = c.in_ok-found.found.fresh in
    let splits : items ≡ pair ∷ rest = ap pairs_of (drop_more values i 0 c.loop-value-test.true) in
    let extents : c.if-found.extents ≡ c.loop-value.extents ++ new_place same_pair seen place pair =
    elim c.if-found.branch [
      | then-found w ↦ w.extents-is ∙ w.push-then-found.ensures ∙ fresh_place known fresh c.loop-value.extents place c.in_ok-found.ensures.fresh w.if-found.true
      | else-found w ↦ w.extents-is ∙ seen_place known fresh c.loop-value.extents place c.in_ok-found.ensures.fresh w.if-found.false
    ] in
    record {
      ids = row_ids seen c.probe.new.self items pair rest splits c.in_ok-found.ensures.pairs c.loop-value.ids c.push.new.self c.in_ok-found.found.number _ c.push.ensures
          c.in_ok-found.ensures.number c.loop-value.invariant.ids;
      extents = row_extents seen c.probe.new.self items pair rest splits c.in_ok-found.ensures.pairs c.loop-value.extents c.if-found.extents place (place + 1) _ extents (omega arith)
          c.loop-value.invariant.extents;
      seen = row_seen seen c.probe.new.self items pair rest splits c.in_ok-found.ensures.pairs _ c.loop-value.invariant.seen;
      ids_length = row_longer c.loop-value.ids c.push.new.self c.in_ok-found.found.number i c.push.ensures c.loop-value.invariant.ids_length;
      extents_length = place_longer seen pair place c.loop-value.extents c.if-found.extents i extents c.loop-value.invariant.extents_length;
      place = omega (arith, c.loop-value.invariant.place);
    }
