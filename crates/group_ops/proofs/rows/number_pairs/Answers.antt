use Rattle.std.proofs.Common.{◌≡◌, ℕ, ◌+◌, ◌++◌, ◌∷◌, drop, get_or, ap₂, ◌∙◌, arith}
use Rattle.std.specs.Prelude.{zip}
use Rattle.std.specs.List.{list_any}
use Rattle.std.proofs.lemmas.List.{drop_more}
use Rattle.definitions_operators.proofs.GroupWords.{new_place}
use Rattle.group_ops.specs.Pairs.{same_pair}
use Rattle.group_ops.proofs.RowLaws.{fresh_place, seen_place, row_ids, row_extents, row_seen, row_longer, place_longer}
use Rattle.group_ops.proofs.rows.number_pairs.Goals as goal
use Rattle.group_ops.proofs.rows.number_pairs.Goals.{then-found, else-found}

pub loop-row-preserved : goal.loop-row-preserved
loop-row-preserved c =
    let i = c.loop-row.row in
    let before = c.args.before.now in
    let values = c.args.values.now in
    let pair : ℕ × ℕ = (get_or before i 0, get_or values i 0) in
    let items = zip (drop i before) (drop i values) in
    let rest = zip (drop (i + 1) before) (drop (i + 1) values) in
    let seen = c.loop-row.table in
    let place = c.args.first + i in
    let known = list_any (same_pair pair) seen in
    let fresh = c.in_ok-found.found.fresh in
    let splits : items ≡ pair ∷ rest =
    ap₂ (λ xs ys. zip xs ys) (drop_more before i 0 (omega (arith, c.loop-row-test.true, c.requires.same))) (drop_more values i 0 c.loop-row-test.true) in
    let extents : c.if-found.extents ≡ c.loop-row.extents ++ new_place same_pair seen place pair =
    elim c.if-found.branch [
      | then-found w ↦ w.extents-is ∙ w.push-then-found.ensures ∙ fresh_place known fresh c.loop-row.extents place c.in_ok-found.ensures.fresh w.if-found.true
      | else-found w ↦ w.extents-is ∙ seen_place known fresh c.loop-row.extents place c.in_ok-found.ensures.fresh w.if-found.false
    ] in
    record {
      ids = row_ids seen c.probe.new.self items pair rest splits c.in_ok-found.ensures.pairs c.loop-row.ids c.push.new.self c.in_ok-found.found.number _ c.push.ensures
          c.in_ok-found.ensures.number c.loop-row.invariant.ids;
      extents = row_extents seen c.probe.new.self items pair rest splits c.in_ok-found.ensures.pairs c.loop-row.extents c.if-found.extents place (c.args.first + (i + 1)) _ extents
          (omega arith) c.loop-row.invariant.extents;
      seen = row_seen seen c.probe.new.self items pair rest splits c.in_ok-found.ensures.pairs _ c.loop-row.invariant.seen;
      ids_length = row_longer c.loop-row.ids c.push.new.self c.in_ok-found.found.number i c.push.ensures c.loop-row.invariant.ids_length;
      extents_length = place_longer seen pair place c.loop-row.extents c.if-found.extents i extents c.loop-row.invariant.extents_length;
    }
