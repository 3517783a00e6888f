use Rattle.std.proofs.Common.{◌≡◌, ℕ, [], ◌+◌, ◌++◌, ◌∷◌, drop, get_or, ap, ◌∙◌, arith}
use Rattle.std.specs.List.{list_any}
use Rattle.std.proofs.lemmas.List.{drop_more, drop_all}
use Rattle.definitions_operators.proofs.GroupWords.{new_place}
use Rattle.group_ops.specs.Pairs.{same_pair, pairs_of}
use Rattle.group_ops.proofs.RowLaws.{fresh_place, seen_place, row_ids, row_extents, all_ids, all_extents}
use Rattle.group_ops.proofs.GroupingLaws.{group-ids, group-extents}
use Rattle.group_ops.proofs.plain.group.Goals as goal
use Rattle.group_ops.proofs.plain.group.Goals.{then-found+in_ok-push-2, else-found}

pub loop-row-preserved : goal.loop-row-preserved
loop-row-preserved c =
    let i = c.loop-row.row in
    let values = c.args.values.now in
    let pair : ℕ × ℕ = (0, get_or values i 0) in
    let items = pairs_of (drop i values) in
    let rest = pairs_of (drop (i + 1) values) in
    let seen = c.loop-row.table in
    let known = list_any (same_pair pair) seen in
    let fresh = c.in_ok-found.found.fresh in
    let splits : items ≡ pair ∷ rest = ap pairs_of (drop_more values i 0 c.loop-row-test.true) in
    let extents : c.if-found.extents.items ≡ c.loop-row.extents.items ++ new_place same_pair seen i pair =
    elim c.if-found.branch [
      | then-found+in_ok-push-2 w ↦ ap (λ v. v.items) w.extents-is ∙ w.in_ok-push-2.ensures.items ∙ fresh_place known fresh c.loop-row.extents.items i c.in_ok-found.ensures.fresh w.if-found.true
      | else-found w ↦ ap (λ v. v.items) w.extents-is ∙ seen_place known fresh c.loop-row.extents.items i c.in_ok-found.ensures.fresh w.if-found.false
    ] in
    record {
      ids = row_ids seen c.probe.new.self items pair rest splits c.in_ok-found.ensures.pairs c.loop-row.ids.items c.push.new.self.items c.in_ok-found.found.number _
          c.in_ok-push.ensures.items c.in_ok-found.ensures.number c.loop-row.invariant.ids;
      extents = row_extents seen c.probe.new.self items pair rest splits c.in_ok-found.ensures.pairs c.loop-row.extents.items c.if-found.extents.items i (i + 1) _ extents (omega arith)
          c.loop-row.invariant.extents;
    }

pub returns-clause-ids : goal.returns-clause-ids
returns-clause-ids c =
    let i = c.loop-row.row in
    let values = c.args.values.now in
    let none : pairs_of (drop i values) ≡ [] = ap pairs_of (drop_all i values (omega (arith, c.loop-row-test.false))) in
    c.from_vec.ensures ∙ all_ids c.loop-row.table c.loop-row.ids.items (pairs_of (drop i values)) _ none c.loop-row.invariant.ids ∙ group-ids values

pub returns-clause-extents : goal.returns-clause-extents
returns-clause-extents c =
    let i = c.loop-row.row in
    let values = c.args.values.now in
    let none : pairs_of (drop i values) ≡ [] = ap pairs_of (drop_all i values (omega (arith, c.loop-row-test.false))) in
    c.from_vec-2.ensures ∙ all_extents c.loop-row.table c.loop-row.extents.items i (pairs_of (drop i values)) _ none c.loop-row.invariant.extents ∙ group-extents values
