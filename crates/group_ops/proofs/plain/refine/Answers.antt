use Rattle.std.proofs.Common.{◌≡◌, ℕ, List, [], ◌+◌, ◌≤◌, ◌++◌, ◌∷◌, drop, get_or, length, ap, ap₂, ◌∙◌, arith}
use Rattle.std.specs.Prelude.{zip}
use Rattle.std.specs.List.{list_any}
use Rattle.std.proofs.lemmas.List.{drop_more, drop_all}
use Rattle.definitions_operators.proofs.GroupWords.{new_place}
use Rattle.group_ops.specs.Pairs.{same_pair, pairs_within}
use Rattle.group_ops.proofs.RowLaws.{fresh_place, seen_place, row_ids, row_extents, all_ids, all_extents}
use Rattle.group_ops.proofs.GroupingLaws.{refine-ids, refine-extents}
use Rattle.group_ops.proofs.plain.refine.Goals as goal
use Rattle.group_ops.proofs.plain.refine.Goals.{then-found+in_ok-push-2, else-found}

pub loop-row-preserved : goal.loop-row-preserved
loop-row-preserved c =
    let i = c.loop-row.row in
    let before = c.args.before.now in
    let values = c.args.values.now in
    let pair : ℕ × ℕ = (get_or before i 0, get_or values i 0) in
    let items = zip (drop i before) (drop i values) in
    let rest = zip (drop (i + 1) before) (drop (i + 1) values) in
    let seen = c.loop-row.table in
    let known = list_any (same_pair pair) seen in
    let fresh = c.in_ok-found.found.fresh in
    let splits : items ≡ pair ∷ rest =
    ap₂ (λ xs ys. zip xs ys) (drop_more before i 0 (omega (arith, c.loop-row-test.true, c.requires.same))) (drop_more values i 0 c.loop-row-test.true) in
    let extents : c.if-found.extents.items ≡ c.loop-row.extents.items ++ new_place same_pair seen i pair =
    elim c.if-found.branch [
      | then-found+in_ok-push-2 w ↦ ap (λ v. v.items) w.extents-is ∙ w.in_ok-push-2.ensures.items ∙ fresh_place known fresh c.loop-row.extents.items i c.in_ok-found.ensures.fresh w.if-found.true
      | else-found w ↦ ap (λ v. v.items) w.extents-is ∙ seen_place known fresh c.loop-row.extents.items i c.in_ok-found.ensures.fresh w.if-found.false
    ] in
    record {
      ids = row_ids seen c.probe.new.self items pair rest splits c.in_ok-found.ensures.pairs c.loop-row.ids.items c.push.new.self.items c.in_ok-found.found.number _
          c.in_ok-push.ensures.items c.in_ok-found.ensures.number c.loop-row.invariant.ids;
      extents = row_extents seen c.probe.new.self items pair rest splits c.in_ok-found.ensures.pairs c.loop-row.extents.items c.if-found.extents.items i (i + 1) _ extents (omega arith)
          c.loop-row.invariant.extents;
    }

none_left : (i : ℕ) (before values : List ℕ) → length before ≡ length values → length values ≤ i → zip (drop i before) (drop i values) ≡ []
none_left i before values same end = ap₂ (λ (xs ys : List ℕ). zip xs ys) (drop_all i before (omega (arith, same, end))) (drop_all i values end)

pub returns-clause-ids : goal.returns-clause-ids
returns-clause-ids c =
    let i = c.loop-row.row in
    let before = c.args.before.now in
    let values = c.args.values.now in
    c.from_vec.ensures
    ∙ all_ids c.loop-row.table c.loop-row.ids.items (pairs_within (drop i before) (drop i values)) _ (none_left i before values c.requires.same (omega (arith, c.loop-row-test.false)))
    c.loop-row.invariant.ids
    ∙ refine-ids before values c.requires.same

pub returns-clause-extents : goal.returns-clause-extents
returns-clause-extents c =
    let i = c.loop-row.row in
    let before = c.args.before.now in
    let values = c.args.values.now in
    c.from_vec-2.ensures
    ∙ all_extents c.loop-row.table c.loop-row.extents.items i (pairs_within (drop i before) (drop i values)) _ (none_left i before values c.requires.same (omega (arith, c.loop-row-test.false)))
    c.loop-row.invariant.extents
    ∙ refine-extents before values c.requires.same
