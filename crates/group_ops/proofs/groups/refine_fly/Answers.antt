use Rattle.std.proofs.Common.{◌≡◌, ℕ, ◌+◌, ◌*◌, ◌≤◌, List, [], ◌++◌, take, drop, length, ap, ap₂, ◌∙◌, subst, arith}
use Rattle.std.proofs.lemmas.List.{length-take, take_all}
use Rattle.definitions_blocks.specs.Blocks.{block_values, block_at}
use Rattle.definitions_operators.specs.Groups.{refine, distinct}
use Rattle.definitions_operators.proofs.GroupWords.{numbers_from, new_places}
use Rattle.group_ops.specs.Pairs.{same_pair, pairs_within}
use Rattle.group_ops.proofs.GroupingLaws.{refine-ids, refine-extents, refine-ids_few, refine-extents_few}
use Rattle.group_ops.proofs.PieceLaws.{may_extend, front_taken, piece_taken, on_err, taken-block}
use Rattle.group_ops.proofs.PassLaws.{seen_in, ids_rest, extents_rest, ids_next, extents_next, seen_next, pairs_split, pairs_next, pairs_before, same_blocks}
use Rattle.group_ops.proofs.groups.refine_fly.Goals as goal

-- the pairs before a place, and those from it on
abbrev front : ℕ → List ℕ → List ℕ → List (ℕ × ℕ)
front n before values = pairs_within (take n before) (take n values)

abbrev back : ℕ → List ℕ → List ℕ → List (ℕ × ℕ)
back n before values = pairs_within (drop n before) (drop n values)

-- their ids
abbrev ids_before : ℕ → List ℕ → List ℕ → List ℕ
ids_before n before values = numbers_from same_pair [] (front n before values)

abbrev ids_after : ℕ → List ℕ → List ℕ → List ℕ
ids_after n before values = numbers_from same_pair (seen_in (front n before values)) (back n before values)

ids_whole : (n : ℕ) (before values : List ℕ) → length before ≡ length values → ids_before n before values ++ ids_after n before values ≡ (refine before values).ids
ids_whole n before values same =
    ids_rest (front n before values) (back n before values) (pairs_within before values) (refine before values).ids (pairs_split n before values) (refine-ids before values same)

-- and the places of first rows
abbrev extents_before : ℕ → List ℕ → List ℕ → List ℕ
extents_before n before values = new_places same_pair [] 0 (front n before values)

abbrev extents_after : ℕ → List ℕ → List ℕ → List ℕ
extents_after n before values = new_places same_pair (seen_in (front n before values)) (0 + length (front n before values)) (back n before values)

extents_whole : (n : ℕ) (before values : List ℕ) → length before ≡ length values → extents_before n before values ++ extents_after n before values ≡ (refine before values).extents
extents_whole n before values same =
    extents_rest (front n before values) (back n before values) (pairs_within before values) (refine before values).extents (pairs_split n before values) (refine-extents before values same)

-- with one block more
module _ (number : ℕ) (before values earlier block : List ℕ) (table : List (ℕ × ℕ)) (was : earlier ≡ block_at before number) (is : block ≡ block_at values number)
    (seen : table ≡ seen_in (front (number * block_values) before values)) where
  ids_more : (piece : List ℕ) → piece ≡ numbers_from same_pair table (pairs_within earlier block)
      → ids_before (number * block_values) before values ++ piece ≡ ids_before ((number + 1) * block_values) before values
  ids_more piece found =
      ids_next (front (number * block_values) before values) (pairs_within earlier block) (front ((number + 1) * block_values) before values) table seen
      (pairs_next number before values earlier block was is) piece found

  extents_more : (piece : List ℕ) → length before ≡ length values → number * block_values ≤ length values → piece ≡ new_places same_pair table (number * block_values) (pairs_within earlier block)
      → extents_before (number * block_values) before values ++ piece ≡ extents_before ((number + 1) * block_values) before values
  extents_more piece same within found =
      extents_next (front (number * block_values) before values) (pairs_within earlier block) (front ((number + 1) * block_values) before values) table seen
      (pairs_next number before values earlier block was is) (number * block_values) piece (pairs_before (number * block_values) before values same within) found

pub number_pairs-requires-clause-same : goal.number_pairs-requires-clause-same
number_pairs-requires-clause-same g c =
    let before = g.B.BlockSource.list c.args.before.now in
    let values = g.S.BlockSource.list c.args.values.now in
    let number = c.loop-number.number in
    let earlier = c.as_slice-in-loop-number.result.now in
    let block = c.as_slice-in-loop-number-2.result.now in
    let was : earlier ≡ block_at before number = c.as_slice-in-loop-number.ensures.values ∙ c.block.ensures.values ∙ ap (λ (l : List ℕ). block_at l number) c.loop-number.invariant.kept_before in
    let is : block ≡ block_at values number = c.as_slice-in-loop-number-2.ensures.values ∙ c.block-in-loop-number.ensures.values ∙ ap (λ (l : List ℕ). block_at l number) c.loop-number.invariant.kept_values in
    same_blocks number before values earlier block c.requires.same was is

pub returns-in_err-number_pairs-clause-ids_err : goal.returns-in_err-number_pairs-clause-ids_err
returns-in_err-number_pairs-clause-ids_err g c =
    let before = g.B.BlockSource.list c.args.before.now in
    let values = g.S.BlockSource.list c.args.values.now in
    let at = c.loop-number.number * block_values in
    on_err c.from_residual.result
    (front_taken (g.I.Emit.pushed c.loop-number.ids) (ids_before at before values) (ids_after at before values) (refine before values).ids c.loop-number.invariant.ids (ids_whole at before values c.requires.same))

pub returns-in_err-number_pairs-clause-extents_err : goal.returns-in_err-number_pairs-clause-extents_err
returns-in_err-number_pairs-clause-extents_err g c =
    let before = g.B.BlockSource.list c.args.before.now in
    let values = g.S.BlockSource.list c.args.values.now in
    let at = c.loop-number.number * block_values in
    on_err c.from_residual.result
    (front_taken (g.E.Emit.pushed c.loop-number.extents) (extents_before at before values) (extents_after at before values) (refine before values).extents c.loop-number.invariant.extents (extents_whole at before values c.requires.same))

pub returns-in_err-number_pairs-clause-steps : goal.returns-in_err-number_pairs-clause-steps
returns-in_err-number_pairs-clause-steps g c =
    let before = g.B.BlockSource.list c.args.before.now in
    let values = g.S.BlockSource.list c.args.values.now in
    let number = c.loop-number.number in
    let first : c.as_slice.result.now ≡ block_at values number = c.as_slice.ensures.values ∙ c.block-in-loop-number.ensures.values ∙ ap (λ (l : List ℕ). block_at l number) c.loop-number.invariant.kept_values in
    omega (
      arith,
      c.loop-number.invariant.steps,
      c.block.ensures.steps,
      c.block-in-loop-number.ensures.steps,
      c.tick_by.ensures.next,
      ap length first,
      taken-block number values,
      length-take ((number + 1) * block_values) values,
      c.loop-number-test.true,
      c.div_ceil-number-end.ensures,
      c.count.ensures.count,
    )

pub extend-requires : goal.extend-requires
extend-requires g c =
    let before = g.B.BlockSource.list c.args.before.now in
    let values = g.S.BlockSource.list c.args.values.now in
    let number = c.loop-number.number in
    let at = number * block_values in
    let to = (number + 1) * block_values in
    let earlier = c.as_slice-in-loop-number.result.now in
    let block = c.as_slice-in-loop-number-2.result.now in
    let piece = c.as_slice-in-loop-number-3.result.now in
    let was : earlier ≡ block_at before number = c.as_slice-in-loop-number.ensures.values ∙ c.block.ensures.values ∙ ap (λ (l : List ℕ). block_at l number) c.loop-number.invariant.kept_before in
    let is : block ≡ block_at values number = c.as_slice-in-loop-number-2.ensures.values ∙ c.block-in-loop-number.ensures.values ∙ ap (λ (l : List ℕ). block_at l number) c.loop-number.invariant.kept_values in
    may_extend (g.I.Emit.pushed c.loop-number.ids) g.I.Emit.scope g.met.I.Emit.scope_law (g.I.Emit.frame c.loop-number.ids) (g.I.Emit.frame c.args.ids.now) c.loop-number.invariant.ids_frame
    (ids_before at before values) piece (ids_before to before values) (ids_after to before values) (refine before values).ids c.loop-number.invariant.ids
    (ids_more number before values earlier block c.loop-number.table was is c.loop-number.invariant.seen piece (c.as_slice-in-loop-number-3.ensures.values ∙ c.in_ok-number_pairs.ensures.ids))
    (ids_whole to before values c.requires.same) (omega (arith, refine-ids_few before values c.requires.same, c.count.ensures.few)) c.requires.ids_scope

pub returns-in_err-extend-clause-ids_err : goal.returns-in_err-extend-clause-ids_err
returns-in_err-extend-clause-ids_err g c =
    let before = g.B.BlockSource.list c.args.before.now in
    let values = g.S.BlockSource.list c.args.values.now in
    let number = c.loop-number.number in
    let at = number * block_values in
    let to = (number + 1) * block_values in
    let earlier = c.as_slice-in-loop-number.result.now in
    let block = c.as_slice-in-loop-number-2.result.now in
    let piece = c.as_slice-in-loop-number-3.result.now in
    let was : earlier ≡ block_at before number = c.as_slice-in-loop-number.ensures.values ∙ c.block.ensures.values ∙ ap (λ (l : List ℕ). block_at l number) c.loop-number.invariant.kept_before in
    let is : block ≡ block_at values number = c.as_slice-in-loop-number-2.ensures.values ∙ c.block-in-loop-number.ensures.values ∙ ap (λ (l : List ℕ). block_at l number) c.loop-number.invariant.kept_values in
    let taken = c.in_err-extend.ensures.err in
    on_err c.from_residual-in_err-extend.result
    (piece_taken (g.I.Emit.pushed c.extend.new.self) taken.0 (ids_before at before values) piece (ids_before to before values) (ids_after to before values) (refine before values).ids
    (taken.1 (ids_before at before values) c.loop-number.invariant.ids)
    (ids_more number before values earlier block c.loop-number.table was is c.loop-number.invariant.seen piece (c.as_slice-in-loop-number-3.ensures.values ∙ c.in_ok-number_pairs.ensures.ids))
    (ids_whole to before values c.requires.same))

pub returns-in_err-extend-clause-extents_err : goal.returns-in_err-extend-clause-extents_err
returns-in_err-extend-clause-extents_err g c =
    let before = g.B.BlockSource.list c.args.before.now in
    let values = g.S.BlockSource.list c.args.values.now in
    let at = c.loop-number.number * block_values in
    on_err c.from_residual-in_err-extend.result
    (front_taken (g.E.Emit.pushed c.loop-number.extents) (extents_before at before values) (extents_after at before values) (refine before values).extents c.loop-number.invariant.extents (extents_whole at before values c.requires.same))

pub returns-in_err-extend-clause-steps : goal.returns-in_err-extend-clause-steps
returns-in_err-extend-clause-steps g c =
    let before = g.B.BlockSource.list c.args.before.now in
    let values = g.S.BlockSource.list c.args.values.now in
    let number = c.loop-number.number in
    let first : c.as_slice.result.now ≡ block_at values number = c.as_slice.ensures.values ∙ c.block-in-loop-number.ensures.values ∙ ap (λ (l : List ℕ). block_at l number) c.loop-number.invariant.kept_values in
    omega (
      arith,
      c.loop-number.invariant.steps,
      c.block.ensures.steps,
      c.block-in-loop-number.ensures.steps,
      c.tick_by.ensures.next,
      ap length first,
      taken-block number values,
      length-take ((number + 1) * block_values) values,
      c.loop-number-test.true,
      c.div_ceil-number-end.ensures,
      c.count.ensures.count,
    )

pub extend-requires-in-loop-number : goal.extend-requires-in-loop-number
extend-requires-in-loop-number g c =
    let before = g.B.BlockSource.list c.args.before.now in
    let values = g.S.BlockSource.list c.args.values.now in
    let number = c.loop-number.number in
    let at = number * block_values in
    let to = (number + 1) * block_values in
    let earlier = c.as_slice-in-loop-number.result.now in
    let block = c.as_slice-in-loop-number-2.result.now in
    let piece = c.as_slice-in-loop-number-4.result.now in
    let within : at ≤ length values = omega (arith, c.loop-number-test.true, c.div_ceil-number-end.ensures, c.count.ensures.count) in
    let was : earlier ≡ block_at before number = c.as_slice-in-loop-number.ensures.values ∙ c.block.ensures.values ∙ ap (λ (l : List ℕ). block_at l number) c.loop-number.invariant.kept_before in
    let is : block ≡ block_at values number = c.as_slice-in-loop-number-2.ensures.values ∙ c.block-in-loop-number.ensures.values ∙ ap (λ (l : List ℕ). block_at l number) c.loop-number.invariant.kept_values in
    may_extend (g.E.Emit.pushed c.loop-number.extents) g.E.Emit.scope g.met.E.Emit.scope_law (g.E.Emit.frame c.loop-number.extents) (g.E.Emit.frame c.args.extents.now)
    c.loop-number.invariant.extents_frame
    (extents_before at before values) piece (extents_before to before values) (extents_after to before values) (refine before values).extents c.loop-number.invariant.extents
    (extents_more number before values earlier block c.loop-number.table was is c.loop-number.invariant.seen piece c.requires.same within (c.as_slice-in-loop-number-4.ensures.values ∙ c.in_ok-number_pairs.ensures.extents))
    (extents_whole to before values c.requires.same) (omega (arith, refine-extents_few before values c.requires.same, c.count.ensures.few)) c.requires.extents_scope

pub returns-in_err-extend-2-clause-ids_err : goal.returns-in_err-extend-2-clause-ids_err
returns-in_err-extend-2-clause-ids_err g c =
    let before = g.B.BlockSource.list c.args.before.now in
    let values = g.S.BlockSource.list c.args.values.now in
    let number = c.loop-number.number in
    let at = number * block_values in
    let to = (number + 1) * block_values in
    let earlier = c.as_slice-in-loop-number.result.now in
    let block = c.as_slice-in-loop-number-2.result.now in
    let piece = c.as_slice-in-loop-number-3.result.now in
    let was : earlier ≡ block_at before number = c.as_slice-in-loop-number.ensures.values ∙ c.block.ensures.values ∙ ap (λ (l : List ℕ). block_at l number) c.loop-number.invariant.kept_before in
    let is : block ≡ block_at values number = c.as_slice-in-loop-number-2.ensures.values ∙ c.block-in-loop-number.ensures.values ∙ ap (λ (l : List ℕ). block_at l number) c.loop-number.invariant.kept_values in
    let held : g.I.Emit.pushed c.extend.new.self (ids_before to before values) =
    subst (g.I.Emit.pushed c.extend.new.self)
    (ids_more number before values earlier block c.loop-number.table was is c.loop-number.invariant.seen piece (c.as_slice-in-loop-number-3.ensures.values ∙ c.in_ok-number_pairs.ensures.ids))
    (c.in_ok-extend.ensures.ok (ids_before at before values) c.loop-number.invariant.ids) in
    on_err c.from_residual-in_err-extend-2.result
    (front_taken (g.I.Emit.pushed c.extend.new.self) (ids_before to before values) (ids_after to before values) (refine before values).ids held (ids_whole to before values c.requires.same))

pub returns-in_err-extend-2-clause-extents_err : goal.returns-in_err-extend-2-clause-extents_err
returns-in_err-extend-2-clause-extents_err g c =
    let before = g.B.BlockSource.list c.args.before.now in
    let values = g.S.BlockSource.list c.args.values.now in
    let number = c.loop-number.number in
    let at = number * block_values in
    let to = (number + 1) * block_values in
    let earlier = c.as_slice-in-loop-number.result.now in
    let block = c.as_slice-in-loop-number-2.result.now in
    let piece = c.as_slice-in-loop-number-4.result.now in
    let within : at ≤ length values = omega (arith, c.loop-number-test.true, c.div_ceil-number-end.ensures, c.count.ensures.count) in
    let was : earlier ≡ block_at before number = c.as_slice-in-loop-number.ensures.values ∙ c.block.ensures.values ∙ ap (λ (l : List ℕ). block_at l number) c.loop-number.invariant.kept_before in
    let is : block ≡ block_at values number = c.as_slice-in-loop-number-2.ensures.values ∙ c.block-in-loop-number.ensures.values ∙ ap (λ (l : List ℕ). block_at l number) c.loop-number.invariant.kept_values in
    let taken = c.in_err-extend-2.ensures.err in
    on_err c.from_residual-in_err-extend-2.result
    (piece_taken (g.E.Emit.pushed c.extend-in-loop-number.new.self) taken.0 (extents_before at before values) piece (extents_before to before values) (extents_after to before values) (refine before values).extents
    (taken.1 (extents_before at before values) c.loop-number.invariant.extents)
    (extents_more number before values earlier block c.loop-number.table was is c.loop-number.invariant.seen piece c.requires.same within (c.as_slice-in-loop-number-4.ensures.values ∙ c.in_ok-number_pairs.ensures.extents))
    (extents_whole to before values c.requires.same))

pub returns-in_err-extend-2-clause-steps : goal.returns-in_err-extend-2-clause-steps
returns-in_err-extend-2-clause-steps g c =
    let before = g.B.BlockSource.list c.args.before.now in
    let values = g.S.BlockSource.list c.args.values.now in
    let number = c.loop-number.number in
    let first : c.as_slice.result.now ≡ block_at values number = c.as_slice.ensures.values ∙ c.block-in-loop-number.ensures.values ∙ ap (λ (l : List ℕ). block_at l number) c.loop-number.invariant.kept_values in
    omega (
      arith,
      c.loop-number.invariant.steps,
      c.block.ensures.steps,
      c.block-in-loop-number.ensures.steps,
      c.tick_by.ensures.next,
      ap length first,
      taken-block number values,
      length-take ((number + 1) * block_values) values,
      c.loop-number-test.true,
      c.div_ceil-number-end.ensures,
      c.count.ensures.count,
    )

pub loop-number-preserved : goal.loop-number-preserved
loop-number-preserved g c =
    let before = g.B.BlockSource.list c.args.before.now in
    let values = g.S.BlockSource.list c.args.values.now in
    let number = c.loop-number.number in
    let at = number * block_values in
    let to = (number + 1) * block_values in
    let earlier = c.as_slice-in-loop-number.result.now in
    let block = c.as_slice-in-loop-number-2.result.now in
    let within : at ≤ length values = omega (arith, c.loop-number-test.true, c.div_ceil-number-end.ensures, c.count.ensures.count) in
    let was : earlier ≡ block_at before number = c.as_slice-in-loop-number.ensures.values ∙ c.block.ensures.values ∙ ap (λ (l : List ℕ). block_at l number) c.loop-number.invariant.kept_before in
    let is : block ≡ block_at values number = c.as_slice-in-loop-number-2.ensures.values ∙ c.block-in-loop-number.ensures.values ∙ ap (λ (l : List ℕ). block_at l number) c.loop-number.invariant.kept_values in
    let first : c.as_slice.result.now ≡ block_at values number = c.as_slice.ensures.values ∙ c.block-in-loop-number.ensures.values ∙ ap (λ (l : List ℕ). block_at l number) c.loop-number.invariant.kept_values in
    let now = c.loop-number.invariant.seen in
    record {
      kept_before = c.block.ensures.list ∙ c.loop-number.invariant.kept_before;
      kept_values = c.block-in-loop-number.ensures.list ∙ c.loop-number.invariant.kept_values;
      ids = subst (g.I.Emit.pushed c.extend.new.self)
          (ids_more number before values earlier block c.loop-number.table was is now c.as_slice-in-loop-number-3.result.now (c.as_slice-in-loop-number-3.ensures.values ∙ c.in_ok-number_pairs.ensures.ids))
          (c.in_ok-extend.ensures.ok (ids_before at before values) c.loop-number.invariant.ids);
      extents = subst (g.E.Emit.pushed c.extend-in-loop-number.new.self)
          (extents_more number before values earlier block c.loop-number.table was is now c.as_slice-in-loop-number-4.result.now c.requires.same within (c.as_slice-in-loop-number-4.ensures.values ∙ c.in_ok-number_pairs.ensures.extents))
          (c.in_ok-extend-2.ensures.ok (extents_before at before values) c.loop-number.invariant.extents);
      seen = seen_next (front at before values) (pairs_within earlier block) (front to before values) c.loop-number.table now (pairs_next number before values earlier block was is) c.number_pairs.new.table
          c.in_ok-number_pairs.ensures.pairs;
      ids_frame = c.in_ok-extend.ensures.frame ∙ c.loop-number.invariant.ids_frame;
      extents_frame = c.in_ok-extend-2.ensures.frame ∙ c.loop-number.invariant.extents_frame;
      later = omega (arith, c.loop-number.invariant.later, c.block.ensures.later, c.block-in-loop-number.ensures.later, c.tick_by.ensures.later);
      steps = omega (arith, c.loop-number.invariant.steps, c.block.ensures.steps, c.block-in-loop-number.ensures.steps, c.tick_by.ensures.next, ap length first, taken-block number values);
    }

all_read : (number : ℕ) (before values : List ℕ) → length before ≡ length values → length values ≤ number * block_values
    → pairs_within (take (number * block_values) before) (take (number * block_values) values) ≡ pairs_within before values
all_read number before values same end =
    ap₂ (λ (xs ys : List ℕ). pairs_within xs ys) (take_all (number * block_values) before (omega (arith, same, end))) (take_all (number * block_values) values end)

pub returns-clause-ids_ok : goal.returns-clause-ids_ok
returns-clause-ids_ok g c =
    let before = g.B.BlockSource.list c.args.before.now in
    let values = g.S.BlockSource.list c.args.values.now in
    let number = c.loop-number.number in
    let end : length values ≤ number * block_values = omega (arith, c.loop-number-test.false, c.div_ceil-number-end.ensures, c.count.ensures.count) in
    subst (g.I.Emit.pushed c.loop-number.ids) (ap (numbers_from same_pair []) (all_read number before values c.requires.same end) ∙ refine-ids before values c.requires.same) c.loop-number.invariant.ids

pub returns-clause-extents_ok : goal.returns-clause-extents_ok
returns-clause-extents_ok g c =
    let before = g.B.BlockSource.list c.args.before.now in
    let values = g.S.BlockSource.list c.args.values.now in
    let number = c.loop-number.number in
    let end : length values ≤ number * block_values = omega (arith, c.loop-number-test.false, c.div_ceil-number-end.ensures, c.count.ensures.count) in
    subst (g.E.Emit.pushed c.loop-number.extents) (ap (new_places same_pair [] 0) (all_read number before values c.requires.same end) ∙ refine-extents before values c.requires.same) c.loop-number.invariant.extents

pub returns-clause-table : goal.returns-clause-table
unfolding distinct
returns-clause-table g c =
    let before = g.B.BlockSource.list c.args.before.now in
    let values = g.S.BlockSource.list c.args.values.now in
    let number = c.loop-number.number in
    let end : length values ≤ number * block_values = omega (arith, c.loop-number-test.false, c.div_ceil-number-end.ensures, c.count.ensures.count) in
    c.loop-number.invariant.seen ∙ ap seen_in (all_read number before values c.requires.same end)
