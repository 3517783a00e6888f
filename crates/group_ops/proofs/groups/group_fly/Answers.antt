use Rattle.std.proofs.Common.{◌≡◌, ℕ, ◌+◌, ◌*◌, ◌≤◌, List, [], ◌++◌, take, drop, length, ap, ◌∙◌, subst, arith}
use Rattle.std.proofs.lemmas.List.{length-take, take_all}
use Rattle.definitions_blocks.specs.Blocks.{block_values, block_at}
use Rattle.definitions_operators.specs.Groups.{group, distinct}
use Rattle.definitions_operators.proofs.GroupWords.{numbers_from, new_places}
use Rattle.group_ops.specs.Pairs.{same_pair, pairs_of}
use Rattle.group_ops.proofs.GroupingLaws.{group-ids, group-extents, group-ids_few, group-extents_few}
use Rattle.group_ops.proofs.PieceLaws.{may_extend, front_taken, piece_taken, on_err, taken-block}
use Rattle.group_ops.proofs.PassLaws.{seen_in, ids_rest, extents_rest, ids_next, extents_next, seen_next, values_split, values_next, values_before}
use Rattle.group_ops.proofs.groups.group_fly.Goals as goal

-- the ids of the values before a place, and of those from it on
abbrev ids_before : ℕ → List ℕ → List ℕ
ids_before n values = numbers_from same_pair [] (pairs_of (take n values))

abbrev ids_after : ℕ → List ℕ → List ℕ
ids_after n values = numbers_from same_pair (seen_in (pairs_of (take n values))) (pairs_of (drop n values))

ids_whole : (n : ℕ) (values : List ℕ) → ids_before n values ++ ids_after n values ≡ (group values).ids
ids_whole n values = ids_rest (pairs_of (take n values)) (pairs_of (drop n values)) (pairs_of values) (group values).ids (values_split n values) (group-ids values)

-- and the places of first rows
abbrev extents_before : ℕ → List ℕ → List ℕ
extents_before n values = new_places same_pair [] 0 (pairs_of (take n values))

abbrev extents_after : ℕ → List ℕ → List ℕ
extents_after n values = new_places same_pair (seen_in (pairs_of (take n values))) (0 + length (pairs_of (take n values))) (pairs_of (drop n values))

extents_whole : (n : ℕ) (values : List ℕ) → extents_before n values ++ extents_after n values ≡ (group values).extents
extents_whole n values = extents_rest (pairs_of (take n values)) (pairs_of (drop n values)) (pairs_of values) (group values).extents (values_split n values) (group-extents values)

-- with one block more
module _ (number : ℕ) (values block : List ℕ) (table : List (ℕ × ℕ)) (is : block ≡ block_at values number) (seen : table ≡ seen_in (pairs_of (take (number * block_values) values))) where
  ids_more : (piece : List ℕ) → piece ≡ numbers_from same_pair table (pairs_of block) → ids_before (number * block_values) values ++ piece ≡ ids_before ((number + 1) * block_values) values
  ids_more piece found =
      ids_next (pairs_of (take (number * block_values) values)) (pairs_of block) (pairs_of (take ((number + 1) * block_values) values)) table seen (values_next number values block is) piece found

  extents_more : (piece : List ℕ) → number * block_values ≤ length values → piece ≡ new_places same_pair table (number * block_values) (pairs_of block)
      → extents_before (number * block_values) values ++ piece ≡ extents_before ((number + 1) * block_values) values
  extents_more piece within found =
      extents_next (pairs_of (take (number * block_values) values)) (pairs_of block) (pairs_of (take ((number + 1) * block_values) values)) table seen (values_next number values block is)
      (number * block_values) piece (values_before (number * block_values) values within) found

pub returns-in_err-number_values-clause-ids_err : goal.returns-in_err-number_values-clause-ids_err
returns-in_err-number_values-clause-ids_err g c =
    let values = g.S.BlockSource.list c.args.values.now in
    let at = c.loop-number.number * block_values in
    on_err c.from_residual.result
    (front_taken (g.I.Emit.pushed c.loop-number.ids) (ids_before at values) (ids_after at values) (group values).ids c.loop-number.invariant.ids (ids_whole at values))

pub returns-in_err-number_values-clause-extents_err : goal.returns-in_err-number_values-clause-extents_err
returns-in_err-number_values-clause-extents_err g c =
    let values = g.S.BlockSource.list c.args.values.now in
    let at = c.loop-number.number * block_values in
    on_err c.from_residual.result
    (front_taken (g.E.Emit.pushed c.loop-number.extents) (extents_before at values) (extents_after at values) (group values).extents c.loop-number.invariant.extents (extents_whole at values))

pub returns-in_err-number_values-clause-steps : goal.returns-in_err-number_values-clause-steps
returns-in_err-number_values-clause-steps g c =
    let values = g.S.BlockSource.list c.args.values.now in
    let number = c.loop-number.number in
    let first : c.as_slice.result.now ≡ block_at values number = c.as_slice.ensures.values ∙ c.block.ensures.values ∙ ap (λ (l : List ℕ). block_at l number) c.loop-number.invariant.kept in
    omega (
      arith,
      c.loop-number.invariant.steps,
      c.block.ensures.steps,
      c.tick_by.ensures.next,
      ap length first,
      taken-block number values,
      length-take ((number + 1) * block_values) values,
      c.loop-number-test.true,
      c.div_ceil-number-end.ensures,
      c.count.ensures.count,
    )

pub extend-requires : goal.extend-requires
extend-requires g c =
    let values = g.S.BlockSource.list c.args.values.now in
    let number = c.loop-number.number in
    let at = number * block_values in
    let to = (number + 1) * block_values in
    let block = c.as_slice-in-loop-number.result.now in
    let piece = c.as_slice-in-loop-number-2.result.now in
    let is : block ≡ block_at values number = c.as_slice-in-loop-number.ensures.values ∙ c.block.ensures.values ∙ ap (λ (l : List ℕ). block_at l number) c.loop-number.invariant.kept in
    may_extend (g.I.Emit.pushed c.loop-number.ids) g.I.Emit.scope g.met.I.Emit.scope_law (g.I.Emit.frame c.loop-number.ids) (g.I.Emit.frame c.args.ids.now) c.loop-number.invariant.ids_frame
    (ids_before at values) piece (ids_before to values) (ids_after to values) (group values).ids c.loop-number.invariant.ids
    (ids_more number values block c.loop-number.table is c.loop-number.invariant.seen piece (c.as_slice-in-loop-number-2.ensures.values ∙ c.in_ok-number_values.ensures.ids))
    (ids_whole to values) (omega (arith, group-ids_few values, c.count.ensures.few)) c.requires.ids_scope

pub returns-in_err-extend-clause-ids_err : goal.returns-in_err-extend-clause-ids_err
returns-in_err-extend-clause-ids_err g c =
    let values = g.S.BlockSource.list c.args.values.now in
    let number = c.loop-number.number in
    let at = number * block_values in
    let to = (number + 1) * block_values in
    let block = c.as_slice-in-loop-number.result.now in
    let piece = c.as_slice-in-loop-number-2.result.now in
    let is : block ≡ block_at values number = c.as_slice-in-loop-number.ensures.values ∙ c.block.ensures.values ∙ ap (λ (l : List ℕ). block_at l number) c.loop-number.invariant.kept in
    let taken = c.in_err-extend.ensures.err in
    on_err c.from_residual-in_err-extend.result
    (piece_taken (g.I.Emit.pushed c.extend.new.self) taken.0 (ids_before at values) piece (ids_before to values) (ids_after to values) (group values).ids
    (taken.1 (ids_before at values) c.loop-number.invariant.ids)
    (ids_more number values block c.loop-number.table is c.loop-number.invariant.seen piece (c.as_slice-in-loop-number-2.ensures.values ∙ c.in_ok-number_values.ensures.ids))
    (ids_whole to values))

pub returns-in_err-extend-clause-extents_err : goal.returns-in_err-extend-clause-extents_err
returns-in_err-extend-clause-extents_err g c =
    let values = g.S.BlockSource.list c.args.values.now in
    let at = c.loop-number.number * block_values in
    on_err c.from_residual-in_err-extend.result
    (front_taken (g.E.Emit.pushed c.loop-number.extents) (extents_before at values) (extents_after at values) (group values).extents c.loop-number.invariant.extents (extents_whole at values))

pub returns-in_err-extend-clause-steps : goal.returns-in_err-extend-clause-steps
returns-in_err-extend-clause-steps g c =
    let values = g.S.BlockSource.list c.args.values.now in
    let number = c.loop-number.number in
    let first : c.as_slice.result.now ≡ block_at values number = c.as_slice.ensures.values ∙ c.block.ensures.values ∙ ap (λ (l : List ℕ). block_at l number) c.loop-number.invariant.kept in
    omega (
      arith,
      c.loop-number.invariant.steps,
      c.block.ensures.steps,
      c.tick_by.ensures.next,
      ap length first,
      taken-block number values,
      length-take ((number + 1) * block_values) values,
      c.loop-number-test.true,
      c.div_ceil-number-end.ensures,
      c.count.ensures.count,
    )

pub extend-requires-in-loop-number : goal.extend-requires-in-loop-number
extend-requires-in-loop-number g c =
    let values = g.S.BlockSource.list c.args.values.now in
    let number = c.loop-number.number in
    let at = number * block_values in
    let to = (number + 1) * block_values in
    let block = c.as_slice-in-loop-number.result.now in
    let piece = c.as_slice-in-loop-number-3.result.now in
    let within : at ≤ length values = omega (arith, c.loop-number-test.true, c.div_ceil-number-end.ensures, c.count.ensures.count) in
    let is : block ≡ block_at values number = c.as_slice-in-loop-number.ensures.values ∙ c.block.ensures.values ∙ ap (λ (l : List ℕ). block_at l number) c.loop-number.invariant.kept in
    may_extend (g.E.Emit.pushed c.loop-number.extents) g.E.Emit.scope g.met.E.Emit.scope_law (g.E.Emit.frame c.loop-number.extents) (g.E.Emit.frame c.args.extents.now)
    c.loop-number.invariant.extents_frame
    (extents_before at values) piece (extents_before to values) (extents_after to values) (group values).extents c.loop-number.invariant.extents
    (extents_more number values block c.loop-number.table is c.loop-number.invariant.seen piece within (c.as_slice-in-loop-number-3.ensures.values ∙ c.in_ok-number_values.ensures.extents))
    (extents_whole to values) (omega (arith, group-extents_few values, c.count.ensures.few)) c.requires.extents_scope

pub returns-in_err-extend-2-clause-ids_err : goal.returns-in_err-extend-2-clause-ids_err
returns-in_err-extend-2-clause-ids_err g c =
    let values = g.S.BlockSource.list c.args.values.now in
    let number = c.loop-number.number in
    let at = number * block_values in
    let to = (number + 1) * block_values in
    let block = c.as_slice-in-loop-number.result.now in
    let piece = c.as_slice-in-loop-number-2.result.now in
    let is : block ≡ block_at values number = c.as_slice-in-loop-number.ensures.values ∙ c.block.ensures.values ∙ ap (λ (l : List ℕ). block_at l number) c.loop-number.invariant.kept in
    let held : g.I.Emit.pushed c.extend.new.self (ids_before to values) =
    subst (g.I.Emit.pushed c.extend.new.self)
    (ids_more number values block c.loop-number.table is c.loop-number.invariant.seen piece (c.as_slice-in-loop-number-2.ensures.values ∙ c.in_ok-number_values.ensures.ids))
    (c.in_ok-extend.ensures.ok (ids_before at values) c.loop-number.invariant.ids) in
    on_err c.from_residual-in_err-extend-2.result
    (front_taken (g.I.Emit.pushed c.extend.new.self) (ids_before to values) (ids_after to values) (group values).ids held (ids_whole to values))

pub returns-in_err-extend-2-clause-extents_err : goal.returns-in_err-extend-2-clause-extents_err
returns-in_err-extend-2-clause-extents_err g c =
    let values = g.S.BlockSource.list c.args.values.now in
    let number = c.loop-number.number in
    let at = number * block_values in
    let to = (number + 1) * block_values in
    let block = c.as_slice-in-loop-number.result.now in
    let piece = c.as_slice-in-loop-number-3.result.now in
    let within : at ≤ length values = omega (arith, c.loop-number-test.true, c.div_ceil-number-end.ensures, c.count.ensures.count) in
    let is : block ≡ block_at values number = c.as_slice-in-loop-number.ensures.values ∙ c.block.ensures.values ∙ ap (λ (l : List ℕ). block_at l number) c.loop-number.invariant.kept in
    let taken = c.in_err-extend-2.ensures.err in
    on_err c.from_residual-in_err-extend-2.result
    (piece_taken (g.E.Emit.pushed c.extend-in-loop-number.new.self) taken.0 (extents_before at values) piece (extents_before to values) (extents_after to values) (group values).extents
    (taken.1 (extents_before at values) c.loop-number.invariant.extents)
    (extents_more number values block c.loop-number.table is c.loop-number.invariant.seen piece within (c.as_slice-in-loop-number-3.ensures.values ∙ c.in_ok-number_values.ensures.extents))
    (extents_whole to values))

pub returns-in_err-extend-2-clause-steps : goal.returns-in_err-extend-2-clause-steps
returns-in_err-extend-2-clause-steps g c =
    let values = g.S.BlockSource.list c.args.values.now in
    let number = c.loop-number.number in
    let first : c.as_slice.result.now ≡ block_at values number = c.as_slice.ensures.values ∙ c.block.ensures.values ∙ ap (λ (l : List ℕ). block_at l number) c.loop-number.invariant.kept in
    omega (
      arith,
      c.loop-number.invariant.steps,
      c.block.ensures.steps,
      c.tick_by.ensures.next,
      ap length first,
      taken-block number values,
      length-take ((number + 1) * block_values) values,
      c.loop-number-test.true,
      c.div_ceil-number-end.ensures,
      c.count.ensures.count,
    )

pub loop-number-preserved : goal.loop-number-preserved
loop-number-preserved g c =
    let values = g.S.BlockSource.list c.args.values.now in
    let number = c.loop-number.number in
    let at = number * block_values in
    let to = (number + 1) * block_values in
    let block = c.as_slice-in-loop-number.result.now in
    let within : at ≤ length values = omega (arith, c.loop-number-test.true, c.div_ceil-number-end.ensures, c.count.ensures.count) in
    let is : block ≡ block_at values number = c.as_slice-in-loop-number.ensures.values ∙ c.block.ensures.values ∙ ap (λ (l : List ℕ). block_at l number) c.loop-number.invariant.kept in
    let first : c.as_slice.result.now ≡ block_at values number = c.as_slice.ensures.values ∙ c.block.ensures.values ∙ ap (λ (l : List ℕ). block_at l number) c.loop-number.invariant.kept in
    let now = c.loop-number.invariant.seen in
    record {
      kept = c.block.ensures.list ∙ c.loop-number.invariant.kept;
      ids = subst (g.I.Emit.pushed c.extend.new.self)
          (ids_more number values block c.loop-number.table is now c.as_slice-in-loop-number-2.result.now (c.as_slice-in-loop-number-2.ensures.values ∙ c.in_ok-number_values.ensures.ids))
          (c.in_ok-extend.ensures.ok (ids_before at values) c.loop-number.invariant.ids);
      extents = subst (g.E.Emit.pushed c.extend-in-loop-number.new.self)
          (extents_more number values block c.loop-number.table is now c.as_slice-in-loop-number-3.result.now within (c.as_slice-in-loop-number-3.ensures.values ∙ c.in_ok-number_values.ensures.extents))
          (c.in_ok-extend-2.ensures.ok (extents_before at values) c.loop-number.invariant.extents);
      seen = seen_next (pairs_of (take at values)) (pairs_of block) (pairs_of (take to values)) c.loop-number.table now (values_next number values block is) c.number_values.new.table
          c.in_ok-number_values.ensures.pairs;
      ids_frame = c.in_ok-extend.ensures.frame ∙ c.loop-number.invariant.ids_frame;
      extents_frame = c.in_ok-extend-2.ensures.frame ∙ c.loop-number.invariant.extents_frame;
      later = omega (arith, c.loop-number.invariant.later, c.block.ensures.later, c.tick_by.ensures.later);
      steps = omega (arith, c.loop-number.invariant.steps, c.block.ensures.steps, c.tick_by.ensures.next, ap length first, taken-block number values);
    }

all_read : (number : ℕ) (values : List ℕ) → length values ≤ number * block_values → pairs_of (take (number * block_values) values) ≡ pairs_of values
all_read number values end = ap pairs_of (take_all (number * block_values) values end)

pub returns-clause-ids_ok : goal.returns-clause-ids_ok
returns-clause-ids_ok g c =
    let values = g.S.BlockSource.list c.args.values.now in
    let number = c.loop-number.number in
    let end : length values ≤ number * block_values = omega (arith, c.loop-number-test.false, c.div_ceil-number-end.ensures, c.count.ensures.count) in
    subst (g.I.Emit.pushed c.loop-number.ids) (ap (numbers_from same_pair []) (all_read number values end) ∙ group-ids values) c.loop-number.invariant.ids

pub returns-clause-extents_ok : goal.returns-clause-extents_ok
returns-clause-extents_ok g c =
    let values = g.S.BlockSource.list c.args.values.now in
    let number = c.loop-number.number in
    let end : length values ≤ number * block_values = omega (arith, c.loop-number-test.false, c.div_ceil-number-end.ensures, c.count.ensures.count) in
    subst (g.E.Emit.pushed c.loop-number.extents) (ap (new_places same_pair [] 0) (all_read number values end) ∙ group-extents values) c.loop-number.invariant.extents

pub returns-clause-table : goal.returns-clause-table
unfolding distinct
returns-clause-table g c =
    let values = g.S.BlockSource.list c.args.values.now in
    let number = c.loop-number.number in
    let end : length values ≤ number * block_values = omega (arith, c.loop-number-test.false, c.div_ceil-number-end.ensures, c.count.ensures.count) in
    c.loop-number.invariant.seen ∙ ap seen_in (all_read number values end)
