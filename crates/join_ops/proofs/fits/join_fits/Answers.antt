use Rattle.std.proofs.Common.{◌≡◌, ◌∙◌, ℕ, List, ◌+◌, ◌*◌, ◌<◌, ◌≤◌, length, take, drop, ap, sym, arith, length-append}
use Rattle.std.proofs.lemmas.List.{take-append-drop, take_all}
use Rattle.std.proofs.lemmas.Bool.{le-leb}
use Rattle.std.proofs.lemmas.Bool.Decides.{leb_tells}
use Rattle.definitions_blocks.specs.Blocks.{block_values, block_at}
use Rattle.definitions_blocks.specs.Columns.{max_rows}
use Rattle.definitions_operators.specs.Operators.{join}
use Rattle.scan_ops.proofs.EmitLaws.{steps-block, steps-all}
use Rattle.join_ops.specs.Joins.{rights_from}
use Rattle.join_ops.proofs.JoinLaws.{rights_from-step, rights_from-append}
use Rattle.join_ops.proofs.MeaningLaws.{pairs-count}
use Rattle.join_ops.proofs.fits.join_fits.Goals as goal

-- the pairs of the blocks so far and of one block more
more : (keys values block : List ℕ) (number : ℕ) → block ≡ block_at values number
    → length (rights_from keys (take ((number + 1) * block_values) values)) ≡ length (rights_from keys (take (number * block_values) values)) + length (rights_from keys block)
more keys values block number is =
    ap length (sym (rights_from-step keys number values)) ∙ length-append (rights_from keys (take (number * block_values) values)) (rights_from keys (block_at values number))
    ∙ ap (λ (b : List ℕ). length (rights_from keys (take (number * block_values) values)) + length (rights_from keys b)) (sym is)

-- those of all blocks are at least those of some
all_are : (keys values : List ℕ) (n : ℕ) → length (rights_from keys values) ≡ length (rights_from keys (take n values)) + length (rights_from keys (drop n values))
all_are keys values n =
    ap (λ (l : List ℕ). length (rights_from keys l)) (sym (take-append-drop n values)) ∙ ap length (rights_from-append keys (take n values) (drop n values))
    ∙ length-append (rights_from keys (take n values)) (rights_from keys (drop n values))

pub returns-in-None-clause-fits : goal.returns-in-None-clause-fits
returns-in-None-clause-fits g c =
    let keys = c.args.keys.now in
    let values = g.S.BlockSource.list c.args.probe.now in
    let number = c.loop-number.number in
    let block = c.as_slice-in-loop-number.result.now in
    let is : block ≡ block_at values number = c.as_slice-in-loop-number.ensures.values ∙ c.block.ensures.values ∙ ap (λ (l : List ℕ). block_at l number) c.loop-number.invariant.kept in
    let many : max_rows < length (join values keys) = omega (arith, pairs-count values keys, all_are keys values ((number + 1) * block_values), more keys values block number is, c.loop-number.invariant.count, c.in-None.ensures) in
    grind (arith, leb_tells (length (join values keys)) max_rows, many)

pub returns-in-None-clause-steps : goal.returns-in-None-clause-steps
returns-in-None-clause-steps g c =
    let values = g.S.BlockSource.list c.args.probe.now in
    let number = c.loop-number.number in
    let is : c.as_slice.result.now ≡ block_at values number = c.as_slice.ensures.values ∙ c.block.ensures.values ∙ ap (λ (l : List ℕ). block_at l number) c.loop-number.invariant.kept in
    let after : c.tick_by.new.self ≤ c.loop-number.steps + 1 + 1 * length (block_at values number) = omega (arith, c.tick_by.ensures.next, c.block.ensures.steps, ap length is) in
    steps-all 1 (number + 1) c.args.steps.now c.tick_by.new.self values (omega (arith, c.loop-number-test.true, c.div_ceil-number-end.ensures, c.count-count.ensures.count))
    (steps-block 1 number c.args.steps.now c.loop-number.steps c.tick_by.new.self values c.loop-number.invariant.steps after)

pub loop-number-preserved : goal.loop-number-preserved
loop-number-preserved g c =
    let keys = c.args.keys.now in
    let values = g.S.BlockSource.list c.args.probe.now in
    let number = c.loop-number.number in
    let block = c.as_slice-in-loop-number.result.now in
    let is : block ≡ block_at values number = c.as_slice-in-loop-number.ensures.values ∙ c.block.ensures.values ∙ ap (λ (l : List ℕ). block_at l number) c.loop-number.invariant.kept in
    let first : c.as_slice.result.now ≡ block_at values number = c.as_slice.ensures.values ∙ c.block.ensures.values ∙ ap (λ (l : List ℕ). block_at l number) c.loop-number.invariant.kept in
    let after : c.tick_by.new.self ≤ c.loop-number.steps + 1 + 1 * length (block_at values number) = omega (arith, c.tick_by.ensures.next, c.block.ensures.steps, ap length first) in
    record {
      count = omega (arith, more keys values block number is, c.loop-number.invariant.count, c.in-Some.ensures);
      kept = c.block.ensures.list ∙ c.loop-number.invariant.kept;
      later = omega (arith, c.loop-number.invariant.later, c.block.ensures.later, c.tick_by.ensures.later);
      steps = steps-block 1 number c.args.steps.now c.loop-number.steps c.tick_by.new.self values c.loop-number.invariant.steps after;
    }

pub returns-clause-fits : goal.returns-clause-fits
returns-clause-fits g c =
    let keys = c.args.keys.now in
    let values = g.S.BlockSource.list c.args.probe.now in
    let whole : take (c.loop-number.number * block_values) values ≡ values =
    take_all (c.loop-number.number * block_values) values (omega (arith, c.loop-number-test.false, c.div_ceil-number-end.ensures, c.count-count.ensures.count)) in
    let few : length (join values keys) ≤ max_rows =
    omega (arith, pairs-count values keys, ap (λ (l : List ℕ). length (rights_from keys l)) whole, c.loop-number.invariant.count) in
    sym (le-leb (length (join values keys)) max_rows few)
