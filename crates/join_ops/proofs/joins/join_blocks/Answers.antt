use Rattle.std.proofs.Common.{◌≡◌, ◌∙◌, ◌+◌, ◌*◌, ◌≤◌, ◌++◌, [], true, false, List, ℕ, length, take, ap, sym, subst, arith}
use Rattle.definitions_blocks.specs.Blocks.{block_values, block_at}
use Rattle.definitions_blocks.specs.Columns.{max_rows}
use Rattle.scan_ops.specs.Batches.{HoldsWith}
use Rattle.scan_ops.proofs.EmitLaws.{on_err}
use Rattle.join_ops.specs.Joins.{lefts_from, rights_from, IsFrontOf}
use Rattle.scan_ops.proofs.EmitLaws.{steps-block, steps-all}
use Rattle.join_ops.proofs.HandingLaws.{may_take, front_kept, test_front}
use Rattle.join_ops.proofs.JoinLaws.{lefts_from-step, rights_from-step, lefts_from-front, rights_from-front, join-lengths}
use Rattle.join_ops.proofs.joins.join_blocks.Goals as goal

left_next : (keys : List ℕ) (number : ℕ) (values block : List ℕ) → number * block_values ≤ length values → block ≡ block_at values number
    → lefts_from keys 0 (take (number * block_values) values) ++ lefts_from keys (number * block_values) block ≡ lefts_from keys 0 (take ((number + 1) * block_values) values)
left_next keys number values block within is = ap (λ l. lefts_from keys 0 (take (number * block_values) values) ++ lefts_from keys (number * block_values) l) is ∙ lefts_from-step keys number values within

right_next : (keys : List ℕ) (number : ℕ) (values block : List ℕ) → block ≡ block_at values number
    → rights_from keys (take (number * block_values) values) ++ rights_from keys block ≡ rights_from keys (take ((number + 1) * block_values) values)
right_next keys number values block is = ap (λ l. rights_from keys (take (number * block_values) values) ++ rights_from keys l) is ∙ rights_from-step keys number values

left_front : (keys : List ℕ) (number : ℕ) (values before : List ℕ) → before ≡ lefts_from keys 0 (take ((number + 1) * block_values) values) → IsFrontOf before (lefts_from keys 0 values)
left_front keys number values before is = subst (λ l. IsFrontOf l (lefts_from keys 0 values)) (sym is) (lefts_from-front keys 0 ((number + 1) * block_values) values [])

right_front : (keys : List ℕ) (number : ℕ) (values before : List ℕ) → before ≡ rights_from keys (take ((number + 1) * block_values) values) → IsFrontOf before (rights_from keys values)
right_front keys number values before is = subst (λ l. IsFrontOf l (rights_from keys values)) (sym is) (rights_from-front keys ((number + 1) * block_values) values [])

pub join_block-requires-clause-left : goal.join_block-requires-clause-left
join_block-requires-clause-left g c =
    let keys = c.args.keys.now in
    let values = g.S.BlockSource.list c.args.probe.now in
    let number = c.loop-number.number in
    let within : number * block_values ≤ length values = omega (arith, c.loop-number-test.true, c.div_ceil-number-end.ensures, c.count-count.ensures.count) in
    let is : c.as_slice-in-loop-number.result.now ≡ block_at values number = c.as_slice-in-loop-number.ensures.values ∙ c.block.ensures.values ∙ ap (λ (l : List ℕ). block_at l number) c.loop-number.invariant.kept in
    let before = lefts_from keys 0 (take (number * block_values) values) in
    let piece = lefts_from keys (number * block_values) c.as_slice-in-loop-number.result.now in
    let few : length (lefts_from keys 0 values) ≤ max_rows = omega (arith, join-lengths keys 0 values, c.requires.few) in
    may_take (HoldsWith (g.A.Emit.pushed c.loop-number.left) c.loop-number.lefts) (g.A.Emit.scope (g.A.Emit.frame c.loop-number.left)) before piece (lefts_from keys 0 values) (g.met.A.Emit.scope_law (g.A.Emit.frame c.loop-number.left))
    c.loop-number.invariant.to_left (left_front keys number values (before ++ piece) (left_next keys number values c.as_slice-in-loop-number.result.now within is)) few
    (subst (λ s. g.A.Emit.scope s (lefts_from keys 0 values) ≡ true) (sym c.loop-number.invariant.left_frame) c.requires.left_scope)

pub join_block-requires-clause-right : goal.join_block-requires-clause-right
join_block-requires-clause-right g c =
    let keys = c.args.keys.now in
    let values = g.S.BlockSource.list c.args.probe.now in
    let number = c.loop-number.number in
    let is : c.as_slice-in-loop-number.result.now ≡ block_at values number = c.as_slice-in-loop-number.ensures.values ∙ c.block.ensures.values ∙ ap (λ (l : List ℕ). block_at l number) c.loop-number.invariant.kept in
    let before = rights_from keys (take (number * block_values) values) in
    let piece = rights_from keys c.as_slice-in-loop-number.result.now in
    may_take (HoldsWith (g.B.Emit.pushed c.loop-number.right) c.loop-number.rights) (g.B.Emit.scope (g.B.Emit.frame c.loop-number.right)) before piece (rights_from keys values) (g.met.B.Emit.scope_law (g.B.Emit.frame c.loop-number.right))
    c.loop-number.invariant.to_right (right_front keys number values (before ++ piece) (right_next keys number values c.as_slice-in-loop-number.result.now is)) c.requires.few
    (subst (λ s. g.B.Emit.scope s (rights_from keys values) ≡ true) (sym c.loop-number.invariant.right_frame) c.requires.right_scope)

pub returns-in_err-join_block-clause-left_err : goal.returns-in_err-join_block-clause-left_err
returns-in_err-join_block-clause-left_err g c =
    let keys = c.args.keys.now in
    let values = g.S.BlockSource.list c.args.probe.now in
    let number = c.loop-number.number in
    let within : number * block_values ≤ length values = omega (arith, c.loop-number-test.true, c.div_ceil-number-end.ensures, c.count-count.ensures.count) in
    let is : c.as_slice-in-loop-number.result.now ≡ block_at values number = c.as_slice-in-loop-number.ensures.values ∙ c.block.ensures.values ∙ ap (λ (l : List ℕ). block_at l number) c.loop-number.invariant.kept in
    let before = lefts_from keys 0 (take (number * block_values) values) in
    let piece = lefts_from keys (number * block_values) c.as_slice-in-loop-number.result.now in
    on_err c.from_residual.result (front_kept (g.A.Emit.pushed c.join_block.new.left) (before ++ piece) (lefts_from keys 0 values)
    (c.in_err-join_block.ensures.left_err before c.loop-number.invariant.to_left) (left_front keys number values (before ++ piece) (left_next keys number values c.as_slice-in-loop-number.result.now within is)))

pub returns-in_err-join_block-clause-right_err : goal.returns-in_err-join_block-clause-right_err
returns-in_err-join_block-clause-right_err g c =
    let keys = c.args.keys.now in
    let values = g.S.BlockSource.list c.args.probe.now in
    let number = c.loop-number.number in
    let is : c.as_slice-in-loop-number.result.now ≡ block_at values number = c.as_slice-in-loop-number.ensures.values ∙ c.block.ensures.values ∙ ap (λ (l : List ℕ). block_at l number) c.loop-number.invariant.kept in
    let before = rights_from keys (take (number * block_values) values) in
    let piece = rights_from keys c.as_slice-in-loop-number.result.now in
    on_err c.from_residual.result (front_kept (g.B.Emit.pushed c.join_block.new.right) (before ++ piece) (rights_from keys values)
    (c.in_err-join_block.ensures.right_err before c.loop-number.invariant.to_right) (right_front keys number values (before ++ piece) (right_next keys number values c.as_slice-in-loop-number.result.now is)))

pub returns-in_err-join_block-clause-steps : goal.returns-in_err-join_block-clause-steps
returns-in_err-join_block-clause-steps g c =
    let values = g.S.BlockSource.list c.args.probe.now in
    let number = c.loop-number.number in
    let is : c.as_slice.result.now ≡ block_at values number = c.as_slice.ensures.values ∙ c.block.ensures.values ∙ ap (λ (l : List ℕ). block_at l number) c.loop-number.invariant.kept in
    let after : c.tick_by.new.self ≤ c.loop-number.steps + 1 + 1 * length (block_at values number) = omega (arith, c.tick_by.ensures.next, c.block.ensures.steps, ap length is) in
    steps-all 1 (number + 1) c.args.steps.now c.tick_by.new.self values (omega (arith, c.loop-number-test.true, c.div_ceil-number-end.ensures, c.count-count.ensures.count))
    (steps-block 1 number c.args.steps.now c.loop-number.steps c.tick_by.new.self values c.loop-number.invariant.steps after)

pub loop-number-preserved : goal.loop-number-preserved
loop-number-preserved g c =
    let keys = c.args.keys.now in
    let values = g.S.BlockSource.list c.args.probe.now in
    let number = c.loop-number.number in
    let within : number * block_values ≤ length values = omega (arith, c.loop-number-test.true, c.div_ceil-number-end.ensures, c.count-count.ensures.count) in
    let is : c.as_slice-in-loop-number.result.now ≡ block_at values number = c.as_slice-in-loop-number.ensures.values ∙ c.block.ensures.values ∙ ap (λ (l : List ℕ). block_at l number) c.loop-number.invariant.kept in
    let first : c.as_slice.result.now ≡ block_at values number = c.as_slice.ensures.values ∙ c.block.ensures.values ∙ ap (λ (l : List ℕ). block_at l number) c.loop-number.invariant.kept in
    let after : c.tick_by.new.self ≤ c.loop-number.steps + 1 + 1 * length (block_at values number) = omega (arith, c.tick_by.ensures.next, c.block.ensures.steps, ap length first) in
    record {
      kept = c.block.ensures.list ∙ c.loop-number.invariant.kept;
      to_left = subst (HoldsWith (g.A.Emit.pushed c.join_block.new.left) c.join_block.new.lefts) (left_next keys number values c.as_slice-in-loop-number.result.now within is)
          (c.in_ok-join_block.ensures.left_ok (lefts_from keys 0 (take (number * block_values) values)) c.loop-number.invariant.to_left);
      to_right = subst (HoldsWith (g.B.Emit.pushed c.join_block.new.right) c.join_block.new.rights) (right_next keys number values c.as_slice-in-loop-number.result.now is)
          (c.in_ok-join_block.ensures.right_ok (rights_from keys (take (number * block_values) values)) c.loop-number.invariant.to_right);
      left_frame = c.in_ok-join_block.ensures.left_frame ∙ c.loop-number.invariant.left_frame;
      right_frame = c.in_ok-join_block.ensures.right_frame ∙ c.loop-number.invariant.right_frame;
      later = omega (arith, c.loop-number.invariant.later, c.block.ensures.later, c.tick_by.ensures.later);
      steps = steps-block 1 number c.args.steps.now c.loop-number.steps c.tick_by.new.self values c.loop-number.invariant.steps after;
    }

pub returns-in_err-join_block-clause-sure : goal.returns-in_err-join_block-clause-sure
returns-in_err-join_block-clause-sure g c =
    let keys = c.args.keys.now in
    let values = g.S.BlockSource.list c.args.probe.now in
    let number = c.loop-number.number in
    let within : number * block_values ≤ length values = omega (arith, c.loop-number-test.true, c.div_ceil-number-end.ensures, c.count-count.ensures.count) in
    let is : c.as_slice-in-loop-number.result.now ≡ block_at values number = c.as_slice-in-loop-number.ensures.values ∙ c.block.ensures.values ∙ ap (λ (l : List ℕ). block_at l number) c.loop-number.invariant.kept in
    let a = g.A.Emit.frame c.loop-number.left in
    let b = g.B.Emit.frame c.loop-number.right in
    let lefts = lefts_from keys 0 (take (number * block_values) values) in
    let rights = rights_from keys (take (number * block_values) values) in
    let left = lefts_from keys (number * block_values) c.as_slice-in-loop-number.result.now in
    let right = rights_from keys c.as_slice-in-loop-number.result.now in
    λ roomy_left roomy_right. let no : false ≡ true = c.in_err-join_block.ensures.sure lefts rights c.loop-number.invariant.to_left c.loop-number.invariant.to_right
    (test_front (g.A.Emit.room a) (lefts ++ left) (lefts_from keys 0 values) (g.met.A.Emit.room_law a) (left_front keys number values (lefts ++ left) (left_next keys number values c.as_slice-in-loop-number.result.now within is))
    (subst (λ s. g.A.Emit.room s (lefts_from keys 0 values) ≡ true) (sym c.loop-number.invariant.left_frame) roomy_left))
    (test_front (g.B.Emit.room b) (rights ++ right) (rights_from keys values) (g.met.B.Emit.room_law b) (right_front keys number values (rights ++ right) (right_next keys number values c.as_slice-in-loop-number.result.now is))
    (subst (λ s. g.B.Emit.room s (rights_from keys values) ≡ true) (sym c.loop-number.invariant.right_frame) roomy_right)) in cc
