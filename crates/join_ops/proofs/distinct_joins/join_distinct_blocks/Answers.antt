use Rattle.std.proofs.Common.{◌≡◌, ◌∙◌, ◌+◌, ◌*◌, ◌≤◌, ◌++◌, [], List, ℕ, length, take, ap, sym, subst, arith}
use Rattle.std.proofs.lemmas.Bool.{false≢true}
use Rattle.std.proofs.lemmas.List.{append-nil}
use Rattle.definitions_blocks.specs.Blocks.{block_values, block_at}
use Rattle.definitions_blocks.specs.Columns.{max_rows}
use Rattle.scan_ops.proofs.EmitLaws.{IsPiece, piece_holds, piece_few, piece_prefix, on_err, steps-block, steps-all}
use Rattle.join_ops.specs.Joins.{lefts_from, rights_from}
use Rattle.join_ops.proofs.JoinLaws.{lefts_from-step, rights_from-step, lefts_from-front, rights_from-front, join-lengths}
use Rattle.join_ops.proofs.distinct_joins.join_distinct_blocks.Goals as goal

module _ (keys : List ℕ) (number : ℕ) (values block : List ℕ) (is : block ≡ block_at values number) where
  left_next : (piece : List ℕ) → number * block_values ≤ length values → piece ≡ lefts_from keys (number * block_values) block
      → lefts_from keys 0 (take (number * block_values) values) ++ piece ≡ lefts_from keys 0 (take ((number + 1) * block_values) values)
  left_next piece within found =
      ap (λ (l : List ℕ). lefts_from keys 0 (take (number * block_values) values) ++ l) (found ∙ ap (lefts_from keys (number * block_values)) is) ∙ lefts_from-step keys number values within

  right_next : (piece : List ℕ) → piece ≡ rights_from keys block → rights_from keys (take (number * block_values) values) ++ piece ≡ rights_from keys (take ((number + 1) * block_values) values)
  right_next piece found =
      ap (λ (l : List ℕ). rights_from keys (take (number * block_values) values) ++ l) (found ∙ ap (rights_from keys) is) ∙ rights_from-step keys number values

  left_piece : (piece : List ℕ) → number * block_values ≤ length values → piece ≡ lefts_from keys (number * block_values) block
      → IsPiece (lefts_from keys 0 (take (number * block_values) values)) piece (lefts_from keys 0 values)
  left_piece piece within found =
      let front = lefts_from-front keys 0 ((number + 1) * block_values) values [] in
      record { rest = front.rest; joins = sym (ap (λ (l : List ℕ). l ++ front.rest) (left_next piece within found) ∙ front.joins) }

  right_piece : (piece : List ℕ) → piece ≡ rights_from keys block → IsPiece (rights_from keys (take (number * block_values) values)) piece (rights_from keys values)
  right_piece piece found =
      let front = rights_from-front keys ((number + 1) * block_values) values [] in
      record { rest = front.rest; joins = sym (ap (λ (l : List ℕ). l ++ front.rest) (right_next piece found) ∙ front.joins) }

-- what an emitter has after some blocks is a prefix of the whole
left_taken : (pushed : List ℕ → Type 0) (keys : List ℕ) (n : ℕ) (values : List ℕ) → pushed (lefts_from keys 0 (take n values)) → (m : ℕ) × pushed (take m (lefts_from keys 0 values))
left_taken pushed keys n values held =
    let front = lefts_from-front keys 0 n values [] in
    let all : IsPiece (lefts_from keys 0 (take n values)) [] (lefts_from keys 0 values) = record { rest = front.rest; joins = sym (ap (λ (l : List ℕ). l ++ front.rest) (append-nil (lefts_from keys 0 (take n values))) ∙ front.joins) } in
    piece_prefix pushed 0 (lefts_from keys 0 (take n values)) [] (lefts_from keys 0 values) all (subst pushed (sym (append-nil (lefts_from keys 0 (take n values)))) held)

right_taken : (pushed : List ℕ → Type 0) (keys : List ℕ) (n : ℕ) (values : List ℕ) → pushed (rights_from keys (take n values)) → (m : ℕ) × pushed (take m (rights_from keys values))
right_taken pushed keys n values held =
    let front = rights_from-front keys n values [] in
    let all : IsPiece (rights_from keys (take n values)) [] (rights_from keys values) = record { rest = front.rest; joins = sym (ap (λ (l : List ℕ). l ++ front.rest) (append-nil (rights_from keys (take n values))) ∙ front.joins) } in
    piece_prefix pushed 0 (rights_from keys (take n values)) [] (rights_from keys values) all (subst pushed (sym (append-nil (rights_from keys (take n values)))) held)

pub extend-requires : goal.extend-requires
extend-requires g c =
    let keys = g.T.FirstLinks.keys c.args.table.now in
    let values = g.S.BlockSource.list c.args.probe.now in
    let number = c.loop-number.number in
    let block = c.as_slice-in-loop-number.result.now in
    let within : number * block_values ≤ length values = omega (arith, c.loop-number-test.true, c.div_ceil-number-end.ensures, c.count-count.ensures.count) in
    let is : block ≡ block_at values number = c.as_slice-in-loop-number.ensures.values ∙ c.block.ensures.values ∙ ap (λ (l : List ℕ). block_at l number) c.loop-number.invariant.kept in
    let before = lefts_from keys 0 (take (number * block_values) values) in
    let piece = take c.pair_block-kept.result c.pair_block-kept.new.lefts in
    let is_piece : IsPiece before piece (lefts_from keys 0 values) = left_piece keys number values block is piece within c.pair_block-kept.ensures.lefts in
    let few : length (lefts_from keys 0 values) ≤ max_rows = omega (arith, join-lengths keys 0 values, c.requires.few) in (
      before,
      c.loop-number.invariant.to_left,
      piece_few before piece (lefts_from keys 0 values) is_piece few,
      piece_holds g.A.Emit.scope g.met.A.Emit.scope_law (g.A.Emit.frame c.loop-number.left) (g.A.Emit.frame c.args.left.now) c.loop-number.invariant.left_frame before piece (lefts_from keys 0 values) is_piece c.requires.left_scope,
    )

pub returns-in_err-extend-clause-left_err : goal.returns-in_err-extend-clause-left_err
returns-in_err-extend-clause-left_err g c =
    let keys = g.T.FirstLinks.keys c.args.table.now in
    let values = g.S.BlockSource.list c.args.probe.now in
    let number = c.loop-number.number in
    let block = c.as_slice-in-loop-number.result.now in
    let within : number * block_values ≤ length values = omega (arith, c.loop-number-test.true, c.div_ceil-number-end.ensures, c.count-count.ensures.count) in
    let is : block ≡ block_at values number = c.as_slice-in-loop-number.ensures.values ∙ c.block.ensures.values ∙ ap (λ (l : List ℕ). block_at l number) c.loop-number.invariant.kept in
    let before = lefts_from keys 0 (take (number * block_values) values) in
    let piece = take c.pair_block-kept.result c.pair_block-kept.new.lefts in
    let is_piece : IsPiece before piece (lefts_from keys 0 values) = left_piece keys number values block is piece within c.pair_block-kept.ensures.lefts in
    let taken = c.in_err-extend.ensures.err in
    on_err c.from_residual.result (piece_prefix (g.A.Emit.pushed c.extend.new.self) taken.0 before piece (lefts_from keys 0 values) is_piece (taken.1 before c.loop-number.invariant.to_left))

pub returns-in_err-extend-clause-right_err : goal.returns-in_err-extend-clause-right_err
returns-in_err-extend-clause-right_err g c =
    on_err c.from_residual.result
    (right_taken (g.B.Emit.pushed c.loop-number.right) (g.T.FirstLinks.keys c.args.table.now) (c.loop-number.number * block_values) (g.S.BlockSource.list c.args.probe.now) c.loop-number.invariant.to_right)

pub returns-in_err-extend-clause-sure : goal.returns-in_err-extend-clause-sure
returns-in_err-extend-clause-sure g c =
    let keys = g.T.FirstLinks.keys c.args.table.now in
    let values = g.S.BlockSource.list c.args.probe.now in
    let number = c.loop-number.number in
    let block = c.as_slice-in-loop-number.result.now in
    let within : number * block_values ≤ length values = omega (arith, c.loop-number-test.true, c.div_ceil-number-end.ensures, c.count-count.ensures.count) in
    let is : block ≡ block_at values number = c.as_slice-in-loop-number.ensures.values ∙ c.block.ensures.values ∙ ap (λ (l : List ℕ). block_at l number) c.loop-number.invariant.kept in
    let before = lefts_from keys 0 (take (number * block_values) values) in
    let piece = take c.pair_block-kept.result c.pair_block-kept.new.lefts in
    let is_piece : IsPiece before piece (lefts_from keys 0 values) = left_piece keys number values block is piece within c.pair_block-kept.ensures.lefts in
    λ roomy_left roomy_right. absurd (false≢true (c.in_err-extend.ensures.sure before c.loop-number.invariant.to_left
    (piece_holds g.A.Emit.room g.met.A.Emit.room_law (g.A.Emit.frame c.loop-number.left) (g.A.Emit.frame c.args.left.now) c.loop-number.invariant.left_frame before piece (lefts_from keys 0 values) is_piece roomy_left)))

pub returns-in_err-extend-clause-steps : goal.returns-in_err-extend-clause-steps
returns-in_err-extend-clause-steps g c =
    let values = g.S.BlockSource.list c.args.probe.now in
    let number = c.loop-number.number in
    let is : c.as_slice.result.now ≡ block_at values number = c.as_slice.ensures.values ∙ c.block.ensures.values ∙ ap (λ (l : List ℕ). block_at l number) c.loop-number.invariant.kept in
    let after : c.tick_by.new.self ≤ c.loop-number.steps + 1 + 1 * length (block_at values number) = omega (arith, c.tick_by.ensures.next, c.block.ensures.steps, ap length is) in
    steps-all 1 (number + 1) c.args.steps.now c.tick_by.new.self values (omega (arith, c.loop-number-test.true, c.div_ceil-number-end.ensures, c.count-count.ensures.count))
    (steps-block 1 number c.args.steps.now c.loop-number.steps c.tick_by.new.self values c.loop-number.invariant.steps after)

pub extend-requires-in-loop-number : goal.extend-requires-in-loop-number
extend-requires-in-loop-number g c =
    let keys = g.T.FirstLinks.keys c.args.table.now in
    let values = g.S.BlockSource.list c.args.probe.now in
    let number = c.loop-number.number in
    let block = c.as_slice-in-loop-number.result.now in
    let is : block ≡ block_at values number = c.as_slice-in-loop-number.ensures.values ∙ c.block.ensures.values ∙ ap (λ (l : List ℕ). block_at l number) c.loop-number.invariant.kept in
    let before = rights_from keys (take (number * block_values) values) in
    let piece = take c.pair_block-kept.result c.pair_block-kept.new.rights in
    let is_piece : IsPiece before piece (rights_from keys values) = right_piece keys number values block is piece c.pair_block-kept.ensures.rights in (
      before,
      c.loop-number.invariant.to_right,
      piece_few before piece (rights_from keys values) is_piece c.requires.few,
      piece_holds g.B.Emit.scope g.met.B.Emit.scope_law (g.B.Emit.frame c.loop-number.right) (g.B.Emit.frame c.args.right.now) c.loop-number.invariant.right_frame before piece (rights_from keys values) is_piece c.requires.right_scope,
    )

pub returns-in_err-extend-2-clause-left_err : goal.returns-in_err-extend-2-clause-left_err
returns-in_err-extend-2-clause-left_err g c =
    let keys = g.T.FirstLinks.keys c.args.table.now in
    let values = g.S.BlockSource.list c.args.probe.now in
    let number = c.loop-number.number in
    let block = c.as_slice-in-loop-number.result.now in
    let within : number * block_values ≤ length values = omega (arith, c.loop-number-test.true, c.div_ceil-number-end.ensures, c.count-count.ensures.count) in
    let is : block ≡ block_at values number = c.as_slice-in-loop-number.ensures.values ∙ c.block.ensures.values ∙ ap (λ (l : List ℕ). block_at l number) c.loop-number.invariant.kept in
    let held : g.A.Emit.pushed c.extend.new.self (lefts_from keys 0 (take ((number + 1) * block_values) values)) =
    subst (g.A.Emit.pushed c.extend.new.self) (left_next keys number values block is (take c.pair_block-kept.result c.pair_block-kept.new.lefts) within c.pair_block-kept.ensures.lefts)
    (c.in_ok-extend.ensures.ok (lefts_from keys 0 (take (number * block_values) values)) c.loop-number.invariant.to_left) in
    on_err c.from_residual-in_err-extend-2.result (left_taken (g.A.Emit.pushed c.extend.new.self) keys ((number + 1) * block_values) values held)

pub returns-in_err-extend-2-clause-right_err : goal.returns-in_err-extend-2-clause-right_err
returns-in_err-extend-2-clause-right_err g c =
    let keys = g.T.FirstLinks.keys c.args.table.now in
    let values = g.S.BlockSource.list c.args.probe.now in
    let number = c.loop-number.number in
    let block = c.as_slice-in-loop-number.result.now in
    let is : block ≡ block_at values number = c.as_slice-in-loop-number.ensures.values ∙ c.block.ensures.values ∙ ap (λ (l : List ℕ). block_at l number) c.loop-number.invariant.kept in
    let before = rights_from keys (take (number * block_values) values) in
    let piece = take c.pair_block-kept.result c.pair_block-kept.new.rights in
    let is_piece : IsPiece before piece (rights_from keys values) = right_piece keys number values block is piece c.pair_block-kept.ensures.rights in
    let taken = c.in_err-extend-2.ensures.err in
    on_err c.from_residual-in_err-extend-2.result
    (piece_prefix (g.B.Emit.pushed c.extend-in-loop-number.new.self) taken.0 before piece (rights_from keys values) is_piece (taken.1 before c.loop-number.invariant.to_right))

pub returns-in_err-extend-2-clause-sure : goal.returns-in_err-extend-2-clause-sure
returns-in_err-extend-2-clause-sure g c =
    let keys = g.T.FirstLinks.keys c.args.table.now in
    let values = g.S.BlockSource.list c.args.probe.now in
    let number = c.loop-number.number in
    let block = c.as_slice-in-loop-number.result.now in
    let is : block ≡ block_at values number = c.as_slice-in-loop-number.ensures.values ∙ c.block.ensures.values ∙ ap (λ (l : List ℕ). block_at l number) c.loop-number.invariant.kept in
    let before = rights_from keys (take (number * block_values) values) in
    let piece = take c.pair_block-kept.result c.pair_block-kept.new.rights in
    let is_piece : IsPiece before piece (rights_from keys values) = right_piece keys number values block is piece c.pair_block-kept.ensures.rights in
    λ roomy_left roomy_right. absurd (false≢true (c.in_err-extend-2.ensures.sure before c.loop-number.invariant.to_right
    (piece_holds g.B.Emit.room g.met.B.Emit.room_law (g.B.Emit.frame c.loop-number.right) (g.B.Emit.frame c.args.right.now) c.loop-number.invariant.right_frame before piece (rights_from keys values) is_piece roomy_right)))

pub returns-in_err-extend-2-clause-steps : goal.returns-in_err-extend-2-clause-steps
returns-in_err-extend-2-clause-steps g c =
    let values = g.S.BlockSource.list c.args.probe.now in
    let number = c.loop-number.number in
    let is : c.as_slice.result.now ≡ block_at values number = c.as_slice.ensures.values ∙ c.block.ensures.values ∙ ap (λ (l : List ℕ). block_at l number) c.loop-number.invariant.kept in
    let after : c.tick_by.new.self ≤ c.loop-number.steps + 1 + 1 * length (block_at values number) = omega (arith, c.tick_by.ensures.next, c.block.ensures.steps, ap length is) in
    steps-all 1 (number + 1) c.args.steps.now c.tick_by.new.self values (omega (arith, c.loop-number-test.true, c.div_ceil-number-end.ensures, c.count-count.ensures.count))
    (steps-block 1 number c.args.steps.now c.loop-number.steps c.tick_by.new.self values c.loop-number.invariant.steps after)

pub loop-number-preserved : goal.loop-number-preserved
loop-number-preserved g c =
    let keys = g.T.FirstLinks.keys c.args.table.now in
    let values = g.S.BlockSource.list c.args.probe.now in
    let number = c.loop-number.number in
    let block = c.as_slice-in-loop-number.result.now in
    let within : number * block_values ≤ length values = omega (arith, c.loop-number-test.true, c.div_ceil-number-end.ensures, c.count-count.ensures.count) in
    let is : block ≡ block_at values number = c.as_slice-in-loop-number.ensures.values ∙ c.block.ensures.values ∙ ap (λ (l : List ℕ). block_at l number) c.loop-number.invariant.kept in
    let first : c.as_slice.result.now ≡ block_at values number = c.as_slice.ensures.values ∙ c.block.ensures.values ∙ ap (λ (l : List ℕ). block_at l number) c.loop-number.invariant.kept in
    let after : c.tick_by.new.self ≤ c.loop-number.steps + 1 + 1 * length (block_at values number) = omega (arith, c.tick_by.ensures.next, c.block.ensures.steps, ap length first) in
    record {
      kept = c.block.ensures.list ∙ c.loop-number.invariant.kept;
      to_left = subst (g.A.Emit.pushed c.extend.new.self) (left_next keys number values block is (take c.pair_block-kept.result c.pair_block-kept.new.lefts) within c.pair_block-kept.ensures.lefts)
          (c.in_ok-extend.ensures.ok (lefts_from keys 0 (take (number * block_values) values)) c.loop-number.invariant.to_left);
      to_right = subst (g.B.Emit.pushed c.extend-in-loop-number.new.self) (right_next keys number values block is (take c.pair_block-kept.result c.pair_block-kept.new.rights) c.pair_block-kept.ensures.rights)
          (c.in_ok-extend-2.ensures.ok (rights_from keys (take (number * block_values) values)) c.loop-number.invariant.to_right);
      left_frame = c.in_ok-extend.ensures.frame ∙ c.loop-number.invariant.left_frame;
      right_frame = c.in_ok-extend-2.ensures.frame ∙ c.loop-number.invariant.right_frame;
      later = omega (arith, c.loop-number.invariant.later, c.block.ensures.later, c.tick_by.ensures.later);
      steps = steps-block 1 number c.args.steps.now c.loop-number.steps c.tick_by.new.self values c.loop-number.invariant.steps after;
    }
