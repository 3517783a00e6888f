use Rattle.std.proofs.Common.{◌≡◌, ℕ, ◌+◌, ◌*◌, ◌<◌, ◌≤◌, List, ◌++◌, All, take, length, sym, ap, ◌∙◌, subst, arith}
use Rattle.std.proofs.lemmas.Bool.{false≢true}
use Rattle.definitions_blocks.specs.Blocks.{block_values, block_at}
use Rattle.definitions_operators.specs.Operators.{values_at}
use Rattle.scan_ops.proofs.EmitLaws.{IsPiece, piece_holds, piece_few, piece_prefix, on_err, steps-block, steps-all}
use Rattle.scan_ops.proofs.ProjectLaws.{All-block, values_at-next, values_at-piece, length-values_at}
use Rattle.scan_ops.proofs.projection.project_fly.Goals as goal

pub look_up-piece-requires-clause-within : goal.look_up-piece-requires-clause-within
look_up-piece-requires-clause-within g c =
    let values = g.V.PlaceSource.list c.args.values.now in
    let places = g.P.BlockSource.list c.args.places.now in
    let number = c.loop-number.number in
    let block : c.as_slice.result.now ≡ block_at places number = c.as_slice.ensures.values ∙ c.block.ensures.values ∙ ap (λ (l : List ℕ). block_at l number) c.loop-number.invariant.kept_places in
    subst (λ (l : List ℕ). All (λ place. place < length (g.V.PlaceSource.list c.loop-number.values)) l) (sym block)
    (subst (λ (v : List ℕ). All (λ place. place < length v) (block_at places number)) (sym c.loop-number.invariant.kept_values)
    (All-block (λ place. place < length values) number places c.requires.within))

pub extend-requires : goal.extend-requires
extend-requires g c =
    let values = g.V.PlaceSource.list c.args.values.now in
    let places = g.P.BlockSource.list c.args.places.now in
    let number = c.loop-number.number in
    let whole = values_at values places in
    let before = values_at values (take (number * block_values) places) in
    let piece = c.look_up-piece.result.now in
    let block : c.as_slice.result.now ≡ block_at places number = c.as_slice.ensures.values ∙ c.block.ensures.values ∙ ap (λ (l : List ℕ). block_at l number) c.loop-number.invariant.kept_places in
    let is : IsPiece before piece whole =
    values_at-piece values number places piece (c.look_up-piece.ensures.values ∙ ap (λ (v : List ℕ). values_at v c.as_slice.result.now) c.loop-number.invariant.kept_values ∙ ap (values_at values) block) in (
      before,
      c.loop-number.invariant.emitted,
      piece_few before piece whole is (omega (arith, length-values_at values places, c.count-count.ensures.few)),
      piece_holds g.O.Emit.scope g.met.O.Emit.scope_law (g.O.Emit.frame c.loop-number.out) (g.O.Emit.frame c.args.out.now) c.loop-number.invariant.frame before piece whole is c.requires.in_scope,
    )

pub returns-in_err-extend-clause-err : goal.returns-in_err-extend-clause-err
returns-in_err-extend-clause-err g c =
    let values = g.V.PlaceSource.list c.args.values.now in
    let places = g.P.BlockSource.list c.args.places.now in
    let number = c.loop-number.number in
    let whole = values_at values places in
    let before = values_at values (take (number * block_values) places) in
    let piece = c.look_up-piece.result.now in
    let block : c.as_slice.result.now ≡ block_at places number = c.as_slice.ensures.values ∙ c.block.ensures.values ∙ ap (λ (l : List ℕ). block_at l number) c.loop-number.invariant.kept_places in
    let is : IsPiece before piece whole =
    values_at-piece values number places piece (c.look_up-piece.ensures.values ∙ ap (λ (v : List ℕ). values_at v c.as_slice.result.now) c.loop-number.invariant.kept_values ∙ ap (values_at values) block) in
    let taken = c.in_err-extend.ensures.err in
    on_err c.from_residual.result
    (piece_prefix (g.O.Emit.pushed c.extend.new.self) taken.0 before piece whole is (taken.1 before c.loop-number.invariant.emitted))

pub returns-in_err-extend-clause-sure : goal.returns-in_err-extend-clause-sure
returns-in_err-extend-clause-sure g c = λ roomy.
    let values = g.V.PlaceSource.list c.args.values.now in
    let places = g.P.BlockSource.list c.args.places.now in
    let number = c.loop-number.number in
    let whole = values_at values places in
    let before = values_at values (take (number * block_values) places) in
    let piece = c.look_up-piece.result.now in
    let block : c.as_slice.result.now ≡ block_at places number = c.as_slice.ensures.values ∙ c.block.ensures.values ∙ ap (λ (l : List ℕ). block_at l number) c.loop-number.invariant.kept_places in
    let is : IsPiece before piece whole =
    values_at-piece values number places piece (c.look_up-piece.ensures.values ∙ ap (λ (v : List ℕ). values_at v c.as_slice.result.now) c.loop-number.invariant.kept_values ∙ ap (values_at values) block) in
    absurd (false≢true (c.in_err-extend.ensures.sure before c.loop-number.invariant.emitted
    (piece_holds g.O.Emit.room g.met.O.Emit.room_law (g.O.Emit.frame c.loop-number.out) (g.O.Emit.frame c.args.out.now) c.loop-number.invariant.frame before piece whole is roomy)))

pub returns-in_err-extend-clause-steps : goal.returns-in_err-extend-clause-steps
returns-in_err-extend-clause-steps g c =
    let places = g.P.BlockSource.list c.args.places.now in
    let number = c.loop-number.number in
    let block : c.as_slice.result.now ≡ block_at places number = c.as_slice.ensures.values ∙ c.block.ensures.values ∙ ap (λ (l : List ℕ). block_at l number) c.loop-number.invariant.kept_places in
    let here : length c.as_slice.result.now ≡ length (block_at places number) = ap length block in
    let after : c.look_up-piece.new.steps ≤ c.loop-number.steps + 1 + 1 * length (block_at places number) = omega (arith, c.look_up-piece.ensures.steps, c.block.ensures.steps, here) in
    omega (
      arith,
      steps-all 1 (number + 1) c.args.steps.now c.look_up-piece.new.steps places (omega (arith, c.loop-number-test.true, c.div_ceil-number-end.ensures, c.count-count.ensures.count))
          (steps-block 1 number c.args.steps.now c.loop-number.steps c.look_up-piece.new.steps places c.loop-number.invariant.steps after),
    )

pub loop-number-preserved : goal.loop-number-preserved
loop-number-preserved g c =
    let values = g.V.PlaceSource.list c.args.values.now in
    let places = g.P.BlockSource.list c.args.places.now in
    let number = c.loop-number.number in
    let before = values_at values (take (number * block_values) places) in
    let piece = c.look_up-piece.result.now in
    let block : c.as_slice.result.now ≡ block_at places number = c.as_slice.ensures.values ∙ c.block.ensures.values ∙ ap (λ (l : List ℕ). block_at l number) c.loop-number.invariant.kept_places in
    let next : before ++ piece ≡ values_at values (take ((number + 1) * block_values) places) =
    values_at-next values number places piece (c.look_up-piece.ensures.values ∙ ap (λ (v : List ℕ). values_at v c.as_slice.result.now) c.loop-number.invariant.kept_values ∙ ap (values_at values) block) in
    let here : length c.as_slice.result.now ≡ length (block_at places number) = ap length block in
    let after : c.look_up-piece.new.steps ≤ c.loop-number.steps + 1 + 1 * length (block_at places number) = omega (arith, c.look_up-piece.ensures.steps, c.block.ensures.steps, here) in
    record {
      kept_values = c.look_up-piece.ensures.list ∙ c.loop-number.invariant.kept_values;
      kept_places = c.block.ensures.list ∙ c.loop-number.invariant.kept_places;
      emitted = subst (g.O.Emit.pushed c.extend.new.self) next (c.in_ok-extend.ensures.ok before c.loop-number.invariant.emitted);
      frame = c.in_ok-extend.ensures.frame ∙ c.loop-number.invariant.frame;
      later = omega (arith, c.loop-number.invariant.later, c.block.ensures.later, c.look_up-piece.ensures.later);
      steps = steps-block 1 number c.args.steps.now c.loop-number.steps c.look_up-piece.new.steps places c.loop-number.invariant.steps after;
    }
