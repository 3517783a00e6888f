use Rattle.std.proofs.Common.{◌≡◌, ℕ, ◌+◌, ◌*◌, ◌≤◌, List, ◌++◌, map, take, length, ap, ◌∙◌, subst, arith}
use Rattle.std.proofs.lemmas.Bool.{false≢true}
use Rattle.definitions_blocks.specs.Blocks.{block_values, block_at}
use Rattle.definitions_operators.specs.Operators.{passing_places}
use Rattle.scan_ops.proofs.EmitLaws.{IsPiece, piece_holds, piece_few, piece_prefix, on_err, steps-block, steps-all}
use Rattle.scan_ops.proofs.BlockPlaceLaws.{places-next, places-piece, places-few}
use Rattle.scan_ops.proofs.place_tests.emit_places.Goals as goal

pub extend-requires : goal.extend-requires
extend-requires g c =
    let values = g.S.BlockSource.list c.args.values.now in
    let test = g.T.PlaceTest.passes c.args.test.now in
    let number = c.loop-number.number in
    let whole = passing_places test values in
    let before = passing_places test (take (number * block_values) values) in
    let piece = take c.mark-kept.result c.mark-kept.new.places in
    let within : number * block_values ≤ length values = omega (arith, c.loop-number-test.true, c.div_ceil-number-end.ensures, c.count-count.ensures.count) in
    let block : c.as_slice.result.now ≡ block_at values number = c.as_slice.ensures.values ∙ c.block.ensures.values ∙ ap (λ (l : List ℕ). block_at l number) c.loop-number.invariant.kept in
    let is : IsPiece before piece whole =
    places-piece test number values piece within (c.mark-kept.ensures.places ∙ ap (λ (l : List ℕ). map (λ place. number * block_values + place) (passing_places test l)) block) in (
      before,
      c.loop-number.invariant.emitted,
      piece_few before piece whole is (omega (arith, places-few test values, c.count-count.ensures.few)),
      piece_holds g.O.Emit.scope g.met.O.Emit.scope_law (g.O.Emit.frame c.loop-number.out) (g.O.Emit.frame c.args.out.now) c.loop-number.invariant.frame before piece whole is c.requires.in_scope,
    )

pub returns-in_err-extend-clause-err : goal.returns-in_err-extend-clause-err
returns-in_err-extend-clause-err g c =
    let values = g.S.BlockSource.list c.args.values.now in
    let test = g.T.PlaceTest.passes c.args.test.now in
    let number = c.loop-number.number in
    let whole = passing_places test values in
    let before = passing_places test (take (number * block_values) values) in
    let piece = take c.mark-kept.result c.mark-kept.new.places in
    let within : number * block_values ≤ length values = omega (arith, c.loop-number-test.true, c.div_ceil-number-end.ensures, c.count-count.ensures.count) in
    let block : c.as_slice.result.now ≡ block_at values number = c.as_slice.ensures.values ∙ c.block.ensures.values ∙ ap (λ (l : List ℕ). block_at l number) c.loop-number.invariant.kept in
    let is : IsPiece before piece whole =
    places-piece test number values piece within (c.mark-kept.ensures.places ∙ ap (λ (l : List ℕ). map (λ place. number * block_values + place) (passing_places test l)) block) in
    let taken = c.in_err-extend.ensures.err in
    on_err c.from_residual.result
    (piece_prefix (g.O.Emit.pushed c.extend.new.self) taken.0 before piece whole is (taken.1 before c.loop-number.invariant.emitted))

pub returns-in_err-extend-clause-sure : goal.returns-in_err-extend-clause-sure
returns-in_err-extend-clause-sure g c = λ roomy.
    let values = g.S.BlockSource.list c.args.values.now in
    let test = g.T.PlaceTest.passes c.args.test.now in
    let number = c.loop-number.number in
    let whole = passing_places test values in
    let before = passing_places test (take (number * block_values) values) in
    let piece = take c.mark-kept.result c.mark-kept.new.places in
    let within : number * block_values ≤ length values = omega (arith, c.loop-number-test.true, c.div_ceil-number-end.ensures, c.count-count.ensures.count) in
    let block : c.as_slice.result.now ≡ block_at values number = c.as_slice.ensures.values ∙ c.block.ensures.values ∙ ap (λ (l : List ℕ). block_at l number) c.loop-number.invariant.kept in
    let is : IsPiece before piece whole =
    places-piece test number values piece within (c.mark-kept.ensures.places ∙ ap (λ (l : List ℕ). map (λ place. number * block_values + place) (passing_places test l)) block) in
    absurd (false≢true (c.in_err-extend.ensures.sure before c.loop-number.invariant.emitted
    (piece_holds g.O.Emit.room g.met.O.Emit.room_law (g.O.Emit.frame c.loop-number.out) (g.O.Emit.frame c.args.out.now) c.loop-number.invariant.frame before piece whole is roomy)))

pub returns-in_err-extend-clause-steps : goal.returns-in_err-extend-clause-steps
returns-in_err-extend-clause-steps g c =
    let values = g.S.BlockSource.list c.args.values.now in
    let cost = g.T.PlaceTest.cost c.args.test.now in
    let number = c.loop-number.number in
    let block : c.as_slice.result.now ≡ block_at values number = c.as_slice.ensures.values ∙ c.block.ensures.values ∙ ap (λ (l : List ℕ). block_at l number) c.loop-number.invariant.kept in
    let here : cost * length c.as_slice.result.now ≡ cost * length (block_at values number) = ap (λ (l : List ℕ). cost * length l) block in
    let after : c.mark-kept.new.steps ≤ c.loop-number.steps + 1 + cost * length (block_at values number) = omega (arith, c.mark-kept.ensures.steps, c.block.ensures.steps) in
    steps-all cost (number + 1) c.args.steps.now c.mark-kept.new.steps values (omega (arith, c.loop-number-test.true, c.div_ceil-number-end.ensures, c.count-count.ensures.count))
    (steps-block cost number c.args.steps.now c.loop-number.steps c.mark-kept.new.steps values c.loop-number.invariant.steps after)

pub loop-number-preserved : goal.loop-number-preserved
loop-number-preserved g c =
    let values = g.S.BlockSource.list c.args.values.now in
    let test = g.T.PlaceTest.passes c.args.test.now in
    let cost = g.T.PlaceTest.cost c.args.test.now in
    let number = c.loop-number.number in
    let before = passing_places test (take (number * block_values) values) in
    let piece = take c.mark-kept.result c.mark-kept.new.places in
    let within : number * block_values ≤ length values = omega (arith, c.loop-number-test.true, c.div_ceil-number-end.ensures, c.count-count.ensures.count) in
    let block : c.as_slice.result.now ≡ block_at values number = c.as_slice.ensures.values ∙ c.block.ensures.values ∙ ap (λ (l : List ℕ). block_at l number) c.loop-number.invariant.kept in
    let next : before ++ piece ≡ passing_places test (take ((number + 1) * block_values) values) =
    places-next test number values piece within (c.mark-kept.ensures.places ∙ ap (λ (l : List ℕ). map (λ place. number * block_values + place) (passing_places test l)) block) in
    let here : cost * length c.as_slice.result.now ≡ cost * length (block_at values number) = ap (λ (l : List ℕ). cost * length l) block in
    let after : c.mark-kept.new.steps ≤ c.loop-number.steps + 1 + cost * length (block_at values number) = omega (arith, c.mark-kept.ensures.steps, c.block.ensures.steps) in
    record {
      kept = c.block.ensures.list ∙ c.loop-number.invariant.kept;
      emitted = subst (g.O.Emit.pushed c.extend.new.self) next (c.in_ok-extend.ensures.ok before c.loop-number.invariant.emitted);
      frame = c.in_ok-extend.ensures.frame ∙ c.loop-number.invariant.frame;
      later = omega (arith, c.loop-number.invariant.later, c.block.ensures.later, c.mark-kept.ensures.later);
      steps = steps-block cost number c.args.steps.now c.loop-number.steps c.mark-kept.new.steps values c.loop-number.invariant.steps after;
    }
