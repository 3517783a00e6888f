use Rattle.std.proofs.Common.{◌≡◌, ◌+◌, ◌≤◌, ◌++◌, length, take, ap, ◌∙◌, arith}
use Rattle.std.proofs.lemmas.Bool.{false≢true}
use Rattle.definitions_operators.specs.Operators.{intersect}
use Rattle.scan_ops.specs.Unread.{left_of}
use Rattle.scan_ops.proofs.EmitLaws.{IsPiece, piece_holds, piece_few, piece_prefix, on_err}
use Rattle.scan_ops.proofs.BatchLaws.{first_piece, took_piece, took_all}
use Rattle.scan_ops.proofs.SetLaws.{intersect-nothing}
use Rattle.scan_ops.proofs.UnreadLaws.{used_more, round, values-fit, unread-more, left-rises, left-ended, intersect-few}
use Rattle.scan_ops.proofs.set_streams.intersect_fly.Goals as goal

-- nothing is left of the right list, so their intersection has nothing more
pub returns-then-not-fill-2-clause-ok : goal.returns-then-not-fill-2-clause-ok
returns-then-not-fill-2-clause-ok g c =
    let left = g.A.BlockSource.list c.args.left.now in
    let right = g.B.BlockSource.list c.args.right.now in
    let at = c.loop-unread_left in
    let now = c.loop-unread_left.invariant in
    let second = c.fill-in-loop-unread_left in
    let rest = left_of left at.unread_left in
    took_all (g.O.Emit.pushed at.out) (intersect rest (left_of right at.unread_right)) (intersect left right) now.emitted
    (ap (intersect rest) (left-ended at.unread_right second.new.self now.kept_right second.ensures.left (second.ensures.ended c.if-not-fill-2.true)) ∙ intersect-nothing rest)

pub extend-requires : goal.extend-requires
extend-requires g c =
    let left = g.A.BlockSource.list c.args.left.now in
    let right = g.B.BlockSource.list c.args.right.now in
    let at = c.loop-unread_left in
    let now = c.loop-unread_left.invariant in
    let first = c.fill in
    let second = c.fill-in-loop-unread_left in
    let values = c.values in
    let others = c.values-in-loop-unread_left in
    let used = c.meet-met in
    let piece = take used.result.kept used.new.out in
    let waiting = intersect (left_of left at.unread_left) (left_of right at.unread_right) in
    let after = intersect (left_of left (used_more first.new.self used.result.left)) (left_of right (used_more second.new.self used.result.right)) in
    let is : waiting ≡ piece ++ after =
    round intersect used.new.out at.unread_left at.unread_right first.new.self second.new.self used.result.left used.result.right used.result.kept
    now.kept_left now.kept_right first.ensures.left second.ensures.left now.up_left now.up_right values.ensures.values others.ensures.values used.ensures.whole in
    let whole = intersect left right in
    let taken = now.emitted.taken in
    let part : IsPiece taken piece whole = first_piece (g.O.Emit.pushed at.out) waiting whole piece after now.emitted is in (
      taken,
      now.emitted.held,
      piece_few taken piece whole part (omega (arith, intersect-few left right, now.unread_left.few)),
      piece_holds g.O.Emit.scope g.met.O.Emit.scope_law (g.O.Emit.frame at.out) (g.O.Emit.frame c.args.out.now) now.frame taken piece whole part c.requires.in_scope,
    )

pub returns-in_err-extend-clause-err : goal.returns-in_err-extend-clause-err
returns-in_err-extend-clause-err g c =
    let left = g.A.BlockSource.list c.args.left.now in
    let right = g.B.BlockSource.list c.args.right.now in
    let at = c.loop-unread_left in
    let now = c.loop-unread_left.invariant in
    let first = c.fill in
    let second = c.fill-in-loop-unread_left in
    let values = c.values in
    let others = c.values-in-loop-unread_left in
    let used = c.meet-met in
    let piece = take used.result.kept used.new.out in
    let waiting = intersect (left_of left at.unread_left) (left_of right at.unread_right) in
    let after = intersect (left_of left (used_more first.new.self used.result.left)) (left_of right (used_more second.new.self used.result.right)) in
    let is : waiting ≡ piece ++ after =
    round intersect used.new.out at.unread_left at.unread_right first.new.self second.new.self used.result.left used.result.right used.result.kept
    now.kept_left now.kept_right first.ensures.left second.ensures.left now.up_left now.up_right values.ensures.values others.ensures.values used.ensures.whole in
    let whole = intersect left right in
    let taken = now.emitted.taken in
    let part : IsPiece taken piece whole = first_piece (g.O.Emit.pushed at.out) waiting whole piece after now.emitted is in
    let some = c.in_err-extend.ensures.err in
    on_err c.from_residual.result (piece_prefix (g.O.Emit.pushed c.extend.new.self) some.0 taken piece whole part (some.1 taken now.emitted.held))

pub returns-in_err-extend-clause-sure : goal.returns-in_err-extend-clause-sure
returns-in_err-extend-clause-sure g c = λ roomy.
    let left = g.A.BlockSource.list c.args.left.now in
    let right = g.B.BlockSource.list c.args.right.now in
    let at = c.loop-unread_left in
    let now = c.loop-unread_left.invariant in
    let first = c.fill in
    let second = c.fill-in-loop-unread_left in
    let values = c.values in
    let others = c.values-in-loop-unread_left in
    let used = c.meet-met in
    let piece = take used.result.kept used.new.out in
    let waiting = intersect (left_of left at.unread_left) (left_of right at.unread_right) in
    let after = intersect (left_of left (used_more first.new.self used.result.left)) (left_of right (used_more second.new.self used.result.right)) in
    let is : waiting ≡ piece ++ after =
    round intersect used.new.out at.unread_left at.unread_right first.new.self second.new.self used.result.left used.result.right used.result.kept
    now.kept_left now.kept_right first.ensures.left second.ensures.left now.up_left now.up_right values.ensures.values others.ensures.values used.ensures.whole in
    let whole = intersect left right in
    let taken = now.emitted.taken in
    let part : IsPiece taken piece whole = first_piece (g.O.Emit.pushed at.out) waiting whole piece after now.emitted is in
    absurd (false≢true (c.in_err-extend.ensures.sure taken now.emitted.held
    (piece_holds g.O.Emit.room g.met.O.Emit.room_law (g.O.Emit.frame at.out) (g.O.Emit.frame c.args.out.now) now.frame taken piece whole part roomy)))

pub overflow_add-unread_left : goal.overflow_add-unread_left
overflow_add-unread_left g c =
    let unread = c.fill.new.self in
    let used = c.meet-met in
    let fits : unread.used + used.result.left ≤ length unread.block =
    values-fit unread.block c.values.result.now unread.used used.result.left c.fill.ensures.unread.used c.values.ensures.values used.ensures.left in
    omega (arith, c.fill.ensures.unread.short)

pub overflow_add-unread_right : goal.overflow_add-unread_right
overflow_add-unread_right g c =
    let unread = c.fill-in-loop-unread_left.new.self in
    let used = c.meet-met in
    let fits : unread.used + used.result.right ≤ length unread.block =
    values-fit unread.block c.values-in-loop-unread_left.result.now unread.used used.result.right c.fill-in-loop-unread_left.ensures.unread.used c.values-in-loop-unread_left.ensures.values used.ensures.right in
    omega (arith, c.fill-in-loop-unread_left.ensures.unread.short)

pub loop-unread_left-preserved : goal.loop-unread_left-preserved
loop-unread_left-preserved g c =
    let left = g.A.BlockSource.list c.args.left.now in
    let right = g.B.BlockSource.list c.args.right.now in
    let at = c.loop-unread_left in
    let now = c.loop-unread_left.invariant in
    let first = c.fill in
    let second = c.fill-in-loop-unread_left in
    let values = c.values in
    let others = c.values-in-loop-unread_left in
    let used = c.meet-met in
    let piece = take used.result.kept used.new.out in
    let waiting = intersect (left_of left at.unread_left) (left_of right at.unread_right) in
    let after = intersect (left_of left (used_more first.new.self used.result.left)) (left_of right (used_more second.new.self used.result.right)) in
    let is : waiting ≡ piece ++ after =
    round intersect used.new.out at.unread_left at.unread_right first.new.self second.new.self used.result.left used.result.right used.result.kept
    now.kept_left now.kept_right first.ensures.left second.ensures.left now.up_left now.up_right values.ensures.values others.ensures.values used.ensures.whole in
    record {
      kept_left = first.ensures.kept ∙ now.kept_left;
      kept_right = second.ensures.kept ∙ now.kept_right;
      unread_left = unread-more first.new.self used.result.left now.kept_left first.ensures.unread values.ensures.values used.ensures.left;
      unread_right = unread-more second.new.self used.result.right now.kept_right second.ensures.unread others.ensures.values used.ensures.right;
      up_left = left-rises at.unread_left first.new.self used.result.left now.kept_left first.ensures.left values.ensures.values used.ensures.left now.up_left;
      up_right = left-rises at.unread_right second.new.self used.result.right now.kept_right second.ensures.left others.ensures.values used.ensures.right now.up_right;
      room = used.ensures.room ∙ now.room;
      emitted =
          took_piece (g.O.Emit.pushed at.out) (g.O.Emit.pushed c.extend.new.self) waiting (intersect left right) piece after now.emitted is
          (c.in_ok-extend.ensures.ok now.emitted.taken now.emitted.held);
      frame = c.in_ok-extend.ensures.frame ∙ now.frame;
      later = omega (arith, now.later, first.ensures.later, second.ensures.later);
      steps = omega (arith, now.steps, first.ensures.steps, second.ensures.steps);
    }
