use Rattle.std.proofs.Common.{◌≡◌, length, ap, refl, ◌∙◌, arith}
use Rattle.std.proofs.lemmas.Bool.{false≢true}
use Rattle.scan_ops.specs.Unread.{left_of}
use Rattle.scan_ops.proofs.EmitLaws.{IsPiece, piece_holds, piece_few, piece_prefix, on_err}
use Rattle.scan_ops.proofs.BatchLaws.{first_piece, took_piece, took_all}
use Rattle.scan_ops.proofs.UnreadLaws.{left_in, left-held, left-ended, unread-all}
use Rattle.scan_ops.proofs.set_streams.emit_rest.Goals as goal

pub extend-requires : goal.extend-requires
extend-requires g c =
    let list = g.S.BlockSource.list c.args.source.now in
    let unread = c.fill.new.self in
    let piece = c.values.result.now in
    let after = left_in list unread.block (length unread.block) unread.next in
    let now = c.loop-out.invariant in
    let whole = c.requires.waits.0 in
    let holds = now.emitted whole c.requires.waits.1 in
    let is : IsPiece holds.taken piece whole =
    first_piece (g.O.Emit.pushed c.loop-out.out) (left_of list c.loop-out.unread) whole piece after holds
    (left-held c.loop-out.unread unread (length unread.block) now.kept c.fill.ensures.left c.values.ensures.values refl) in (
      holds.taken,
      holds.held,
      piece_few holds.taken piece whole is c.requires.waits.2,
      piece_holds g.O.Emit.scope g.met.O.Emit.scope_law (g.O.Emit.frame c.loop-out.out) (g.O.Emit.frame c.args.out.now) now.frame holds.taken piece whole is c.requires.waits.3,
    )

pub returns-in_err-extend-clause-err : goal.returns-in_err-extend-clause-err
returns-in_err-extend-clause-err g c =
    let list = g.S.BlockSource.list c.args.source.now in
    let unread = c.fill.new.self in
    let piece = c.values.result.now in
    let after = left_in list unread.block (length unread.block) unread.next in
    let now = c.loop-out.invariant in
    let taken = c.in_err-extend.ensures.err in
    on_err c.from_residual.result (λ whole waits.
    let holds = now.emitted whole waits in
    let is : IsPiece holds.taken piece whole =
    first_piece (g.O.Emit.pushed c.loop-out.out) (left_of list c.loop-out.unread) whole piece after holds
    (left-held c.loop-out.unread unread (length unread.block) now.kept c.fill.ensures.left c.values.ensures.values refl) in
    piece_prefix (g.O.Emit.pushed c.extend.new.self) taken.0 holds.taken piece whole is (taken.1 holds.taken holds.held))

pub returns-in_err-extend-clause-sure : goal.returns-in_err-extend-clause-sure
returns-in_err-extend-clause-sure g c = λ whole waits roomy.
    let list = g.S.BlockSource.list c.args.source.now in
    let unread = c.fill.new.self in
    let piece = c.values.result.now in
    let after = left_in list unread.block (length unread.block) unread.next in
    let now = c.loop-out.invariant in
    let holds = now.emitted whole waits in
    let is : IsPiece holds.taken piece whole =
    first_piece (g.O.Emit.pushed c.loop-out.out) (left_of list c.loop-out.unread) whole piece after holds
    (left-held c.loop-out.unread unread (length unread.block) now.kept c.fill.ensures.left c.values.ensures.values refl) in
    absurd (false≢true (c.in_err-extend.ensures.sure holds.taken holds.held
    (piece_holds g.O.Emit.room g.met.O.Emit.room_law (g.O.Emit.frame c.loop-out.out) (g.O.Emit.frame c.args.out.now) now.frame holds.taken piece whole is roomy)))

pub loop-out-preserved : goal.loop-out-preserved
loop-out-preserved g c =
    let list = g.S.BlockSource.list c.args.source.now in
    let unread = c.fill.new.self in
    let piece = c.values.result.now in
    let all = length c.as_slice.result.now in
    let is_all : all ≡ length unread.block = ap length c.as_slice.ensures.values in
    let now = c.loop-out.invariant in
    record {
      kept = c.fill.ensures.kept ∙ now.kept;
      unread = unread-all unread all now.kept c.fill.ensures.unread is_all;
      emitted = λ whole waits.
          let holds = now.emitted whole waits in
          took_piece (g.O.Emit.pushed c.loop-out.out) (g.O.Emit.pushed c.extend.new.self) (left_of list c.loop-out.unread) whole piece (left_in list unread.block all unread.next) holds
          (left-held c.loop-out.unread unread all now.kept c.fill.ensures.left c.values.ensures.values is_all)
          (c.in_ok-extend.ensures.ok holds.taken holds.held);
      frame = c.in_ok-extend.ensures.frame ∙ now.frame;
      later = omega (arith, now.later, c.fill.ensures.later);
      steps = omega (arith, now.steps, c.fill.ensures.steps);
    }

pub returns-clause-ok : goal.returns-clause-ok
returns-clause-ok g c = λ whole waits.
    let list = g.S.BlockSource.list c.args.source.now in
    let now = c.loop-out.invariant in
    took_all (g.O.Emit.pushed c.loop-out.out) (left_of list c.loop-out.unread) whole (now.emitted whole waits)
    (left-ended c.loop-out.unread c.fill.new.self now.kept c.fill.ensures.left (c.fill.ensures.ended c.loop-out-test.false))
