use Rattle.std.proofs.Common.{◌≡◌, ◌∙◌}
use Rattle.scan_ops.proofs.EmitLaws.{piece_prefix, on_err}
use Rattle.scan_ops.proofs.BatchLaws.{waiting_piece}
use Rattle.scan_ops.proofs.batches.Batch.flush.Goals as goal

pub returns-in_err-extend-clause-err : goal.returns-in_err-extend-clause-err
returns-in_err-extend-clause-err g c =
    let taken = c.in_err-extend.ensures.err in
    on_err c.from_residual.result (λ list holds.
    let same : c.as_slice.result.now ≡ c.args.self.now = c.as_slice.ensures.values ∙ c.self.view_is in
    piece_prefix (g.O.Emit.pushed c.extend.new.self) taken.0 holds.taken c.as_slice.result.now list
    (waiting_piece (g.O.Emit.pushed c.args.out.now) c.args.self.now list c.as_slice.result.now holds same)
    (taken.1 holds.taken holds.held))
