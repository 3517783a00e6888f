use Rattle.std.proofs.Common.{◌∙◌, ◌-◌, ap, arith, length}
use Rattle.std.specs.Prelude.{slice_index, ◌==◌}
use Rattle.join_ops.proofs.DenseLaws.{marked-look}
use Rattle.join_ops.proofs.dense_sets.has_mark.Goals as goal

pub returns : goal.returns
returns c =
    let marks = c.args.marks.now in
    ap (λ n. slice_index marks n == 1) c.min.ensures
    ∙ marked-look c.args.low (length marks - 1) c.args.value marks (omega (arith, c.requires.some)) c.requires.last (omega (arith, c.requires.fits, c.requires.some)) (omega (arith, c.ranges.value.fits))
