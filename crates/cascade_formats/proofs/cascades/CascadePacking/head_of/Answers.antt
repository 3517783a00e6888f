use Rattle.std.proofs.Common.{length, ap, ◌∙◌}
use Rattle.definitions_blocks.proofs.WordListLaws.{full_from}
use Rattle.cascade_formats.proofs.cascades.CascadePacking.head_of.Goals as goal

pub head_of-requires : goal.head_of-requires
head_of-requires g c =
    let is = full_from c.as_slice.result.now c.args.full.now c.as_slice.ensures.values c.words_fit.ensures c.requires in
    ap length c.split-base.ensures.differences ∙ (g.met.T.Transform.laws.full c.args.full.now is).whole
