use Rattle.std.proofs.Common.{arith, ◌∙◌, below_more, get_or-set_same, get_or-set_other, length-set}
use Rattle.strand_pack.proofs.words.words_at.Goals as goal

pub loop-lane-preserved : goal.loop-lane-preserved
loop-lane-preserved g c =
    let words = c.loop-lane.words in
    let lane = c.loop-lane.lane in
    record {
      read = below_more _ _
          (λ k below. get_or-set_other words lane k c.word_at.result 0 (omega arith) ∙ c.loop-lane.invariant.read k below)
          (get_or-set_same words lane c.word_at.result 0 (omega arith) ∙ c.word_at.ensures);
      long = length-set words lane c.word_at.result ∙ c.loop-lane.invariant.long;
    }
