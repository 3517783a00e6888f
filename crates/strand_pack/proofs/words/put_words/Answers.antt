use Rattle.std.proofs.Common.{◌+◌, ◌*◌, get_or, arith, ap, ◌∙◌, below_more}
use Rattle.std.proofs.lemmas.List.{get_or_append_left}
use Rattle.strand_pack.proofs.WordBits.{word_of-same}
use Rattle.strand_pack.proofs.words.put_words.Goals as goal

pub loop-lane-preserved : goal.loop-lane-preserved
loop-lane-preserved g c =
    let was = c.loop-lane.into in
    let now = c.put_word.new.into in
    let place = c.args.place + c.loop-lane.lane in
    record {
      written = below_more _ _
          (λ j before. word_of-same now was (c.args.place + j) (λ k byte. c.put_word.ensures.below (8 * (c.args.place + j) + k) (omega arith)) ∙ c.loop-lane.invariant.written j before)
          c.put_word.ensures.written;
      below = λ k under. c.put_word.ensures.below k (omega arith) ∙ c.loop-lane.invariant.below k under;
      above = λ k over. c.put_word.ensures.above k (omega arith) ∙ c.loop-lane.invariant.above k (omega arith);
    }

pub returns-clause-written : goal.returns-clause-written
returns-clause-written g c = λ lane within.
    c.loop-lane.invariant.written lane (omega arith) ∙ ap (λ l. get_or l lane 0) c.store.ensures.stored ∙ get_or_append_left c.args.words _ 0 lane (omega (arith, c.store.ensures.lanes))
