use Rattle.std.proofs.Common.{◌/◌, ◌^◌, drop, bit_and, ap, ◌∙◌}
use Rattle.strand_pack.proofs.LaneLaws.{one_at}
use Rattle.strand_pack.proofs.unpacking.lanes_from_one.Goals as goal

pub returns-clause-values : goal.returns-clause-values
returns-clause-values g c = λ lane within.
    one_at c.store.new.into c.and.result c.shift_down-low.result c.splat.result c.words_at.result (drop g.row.L c.args.into.now) g.row.L c.args.offset c.args.mask lane
    c.words_at.ensures.lanes c.shift_down-low.ensures c.splat.ensures c.and.ensures c.store.ensures.stored within
    ∙ ap (λ a. bit_and (a / 2 ^ c.args.offset) c.args.mask) (c.words_at.ensures.each lane within)
