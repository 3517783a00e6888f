use Rattle.std.proofs.Common.{◌-◌, ◌*◌, ◌/◌, ◌%◌, ◌^◌, drop, bit_and, bit_or, ap₂, ◌∙◌}
use Rattle.strand_pack.proofs.LaneLaws.{two_at}
use Rattle.strand_pack.proofs.unpacking.lanes_from_two.Goals as goal

pub returns-clause-values : goal.returns-clause-values
returns-clause-values g c = λ lane within.
    let up = 64 - c.args.offset in
    two_at c.store.new.into c.and.result c.or.result c.shift_down-low.result c.shift_up-high.result c.splat.result c.words_at.result c.words_at-2.result (drop g.row.L c.args.into.now)
    g.row.L c.args.offset up c.args.mask lane
    c.words_at.ensures.lanes c.words_at-2.ensures.lanes c.shift_down-low.ensures c.shift_up-high.ensures c.or.ensures c.splat.ensures c.and.ensures c.store.ensures.stored within
    ∙ ap₂ (λ a b. bit_and (bit_or (a / 2 ^ c.args.offset) (b * 2 ^ up % 2 ^ 64)) c.args.mask) (c.words_at.ensures.each lane within) (c.words_at-2.ensures.each lane within)
