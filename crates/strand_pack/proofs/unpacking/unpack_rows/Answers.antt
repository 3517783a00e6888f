use Rattle.std.proofs.Common.{◌≡◌, ◌+◌, ◌-◌, ◌*◌, ◌/◌, ◌%◌, ap₂, ◌∙◌, arith}
use Rattle.strand_pack.specs.Words.{value_in}
use Rattle.strand_pack.proofs.LaneLaws.{more_done}
use Rattle.strand_pack.proofs.Values.{IsPacked-from_values}
use Rattle.strand_pack.proofs.unpacking.unpack_rows.Goals as goal

pub loop-row-preserved : goal.loop-row-preserved
loop-row-preserved g c = λ i below.
    let first = c.loop-row.row * 16 in
    let count = first + 16 - first in
    more_done (λ k. value_in c.args.bytes.now c.args.width (k / 16) (k % 16)) c.loop-row.into c.unpack_row.new.into first count (omega arith) (omega (arith, c.unpack_row.ensures.kept)) c.loop-row.invariant
    (λ strand less.
    let row : c.loop-row.row ≡ (first + strand) / 16 = omega arith in
    let lane : strand ≡ (first + strand) % 16 = omega arith in
    c.unpack_row.ensures.values strand (omega arith) ∙ ap₂ (value_in c.args.bytes.now c.args.width) row lane)
    i (omega arith)

pub returns : goal.returns
returns g c =
    IsPacked-from_values c.args.width c.loop-row.into c.args.bytes.now c.requires.narrow (omega arith) c.requires.size (λ k. (c.type_inv.bytes k).fits)
    (λ i within. c.loop-row.invariant i (omega arith))
