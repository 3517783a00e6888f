use Rattle.std.proofs.Common.{◌≡◌, ◌+◌, ◌-◌, ◌*◌, ◌%◌, ◌≤◌, refl, arith, below_more}
use Rattle.std.specs.Int.{bit_at}
use Rattle.std.proofs.Math.Nat.{mul-le-mul_right}
use Rattle.strand_pack.proofs.HighestBits.{below_by_highest, highest_by_below}
use Rattle.strand_pack.proofs.widths.has_highest_bit.Goals as goal

pub bits_of_line-requires : goal.bits_of_line-requires
bits_of_line-requires c =
    let rows : (c.loop-row.row + 1) * c.args.width ≤ 64 * c.args.width = mul-le-mul_right c.args.width (omega arith) in
    omega arith

pub loop-row-preserved : goal.loop-row-preserved
loop-row-preserved c =
    let bit = c.loop-row.row * c.args.width + (c.args.width - 1) in
    let none : bit_at c.bits_of_line.result (bit % 64) ≡ 0 = omega (arith, c.if-bits_of_line-bit-ne0.false) in
    below_more _ _ c.loop-row.invariant ((c.bits_of_line.ensures (bit % 64) (omega arith)).0 none)

pub returns-then-bits_of_line-bit-ne0 : goal.returns-then-bits_of_line-bit-ne0
returns-then-bits_of_line-bit-ne0 c = λ values packing.
    let bit = c.loop-row.row * c.args.width + (c.args.width - 1) in (
      (λ e. absurd (cc e)),
      (λ small.
          let none : bit_at c.bits_of_line.result (bit % 64) ≡ 0 =
          (c.bits_of_line.ensures (bit % 64) (omega arith)).1 (highest_by_below c.args.width values c.args.packed.now c.requires.some packing small c.loop-row.row (omega arith)) in
          absurd (omega (arith, c.if-bits_of_line-bit-ne0.true, none))),
    )

pub returns : goal.returns
returns c = λ values packing. (
  (λ _. below_by_highest c.args.width values c.args.packed.now c.requires.some packing (λ row inside. c.loop-row.invariant row (omega arith))),
  (λ _. refl),
)
