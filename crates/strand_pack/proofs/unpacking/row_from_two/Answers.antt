use Rattle.std.proofs.Common.{◌≡◌, ℕ, ◌+◌, ◌-◌, ◌*◌, ◌/◌, ◌%◌, ◌^◌, ◌≤◌, bit_and, bit_or, ap₂, ◌∙◌, arith}
use Rattle.std.proofs.Math.Nat.{mul-le-mul_right}
use Rattle.definitions_blocks.specs.Words.{word_of}
use Rattle.strand_pack.proofs.LaneLaws.{more_done}
use Rattle.strand_pack.proofs.unpacking.row_from_two.Goals as goal

pub loop-group-preserved : goal.loop-group-preserved
loop-group-preserved g c = λ k below.
    let first = c.loop-group.group * g.row.L in
    let count = first + g.row.L - first in
    let joined : ℕ → ℕ → ℕ = λ p q. bit_and (bit_or (word_of c.args.bytes.now p / 2 ^ c.args.offset) (word_of c.args.bytes.now q * 2 ^ (64 - c.args.offset) % 2 ^ 64)) c.args.mask in
    let groups : (c.loop-group.group + 1) * g.row.L ≤ 16 / g.row.L * g.row.L = mul-le-mul_right g.row.L (omega arith) in
    more_done (λ s. joined (c.args.place + s) (c.args.place + 16 + s)) c.loop-group.into c.lanes_from_two.new.into first count (omega arith) (omega (arith, c.lanes_from_two.ensures.kept)) c.loop-group.invariant
    (λ j less.
    let low : c.args.place + first + j ≡ c.args.place + (first + j) = omega arith in
    let high : c.args.place + first + 16 + j ≡ c.args.place + 16 + (first + j) = omega arith in
    c.lanes_from_two.ensures.values j (omega arith) ∙ ap₂ joined low high)
    k (omega arith)

pub returns-clause-values : goal.returns-clause-values
returns-clause-values g c = λ k within.
    let groups : 16 / g.row.L * g.row.L ≤ c.loop-group.group * g.row.L = mul-le-mul_right g.row.L (omega arith) in
    c.loop-group.invariant k (omega arith)
