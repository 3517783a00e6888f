use Rattle.std.proofs.Common.{◌≡◌, ◌+◌, ◌*◌, ◌/◌, ◌≤◌, subst, arith}
use Rattle.std.proofs.Math.Nat.{mul-le-mul_right}
use Rattle.strand_pack.specs.Words.{AreEncoded}
use Rattle.strand_pack.proofs.EncodedStrands.{IsPacked-from_encoded, AreEncoded-more}
use Rattle.strand_pack.proofs.packing.pack_groups.Goals as goal

pub loop-group-preserved : goal.loop-group-preserved
loop-group-preserved g c =
    let first = c.loop-group.group * g.row.L in
    let next : first + g.row.L ≡ (c.loop-group.group + 1) * g.row.L = omega arith in
    let groups : (c.loop-group.group + 1) * g.row.L ≤ 16 / g.row.L * g.row.L = mul-le-mul_right g.row.L (omega arith) in
    subst (λ n. AreEncoded c.args.width 0 n c.args.full.now c.pack_strands.new.into) next
    (AreEncoded-more c.args.width first g.row.L c.args.full.now c.loop-group.into c.pack_strands.new.into (omega arith) c.loop-group.invariant c.pack_strands.ensures.encoded c.pack_strands.ensures.beside)

pub returns : goal.returns
returns g c =
    let groups : 16 / g.row.L * g.row.L ≤ c.loop-group.group * g.row.L = mul-le-mul_right g.row.L (omega arith) in
    let most : c.loop-group.group * g.row.L ≤ 16 / g.row.L * g.row.L = mul-le-mul_right g.row.L (omega arith) in
    IsPacked-from_encoded c.args.width (c.loop-group.group * g.row.L) c.args.full.now c.loop-group.into (omega arith) c.requires.narrow c.requires.whole (omega arith) c.bytes_fit.ensures c.requires.small c.loop-group.invariant
