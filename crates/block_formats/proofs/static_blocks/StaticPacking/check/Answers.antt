use Rattle.std.proofs.Common.{take, refl, arith}
use Rattle.std.proofs.lemmas.List.{length-take}
use Rattle.definitions_blocks.proofs.PackedLaws.{packed_values, IsPacked-values}
use Rattle.definitions_blocks.proofs.WordLaws.{AreOctets-take}
use Rattle.block_formats.proofs.static_blocks.StaticPacking.check.Goals as goal

pub returns : goal.returns
returns g c =
    let bytes = c.args.bytes.now in
    let width = c.args.width in
    let count = c.packed_len-2.result in
    let front = take count bytes in
    record {
      values = packed_values width front;
      encoded = IsPacked-values width front (omega arith) (omega (arith, length-take count bytes)) (AreOctets-take count bytes (λ k. (c.type_inv.bytes k).fits));
      headed = refl;
      within = omega arith;
    }
