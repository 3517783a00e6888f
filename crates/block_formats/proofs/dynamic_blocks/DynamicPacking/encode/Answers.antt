use Rattle.std.proofs.Common.{◌≡◌, ◌∷◌, sym, subst, ap, arith}
use Rattle.definitions_blocks.specs.Packed.{IsPacked}
use Rattle.definitions_blocks.specs.Encodings.{IsDynamicBlock, width_of}
use Rattle.definitions_blocks.proofs.DynamicLaws.{IsDynamicBlock-size}
use Rattle.block_formats.proofs.BlockLemmas.{written_behind}
use Rattle.block_formats.proofs.dynamic_blocks.DynamicPacking.encode.Goals as goal

pub returns : goal.returns
returns g c =
    let values = c.args.full.now in
    let width = c.args.width in
    let packed = c.pack.new.into in
    let encoded = c.requires.encoded in
    let head : width ≡ width_of values = c.requires.headed in
    subst (λ l. IsDynamicBlock values l) (sym (written_behind width c.args.into.now packed (omega (arith, IsDynamicBlock-size values encoded.0 encoded.1))))
    (record { full = encoded.1.full; packed = packed; packing = subst (λ w. IsPacked w values packed) head c.pack.ensures; encoded = ap (λ w. w ∷ packed) head })
