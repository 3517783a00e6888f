use Rattle.std.proofs.Common.{◌-◌, drop, length, arith}
use Rattle.std.proofs.lemmas.List.{take_all, length-drop}
use Rattle.block_formats.proofs.BlockLemmas.{dynamic_decoded}
use Rattle.block_formats.proofs.dynamic_blocks.DynamicPacking.decode.Goals as goal

pub returns : goal.returns
returns g c =
    let bytes = c.args.bytes.now in
    dynamic_decoded c.args.width c.requires.values c.unpack.new.into bytes _ c.requires.encoded c.requires.headed (take_all (length bytes - 1) (drop 1 bytes) (omega (arith, length-drop 1 bytes))) c.unpack.ensures
