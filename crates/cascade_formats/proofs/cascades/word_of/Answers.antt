use Rattle.std.proofs.Common.{take, ap, ◌∙◌}
use Rattle.std.specs.Int.{from_le_bytes, w64}
use Rattle.std.proofs.lemmas.List.{length-take-le}
use Rattle.definitions_blocks.specs.Words.{word_bytes}
use Rattle.definitions_blocks.proofs.WordLaws.{AreOctets-take, word_bytes-from_le_bytes}
use Rattle.cascade_formats.proofs.cascades.word_of.Goals as goal

pub returns : goal.returns
returns c =
    ap word_bytes (c.from_le_bytes.ensures ∙ ap (from_le_bytes w64) c.copy_from_slice.ensures.after)
    ∙ word_bytes-from_le_bytes (take 8 c.args.bytes.now) (length-take-le 8 c.args.bytes.now c.requires) (AreOctets-take 8 c.args.bytes.now (λ k. (c.type_inv.bytes k).fits))
