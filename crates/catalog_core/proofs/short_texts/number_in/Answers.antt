use Rattle.std.proofs.Common.{◌∙◌, ap}
use Rattle.std.specs.Int.{from_be_bytes, w128}
use Rattle.catalog_core.proofs.ShortTextLemmas.{shifted}
use Rattle.catalog_core.proofs.short_texts.number_in.Goals as goal

pub returns : goal.returns
returns c =
    shifted c.args.count c.from_be_bytes.result c.args.front.now c.requires.0 (λ k. (c.type_inv.front k).fits) c.requires.2 (c.from_be_bytes.ensures ∙ ap (from_be_bytes w128) c.copy_from_slice.ensures.after)
