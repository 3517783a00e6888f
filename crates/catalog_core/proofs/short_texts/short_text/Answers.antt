use Rattle.std.proofs.Common.{refl, take, drop, arith}
use Rattle.catalog_core.proofs.ShortTextLemmas.{begins_short}
use Rattle.catalog_core.proofs.short_texts.short_text.Goals as goal

pub returns : goal.returns
returns c =
    begins_short c.args.bytes.now (take 16 (drop 4 c.args.bytes.now)) c.first_length-len.result c.number_in.result (λ k. (c.type_inv.bytes k).fits) c.first_length-len.ensures (omega (arith, c.if-bytes.false))
    c.if-len-gt-SHORT.false refl c.if-not-is_ascii.ensures.cases c.number_in.ensures
