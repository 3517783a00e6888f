use Rattle.std.proofs.Common.{◌∙◌, IsUtf8, subst, sym, arith}
use Rattle.catalog_core.proofs.DictionaryReadLemmas.{cut_short, no_text, begins_with_entry}
use Rattle.catalog_core.proofs.dictionary_reading.first_text.Goals as goal

pub returns-then-bytes-lt-LENGTH_LEN : goal.returns-then-bytes-lt-LENGTH_LEN
returns-then-bytes-lt-LENGTH_LEN c = cut_short c.args.bytes.now c.if-bytes-lt-LENGTH_LEN.true

pub returns-then-length-gt-MAX_TEXT : goal.returns-then-length-gt-MAX_TEXT
returns-then-length-gt-MAX_TEXT c =
    no_text c.args.bytes.now c.first_length-length.result c.first_length-length.ensures (λ text lawful long within is. omega (arith, lawful.short, long, c.if-length-gt-MAX_TEXT.true))

pub returns-then-bytes-length : goal.returns-then-bytes-length
returns-then-bytes-length c =
    no_text c.args.bytes.now c.first_length-length.result c.first_length-length.ensures (λ text lawful long within is. omega (arith, within, c.if-bytes-length.true, c.if-bytes-lt-LENGTH_LEN.false))

pub returns-in-Some : goal.returns-in-Some
returns-in-Some c =
    begins_with_entry c.args.bytes.now c.first_length-length.result c.in-Some.text.now (λ k. (c.type_inv.bytes k).fits) c.first_length-length.ensures (omega (arith, c.if-length-gt-MAX_TEXT.false))
    (omega (arith, c.if-bytes-length.false, c.if-bytes-lt-LENGTH_LEN.false)) (c.in-Some.ensures.0 ∙ c.first_bytes.ensures) (subst IsUtf8 (sym c.in-Some.ensures.0) c.in-Some.ensures.1)

pub returns-in-None : goal.returns-in-None
returns-in-None c =
    no_text c.args.bytes.now c.first_length-length.result c.first_length-length.ensures (λ text lawful long within is. c.in-None.ensures (subst IsUtf8 (sym (c.first_bytes.ensures ∙ is)) lawful.utf8))
