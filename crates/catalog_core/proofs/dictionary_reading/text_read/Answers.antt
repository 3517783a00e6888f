use Rattle.std.proofs.Common.{◌∙◌, IsUtf8, sym, subst, arith}
use Rattle.catalog_core.specs.DictionaryReading.{BeginsWithEntry}
use Rattle.catalog_core.proofs.DictionaryReadLemmas.{text_is, said_within}
use Rattle.catalog_core.proofs.dictionary_reading.text_read.Goals as goal

pub first_length-len-requires : goal.first_length-len-requires
first_length-len-requires c = omega (arith, c.requires.1.within)

pub first_bytes-text-requires : goal.first_bytes-text-requires
first_bytes-text-requires c = said_within c.requires.0 c.args.bytes.now c.first_length-len.result c.requires.1 c.first_length-len.ensures

pub from_utf8_unchecked-requires : goal.from_utf8_unchecked-requires
from_utf8_unchecked-requires c =
    let same = c.first_bytes-text.ensures ∙ text_is c.requires.0 c.args.bytes.now c.first_length-len.result c.requires.1 c.first_length-len.ensures in
    subst IsUtf8 (sym same) c.requires.1.lawful.utf8

pub returns : goal.returns
returns c =
    let same = c.first_bytes-text.ensures ∙ text_is c.requires.0 c.args.bytes.now c.first_length-len.result c.requires.1 c.first_length-len.ensures in
    subst (λ text. BeginsWithEntry text c.args.bytes.now) (sym (c.from_utf8_unchecked.ensures ∙ same)) c.requires.1
