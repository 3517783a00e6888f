use Rattle.std.proofs.Common.{◌≡◌, ◌+◌, length, take, ap, ◌∙◌, arith, length-append}
use Rattle.catalog_core.specs.Dictionaries.{length_bytes, entry_of, entries_of}
use Rattle.catalog_core.proofs.DictionaryFileLemmas.{length-length_bytes}
use Rattle.catalog_core.proofs.DictionaryMakingLemmas.{text_lawful, entries_more}
use Rattle.catalog_core.proofs.dictionary_making.entries_len.Goals as goal

pub loop-text-preserved : goal.loop-text-preserved
loop-text-preserved c =
    let texts = c.args.texts.now in
    let text = c.text-item.result in
    let i = c.loop-text.text-index in
    let lawful = text_lawful texts i text c.requires.lawful c.loop-text-test.true c.text-item.is in
    let more : length (entries_of (take (i + 1) texts)) ≡ length (entries_of (take i texts)) + (4 + length text) =
    ap length (entries_more texts i text c.loop-text-test.true c.text-item.is) ∙ omega (arith, length-append (entries_of (take i texts)) (entry_of text), length-append (length_bytes text) text, length-length_bytes text) in
    let long : length c.as_slice.result.now ≡ length text = ap length c.as_slice.ensures in
    record {
      len_is = omega (arith, more, long, c.loop-text.invariant.len_is);
      bound = omega (arith, long, lawful.short, c.loop-text.invariant.bound);
    }

pub returns-clause-bound : goal.returns-clause-bound
returns-clause-bound c = omega (arith, c.loop-text.invariant.bound, c.requires.few, c.loop-text.auto.text-index-end)
