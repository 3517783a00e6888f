use Rattle.std.proofs.Common.{◌∙◌, sym, refl}
use Rattle.catalog_core.proofs.DictionarySearchLemmas.{text_at_code}
use Rattle.dictionary_encoding.proofs.CodeLemmas.{has_code}
use Rattle.dictionary_encoding.proofs.coding.code_of.Goals as goal

pub unwrap-requires : goal.unwrap-requires
unwrap-requires c =
    let (code, is) = has_code c.args.dictionary.now c.args.text.now c.requires in
    rw (c.code.ensures ∙ is) refl

pub returns : goal.returns
returns c = text_at_code c.args.dictionary.now c.unwrap.result c.args.text.now (sym c.code.ensures ∙ c.unwrap.ensures)
