use Rattle.std.proofs.Common.{◌∙◌}
use Rattle.catalog_core.proofs.DictionarySearchLemmas.{start_lies, text_at_place}
use Rattle.catalog_core.proofs.dictionary_search.text_of.Goals as goal

pub text_from-requires : goal.text_from-requires
text_from-requires c = start_lies c.args.bytes.now c.args.starts.now c.args.place c.requires.indexed c.requires.within

pub returns : goal.returns
returns c = c.text_from.ensures ∙ text_at_place c.args.bytes.now c.args.starts.now c.args.place c.requires.within
