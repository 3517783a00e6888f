use Rattle.catalog_core.proofs.DictionaryLaws.{one_dictionary}
use Rattle.catalog_core.proofs.dictionary_laws.one_dictionary.Goals as goal

pub returns : goal.returns
returns c = one_dictionary
