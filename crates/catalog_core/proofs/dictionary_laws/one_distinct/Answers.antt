use Rattle.catalog_core.proofs.DictionaryLaws.{one_distinct}
use Rattle.catalog_core.proofs.dictionary_laws.one_distinct.Goals as goal

pub returns : goal.returns
returns c = one_distinct
