use Rattle.catalog_core.proofs.DictionaryLaws.{one_fault, no_fault}
use Rattle.catalog_core.proofs.dictionary_laws.one_dictionary_fault.Goals as goal

pub returns : goal.returns
returns c = record { one = one_fault; none = no_fault }
