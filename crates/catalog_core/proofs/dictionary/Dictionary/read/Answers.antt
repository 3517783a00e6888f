use Rattle.std.proofs.Common.{subst}
use Rattle.catalog_core.specs.Dictionaries.{HasDictionaryFault}
use Rattle.catalog_core.proofs.dictionary.Dictionary.read.Goals as goal

pub returns-in-Err-clause-fault : goal.returns-in-Err-clause-fault
returns-in-Err-clause-fault c = λ is. subst (λ bytes. HasDictionaryFault bytes c.in-Err.error) c.as_slice.ensures (c.in-Err.ensures.fault is)
