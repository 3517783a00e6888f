use Rattle.catalog_core.proofs.DictionarySearchLemmas.{codes_are_places, ranks_part_codes}
use Rattle.catalog_core.proofs.dictionary_laws.codes_and_ranks.Goals as goal

pub returns : goal.returns
returns c = record { places = codes_are_places; ranks = ranks_part_codes }
