use Rattle.catalog_core.specs.DictionarySearch.{PartsAt}
use Rattle.catalog_core.proofs.DictionarySearchLemmas.{rank_of_parts}
use Rattle.catalog_core.proofs.dictionary.Dictionary.rank.Goals as goal

pub returns : goal.returns
returns c =
    let parts : PartsAt c.args.through c.args.text.now c.args.self.now c.place_in.result = rw (← c.self.view_is, ← c.as_slice.ensures, ← c.as_slice-2.ensures.value) c.place_in.ensures in
    rank_of_parts c.args.through c.args.text.now c.args.self.now c.place_in.result parts
