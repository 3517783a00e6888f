use Rattle.catalog_core.proofs.TextLemmas.{stands_to}
use Rattle.catalog_core.proofs.dictionary_search.order_of.Goals as goal

pub returns : goal.returns
returns c = stands_to c.args.text.now c.args.other.now c.cmp.result c.cmp.ensures
