use Rattle.query_bind.proofs.NeedsLemmas.{columns_once}
use Rattle.query_bind.proofs.needs.sort_columns.Goals as goal

pub returns : goal.returns
returns c = columns_once c.args.columns.now.items c.sort.new.columns.items c.drop_repeated.new.columns.items c.sort.ensures.permutation c.sort.ensures.sorted c.drop_repeated.ensures
