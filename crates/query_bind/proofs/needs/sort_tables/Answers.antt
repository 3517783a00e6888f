use Rattle.std.proofs.Common.{nat_eq}
use Rattle.std.proofs.lemmas.List.Filters.{dedup_is}
use Rattle.query_bind.proofs.NeedsLemmas.{tables_once}
use Rattle.query_bind.proofs.needs.sort_tables.Goals as goal

pub returns : goal.returns
returns c =
    let sorted = c.sort_unstable.new.self.items in
    tables_once c.args.tables.now.items sorted c.dedup.new.self.items c.sort_unstable.ensures.permutation c.sort_unstable.ensures.sorted
    (dedup_is nat_eq sorted c.dedup.new.self.items c.dedup.ensures.filtered)
