use Rattle.std.proofs.lemmas.List.Filters.{dedup_is}
use Rattle.query_bind.specs.Needed.{is_column}
use Rattle.query_bind.proofs.needs.drop_repeated.Goals as goal

pub returns : goal.returns
returns c = dedup_is is_column c.args.columns.now.items c.dedup.new.self.items c.dedup.ensures.filtered
