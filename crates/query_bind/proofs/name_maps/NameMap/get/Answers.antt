use Rattle.query_bind.proofs.NameLemmas.{lookup_is}
use Rattle.query_bind.proofs.name_maps.NameMap.get.Goals as goal

pub returns : goal.returns
returns g c = rw (c.copied.ensures, c.get.ensures.value, ← c.self.view_is) (lookup_is c.args.name.now c.self.inside.entries.entries)
