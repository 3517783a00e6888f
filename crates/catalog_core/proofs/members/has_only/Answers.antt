use Rattle.std.proofs.Common.{map, string_bytes}
use Rattle.std.specs.List.{list_any}
use Rattle.std.specs.Map.{keys_of}
use Rattle.std.specs.Str.{bytes_eq}
use Rattle.std.proofs.lemmas.List.Folds.{list_all-map}
use Rattle.catalog_core.proofs.MemberLemmas.{keys_of-view}
use Rattle.catalog_core.proofs.members.has_only.Goals as goal

pub returns : goal.returns
returns c =
    rw (
      keys_of-view c.args.table.now.entries,
      list_all-map (λ key. list_any (λ word. bytes_eq word key) (map (λ word. word.now) c.args.known.now)) string_bytes (keys_of c.args.table.now.entries),
    )
    c.are_among.ensures
