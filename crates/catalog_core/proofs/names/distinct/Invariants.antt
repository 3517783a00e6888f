use Rattle.std.proofs.Common.{◌≡◌, ℕ, List, [], map, take, drop}
use Rattle.std.specs.List.{list_any}
use Rattle.std.specs.Str.{bytes_eq}
use Rattle.catalog_core.specs.Schemas.{first_repeated}
use Rattle.catalog_core.specs.SeenNames.{is_seen}
use Rattle.catalog_core.proofs.names.distinct.Given as goal

-- the names so far are those that were seen, and none of them stands twice
abbrev pub invariant-loop-place : goal.invariant-loop-place
invariant-loop-place l =
    let names = map (λ name. name.now) l.names in
    record {
      seen : (text : List ℕ) → is_seen l.seen text ≡ list_any (λ other. bytes_eq other.now text) (take l.place l.names);
      so_far : first_repeated [] names ≡ first_repeated (take l.place names) (drop l.place names);
    }
