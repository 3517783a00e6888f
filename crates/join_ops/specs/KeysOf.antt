-- The keys of a map by their places, whichever way they are kept.
use Rattle.std.specs.Prelude.{ℕ, List}
use Rattle.join_ops.specs.declared.key_maps.Table.{Table}
use Rattle.join_ops.specs.declared.key_maps.Table.TheVariants.{Direct, Chained}

abbrev pub keys_by_place : Table → List ℕ
keys_by_place (Direct keys) = keys
keys_by_place (Chained keys) = keys
