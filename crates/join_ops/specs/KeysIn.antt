-- The keys of a set, whichever way they are kept.
use Rattle.std.specs.Prelude.{ℕ, List}
use Rattle.join_ops.specs.declared.key_sets.Keys.{Keys}
use Rattle.join_ops.specs.declared.key_sets.Keys.TheVariants.{Dense, Chained}

abbrev pub keys_in : Keys → List ℕ
keys_in (Dense set) = set.keys
keys_in (Chained set) = set.keys
