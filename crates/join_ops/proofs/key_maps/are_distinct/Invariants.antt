-- the keys so far stand nowhere behind
use Rattle.std.proofs.Common.{◌≢◌, ◌<◌, ℕ, length}
use Rattle.std.specs.Prelude.{slice_index}
use Rattle.join_ops.specs.KeysOf.{keys_by_place}
use Rattle.join_ops.proofs.key_maps.are_distinct.Given as goal

abbrev pub invariant-loop-place : goal.invariant-loop-place
invariant-loop-place l = (a b : ℕ) → a < b → b < length (keys_by_place l.table) → a < l.place → slice_index (keys_by_place l.table) a ≢ slice_index (keys_by_place l.table) b
