use Rattle.std.proofs.Common.{◌≡◌, ◌+◌, map, drop, length}
use Rattle.toml.specs.View.{view}
use Rattle.catalog_core.specs.Schemas.{columns_of, numbered_column}
use Rattle.definitions_outcomes.specs.Computed.{walk}
use Rattle.definitions_outcomes.proofs.ComputedLaws.{after}
use Rattle.catalog_core.proofs.schema_reading.columns_of.Given as goal

-- the columns so far, and then what the walk over the rest gives
abbrev pub invariant-loop-value : goal.invariant-loop-value
invariant-loop-value l = record {
  place : l.place ≡ l.value-index + 1;
  few : length l.columns.items ≡ l.value-index;
  walked : columns_of l.table (map view l.values) ≡ after l.columns.items (walk (numbered_column l.table) l.place (drop l.value-index (map view l.values)));
}
