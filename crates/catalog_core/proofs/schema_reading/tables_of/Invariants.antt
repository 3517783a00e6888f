use Rattle.std.proofs.Common.{◌≡◌, ◌+◌, map, drop}
use Rattle.toml.specs.View.{view}
use Rattle.catalog_core.specs.Schemas.{tables_of, table_of}
use Rattle.definitions_outcomes.specs.Computed.{walk}
use Rattle.definitions_outcomes.proofs.ComputedLaws.{after}
use Rattle.catalog_core.proofs.schema_reading.tables_of.Given as goal

-- the tables so far, and then what the walk over the rest gives
abbrev pub invariant-loop-value : goal.invariant-loop-value
invariant-loop-value l = record {
  place : l.number ≡ l.value-index + 1;
  walked : tables_of (map view l.values) ≡ after l.tables.items (walk table_of l.number (drop l.value-index (map view l.values)));
}
