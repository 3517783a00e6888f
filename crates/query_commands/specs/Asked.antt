-- What is known of a query that was read.
use Rattle.std.specs.Prelude.{◌≤◌}
use Rattle.definitions_queries.specs.Queries.{Query}
use Rattle.definitions_queries.specs.Entries.{entries, max_entries}
use Rattle.definitions_queries.specs.Grammar.{IsSpelled}

-- it is spelled by tokens, and has few entries
pub record IsAsked (query : Query) : Type 0 where
  pub spelled : IsSpelled query
  pub few : entries query ≤ max_entries
