use Rattle.definitions_queries.specs.Grammar.{Spells, SpellsAll}
use Rattle.query_text.specs.Reading.{query_at, queries_at}
use Rattle.query_text.proofs.OutcomeLaws.{reads-query, reads-queries, one_outcome}
use Rattle.query_text.proofs.laws.one_outcome.Goals as goal

pub returns-clause-query : goal.returns-clause-query
returns-clause-query c = one_outcome Spells query_at reads-query

pub returns-clause-queries : goal.returns-clause-queries
returns-clause-queries c = one_outcome SpellsAll queries_at reads-queries
