-- The queries that are built so far, and their texts.
use Rattle.std.specs.Prelude.{ℕ, List, [], ◌∷◌, ◌++◌, Option, Some, None, codes}
use Rattle.stream_core.specs.Names.{IsName}
use Rattle.engine_tool.specs.Tokens.{Token, word, number, symbol, AreTokens}

-- a column's value is from low to high
pub record Condition : Type 0 where
  pub tested : List ℕ
  pub low : ℕ
  pub high : ℕ

-- the sum of one column of a table, over the rows that meet the condition, or over all where there is none
pub record Query : Type 0 where
  pub summed : List ℕ
  pub table : List ℕ
  pub condition : Option Condition

-- `sum ( COLUMN )`, after `select`
abbrev pub item_tokens : List ℕ → List Token
item_tokens summed = word (codes "select") ∷ word (codes "sum") ∷ symbol (codes "(") ∷ word summed ∷ symbol (codes ")") ∷ []

-- `from TABLE`
abbrev pub table_tokens : List ℕ → List Token
table_tokens table = word (codes "from") ∷ word table ∷ []

-- `where COLUMN between LOW and HIGH`
abbrev pub condition_tokens : List ℕ → ℕ → ℕ → List Token
condition_tokens tested low high =
    word (codes "where") ∷ word tested ∷ word (codes "between") ∷ number low ∷ word (codes "and") ∷ number high ∷ []

abbrev pub where_tokens : Option Condition → List Token
where_tokens None = []
where_tokens (Some condition) = condition_tokens condition.tested condition.low condition.high

abbrev pub query_tokens : Query → List Token
query_tokens query = item_tokens query.summed ++ table_tokens query.table ++ where_tokens query.condition

-- a condition tests a column of a lawful name
abbrev pub NamesTested : Option Condition → Type 0
NamesTested None = Unit {0}
NamesTested (Some condition) = IsName condition.tested

-- the text is that of the query
pub record Spells (text : List ℕ) (query : Query) : Type 0 where
  pub tokens : AreTokens text (query_tokens query)
  pub summed : IsName query.summed
  pub table : IsName query.table
  pub tested : NamesTested query.condition

-- how many bytes a query's text has at most
abbrev pub max_query : ℕ
max_query = 65536
