-- How many entries a query has.
use Rattle.std.specs.Prelude.{ℕ, ◌+◌, List, [], ◌∷◌, length}
use Rattle.definitions_queries.specs.Queries.{QueryCondition, join, compare, Query}

-- a count, summed over a list
abbrev pub total : {A : Type 0} → (A → ℕ) → List A → ℕ
total count [] = 0
total count (a ∷ more) = count a + total count more

-- a condition, and its literals
abbrev pub condition_entries : QueryCondition → ℕ
condition_entries (join left right) = 1
condition_entries (compare word test places) = 1 + length places

-- items, tables, conditions, literals, groups and order keys
abbrev pub entries : Query → ℕ
entries query =
    length query.items + length query.tables + total condition_entries query.conditions + length query.groups + length query.order

-- how many entries a query may have: as many as its text may have bytes
abbrev pub max_entries : ℕ
max_entries = 65536
