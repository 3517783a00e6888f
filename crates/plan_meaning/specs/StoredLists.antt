-- The data that a plan runs over, and when a condition holds of a row.
use Rattle.std.specs.Prelude.{ℕ, Bool, List, Option, Some, None, slice_index}
use Rattle.definitions_queries.specs.Queries.{Test, of_number}
use Rattle.catalog_core.specs.Texts.{Text}
use Rattle.catalog_core.specs.declared.columns.ColumnId.{ColumnId}
use Rattle.query_bind.specs.Binding.{Tested}
use Rattle.plan_core.specs.Meaning.{meets, code_meets}

-- how many rows each table has, the numbers or codes of each column, and the texts that the codes of a text column stand for
pub record StoredLists : Type 0 where
  pub rows : ℕ → ℕ
  pub values : ColumnId → List ℕ
  pub texts : ColumnId → Option (List Text)

-- the number or code of a column at a row
abbrev pub value_at : StoredLists → ColumnId → ℕ → ℕ
value_at stored column row = slice_index (stored.values column) row

-- whether a number, or the text of a code, meets a test
abbrev pub is_met : Option (List Text) → Test → ℕ → Bool
is_met None test value = meets test (of_number value)
is_met (Some texts) test value = code_meets texts test value

-- whether a column meets a test at a row
abbrev pub accepts : StoredLists → ColumnId → Test → ℕ → Bool
accepts stored column test row = is_met (stored.texts column) test (value_at stored column row)

-- whether a condition holds at a row of its table
abbrev pub holds : StoredLists → Tested → ℕ → Bool
holds stored tested row = accepts stored tested.column tested.test row
