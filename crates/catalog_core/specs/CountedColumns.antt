-- The columns of a table by number.
use Rattle.std.specs.Prelude.{ℕ, List, map}
use Rattle.std.specs.List.{range_with_len}
use Rattle.catalog_core.specs.declared.columns.ColumnId.{ColumnId}

-- so many columns of a table, from the first on
abbrev pub counted_columns : ℕ → ℕ → List ColumnId
counted_columns table count = map (λ column. record { table = table; column = column }) (range_with_len 0 count)
