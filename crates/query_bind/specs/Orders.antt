-- Lists in order, with each item once.
use Rattle.std.specs.Prelude.{List}
use Rattle.std.specs.List.{Contains}
use Rattle.std.specs.List.Sorted.{IsStrictlySortedBy}
use Rattle.std.specs.declared.cmp.Ordering.{Ordering}
use Rattle.std.specs.Ordering.{nat_cmp, ordering_then}
use Rattle.catalog_core.specs.declared.columns.ColumnId.{ColumnId}

-- the order of columns in a schema
abbrev pub column_cmp : ColumnId → ColumnId → Ordering
column_cmp id other = ordering_then (nat_cmp id.table other.table) (nat_cmp id.column other.column)

-- the items of a list, each once, in order
pub record AreOnce {X : Type 0} (cmp : X → X → Ordering) (given once : List X) : Type 0 where
  pub rise : IsStrictlySortedBy cmp once
  pub all : (x : X) → Contains given x → Contains once x
  pub only : (x : X) → Contains once x → Contains given x
