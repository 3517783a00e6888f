-- The tables and columns of a database that a bound query reads.
use Rattle.std.specs.Prelude.{Bool, ◌&&◌, ◌==◌, List, [], ◌∷◌, ◌++◌, filter, map, nat_eq}
use Rattle.std.specs.List.{flat_map, list_any}
use Rattle.catalog_core.specs.Columns.{needs_of_all}
use Rattle.catalog_core.specs.declared.schemas.Schema.{Schema}
use Rattle.catalog_core.specs.declared.columns.ColumnId.{ColumnId}
use Rattle.catalog_core.specs.declared.columns.Needs.{Needs}
use Rattle.query_bind.specs.Binding.{Binding}
use Rattle.query_bind.specs.LawfulBindings.{from_tables, operands}
use Rattle.query_bind.specs.declared.bounds.JoinTo.{JoinTo}

abbrev pub join_columns : JoinTo → List ColumnId
join_columns to = to.fact_column ∷ to.key ∷ []

-- the columns of joins, tests, groups and sums
abbrev pub named_columns : Binding → List ColumnId
named_columns binding =
    flat_map join_columns binding.joins ++ map (λ tested. tested.column) binding.tests ++ binding.groups ++ flat_map operands binding.sums

abbrev pub is_column : ColumnId → ColumnId → Bool
is_column id other = id.table == other.table && id.column == other.column

-- the tables of FROM and the columns that are named, in the schema's order
abbrev pub needs_in : Schema → Binding → Needs
needs_in schema binding = record {
  tables = filter (λ table. list_any (nat_eq table) (from_tables binding)) (needs_of_all schema).tables;
  columns = filter (λ id. list_any (is_column id) (named_columns binding)) (needs_of_all schema).columns;
}
