-- The definitions at a worked query:
--     select d_year, sum(lo_quantity) as total from lineorder, date
--     where d_datekey = lo_orderdate and d_year between 1992 and 1993 group by d_year order by total desc
use Rattle.std.proofs.Common.{◌≡◌, ℕ, refl, true, false, List, [], ◌∷◌, Some, None, Ok, Err}
use Rattle.std.specs.Prelude.{codes}
use Rattle.block_core.specs.declared.formats.Format.TheVariants.{Plain}
use Rattle.block_core.specs.declared.formats.FormatChoice.TheVariants.{Fixed}
use Rattle.definitions_queries.specs.Queries.{Word, plain, QueryItem, column, sum, of_number, between, QueryCondition, join, compare, Query}
use Rattle.catalog_core.specs.declared.schemas.Role.TheVariants.{Fact, Dimension}
use Rattle.catalog_core.specs.declared.schemas.Kind.TheVariants as kind
use Rattle.catalog_core.specs.declared.schemas.ColumnDef.{ColumnDef}
use Rattle.catalog_core.specs.declared.schemas.TableDef.{TableDef}
use Rattle.catalog_core.specs.declared.schemas.Schema.{Schema}
use Rattle.catalog_core.specs.declared.columns.ColumnId.{ColumnId}
use Rattle.query_bind.specs.Binding.{Binding, bound_of}
use Rattle.query_bind.specs.Needed.{needs_in}
use Rattle.query_bind.specs.declared.bounds.SumOf.TheVariants as operand
use Rattle.query_bind.specs.declared.bounds.Item.TheVariants as item
use Rattle.query_bind.specs.declared.errors.BindError.TheVariants as refusal

-- ---- a schema of two tables

abbrev number_column : List ℕ → ColumnDef
number_column name = record { name = name; kind = kind.Number; format = Fixed Plain }

abbrev lineorder : TableDef
lineorder = record {
  name = codes "lineorder";
  role = Fact;
  key = None;
  repeats = false;
  separator = 44;
  header = false;
  trailing = false;
  columns = number_column (codes "lo_orderdate") ∷ number_column (codes "lo_quantity") ∷ [];
}

abbrev date : TableDef
date = record {
  name = codes "date";
  role = Dimension;
  key = Some 1;
  repeats = false;
  separator = 44;
  header = false;
  trailing = false;
  columns = number_column (codes "d_year") ∷ number_column (codes "d_datekey") ∷ [];
}

abbrev schema : Schema
schema = record { tables = lineorder ∷ date ∷ [] }

abbrev id : ℕ → ℕ → ColumnId
id table place = record { table = table; column = place }

-- ---- the query

abbrev word : ℕ → List ℕ → Word
word at text = record { at = at; text = text }

abbrev items : List QueryItem
items = column (word 7 (codes "d_year")) ∷ sum plain (word 19 (codes "lo_quantity")) None (Some (word 35 (codes "total"))) ∷ []

abbrev tables : List Word
tables = word 46 (codes "lineorder") ∷ word 57 (codes "date") ∷ []

abbrev joined : QueryCondition
joined = join (word 68 (codes "d_datekey")) (word 80 (codes "lo_orderdate"))

abbrev years : QueryCondition
years = compare (word 97 (codes "d_year")) (between (of_number 1992) (of_number 1993)) (112 ∷ 121 ∷ [])

abbrev whole : Query
whole = record {
  items = items;
  tables = tables;
  conditions = joined ∷ years ∷ [];
  groups = word 135 (codes "d_year") ∷ [];
  order = record { word = word 151 (codes "total"); falling = true } ∷ [];
}

abbrev binding : Binding
binding = record {
  fact = 0;
  dimensions = 1 ∷ [];
  joins = record { fact_column = id 0 0; key = id 1 1 } ∷ [];
  tests = record { column = id 1 0; test = between (of_number 1992) (of_number 1993) } ∷ [];
  groups = id 1 0 ∷ [];
  sums = operand.Plain (id 0 1) ∷ [];
  items = item.Group 0 ∷ item.Sum 0 ∷ [];
  order = record { item = item.Sum 0; falling = true } ∷ [];
}

binds : bound_of schema whole ≡ Ok binding
binds = refl

-- its tables and columns, each once and in the schema's order
needs : needs_in schema binding ≡ record { tables = 0 ∷ 1 ∷ []; columns = id 0 0 ∷ id 0 1 ∷ id 1 0 ∷ id 1 1 ∷ [] }
needs = refl

-- ---- refusals

abbrev with_conditions : List QueryCondition → Query
with_conditions conditions = record { items = items; tables = tables; conditions = conditions; groups = word 135 (codes "d_year") ∷ []; order = [] }

join_missing : bound_of schema (with_conditions (years ∷ [])) ≡ Err (refusal.JoinMissing 57)
join_missing = refl

join_twice : bound_of schema (with_conditions (joined ∷ joined ∷ [])) ≡ Err (refusal.JoinTwice 68)
join_twice = refl

-- select sum(lo_quantity) from date
no_fact_table : bound_of schema (record { items = sum plain (word 11 (codes "lo_quantity")) None None ∷ []; tables = word 29 (codes "date") ∷ []; conditions = []; groups = []; order = [] })
    ≡ Err (refusal.FactCount 29)
no_fact_table = refl

-- select sum(lo_quantity) from lineorder, lineorder
table_twice : bound_of schema (record { items = sum plain (word 11 (codes "lo_quantity")) None None ∷ []; tables = word 29 (codes "lineorder") ∷ word 40 (codes "lineorder") ∷ []; conditions = []; groups = []; order = [] })
    ≡ Err (refusal.NameTwice 40)
table_twice = refl
