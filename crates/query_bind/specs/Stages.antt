-- The later steps of a binding, grouped as the code does them.
use Rattle.std.specs.Prelude.{ℕ, List, map, Result, Ok}
use Rattle.definitions_outcomes.specs.Computed.{bind}
use Rattle.definitions_queries.specs.Queries.{Query}
use Rattle.catalog_core.specs.declared.schemas.Schema.{Schema}
use Rattle.catalog_core.specs.declared.columns.ColumnId.{ColumnId}
use Rattle.query_bind.specs.Binding.{Conditions, Binding, column_of, mentioned, are_of_from, conditions_of, joins_of, groups_of, items_of, order_of, dimensions_of}
use Rattle.query_bind.specs.declared.bounds.JoinTo.{JoinTo}
use Rattle.query_bind.specs.declared.bounds.SumOf.{SumOf}
use Rattle.query_bind.specs.declared.bounds.Item.{Item}
use Rattle.query_bind.specs.declared.bounds.OrderKey.{OrderKey}
use Rattle.query_bind.specs.declared.errors.BindError.{BindError}
use Rattle.query_bind.specs.declared.binding.Listed as code

-- what GROUP BY, SELECT and ORDER BY say
pub record Listed : Type 0 where
  pub groups : List ColumnId
  pub sums : List SumOf
  pub items : List Item
  pub order : List OrderKey

abbrev pub listed_view : code.Listed → Listed
listed_view listed = record { groups = listed.groups.items; sums = listed.sums.items; items = listed.items.items; order = listed.order.items }

-- steps 6 and 7: the names of GROUP BY, and then the items of SELECT and the names of ORDER BY
abbrev pub listed_among : Schema → Query → List (List ℕ × ℕ) → Result Listed BindError
listed_among schema query groups =
    bind (items_of schema groups query.items) (λ selected.
    bind (order_of groups selected.aliases query.order) (λ order.
    Ok (record { groups = map (column_of schema) query.groups; sums = selected.sums; items = selected.items; order = order })))

abbrev pub listed_of : Schema → Query → Result Listed BindError
listed_of schema query = bind (groups_of query.groups) (listed_among schema query)

abbrev pub binding_of : List ℕ → ℕ → Conditions → List JoinTo → Listed → Binding
binding_of tables fact conditions joins listed = record {
  fact = fact;
  dimensions = dimensions_of fact tables;
  joins = joins;
  tests = conditions.tests;
  groups = listed.groups;
  sums = listed.sums;
  items = listed.items;
  order = listed.order;
}

-- steps 3 to 7, once the tables of FROM are known
abbrev pub bound_in : Schema → Query → List ℕ → ℕ → Result Binding BindError
bound_in schema query tables fact =
    bind (are_of_from schema tables (mentioned query)) (λ _.
    bind (conditions_of schema fact query.conditions) (λ conditions.
    bind (joins_of fact conditions.joins query.tables tables) (λ joins.
    bind (listed_of schema query) (λ listed.
    Ok (binding_of tables fact conditions joins listed)))))
