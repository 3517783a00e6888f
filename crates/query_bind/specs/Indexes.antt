-- The columns of a schema by name.
use Rattle.std.specs.Prelude.{◌≡◌, ℕ, List}
use Rattle.catalog_core.specs.LawfulSchemas.{IsSchema}
use Rattle.catalog_core.specs.declared.schemas.Schema.{Schema}
use Rattle.catalog_core.specs.declared.columns.ColumnId.{ColumnId}
use Rattle.query_bind.specs.NameMaps.{value_of}
use Rattle.query_bind.specs.Binding.{column_named}

-- the schema is lawful, and each name has the column that it names there
pub record IsIndex (schema : Schema) (names : List (List ℕ × ColumnId)) : Type 0 where
  pub lawful : IsSchema schema
  pub columns : (name : List ℕ) → value_of names name ≡ column_named schema name
