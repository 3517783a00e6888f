-- The tables that an opening names.
use Rattle.std.proofs.Common.{◌≡◌, ◌<◌, ℕ, zero, suc, List, [], ◌∷◌, Option, Some, length, get_or, refl, sym, arith}
use Rattle.std.proofs.lemmas.Option.{slice_get-get_or}
use Rattle.std.specs.Prelude.{option_map, unwrap_or, slice_get, slice_index_or}
use Rattle.std.specs.List.{AllByRecursion}
use Rattle.catalog_core.specs.Columns.{IsNeeds}
use Rattle.catalog_core.specs.declared.columns.Needs.{Needs}
use Rattle.catalog_core.specs.declared.schemas.Schema.{Schema}
use Rattle.catalog_core.specs.declared.schemas.TableDef.{TableDef}
use Rattle.database_core.specs.Opens.{Names}
use Rattle.database_core.specs.declared.errors.OpenError.{OpenError}
use Rattle.database_core.specs.declared.errors.OpenError.TheVariants as error
use Rattle.table_commands.specs.Databases.{table_name}
use Rattle.table_commands.specs.ErrorStops.{NamesWithin}

-- a needed table is one of the schema's
one_within : (count : ℕ) (tables : List ℕ) (place table : ℕ) → AllByRecursion (λ one. one < count) tables → place < length tables → table ≡ get_or tables place table → table < count
one_within count [] place table all within is = absurd (omega (arith, within))
one_within count (first ∷ rest) zero table all within is = omega (arith, all.0, is)
one_within count (first ∷ rest) (suc place) table all within is = one_within count rest place table all.1 (omega (arith, within)) is

-- an error of the opening names a table of the schema
pub names_within : (schema : Schema) (needs : Needs) (given : OpenError) → IsNeeds schema needs → Names needs given → NamesWithin (length schema.tables) given
names_within schema needs error.Store ordered names = names
names_within schema needs (error.TooLong file) ordered names = names
names_within schema needs (error.NoFile file) ordered names = names
names_within schema needs (error.BadNow table) ordered names = one_within (length schema.tables) needs.tables names.0 table ordered.tables names.1 (sym names.2)
names_within schema needs (error.Column file fault) ordered names = names
names_within schema needs (error.Length file) ordered names = names
names_within schema needs (error.Dict file fault) ordered names = names
names_within schema needs (error.BadCode file) ordered names = names
names_within schema needs (error.RepeatedKey table) ordered names = one_within (length schema.tables) needs.tables names.0 table ordered.tables names.1 (sym names.2)
names_within schema needs error.Memory ordered names = names

-- the name of the table at a place
name_at : (found : Option TableDef) (one : TableDef) → found ≡ Some one → one.name ≡ unwrap_or (option_map (λ table. table.name) found) []
name_at found one is = rw is refl

pub table_name_at : (schema : Schema) (table : ℕ) (other : TableDef) → table < length schema.tables → (slice_index_or schema.tables table other).name ≡ table_name schema table
table_name_at schema table other within = name_at (slice_get schema.tables table) (get_or schema.tables table other) (slice_get-get_or schema.tables table other within)
