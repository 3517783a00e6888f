-- The definitions at worked values: shops with a key and a dictionary, and sales.
use Rattle.std.proofs.Common.{◌≡◌, ℕ, Bool, true, false, List, [], ◌∷◌, Some, None, refl, lit<}
use Rattle.std.specs.Prelude.{codes}
use Rattle.block_core.specs.declared.formats.Format.TheVariants.{Plain}
use Rattle.block_core.specs.declared.formats.FormatChoice.TheVariants.{Fixed}
use Rattle.column_core.specs.Columns.{shape}
use Rattle.catalog_core.specs.Texts.{Text}
use Rattle.catalog_core.specs.declared.columns.ColumnId.{ColumnId}
use Rattle.catalog_core.specs.declared.columns.Needs.{Needs}
use Rattle.catalog_core.specs.declared.schemas.Role.TheVariants.{Fact, Dimension}
use Rattle.catalog_core.specs.declared.schemas.Kind.{Kind}
use Rattle.catalog_core.specs.declared.schemas.Kind.TheVariants.{Number, Text as TextKind}
use Rattle.catalog_core.specs.declared.schemas.ColumnDef.{ColumnDef}
use Rattle.catalog_core.specs.declared.schemas.TableDef.{TableDef}
use Rattle.catalog_core.specs.declared.schemas.Schema.{Schema}
use Rattle.table_core.specs.Tables.{Stored, TableState, nothing_yet, started, placed, emptied, rows_of, slot_at, stored_at, column_of, texts_of, key_of, key_values, are_codes, IsSoundSlot}
use Rattle.table_core.specs.Held.{HasEqualKeys, is_key_needed}

abbrev column : Text → Kind → ColumnDef
column name kind = record { name = name; kind = kind; format = Fixed Plain }

abbrev shops_of : Bool → TableDef
shops_of repeats = record {
  name = codes "shops";
  role = Dimension;
  key = Some 0;
  separator = 44;
  header = false;
  trailing = false;
  repeats = repeats;
  columns = column (codes "id") Number ∷ column (codes "city") TextKind ∷ [];
}

abbrev sales : TableDef
sales = record {
  name = codes "sales";
  role = Fact;
  key = None;
  separator = 44;
  header = false;
  trailing = false;
  repeats = false;
  columns = column (codes "amount") Number ∷ [];
}

abbrev schema : Schema
schema = record { tables = shops_of false ∷ sales ∷ [] }

abbrev at : ℕ → ℕ → ColumnId
at table column = record { table = table; column = column }

abbrev cities : List Text
cities = codes "Bern" ∷ codes "Chur" ∷ []

abbrev ids : Stored
ids = record { column = shape Plain (5 ∷ 7 ∷ 5 ∷ []); texts = None }

abbrev city_codes : Stored
city_codes = record { column = shape Plain (1 ∷ 0 ∷ 1 ∷ []); texts = Some cities }

-- ---- nothing is there yet

abbrev none : List TableState
none = nothing_yet schema

no_rows : rows_of none 0 ≡ None
no_rows = refl

a_free_place : slot_at none (at 0 1) ≡ Some None
a_free_place = refl

-- a table has as many places as its schema's table has columns
no_third_place : slot_at none (at 0 2) ≡ None
no_third_place = refl

no_third_table : slot_at none (at 2 0) ≡ None
no_third_table = refl

a_key : key_of none 0 ≡ Some 0
a_key = refl

no_key : key_of none 1 ≡ None
no_key = refl

-- ---- a table is started

abbrev three : List TableState
three = started none 0 3

three_rows : rows_of three 0 ≡ Some 3
three_rows = refl

-- the row count of the other table is not known for that
not_the_next : rows_of three 1 ≡ None
not_the_next = refl

-- ---- columns are put

abbrev both : List TableState
both = placed (placed three (at 0 0) ids) (at 0 1) city_codes

the_cities : column_of both (at 0 1) ≡ Some (shape Plain (1 ∷ 0 ∷ 1 ∷ []))
the_cities = refl

their_dictionary : texts_of both (at 0 1) ≡ Some cities
their_dictionary = refl

-- a number column has none
no_dictionary : texts_of both (at 0 0) ≡ None
no_dictionary = refl

the_keys : key_values both 0 ≡ Some (5 ∷ 7 ∷ 5 ∷ [])
the_keys = refl

-- the other column is no key
no_keys_yet : key_values (placed three (at 0 1) city_codes) 0 ≡ None
no_keys_yet = refl

-- equal keys need not be neighbours
equal_keys : HasEqualKeys (5 ∷ 7 ∷ 5 ∷ [])
equal_keys = record { row = 0; later = 2; order = lit< tt; within = lit< tt; equal = refl }

-- ---- a column is taken

one_taken : emptied both (at 0 1) ≡ placed three (at 0 0) ids
one_taken = refl

nothing_taken : stored_at (emptied both (at 0 1)) (at 0 1) ≡ None
nothing_taken = refl

-- ---- what is sound

last_code : are_codes (Some cities) (0 ∷ 1 ∷ []) ≡ true
last_code = refl

-- the count is no code
one_too_great : are_codes (Some cities) (0 ∷ 1 ∷ 2 ∷ []) ≡ false
one_too_great = refl

any_numbers : are_codes None (18446744073709551615 ∷ []) ≡ true
any_numbers = refl

sound : IsSoundSlot (Some 3) (Some city_codes)
sound = (refl, refl)

one_row_short : IsSoundSlot (Some 4) (Some city_codes) → ⊥
one_row_short is = cc is.0

not_started : IsSoundSlot None (Some city_codes) → ⊥
not_started is = cc is.0

-- ---- keys that have to differ

abbrev needs_of : List ColumnId → Needs
needs_of columns = record { tables = 0 ∷ []; columns = columns }

needed_key : is_key_needed (shops_of false) (needs_of (at 0 1 ∷ at 0 0 ∷ [])) 0 ≡ true
needed_key = refl

-- a key that is not needed, or may repeat, is not looked at
key_not_needed : is_key_needed (shops_of false) (needs_of (at 0 1 ∷ at 1 0 ∷ [])) 0 ≡ false
key_not_needed = refl

key_may_repeat : is_key_needed (shops_of true) (needs_of (at 0 0 ∷ [])) 0 ≡ false
key_may_repeat = refl
