-- What changes of tables as row counts and columns come, and tables that hold the same.
use Rattle.std.proofs.Common.{◌≡◌, ◌≢◌, ◌<◌, ℕ, zero, suc, List, [], ◌∷◌, map, length, Option, Some, None, refl, sym, ap, ap₂, ◌∙◌, inl, inr, length-set, arith}
use Rattle.std.proofs.lemmas.Bool.{cases_eq}
use Rattle.std.proofs.lemmas.List.{length-map}
use Rattle.std.proofs.lemmas.Option.{slice_get_within, slice_get-get_or}
use Rattle.std.specs.Prelude.{slice_get, option_map, get_or}
use Rattle.std.specs.List.{slice_set}
use Rattle.definitions_outcomes.specs.Computed.{and_then}
use Rattle.catalog_core.specs.Columns.{table_at, column_at}
use Rattle.catalog_core.specs.declared.columns.ColumnId.{ColumnId}
use Rattle.catalog_core.specs.declared.schemas.ColumnDef.{ColumnDef}
use Rattle.catalog_core.specs.declared.schemas.TableDef.{TableDef}
use Rattle.catalog_core.specs.declared.schemas.Schema.{Schema}
use Rattle.table_core.specs.Tables.{Stored, TableState, state_of, nothing_yet, map_at, with_rows, with_slot, started, placed, rows_of, slot_at, stored_at, key_of, key_values, StartsOnly, PutsOnly}
use Rattle.table_core.specs.Held.{outline_of, outline_in, Outline}

-- the item at a place is changed, and no other
map_at-other : {A : Type 0} (change : A → A) (items : List A) (place other : ℕ) → other ≢ place → slice_get (map_at change items place) other ≡ slice_get items other
map_at-other change [] place other apart = refl
map_at-other change (item ∷ items) zero zero apart = absurd (apart refl)
map_at-other change (item ∷ items) zero (suc other) apart = refl
map_at-other change (item ∷ items) (suc place) zero apart = refl
map_at-other change (item ∷ items) (suc place) (suc other) apart = map_at-other change items place other (λ e. apart (ap suc e))

-- what the change leaves of each item stays
map_at-map : {A B : Type 0} (change : A → A) (see : A → B) → ((item : A) → see (change item) ≡ see item) → (items : List A) (place : ℕ) → map see (map_at change items place) ≡ map see items
map_at-map change see keeps [] place = refl
map_at-map change see keeps (item ∷ items) zero = ap (λ x. x ∷ map see items) (keeps item)
map_at-map change see keeps (item ∷ items) (suc place) = ap (λ xs. see item ∷ xs) (map_at-map change see keeps items place)

kept_at : {A B : Type 0} (change : A → A) (see : A → Option B) → ((item : A) → see (change item) ≡ see item) → (items : List A) (place other : ℕ)
    → and_then (slice_get (map_at change items place) other) see ≡ and_then (slice_get items other) see
kept_at change see keeps [] place other = refl
kept_at change see keeps (item ∷ items) zero zero = keeps item
kept_at change see keeps (item ∷ items) zero (suc other) = refl
kept_at change see keeps (item ∷ items) (suc place) zero = refl
kept_at change see keeps (item ∷ items) (suc place) (suc other) = kept_at change see keeps items place other

set-same : {A : Type 0} (items : List A) (place : ℕ) (item old : A) → slice_get items place ≡ Some old → slice_get (slice_set items place item) place ≡ Some item
set-same [] place item old there = absurd (cc there)
set-same (first ∷ items) zero item old there = refl
set-same (first ∷ items) (suc place) item old there = set-same items place item old there

set-other : {A : Type 0} (items : List A) (place other : ℕ) (item : A) → other ≢ place → slice_get (slice_set items place item) other ≡ slice_get items other
set-other [] place other item apart = refl
set-other (first ∷ items) zero zero item apart = absurd (apart refl)
set-other (first ∷ items) zero (suc other) item apart = refl
set-other (first ∷ items) (suc place) zero item apart = refl
set-other (first ∷ items) (suc place) (suc other) item apart = set-other items place other item (λ e. apart (ap suc e))

-- a table's row count comes, and nothing else
known_at : (rows : ℕ) (tables : List TableState) (table : ℕ) → table < length tables → rows_of (started tables table rows) table ≡ Some rows
known_at rows [] table within = absurd (omega arith)
known_at rows (first ∷ tables) zero within = refl
known_at rows (first ∷ tables) (suc table) within = known_at rows tables table (omega arith)

pub started_only : (tables : List TableState) (table rows : ℕ) → table < length tables → StartsOnly table rows tables (started tables table rows)
started_only tables table rows within = record {
  known = known_at rows tables table within;
  other_rows = λ other apart. ap (λ found. and_then found (λ one. one.rows)) (map_at-other (with_rows rows) tables table other apart);
  keys = λ other. kept_at (with_rows rows) (λ one. one.key) (λ one. refl) tables table other;
  slots = λ id. kept_at (with_rows rows) (λ one. slice_get one.columns id.column) (λ one. refl) tables table id.table;
}

pub started-outlines : (tables : List TableState) (table rows : ℕ) → map outline_of (started tables table rows) ≡ map outline_of tables
started-outlines tables table rows = map_at-map (with_rows rows) outline_of (λ one. refl) tables table

-- a column comes, and nothing else
there_at : (tables : List TableState) (table column : ℕ) (slot old : Option Stored) → and_then (slice_get tables table) (λ one. slice_get one.columns column) ≡ Some old
    → and_then (slice_get (map_at (with_slot column slot) tables table) table) (λ one. slice_get one.columns column) ≡ Some slot
there_at [] table column slot old there = absurd (cc there)
there_at (first ∷ tables) zero column slot old there = set-same first.columns column slot old there
there_at (first ∷ tables) (suc table) column slot old there = there_at tables table column slot old there

abbrev pub id_of : ℕ → ℕ → ColumnId
id_of table column = record { table = table; column = column }

pub same_ids : (id other : ColumnId) → id.table ≡ other.table → id.column ≡ other.column → id ≡ other
same_ids id other tables columns = ap₂ id_of tables columns

other_slot : (tables : List TableState) (id : ColumnId) (slot : Option Stored) (other : ColumnId) → other ≢ id
    → slot_at (map_at (with_slot id.column slot) tables id.table) other ≡ slot_at tables other
other_slot tables id slot other apart = elim (cases_eq other.column id.column) [
  | inl columns ↦ elim (cases_eq other.table id.table) [
    | inl same ↦ absurd (apart (same_ids other id same columns))
    | inr differ ↦ ap (λ found. and_then found (λ one. slice_get one.columns other.column)) (map_at-other (with_slot id.column slot) tables id.table other.table differ)
  ]
  | inr differ ↦ kept_at (with_slot id.column slot) (λ one. slice_get one.columns other.column) (λ one. set-other one.columns id.column other.column slot differ) tables id.table other.table
]

pub placed_only : (tables : List TableState) (id : ColumnId) (stored : Stored) (old : Option Stored) → slot_at tables id ≡ Some old → PutsOnly id (Some stored) tables (placed tables id stored)
placed_only tables id stored old there = record {
  there = there_at tables id.table id.column (Some stored) old there;
  others = λ other apart. other_slot tables id (Some stored) other apart;
  keys = λ table. kept_at (with_slot id.column (Some stored)) (λ one. one.key) (λ one. refl) tables id.table table;
  rows = λ table. kept_at (with_slot id.column (Some stored)) (λ one. one.rows) (λ one. refl) tables id.table table;
}

pub placed-outlines : (tables : List TableState) (id : ColumnId) (stored : Stored) → map outline_of (placed tables id stored) ≡ map outline_of tables
placed-outlines tables id stored =
    let outline : Option ℕ → ℕ → Outline = λ key columns. record { key = key; columns = columns } in
    map_at-map (with_slot id.column (Some stored)) outline_of (λ one. ap (outline one.key) (length-set one.columns id.column (Some stored))) tables id.table

-- tables with the outlines of a schema have a place for each of its columns
slot_from : (tables : List TableState) (definitions : List TableDef) (table column : ℕ) (definition : ColumnDef) → map outline_of tables ≡ map outline_in definitions
    → and_then (slice_get definitions table) (λ one. slice_get one.columns column) ≡ Some definition
    → (slot : Option Stored) × (and_then (slice_get tables table) (λ one. slice_get one.columns column) ≡ Some slot)
slot_from tables [] table column definition same there = absurd (cc there)
slot_from [] (first ∷ definitions) table column definition same there = absurd (cc same)
slot_from (one ∷ tables) (first ∷ definitions) zero column definition same there =
    let heads : outline_of one ≡ outline_in first = cc same in
    let many : length one.columns ≡ length first.columns = ap (λ (o : Outline). o.columns) heads in
    let within : column < length first.columns = slice_get_within first.columns column definition there in
    (get_or one.columns column None, slice_get-get_or one.columns column None (omega (arith, many, within)))
slot_from (one ∷ tables) (first ∷ definitions) (suc table) column definition same there =
    let rest : map outline_of tables ≡ map outline_in definitions = cc same in
    slot_from tables definitions table column definition rest there

pub has_slot : (schema : Schema) (tables : List TableState) (id : ColumnId) (definition : ColumnDef) → map outline_of tables ≡ map outline_in schema.tables → column_at schema id ≡ Some definition
    → (slot : Option Stored) × (slot_at tables id ≡ Some slot)
has_slot schema tables id definition same there = slot_from tables schema.tables id.table id.column definition same there

pub same_count : (schema : Schema) (tables : List TableState) → map outline_of tables ≡ map outline_in schema.tables → length tables ≡ length schema.tables
same_count schema tables same = sym (length-map tables outline_of) ∙ ap (λ (l : List Outline). length l) same ∙ length-map schema.tables outline_in

-- keys go by the outlines
key_seen : {A : Type 0} (see : A → Outline) (items : List A) (place : ℕ) → and_then (slice_get (map see items) place) (λ outline. outline.key) ≡ and_then (slice_get items place) (λ one. (see one).key)
key_seen see [] place = refl
key_seen see (item ∷ items) zero = refl
key_seen see (item ∷ items) (suc place) = key_seen see items place

pub same_keys : (tables others : List TableState) → map outline_of tables ≡ map outline_of others → (table : ℕ) → key_of tables table ≡ key_of others table
same_keys tables others same table =
    sym (key_seen outline_of tables table) ∙ ap (λ (l : List Outline). and_then (slice_get l table) (λ outline. outline.key)) same ∙ key_seen outline_of others table

pub schema_key : (schema : Schema) (tables : List TableState) → map outline_of tables ≡ map outline_in schema.tables → (table : ℕ) → key_of tables table ≡ and_then (table_at schema table) (λ one. one.key)
schema_key schema tables same table =
    sym (key_seen outline_of tables table) ∙ ap (λ (l : List Outline). and_then (slice_get l table) (λ outline. outline.key)) same ∙ key_seen outline_in schema.tables table

-- the values of a key, from where it stands
abbrev values_at : Option Stored → Option (List ℕ)
values_at found = option_map (λ column. column.values) (option_map (λ (stored : Stored). stored.column) found)

key_values_of : (tables others : List TableState) (table : ℕ) (key : Option ℕ) → ((column : ℕ) → stored_at tables (id_of table column) ≡ stored_at others (id_of table column))
    → and_then key (λ place. values_at (stored_at tables (id_of table place))) ≡ and_then key (λ place. values_at (stored_at others (id_of table place)))
key_values_of tables others table None same = refl
key_values_of tables others table (Some place) same = ap values_at (same place)

pub same_key_values : (tables others : List TableState) (table : ℕ) → key_of tables table ≡ key_of others table → ((column : ℕ) → stored_at tables (id_of table column) ≡ stored_at others (id_of table column))
    → key_values tables table ≡ key_values others table
same_key_values tables others table keys same =
    ap (λ key. and_then key (λ place. values_at (stored_at tables (id_of table place)))) keys ∙ key_values_of tables others table (key_of others table) same

-- a slot, and what stands there
pub stored_in : (tables : List TableState) (id : ColumnId) (slot : Option Stored) → slot_at tables id ≡ Some slot → stored_at tables id ≡ slot
stored_in tables id slot there = ap (λ found. and_then found (λ (s : Option Stored). s)) there

pub same_stored : (tables others : List TableState) (id : ColumnId) → slot_at tables id ≡ slot_at others id → stored_at tables id ≡ stored_at others id
same_stored tables others id same = ap (λ found. and_then found (λ (s : Option Stored). s)) same

-- nothing is there yet
pub no_rows_yet : (definitions : List TableDef) (table : ℕ) → rows_of (map state_of definitions) table ≡ None
no_rows_yet [] table = refl
no_rows_yet (first ∷ definitions) zero = refl
no_rows_yet (first ∷ definitions) (suc table) = no_rows_yet definitions table

no_slot : (columns : List ColumnDef) (column : ℕ) → and_then (slice_get (map (λ one. None) columns) column) (λ (s : Option Stored). s) ≡ None
no_slot [] column = refl
no_slot (first ∷ columns) zero = refl
no_slot (first ∷ columns) (suc column) = no_slot columns column

no_column_at : (definitions : List TableDef) (table column : ℕ) → stored_at (map state_of definitions) (id_of table column) ≡ None
no_column_at [] table column = refl
no_column_at (first ∷ definitions) zero column = no_slot first.columns column
no_column_at (first ∷ definitions) (suc table) column = no_column_at definitions table column

pub no_column_yet : (schema : Schema) (id : ColumnId) → stored_at (nothing_yet schema) id ≡ None
no_column_yet schema id = no_column_at schema.tables id.table id.column

outlines_yet : (definitions : List TableDef) → map outline_of (map state_of definitions) ≡ map outline_in definitions
outlines_yet [] = refl
outlines_yet (first ∷ definitions) =
    let outline : ℕ → Outline = λ columns. record { key = first.key; columns = columns } in
    ap₂ (λ (o : Outline) (l : List Outline). o ∷ l) (ap outline (length-map first.columns (λ column. None))) (outlines_yet definitions)

pub nothing_yet-outlines : (schema : Schema) → map outline_of (nothing_yet schema) ≡ map outline_in schema.tables
nothing_yet-outlines schema = outlines_yet schema.tables

-- tables that hold the same are the same
same_slots : (slots others : List (Option Stored)) → length slots ≡ length others
    → ((column : ℕ) → and_then (slice_get slots column) (λ (s : Option Stored). s) ≡ and_then (slice_get others column) (λ (s : Option Stored). s)) → slots ≡ others
same_slots [] [] many same = refl
same_slots [] (other ∷ others) many same = absurd (omega (arith, many))
same_slots (slot ∷ slots) [] many same = absurd (omega (arith, many))
same_slots (slot ∷ slots) (other ∷ others) many same =
    ap₂ (λ (s : Option Stored) (l : List (Option Stored)). s ∷ l) (same 0) (same_slots slots others (omega (arith, many)) (λ column. same (suc column)))

pub same_tables : (tables others : List TableState) → map outline_of tables ≡ map outline_of others → ((table : ℕ) → rows_of tables table ≡ rows_of others table)
    → ((table column : ℕ) → stored_at tables (id_of table column) ≡ stored_at others (id_of table column)) → tables ≡ others
same_tables [] [] outlines rows columns = refl
same_tables [] (other ∷ others) outlines rows columns = absurd (cc outlines)
same_tables (table ∷ tables) [] outlines rows columns = absurd (cc outlines)
same_tables (table ∷ tables) (other ∷ others) outlines rows columns =
    let heads : outline_of table ≡ outline_of other = cc outlines in
    let rest : map outline_of tables ≡ map outline_of others = cc outlines in
    let state : Option ℕ → Option ℕ → List (Option Stored) → TableState = λ key rows columns. record { key = key; rows = rows; columns = columns } in
    let slots : table.columns ≡ other.columns = same_slots table.columns other.columns (ap (λ (o : Outline). o.columns) heads) (columns 0) in
    let first : table ≡ other =
    ap (λ key. state key table.rows table.columns) (ap (λ (o : Outline). o.key) heads) ∙ ap (λ count. state other.key count table.columns) (rows 0) ∙ ap (state other.key other.rows) slots in
    ap₂ (λ (t : TableState) (l : List TableState). t ∷ l) first (same_tables tables others rest (λ place. rows (suc place)) (λ place. columns (suc place)))
