-- What stands in the files is opened.
use Rattle.std.proofs.Common.{◌≡◌, ◌<◌, ◌≤◌, ℕ, Bool, true, false, List, [], ◌∷◌, map, length, ◌⊎◌, inl, inr, Option, Some, None, Ok, refl, sym, ap, ◌∙◌, subst, arith, eq-eqb, le-leb}
use Rattle.std.proofs.lemmas.Bool.{cases_eq}
use Rattle.std.proofs.lemmas.Option.{slice_get_within}
use Rattle.std.specs.Prelude.{◌==◌, nat_eq, ok_or, unwrap_or, is_some, IsSome, IfSome, IsTrue}
use Rattle.std.specs.List.{AllByRecursion, Contains, IsDistinct}
use Rattle.definitions_outcomes.specs.Computed.{bind}
use Rattle.definitions_outcomes.specs.Outcomes.{Outcomes, Each}
use Rattle.stream_core.specs.Files.{Files}
use Rattle.stream_core.specs.Names.{now_file_name, column_file_name, dictionary_file_name}
use Rattle.column_core.specs.Columns.{Shape}
use Rattle.catalog_core.specs.Columns.{table_at, column_at, columns_of_table, IsNeeds}
use Rattle.catalog_core.specs.Texts.{Text}
use Rattle.catalog_core.specs.declared.columns.ColumnId.{ColumnId}
use Rattle.catalog_core.specs.declared.columns.Needs.{Needs}
use Rattle.catalog_core.specs.declared.schemas.Kind.{Kind}
use Rattle.catalog_core.specs.declared.schemas.Kind.TheVariants as kind
use Rattle.catalog_core.specs.declared.schemas.ColumnDef.{ColumnDef}
use Rattle.catalog_core.specs.declared.schemas.TableDef.{TableDef}
use Rattle.catalog_core.specs.declared.schemas.Schema.{Schema}
use Rattle.table_core.specs.Tables.{Stored, TableState, nothing_yet, started, placed, rows_of, stored_at, key_values, are_codes, StartsOnly}
use Rattle.table_core.specs.Held.{outline_of, outline_in, AreTablesOf, KeysDiffer, is_key_needed, is_text}
use Rattle.database_core.specs.NowFiles.{Now, now_in}
use Rattle.database_core.specs.Opening.{ColumnOf, WithTexts, StoredOf, OneMore, ColumnStep, KeyStep, OneTable, TableStep, max_data_file, data_file, limited, now_of, for_rows, with_codes}
use Rattle.database_core.specs.Standing.{IsDataFile, StandsAt, TextsStand, ColumnStands, RowsStand, HeldStands, Stands, StandingOpens}
use Rattle.database_core.specs.Filling.{Puts}
use Rattle.database_core.specs.declared.errors.OpenError.TheVariants as error
use Rattle.database_core.proofs.ListLemmas.{Among, Lacks, AreApart, among_or_lacks, not_both, all_among, all_from, contains_among, apart_filter, some_within}
use Rattle.database_core.proofs.TableLemmas.{id_of, same_tables, started_only, started-outlines, same_count, same_keys, same_key_values, same_stored, no_rows_yet, no_column_yet, nothing_yet-outlines}
use Rattle.database_core.proofs.FilledLemmas.{HasStored, ColumnsFilled, filled_columns, one_id, is_some_has, known_of, of_table, table_needed, among_table, tables_apart, columns_apart}

-- Files that are there are given.

limited_short : (file bytes : List ℕ) → length bytes ≤ max_data_file → limited file bytes ≡ Ok bytes
limited_short file bytes short = rw (le-leb (length bytes) max_data_file short)

data_given : (files : Files) (file bytes : List ℕ) → IsDataFile files file bytes → Ok bytes ≡ data_file files file
data_given files file bytes is = sym (ap (λ (found : Option (List ℕ)). bind (ok_or found (error.NoFile file)) (limited file)) is.there ∙ limited_short file bytes is.short)

now_given : (files : Files) (table : ℕ) (definition : TableDef) (now : Now) → StandsAt files definition now → Ok now ≡ now_of files table definition.name
now_given files table definition now at =
    sym (ap (λ (found : Option (List ℕ)). bind (ok_or found (error.NoFile (now_file_name definition.name))) (λ bytes. ok_or (now_in bytes) (error.BadNow table))) at.there
    ∙ ap (λ (found : Option Now). ok_or found (error.BadNow table)) at.says)

one_now : (files : Files) (definition : TableDef) (now other : Now) → StandsAt files definition now → StandsAt files definition other → now ≡ other
one_now files definition now other at be =
    let bytes : at.bytes ≡ be.bytes = cc (sym at.there ∙ be.there) in
    cc (sym at.says ∙ ap now_in bytes ∙ be.says)

-- A column that stands is read.

for_rows_whole : (file : List ℕ) (rows : ℕ) (held : Shape) → length held.values ≡ rows → for_rows file rows held ≡ Ok held
for_rows_whole file rows held whole = rw (eq-eqb (length held.values) rows whole)

with_codes_good : (file : List ℕ) (held : Shape) (texts : List Text) → IsTrue (are_codes (Some texts) held.values) → with_codes file held texts ≡ Ok (record { column = held; texts = Some texts })
with_codes_good file held texts good = rw good

texts_given : (files : Files) (file dictionary : List ℕ) (kind : Kind) (held : Shape) (texts : Option (List Text)) → is_some texts ≡ is_text kind → TextsStand files dictionary texts
    → IsTrue (are_codes texts held.values) → WithTexts files file dictionary kind held (Ok (record { column = held; texts = texts }))
texts_given files file dictionary kind.Number held None fits stand good = refl
texts_given files file dictionary kind.Number held (Some texts) fits stand good = absurd (cc fits)
texts_given files file dictionary kind.Text held None fits stand good = absurd (cc fits)
texts_given files file dictionary kind.Text held (Some texts) fits (bytes, there, holds) good =
    inl (texts, inl (bytes, data_given files dictionary bytes there, holds), sym (with_codes_good file held texts good))

column_given : (files : Files) (table : TableDef) (now : Now) (column : ColumnDef) (stored : Stored) → StandsAt files table now → ColumnStands files table column stored
    → is_some stored.texts ≡ is_text column.kind → StoredOf files table.name now column (Ok stored)
column_given files table now column stored at stands fits =
    let file = column_file_name table.name stands.now.slot column.name in
    let dictionary = dictionary_file_name table.name stands.now.slot column.name in
    let read : ColumnOf files file stands.now.rows (Ok stored.column) =
    inl (stands.bytes, data_given files file stands.bytes stands.file, inl (stored.column, stands.holds, sym (for_rows_whole file stands.now.rows stored.column stands.whole))) in
    subst (λ (n : Now). StoredOf files table.name n column (Ok stored)) (one_now files table stands.now now stands.at at)
    (inl (stored.column, read, texts_given files file dictionary column.kind stored.column stored.texts fits stands.texts stands.codes))

-- What tables hold of a column comes.

abbrev pub Holds : List TableState → ColumnId → Stored → Type 0
Holds tables id stored = stored_at tables id ≡ Some stored

-- both steps go on with the same
record GoesOn {S A E : Type 0} (step other : S → A → Outcomes S E) (state : S) (item : A) : Type 0 where
  next : S
  first : step state item (Ok next)
  second : other state item (Ok next)

record Reaches {S A E : Type 0} (step other : S → A → Outcomes S E) (state : S) (items : List A) : Type 0 where
  end : S
  first : Each step state items (Ok end)
  second : Each other state items (Ok end)

reach : {S A E : Type 0} (step other : S → A → Outcomes S E) (Q : A → Type 0) → ((state : S) (item : A) → Q item → GoesOn step other state item) → (items : List A) (state : S) → AllByRecursion Q items
    → Reaches step other state items
reach step other Q goes [] state all = record { end = state; first = refl; second = refl }
reach step other Q goes (item ∷ items) state all =
    let one = goes state item all.0 in
    let rest = reach step other Q goes items one.next all.1 in
    record { end = rest.end; first = inl (one.next, one.first, rest.first); second = inl (one.next, one.second, rest.second) }

held_at : (files : Files) (whole : List TableState) (id : ColumnId) (found : Option TableDef) (column : Option ColumnDef) (definition : TableDef) (one : ColumnDef) → found ≡ Some definition → column ≡ Some one
    → IfSome found (λ d. IfSome column (λ c. (stored : Stored) × (stored_at whole id ≡ Some stored) × ColumnStands files d c stored))
    → (stored : Stored) × (stored_at whole id ≡ Some stored) × ColumnStands files definition one stored
held_at files whole id found column definition one table known held = rw (table, known) at held

more_at : (files : Files) (table : List ℕ) (now : Now) (tables : List TableState) (id : ColumnId) (found : Option ColumnDef) (column : ColumnDef) (stored : Stored) → found ≡ Some column
    → StoredOf files table now column (Ok stored) → OneMore files table now tables id found (Ok (placed tables id stored))
more_at files table now tables id found column stored known read = rw known (inl (stored, read, refl))

held_given : (files : Files) (schema : Schema) (whole : List TableState) (definition : TableDef) (now : Now) (tables : List TableState) (id : ColumnId) (column : ColumnDef) → AreTablesOf schema whole
    → table_at schema id.table ≡ Some definition → column_at schema id ≡ Some column → StandsAt files definition now → HeldStands files schema whole id
    → GoesOn (ColumnStep files schema definition.name now) (Puts (Holds whole)) tables id
held_given files schema whole definition now tables id column of table known at held =
    let (stored, there, stands) = held_at files whole id (table_at schema id.table) (column_at schema id) definition column table known held in
    let read : StoredOf files definition.name now column (Ok stored) = column_given files definition now column stored at stands (of.texts id column stored known there) in
    record {
      next = placed tables id stored;
      first = more_at files definition.name now tables id (column_at schema id) column stored known read;
      second = record { stored = stored; fits = there; done = refl };
    }

-- keys that differ are accepted
distinct_or : (found : Option (List ℕ)) → IfSome found (IsDistinct nat_eq) → IsDistinct nat_eq (unwrap_or found [])
unfolding IsDistinct
distinct_or None distinct = tt
distinct_or (Some values) distinct = distinct

key_given : (needed : Bool) (table : ℕ) (tables : List TableState) → (IsTrue needed → IfSome (key_values tables table) (IsDistinct nat_eq)) → KeyStep needed table tables (Ok tables)
key_given false table tables differ = refl
key_given true table tables differ = (refl, distinct_or (key_values tables table) (differ refl))

-- The tables that are left come.

-- a column is needed of this table, and known
record IsWanted (schema : Schema) (needs : Needs) (table : ℕ) (id : ColumnId) : Type 0 where
  column : ColumnDef
  known : column_at schema id ≡ Some column
  of : id.table ≡ table
  among : Among id needs.columns

wanted : (schema : Schema) (needs : Needs) (table : ℕ) → AllByRecursion (λ id. IsSome (column_at schema id)) needs.columns → AllByRecursion (IsWanted schema needs table) (columns_of_table needs table)
wanted schema needs table known = all_from (IsWanted schema needs table) (columns_of_table needs table) (λ id among.
    let one = is_some_has (column_at schema id) (all_among (λ (i : ColumnId). IsSome (column_at schema i)) id (columns_of_table needs table) (known_of schema needs table known) among) in
    record {
      column = one.0;
      known = one.1;
      of = all_among (λ (i : ColumnId). i.table ≡ table) id (columns_of_table needs table) (of_table needs table) among;
      among = table_needed needs table id among;
    })

within_tables : (schema : Schema) (tables : List TableState) (table : ℕ) (definition : TableDef) → map outline_of tables ≡ map outline_in schema.tables → table_at schema table ≡ Some definition
    → table < length tables
within_tables schema tables table definition same there = omega (arith, same_count schema tables same, slice_get_within schema.tables table definition there)

-- a needed column is one of its table's, which is needed
not_needed : (schema : Schema) (needs : Needs) (id : ColumnId) → IsNeeds schema needs → Contains needs.columns id → Lacks id (columns_of_table needs id.table) ⊎ Lacks id.table needs.tables → ⊥
not_needed schema needs id is contains (inl lacks) = not_both id (columns_of_table needs id.table) (among_table needs id (contains_among id needs.columns contains)) lacks
not_needed schema needs id is contains (inr lacks) =
    let of : Contains needs.tables id.table = all_among (λ (i : ColumnId). Contains needs.tables i.table) id needs.columns is.of_tables (contains_among id needs.columns contains) in
    not_both id.table needs.tables (contains_among id.table needs.tables of) lacks

-- what is as it will be in the end
left_of : (needs : Needs) (table : ℕ) (items : List ℕ) (id : ColumnId) → Lacks id (columns_of_table needs table) → Lacks id (columns_of_table needs id.table) ⊎ Lacks id.table items
    → Lacks id (columns_of_table needs id.table) ⊎ Lacks id.table (table ∷ items)
left_of needs table items id lacks (inl none) = inl none
left_of needs table items id lacks (inr none) = elim (cases_eq table id.table) [
  | inl same ↦ inl (subst (λ (t : ℕ). Lacks id (columns_of_table needs t)) same lacks)
  | inr apart ↦ inr (apart, none)
]

module _ (files : Files) (schema : Schema) (needs : Needs) (whole : List TableState) (is : IsNeeds schema needs) (stands : Stands files schema needs whole) where
  left_opens : (items : List ℕ) (tables : List TableState) → AreApart items → AllByRecursion (λ table. IsSome (table_at schema table)) items → AllByRecursion (RowsStand files schema whole) items
      → AllByRecursion (KeysDiffer schema needs whole) items → map outline_of tables ≡ map outline_of whole → ((table : ℕ) → Lacks table items → rows_of tables table ≡ rows_of whole table)
      → ((id : ColumnId) → Lacks id (columns_of_table needs id.table) ⊎ Lacks id.table items → stored_at tables id ≡ stored_at whole id) → Each (TableStep files schema needs) tables items (Ok whole)
  left_opens [] tables apart known rows keys outlines same_rows same_columns =
      ap (λ (s : List TableState). Ok s) (sym (same_tables tables whole outlines (λ table. same_rows table tt) (λ table column. same_columns (id_of table column) (inr tt))))
  left_opens (table ∷ items) tables apart known rows keys outlines same_rows same_columns =
      let ids = columns_of_table needs table in
      let definition = (is_some_has (table_at schema table) known.0).0 in
      let table_is : table_at schema table ≡ Some definition = (is_some_has (table_at schema table) known.0).1 in
      let (now, at, counted) = rw table_is at rows.0 in
      let start = started tables table now.rows in
      let starts : StartsOnly table now.rows tables start = started_only tables table now.rows (within_tables schema tables table definition (outlines ∙ stands.of.outlines) table_is) in
      let begun : map outline_of start ≡ map outline_of tables = started-outlines tables table now.rows in
      let columns : Reaches (ColumnStep files schema definition.name now) (Puts (Holds whole)) start ids =
      reach (ColumnStep files schema definition.name now) (Puts (Holds whole)) (IsWanted schema needs table) (λ state id wants.
      held_given files schema whole definition now state id wants.column stands.of (ap (table_at schema) wants.of ∙ table_is) wants.known at
      (all_among (HeldStands files schema whole) id needs.columns stands.columns wants.among))
      ids start (wanted schema needs table is.columns) in
      let filled = columns.end in
      let one : ColumnsFilled (Holds whole) ids start filled =
      filled_columns (Holds whole) schema ids start filled (apart_filter (λ id. id.table == table) needs.columns (columns_apart schema needs is)) (known_of schema needs table is.columns)
      (begun ∙ outlines ∙ stands.of.outlines) columns.second in
      let outlined : map outline_of filled ≡ map outline_of whole = one.outlines ∙ begun ∙ outlines in
      let rows_after : (other : ℕ) → Lacks other items → rows_of filled other ≡ rows_of whole other = λ other lacks.
      elim (cases_eq table other) [
        | inl same ↦ one.rows other ∙ subst (λ (t : ℕ). rows_of start t ≡ rows_of whole t) same (starts.known ∙ sym counted)
        | inr differ ↦ one.rows other ∙ starts.other_rows other (λ e. differ (sym e)) ∙ same_rows other (differ, lacks)
      ] in
      let columns_after : (id : ColumnId) → Lacks id (columns_of_table needs id.table) ⊎ Lacks id.table items → stored_at filled id ≡ stored_at whole id = λ id lacks.
      elim (among_or_lacks one_id id ids) [
        | inl among ↦
            let has : HasStored (Holds whole) filled id = all_among (HasStored (Holds whole) filled) id ids one.columns among in
            has.there ∙ sym has.fits
        | inr none ↦ one.others id none ∙ same_stored start tables id (starts.slots id) ∙ same_columns id (left_of needs table items id none lacks)
      ] in
      let values : key_values filled table ≡ key_values whole table =
      same_key_values filled whole table (same_keys filled whole outlined table) (λ column. columns_after (id_of table column) (inr apart.0)) in
      let key : KeyStep (is_key_needed definition needs table) table filled (Ok filled) =
      key_given (is_key_needed definition needs table) table filled (λ needed. subst (λ (v : Option (List ℕ)). IfSome v (IsDistinct nat_eq)) (sym values) ((rw table_is at keys.0) needed)) in
      let step : TableStep files schema needs tables table (Ok filled) =
      subst (λ (found : Option TableDef). OneTable files schema needs tables table found (Ok filled)) (sym table_is) (inl (now, now_given files table definition now at, inl (filled, columns.first, key))) in
      inl (filled, step, left_opens items filled apart.1 known.1 rows.1 keys.1 outlined rows_after columns_after)

pub standing_opens : StandingOpens
standing_opens files schema needs tables lawful is stands =
    left_opens files schema needs tables is stands needs.tables (nothing_yet schema) (tables_apart schema needs is)
    (all_from (λ table. IsSome (table_at schema table)) needs.tables (λ table among. some_within schema.tables table (all_among (λ (t : ℕ). t < length schema.tables) table needs.tables is.tables among)))
    stands.rows stands.keys (nothing_yet-outlines schema ∙ sym stands.of.outlines)
    (λ table lacks. no_rows_yet schema.tables table ∙ sym (stands.no_rows table (λ contains. not_both table needs.tables (contains_among table needs.tables contains) lacks)))
    (λ id lacks. no_column_yet schema id ∙ sym (stands.no_column id (λ contains. not_needed schema needs id is contains lacks)))
