-- What is opened stands in the files.
use Rattle.std.proofs.Common.{◌≡◌, ◌<◌, ◌≤◌, ℕ, Bool, true, false, List, [], ◌∷◌, length, inl, inr, Option, Some, None, Ok, Err, refl, sym, ap, ◌∙◌, subst}
use Rattle.std.proofs.lemmas.Bool.{leb-true, eqb-true, cases_Bool}
use Rattle.std.specs.Prelude.{◌==◌, nat_le, nat_eq, ok_or, unwrap_or, is_some, IsSome, IfSome, IsTrue}
use Rattle.std.specs.List.{AllByRecursion, IsDistinct}
use Rattle.definitions_outcomes.specs.Computed.{bind}
use Rattle.definitions_outcomes.specs.Outcomes.{Outcomes, Each}
use Rattle.definitions_outcomes.proofs.OutcomeLaws.{same_value}
use Rattle.stream_core.specs.Files.{Files}
use Rattle.stream_core.specs.Names.{now_file_name, column_file_name, dictionary_file_name}
use Rattle.column_core.specs.Columns.{Shape}
use Rattle.catalog_core.specs.Columns.{table_at, column_at, columns_of_table, IsNeeds}
use Rattle.catalog_core.specs.Texts.{Text}
use Rattle.catalog_core.specs.declared.columns.ColumnId.{ColumnId}
use Rattle.catalog_core.specs.declared.columns.Needs.{Needs}
use Rattle.catalog_core.specs.declared.schemas.Kind.{Kind}
use Rattle.catalog_core.specs.declared.schemas.Kind.TheVariants as kind
use Rattle.catalog_core.specs.declared.schemas.ColumnDef.{ColumnDef}
use Rattle.catalog_core.specs.declared.schemas.TableDef.{TableDef}
use Rattle.catalog_core.specs.declared.schemas.Schema.{Schema}
use Rattle.table_core.specs.Tables.{Stored, TableState, nothing_yet, started, rows_of, stored_at, key_values, are_codes}
use Rattle.table_core.specs.Held.{KeysDiffer, is_key_needed, is_text}
use Rattle.database_core.specs.NowFiles.{Now, now_in}
use Rattle.database_core.specs.Opening.{HoldsColumn, ColumnOf, WithTexts, StoredOf, OneMore, ColumnStep, KeyStep, OneTable, TableStep, Opened, max_data_file, data_file, limited, now_of, for_rows, with_codes}
use Rattle.database_core.specs.Standing.{IsDataFile, StandsAt, TextsStand, ColumnStands, RowsStand, HeldStands, OpenedStands}
use Rattle.database_core.specs.Filling.{Puts, Fills, FitsKind}
use Rattle.database_core.specs.declared.errors.OpenError.TheVariants as error
use Rattle.database_core.proofs.ListLemmas.{all_weaker, all_from, all_among, contains_among, among_contains, lacks_from, some_within}
use Rattle.database_core.proofs.TableLemmas.{no_rows_yet, no_column_yet}
use Rattle.database_core.proofs.FilledLemmas.{HasStored, HasRows, TablesFilled, filled_all, needed_columns, tables_of_schema, known_of, of_table, table_needed}

-- A file that is there, and not too long.

limited_ok : (file bytes found : List ℕ) → Ok bytes ≡ limited file found → (bytes ≡ found) × (length bytes ≤ max_data_file)
limited_ok file bytes found is = elim (cases_Bool (nat_le (length found) max_data_file)) [
  | inl short ↦
      let same : bytes ≡ found = same_value bytes found (rw short at is) in
      (same, subst (λ (l : List ℕ). length l ≤ max_data_file) (sym same) (leb-true (length found) max_data_file short))
  | inr long ↦
      let refused : Ok bytes ≡ Err (error.TooLong file) = rw long at is in
      absurd (cc refused)
]

data_ok : (files : Files) (file bytes : List ℕ) (found : Option (List ℕ)) → files file ≡ found → Ok bytes ≡ bind (ok_or found (error.NoFile file)) (limited file) → IsDataFile files file bytes
data_ok files file bytes None none is = absurd (cc is)
data_ok files file bytes (Some found) there is =
    let same = limited_ok file bytes found is in
    record { there = there ∙ ap (λ (l : List ℕ). Some l) (sym same.0); short = same.1 }

pub data_there : (files : Files) (file bytes : List ℕ) → Ok bytes ≡ data_file files file → IsDataFile files file bytes
data_there files file bytes is = data_ok files file bytes (files file) refl is

now_ok : (table : ℕ) (now : Now) (found : Option Now) → Ok now ≡ ok_or found (error.BadNow table) → found ≡ Some now
now_ok table now None is = absurd (cc is)
now_ok table now (Some other) is = ap (λ (n : Now). Some n) (sym (same_value now other is))

now_file_ok : (files : Files) (table : ℕ) (definition : TableDef) (now : Now) (found : Option (List ℕ)) → files (now_file_name definition.name) ≡ found
    → Ok now ≡ bind (ok_or found (error.NoFile (now_file_name definition.name))) (λ bytes. ok_or (now_in bytes) (error.BadNow table)) → StandsAt files definition now
now_file_ok files table definition now None none is = absurd (cc is)
now_file_ok files table definition now (Some bytes) there is = record { bytes = bytes; there = there; says = now_ok table now (now_in bytes) is }

pub now_there : (files : Files) (table : ℕ) (definition : TableDef) (now : Now) → Ok now ≡ now_of files table definition.name → StandsAt files definition now
now_there files table definition now is = now_file_ok files table definition now (files (now_file_name definition.name)) refl is

-- A column, as it is read.

for_rows_ok : (file : List ℕ) (rows : ℕ) (held found : Shape) → Ok held ≡ for_rows file rows found → (held ≡ found) × (length held.values ≡ rows)
for_rows_ok file rows held found is = elim (cases_Bool (length found.values == rows)) [
  | inl whole ↦
      let same : held ≡ found = same_value held found (rw whole at is) in
      (same, subst (λ (s : Shape). length s.values ≡ rows) (sym same) (eqb-true (length found.values) rows whole))
  | inr short ↦
      let refused : Ok held ≡ Err (error.Length file) = rw short at is in
      absurd (cc refused)
]

-- the column of a file
record IsRead (files : Files) (file : List ℕ) (rows : ℕ) (held : Shape) : Type 0 where
  bytes : List ℕ
  there : IsDataFile files file bytes
  holds : HoldsColumn bytes held
  whole : length held.values ≡ rows

column_read : (files : Files) (file : List ℕ) (rows : ℕ) (held : Shape) → ColumnOf files file rows (Ok held) → IsRead files file rows held
column_read files file rows held (inr (refusal, first, is)) = absurd (cc is)
column_read files file rows held (inl (bytes, gives, inr (refusal, first, is))) = absurd (cc is)
column_read files file rows held (inl (bytes, gives, inl (found, holds, is))) =
    let same = for_rows_ok file rows held found is in
    record { bytes = bytes; there = data_there files file bytes gives; holds = subst (HoldsColumn bytes) (sym same.0) holds; whole = same.1 }

-- a column with its texts
record HasTexts (files : Files) (dictionary : List ℕ) (kind : Kind) (held : Shape) (stored : Stored) : Type 0 where
  column : stored.column ≡ held
  texts : TextsStand files dictionary stored.texts
  codes : IsTrue (are_codes stored.texts stored.column.values)
  fits : is_some stored.texts ≡ is_text kind

with_codes_ok : (file : List ℕ) (held : Shape) (texts : List Text) (stored : Stored) → Ok stored ≡ with_codes file held texts
    → (stored ≡ record { column = held; texts = Some texts }) × IsTrue (are_codes (Some texts) held.values)
with_codes_ok file held texts stored is = elim (cases_Bool (are_codes (Some texts) held.values)) [
  | inl good ↦ (same_value stored (record { column = held; texts = Some texts }) (rw good at is), good)
  | inr bad ↦
      let refused : Ok stored ≡ Err (error.BadCode file) = rw bad at is in
      absurd (cc refused)
]

texts_read : (files : Files) (file dictionary : List ℕ) (kind : Kind) (held : Shape) (stored : Stored) → WithTexts files file dictionary kind held (Ok stored) → HasTexts files dictionary kind held stored
texts_read files file dictionary kind.Number held stored is =
    let whole : Stored = record { column = held; texts = None } in
    subst (λ (s : Stored). HasTexts files dictionary kind.Number held s) (sym (same_value stored whole is)) (record { column = refl; texts = tt; codes = refl; fits = refl })
texts_read files file dictionary kind.Text held stored (inr (refusal, first, is)) = absurd (cc is)
texts_read files file dictionary kind.Text held stored (inl (texts, inr (refusal, first, never), is)) = absurd (cc never)
texts_read files file dictionary kind.Text held stored (inl (texts, inl (bytes, gives, holds), is)) =
    let good = with_codes_ok file held texts stored is in
    subst (λ (s : Stored). HasTexts files dictionary kind.Text held s) (sym good.0)
    (record { column = refl; texts = (bytes, data_there files dictionary bytes gives, holds); codes = good.1; fits = refl })

pub column_stands : (files : Files) (table : TableDef) (now : Now) (column : ColumnDef) (stored : Stored) → StandsAt files table now → StoredOf files table.name now column (Ok stored)
    → ColumnStands files table column stored × (is_some stored.texts ≡ is_text column.kind)
column_stands files table now column stored at (inr (refusal, first, is)) = absurd (cc is)
column_stands files table now column stored at (inl (held, first, next)) =
    let file = column_file_name table.name now.slot column.name in
    let read : IsRead files file now.rows held = column_read files file now.rows held first in
    let has : HasTexts files (dictionary_file_name table.name now.slot column.name) column.kind held stored =
    texts_read files file (dictionary_file_name table.name now.slot column.name) column.kind held stored next in (
      record {
        now = now;
        at = at;
        bytes = read.bytes;
        file = read.there;
        holds = subst (HoldsColumn read.bytes) (sym has.column) read.holds;
        whole = ap (λ (s : Shape). length s.values) has.column ∙ read.whole;
        texts = has.texts;
        codes = has.codes;
      },
      has.fits,
    )

-- A table, as it is read: what holds of its row count and of its columns.

abbrev pub CountStands : Files → Schema → ℕ → ℕ → Type 0
CountStands files schema table rows = IfSome (table_at schema table) (λ definition. (now : Now) × StandsAt files definition now × (rows ≡ now.rows))

abbrev pub StoredStands : Files → Schema → ColumnId → Stored → Type 0
StoredStands files schema id stored = IfSome (table_at schema id.table) (λ definition. IfSome (column_at schema id) (λ column. ColumnStands files definition column stored))

pub record Told (files : Files) (schema : Schema) (id : ColumnId) (stored : Stored) : Type 0 where
  pub stands : StoredStands files schema id stored
  pub fits : FitsKind schema id stored

-- what one run says of another
pub each_along : {S A E : Type 0} (step other : S → A → Outcomes S E) (Q : A → Type 0) → ((state : S) (item : A) (next : S) → Q item → step state item (Ok next) → other state item (Ok next))
    → (items : List A) (state end : S) → AllByRecursion Q items → Each step state items (Ok end) → Each other state items (Ok end)
each_along step other Q along [] state end all run = run
each_along step other Q along (item ∷ items) state end all (inl (next, first, rest)) = inl (next, along state item next all.0 first, each_along step other Q along items next end all.1 rest)
each_along step other Q along (item ∷ items) state end all (inr (refusal, first, is)) = absurd (cc is)

stands_at : (files : Files) (found : Option TableDef) (column : Option ColumnDef) (definition : TableDef) (one : ColumnDef) (stored : Stored) → found ≡ Some definition → column ≡ Some one
    → ColumnStands files definition one stored → IfSome found (λ d. IfSome column (λ c. ColumnStands files d c stored))
stands_at files found column definition one stored table known stands = rw (table, known) stands

fits_at : (column : Option ColumnDef) (one : ColumnDef) (stored : Stored) → column ≡ Some one → is_some stored.texts ≡ is_text one.kind → IfSome column (λ c. is_some stored.texts ≡ is_text c.kind)
fits_at column one stored known fits = rw known fits

column_told : (files : Files) (schema : Schema) (definition : TableDef) (now : Now) (tables next : List TableState) (id : ColumnId) (found : Option ColumnDef) → table_at schema id.table ≡ Some definition
    → column_at schema id ≡ found → IsSome found → StandsAt files definition now → OneMore files definition.name now tables id found (Ok next) → Puts (Told files schema) tables id (Ok next)
column_told files schema definition now tables next id None table none some at run = absurd (cc some)
column_told files schema definition now tables next id (Some column) table known some at (inr (refusal, first, is)) = absurd (cc is)
column_told files schema definition now tables next id (Some column) table known some at (inl (stored, first, is)) =
    let stands = column_stands files definition now column stored at first in
    record {
      stored = stored;
      fits = record {
        stands = stands_at files (table_at schema id.table) (column_at schema id) definition column stored table known stands.0;
        fits = fits_at (column_at schema id) column stored known stands.1;
      };
      done = is;
    }

keys_told : (schema : Schema) (needs : Needs) (table : ℕ) (definition : TableDef) (needed : Bool) (filled next : List TableState) → table_at schema table ≡ Some definition → is_key_needed definition needs table ≡ needed
    → KeyStep needed table filled (Ok next) → (next ≡ filled) × KeysDiffer schema needs filled table
keys_told schema needs table definition false filled next known none run =
    (same_value next filled run, rw known (λ (needed : IsTrue (is_key_needed definition needs table)). absurd (cc (sym none ∙ needed))))
keys_told schema needs table definition true filled next known some run = (run.0, rw known (λ (needed : IsTrue (is_key_needed definition needs table)). distinct_some (key_values filled table) run.1)) where
  distinct_some : (found : Option (List ℕ)) → IsDistinct nat_eq (unwrap_or found []) → IfSome found (IsDistinct nat_eq)
  distinct_some None distinct = tt
  distinct_some (Some values) distinct = distinct

table_told : (files : Files) (schema : Schema) (needs : Needs) (tables next : List TableState) (table : ℕ) (found : Option TableDef) → AllByRecursion (λ id. IsSome (column_at schema id)) needs.columns
    → table_at schema table ≡ found → IsSome found → OneTable files schema needs tables table found (Ok next) → Fills (CountStands files schema) (Told files schema) schema needs tables table (Ok next)
table_told files schema needs tables next table None columns none some run = absurd (cc some)
table_told files schema needs tables next table (Some definition) columns known some (inr (refusal, first, is)) = absurd (cc is)
table_told files schema needs tables next table (Some definition) columns known some (inl (now, gives, inr (refusal, first, is))) = absurd (cc is)
table_told files schema needs tables next table (Some definition) columns known some (inl (now, gives, inl (filled, run, last))) =
    let at : StandsAt files definition now = now_there files table definition now gives in
    let keys = keys_told schema needs table definition (is_key_needed definition needs table) filled next known refl last in
    let ids = columns_of_table needs table in
    let lawful : AllByRecursion (λ (id : ColumnId). IsSome (column_at schema id) × (id.table ≡ table)) ids =
    all_from (λ (id : ColumnId). IsSome (column_at schema id) × (id.table ≡ table)) ids (λ id among.
    (all_among (λ (i : ColumnId). IsSome (column_at schema i)) id ids (known_of schema needs table columns) among, all_among (λ (i : ColumnId). i.table ≡ table) id ids (of_table needs table) among)) in
    record {
      rows = now.rows;
      counted = rw known (now, at, refl);
      filled = filled;
      columns = each_along (ColumnStep files schema definition.name now) (Puts (Told files schema)) (λ (id : ColumnId). IsSome (column_at schema id) × (id.table ≡ table))
          (λ state id after q step. column_told files schema definition now state after id (column_at schema id) (ap (table_at schema) q.1 ∙ known) refl q.0 at step)
          ids (started tables table now.rows) filled lawful run;
      keys = keys.1;
      done = ap (λ (s : List TableState). Ok s) keys.0;
    }

pub opened_told : (files : Files) (schema : Schema) (needs : Needs) (tables : List TableState) → IsNeeds schema needs → Opened files schema needs (Ok tables)
    → Each (Fills (CountStands files schema) (Told files schema) schema needs) (nothing_yet schema) needs.tables (Ok tables)
opened_told files schema needs tables is run =
    each_along (TableStep files schema needs) (Fills (CountStands files schema) (Told files schema) schema needs) (λ table. table < length schema.tables)
    (λ state table after within step. table_told files schema needs state after table (table_at schema table) is.columns refl (some_within schema.tables table within) step)
    needs.tables (nothing_yet schema) tables is.tables run

-- What stands in the files once all is read.

rows_stand : (files : Files) (schema : Schema) (tables : List TableState) (table : ℕ) (found : Option TableDef) (rows : ℕ) → rows_of tables table ≡ Some rows
    → IfSome found (λ definition. (now : Now) × StandsAt files definition now × (rows ≡ now.rows)) → IfSome found (λ definition. (now : Now) × StandsAt files definition now × (rows_of tables table ≡ Some now.rows))
rows_stand files schema tables table None rows known counted = tt
rows_stand files schema tables table (Some definition) rows known (now, at, same) = (now, at, known ∙ ap (λ (n : ℕ). Some n) same)

held_stands : (files : Files) (tables : List TableState) (id : ColumnId) (found : Option TableDef) (column : Option ColumnDef) (stored : Stored) → stored_at tables id ≡ Some stored
    → IfSome found (λ definition. IfSome column (λ one. ColumnStands files definition one stored))
    → IfSome found (λ definition. IfSome column (λ one. (s : Stored) × (stored_at tables id ≡ Some s) × ColumnStands files definition one s))
held_stands files tables id None column stored there stands = tt
held_stands files tables id (Some definition) None stored there stands = tt
held_stands files tables id (Some definition) (Some column) stored there stands = (stored, there, stands)

pub opened_stands : OpenedStands
opened_stands files schema needs tables lawful is run =
    let counts = CountStands files schema in
    let holds = Told files schema in
    let filled : TablesFilled counts holds schema needs needs.tables (nothing_yet schema) tables = filled_all counts holds schema needs is tables (opened_told files schema needs tables is run) in
    record {
      of = tables_of_schema counts holds schema needs is tables (λ id stored told. told.fits) filled;
      rows = all_weaker (HasRows counts tables) (RowsStand files schema tables) (λ table has. rows_stand files schema tables table (table_at schema table) has.rows has.known has.counted) needs.tables filled.rows;
      columns = all_weaker (HasStored holds tables) (HeldStands files schema tables)
          (λ id has. held_stands files tables id (table_at schema id.table) (column_at schema id) has.stored has.there has.fits.stands) needs.columns
          (needed_columns counts holds schema needs is (nothing_yet schema) tables filled);
      keys = filled.keys;
      no_rows = λ table none. filled.no_rows table (lacks_from table needs.tables none) ∙ no_rows_yet schema.tables table;
      no_column = λ id none.
          filled.no_column id (inl (lacks_from id (columns_of_table needs id.table)
          (λ contains. none (among_contains id needs.columns (table_needed needs id.table id (contains_among id (columns_of_table needs id.table) contains)))))) ∙ no_column_yet schema id;
    }
