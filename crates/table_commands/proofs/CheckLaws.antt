-- Something is said of each refusal of `check`: no bytes and no files give want of memory or a failed call.
use Rattle.std.proofs.Common.{◌≡◌, ℕ, ◌+◌, Bool, true, false, inl, inr, List, [], ◌∷◌, length, Option, Some, None, Result, Ok, Err, refl, sym, subst}
use Rattle.std.specs.Prelude.{◌==◌, nat_le, nat_eq, ok_or, unwrap_or, IsSome, if◌then◌else◌}
use Rattle.std.specs.List.{IsDistinct}
use Rattle.definitions_columns.specs.FileFaults.{FileFault, HasFileFault}
use Rattle.definitions_columns.specs.FileFaults as fault
use Rattle.definitions_outcomes.specs.Computed.{bind, walk}
use Rattle.definitions_outcomes.specs.Outcomes.{Outcomes, Gives, OneOr, OneOrFault, Then, Each}
use Rattle.definitions_outcomes.proofs.OutcomeLaws.{same_refusal}
use Rattle.stream_core.specs.Files.{Files}
use Rattle.stream_core.specs.Names.{now_file_name, column_file_name, dictionary_file_name}
use Rattle.column_core.specs.Columns.{Shape}
use Rattle.catalog_core.specs.Columns.{table_at, column_at, columns_of_table}
use Rattle.catalog_core.specs.Dictionaries.{IsDictionaryFile, HasDictionaryFault}
use Rattle.catalog_core.specs.Schemas.{Own, numbered_column, columns_of, column_of, own_of, key_place, with_columns, table_of, tables_of, top_in, table_names, column_names, first_repeated, distinct_or, distinct}
use Rattle.catalog_core.specs.Texts.{Text}
use Rattle.catalog_core.specs.declared.columns.ColumnId.{ColumnId}
use Rattle.catalog_core.specs.declared.columns.Needs.{Needs}
use Rattle.catalog_core.specs.declared.errors.DictError.{DictError}
use Rattle.catalog_core.specs.declared.errors.DictError.TheVariants as dictionary
use Rattle.catalog_core.specs.declared.errors.SchemaError.{SchemaError}
use Rattle.catalog_core.specs.declared.errors.SchemaError.TheVariants as refusals
use Rattle.catalog_core.specs.declared.schemas.Kind.{Kind}
use Rattle.catalog_core.specs.declared.schemas.Kind.TheVariants as kind
use Rattle.catalog_core.specs.declared.schemas.ColumnDef.{ColumnDef}
use Rattle.catalog_core.specs.declared.schemas.TableDef.{TableDef}
use Rattle.catalog_core.specs.declared.schemas.Schema.{Schema}
use Rattle.table_core.specs.Held.{is_key_needed}
use Rattle.table_core.specs.Tables.{Stored, TableState, nothing_yet, started, placed, key_values, are_codes}
use Rattle.database_core.specs.NowFiles.{Now, now_in}
use Rattle.database_core.specs.Opening.{HoldsColumn, ColumnOf, TextsOf, WithTexts, StoredOf, OneMore, ColumnStep, KeyStep, OneTable, TableStep, file_in, limited, data_file, max_data_file, now_of, for_rows, with_codes, error_of}
use Rattle.database_core.specs.declared.errors.OpenError.TheVariants as error
use Rattle.table_commands.specs.Databases.{schema_text, column_text, dictionary_text, IsSaid, SchemaRefusalsAreSaid, OpeningRefusalsAreSaid}

-- each refusal of a computed step, and of any step, has the property
abbrev pub Refuses : {A E : Type 0} → (E → Type 0) → Result A E → Type 0
Refuses {A} {E} P result = (refusal : E) → result ≡ Err refusal → P refusal

abbrev RefusesIn : {A E : Type 0} → (E → Type 0) → Outcomes A E → Type 0
RefusesIn {A} {E} P step = (refusal : E) → step (Err refusal) → P refusal

module _ {E : Type 0} (P : E → Type 0) where
  pub ok_refuses : {A : Type 0} (value : A) → Refuses {A = A} P (Ok value)
  ok_refuses value refusal is = absurd (cc)

  pub err_refuses : {A : Type 0} (given : E) → P given → Refuses {A = A} P (Err given)
  err_refuses {A} given holds refusal is = subst P (same_refusal {A = A} given refusal is) holds

  pub ok_or_refuses : {A : Type 0} (found : Option A) (given : E) → P given → Refuses P (ok_or found given)
  ok_or_refuses (Some value) given holds = ok_refuses value
  ok_or_refuses {A} None given holds = err_refuses {A = A} given holds

  pub if_refuses : {A : Type 0} (test : Bool) (value : A) (given : E) → P given → Refuses {A = A} P (if test then Ok value else Err given)
  if_refuses true value given holds = ok_refuses value
  if_refuses {A} false value given holds = err_refuses {A = A} given holds

  pub bind_refuses : {A B : Type 0} (first : Result A E) (next : A → Result B E) → Refuses P first → ((value : A) → Refuses P (next value)) → Refuses P (bind first next)
  bind_refuses (Ok value) next one rest = rest value
  bind_refuses {A} {B} (Err given) next one rest = err_refuses {A = B} given (one given refl)

  pub walk_refuses : {A B : Type 0} (step : ℕ → A → Result B E) (number : ℕ) (items : List A) → ((n : ℕ) (item : A) → Refuses P (step n item)) → Refuses P (walk step number items)
  walk_refuses step number [] each = ok_refuses []
  walk_refuses step number (item ∷ rest) each =
      bind_refuses (step number item) (λ first. bind (walk step (number + 1) rest) (λ more. Ok (first ∷ more))) (each number item)
      (λ first. bind_refuses (walk step (number + 1) rest) (λ more. Ok (first ∷ more)) (walk_refuses step (number + 1) rest each) (λ more. ok_refuses (first ∷ more)))

  Gives_refuses : {A : Type 0} (outcome : Result A E) → Refuses P outcome → RefusesIn P (Gives outcome)
  Gives_refuses outcome one refusal is = one refusal (sym is)

  OneOr_refuses : {A : Type 0} (holds : A → Type 0) (given : E) → P given → RefusesIn P (OneOr holds given)
  OneOr_refuses holds given one refusal is = subst P (sym is.1) one

  OneOrFault_refuses : {A F : Type 0} (holds : A → Type 0) (has : F → Type 0) (given : F → E) → ((f : F) → has f → P (given f)) → RefusesIn P (OneOrFault holds has given)
  OneOrFault_refuses holds has given one refusal is = subst P (sym is.2) (one is.0 is.1)

  Then_refuses : {A B : Type 0} (first : Outcomes A E) (next : A → Outcomes B E) → RefusesIn P first → ((value : A) → RefusesIn P (next value)) → RefusesIn P (Then first next)
  Then_refuses first next one rest refusal (inl (value, is, ends)) = rest value refusal ends
  Then_refuses {A} {B} first next one rest refusal (inr (given, is, ends)) = subst P (sym (same_refusal {A = B} refusal given ends)) (one given is)

  Each_refuses : {S A : Type 0} (step : S → A → Outcomes S E) (state : S) (items : List A) → ((s : S) (item : A) → RefusesIn P (step s item)) → RefusesIn P (Each step state items)
  Each_refuses step state [] each = Gives_refuses (Ok state) (ok_refuses state)
  Each_refuses step state (item ∷ items) each = Then_refuses (step state item) (λ next. Each step next items) (each state item) (λ next. Each_refuses step next items each)

-- ---- the schema's text

abbrev SaidOfSchema : SchemaError → Type 0
SaidOfSchema refusal = IsSome (schema_text refusal)

shape_said : (table column : ℕ) → SaidOfSchema (refusals.Shape table column)
shape_said table column = refl

-- what a table is made of, once its own keys are found
table_said : (number : ℕ) (found : Option Own)
    → Refuses SaidOfSchema (bind (ok_or found (refusals.Shape number 0)) (λ own. bind (columns_of number own.columns) (λ columns. bind (ok_or (key_place own.key columns) (refusals.Shape number 0)) (λ key. Ok (with_columns own key columns)))))
table_said number found =
    bind_refuses SaidOfSchema (ok_or found (refusals.Shape number 0))
    (λ own. bind (columns_of number own.columns) (λ columns. bind (ok_or (key_place own.key columns) (refusals.Shape number 0)) (λ key. Ok (with_columns own key columns))))
    (ok_or_refuses SaidOfSchema found (refusals.Shape number 0) (shape_said number 0))
    (λ own. bind_refuses SaidOfSchema (columns_of number own.columns) (λ columns. bind (ok_or (key_place own.key columns) (refusals.Shape number 0)) (λ key. Ok (with_columns own key columns)))
    (walk_refuses SaidOfSchema (numbered_column number) 1 own.columns (λ place column. ok_or_refuses SaidOfSchema (column_of column) (refusals.Shape number place) (shape_said number place)))
    (λ columns. bind_refuses SaidOfSchema (ok_or (key_place own.key columns) (refusals.Shape number 0)) (λ key. Ok (with_columns own key columns))
    (ok_or_refuses SaidOfSchema (key_place own.key columns) (refusals.Shape number 0) (shape_said number 0))
    (λ key. ok_refuses SaidOfSchema (with_columns own key columns))))

repeated_said : (found : Option Text) → Refuses SaidOfSchema (distinct_or found)
repeated_said None = ok_refuses SaidOfSchema tt
repeated_said (Some name) = err_refuses SaidOfSchema (refusals.Repeated name) refl

-- the names of the tables, and the schema
abbrev made : List TableDef → Result Schema SchemaError
made tables = Ok (record { tables = tables })

names_said : (tables : List TableDef)
    → Refuses SaidOfSchema (bind (distinct (table_names tables)) (λ _. bind (distinct (column_names tables)) (λ _. made tables)))
names_said tables =
    bind_refuses SaidOfSchema (distinct (table_names tables)) (λ _. bind (distinct (column_names tables)) (λ _. made tables))
    (repeated_said (first_repeated [] (table_names tables)))
    (λ _. bind_refuses SaidOfSchema (distinct (column_names tables)) (λ _. made tables) (repeated_said (first_repeated [] (column_names tables)))
    (λ _. ok_refuses SaidOfSchema {A = Schema} (record { tables = tables })))

-- something is said of each refusal of a schema's text
pub said_of_schema : SchemaRefusalsAreSaid
said_of_schema bytes refusal (inl (keys, is, answers)) =
    bind_refuses SaidOfSchema (ok_or (top_in keys) (refusals.Shape 0 0))
    (λ entries. bind (tables_of entries) (λ tables. bind (distinct (table_names tables)) (λ _. bind (distinct (column_names tables)) (λ _. Ok (record { tables = tables })))))
    (ok_or_refuses SaidOfSchema (top_in keys) (refusals.Shape 0 0) (shape_said 0 0))
    (λ entries. bind_refuses SaidOfSchema (tables_of entries) (λ tables. bind (distinct (table_names tables)) (λ _. bind (distinct (column_names tables)) (λ _. Ok (record { tables = tables }))))
    (walk_refuses SaidOfSchema table_of 1 entries (λ number held. table_said number (own_of held))) names_said)
    refusal (sym answers)
said_of_schema bytes refusal (inr (none, answers)) = subst SaidOfSchema (sym (same_refusal {A = Schema} refusal refusals.Text answers)) refl

-- ---- the opening

column_said : (found : FileFault) → IsSome (column_text (error_of found))
column_said fault.bad_header = refl
column_said (fault.bad_directory block) = refl
column_said (fault.bad_block block) = refl
column_said fault.bad_width = refl
column_said fault.bad_tail = refl

dictionary_said : (bytes : List ℕ) (found : DictError) → HasDictionaryFault bytes found → IsSome (dictionary_text found)
dictionary_said bytes dictionary.BadHeader has = refl
dictionary_said bytes (dictionary.BadEntry entry) has = refl
dictionary_said bytes dictionary.Trailing has = refl
dictionary_said bytes dictionary.Memory has = absurd has

data_said : (files : Files) (file : List ℕ) → Refuses IsSaid (data_file files file)
data_said files file =
    bind_refuses IsSaid (file_in files file) (limited file) (ok_or_refuses IsSaid (files file) (error.NoFile file) tt)
    (λ bytes. if_refuses IsSaid (nat_le (length bytes) max_data_file) bytes (error.TooLong file) tt)

now_said : (files : Files) (table : ℕ) (name : List ℕ) → Refuses IsSaid (now_of files table name)
now_said files table name =
    bind_refuses IsSaid (file_in files (now_file_name name)) (λ bytes. ok_or (now_in bytes) (error.BadNow table))
    (ok_or_refuses IsSaid (files (now_file_name name)) (error.NoFile (now_file_name name)) tt)
    (λ bytes. ok_or_refuses IsSaid (now_in bytes) (error.BadNow table) tt)

ColumnOf_said : (files : Files) (file : List ℕ) (rows : ℕ) → RefusesIn IsSaid (ColumnOf files file rows)
ColumnOf_said files file rows =
    Then_refuses IsSaid (Gives (data_file files file))
    (λ bytes. Then (OneOrFault (HoldsColumn bytes) (HasFileFault bytes) (λ found. error.Column file (error_of found))) (λ held. Gives (for_rows file rows held)))
    (Gives_refuses IsSaid (data_file files file) (data_said files file))
    (λ bytes. Then_refuses IsSaid (OneOrFault (HoldsColumn bytes) (HasFileFault bytes) (λ found. error.Column file (error_of found))) (λ held. Gives (for_rows file rows held))
    (OneOrFault_refuses IsSaid (HoldsColumn bytes) (HasFileFault bytes) (λ found. error.Column file (error_of found)) (λ found has. column_said found))
    (λ held. Gives_refuses IsSaid (for_rows file rows held) (if_refuses IsSaid (length held.values == rows) held (error.Length file) tt)))

TextsOf_said : (files : Files) (file : List ℕ) → RefusesIn IsSaid (TextsOf files file)
TextsOf_said files file =
    Then_refuses IsSaid (Gives (data_file files file)) (λ bytes. OneOrFault (λ texts. IsDictionaryFile texts bytes) (HasDictionaryFault bytes) (λ found. error.Dict file found))
    (Gives_refuses IsSaid (data_file files file) (data_said files file))
    (λ bytes. OneOrFault_refuses IsSaid (λ texts. IsDictionaryFile texts bytes) (HasDictionaryFault bytes) (λ found. error.Dict file found) (dictionary_said bytes))

WithTexts_said : (files : Files) (file other : List ℕ) (kind : Kind) (held : Shape) → RefusesIn IsSaid (WithTexts files file other kind held)
WithTexts_said files file other kind.Number held =
    let stored : Stored = record { column = held; texts = None } in Gives_refuses IsSaid (Ok stored) (ok_refuses IsSaid stored)
WithTexts_said files file other kind.Text held =
    Then_refuses IsSaid (TextsOf files other) (λ texts. Gives (with_codes file held texts)) (TextsOf_said files other)
    (λ texts. let stored : Stored = record { column = held; texts = Some texts } in
    Gives_refuses IsSaid (with_codes file held texts) (if_refuses IsSaid (are_codes (Some texts) held.values) stored (error.BadCode file) tt))

StoredOf_said : (files : Files) (table : List ℕ) (now : Now) (definition : ColumnDef) → RefusesIn IsSaid (StoredOf files table now definition)
StoredOf_said files table now definition =
    let file = column_file_name table now.slot definition.name in
    let other = dictionary_file_name table now.slot definition.name in
    Then_refuses IsSaid (ColumnOf files file now.rows) (λ held. WithTexts files file other definition.kind held) (ColumnOf_said files file now.rows)
    (λ held. WithTexts_said files file other definition.kind held)

OneMore_said : (files : Files) (table : List ℕ) (now : Now) (tables : List TableState) (id : ColumnId) (found : Option ColumnDef) → RefusesIn IsSaid (OneMore files table now tables id found)
OneMore_said files table now tables id None = Gives_refuses IsSaid (Ok tables) (ok_refuses IsSaid tables)
OneMore_said files table now tables id (Some definition) =
    Then_refuses IsSaid (StoredOf files table now definition) (λ stored. Gives (Ok (placed tables id stored))) (StoredOf_said files table now definition)
    (λ stored. Gives_refuses IsSaid (Ok (placed tables id stored)) (ok_refuses IsSaid (placed tables id stored)))

KeyStep_said : (needed : Bool) (table : ℕ) (tables : List TableState) → RefusesIn IsSaid (KeyStep needed table tables)
KeyStep_said true table tables =
    OneOr_refuses IsSaid (λ (held : List TableState). (held ≡ tables) × IsDistinct nat_eq (unwrap_or (key_values tables table) [])) (error.RepeatedKey table) tt
KeyStep_said false table tables = Gives_refuses IsSaid (Ok tables) (ok_refuses IsSaid tables)

OneTable_said : (files : Files) (schema : Schema) (needs : Needs) (tables : List TableState) (table : ℕ) (found : Option TableDef) → RefusesIn IsSaid (OneTable files schema needs tables table found)
OneTable_said files schema needs tables table None = Gives_refuses IsSaid (Ok tables) (ok_refuses IsSaid tables)
OneTable_said files schema needs tables table (Some definition) =
    let needed = is_key_needed definition needs table in
    Then_refuses IsSaid (Gives (now_of files table definition.name))
    (λ now. Then (Each (ColumnStep files schema definition.name now) (started tables table now.rows) (columns_of_table needs table)) (λ filled. KeyStep needed table filled))
    (Gives_refuses IsSaid (now_of files table definition.name) (now_said files table definition.name))
    (λ now. Then_refuses IsSaid (Each (ColumnStep files schema definition.name now) (started tables table now.rows) (columns_of_table needs table)) (λ filled. KeyStep needed table filled)
    (Each_refuses IsSaid (ColumnStep files schema definition.name now) (started tables table now.rows) (columns_of_table needs table)
    (λ held id. OneMore_said files definition.name now held id (column_at schema id)))
    (λ filled. KeyStep_said needed table filled))

-- something is said of each refusal of the opening
pub said_of_opening : OpeningRefusalsAreSaid
said_of_opening files schema needs =
    Each_refuses IsSaid (TableStep files schema needs) (nothing_yet schema) needs.tables
    (λ tables table. OneTable_said files schema needs tables table (table_at schema table))
