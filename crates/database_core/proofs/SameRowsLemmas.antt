-- Files that agree on what an opening reads open in the same way.
use Rattle.std.proofs.Common.{◌≡◌, ℕ, zero, suc, List, [], ◌∷◌, ◌++◌, inl, inr, Option, Some, None, Result, Ok, Err, refl, sym, ap, ◌∙◌, subst}
use Rattle.std.specs.Prelude.{ok_or, slice_get}
use Rattle.std.specs.List.{AllByRecursion}
use Rattle.definitions_columns.specs.FileFaults.{HasFileFault}
use Rattle.definitions_outcomes.specs.Computed.{bind}
use Rattle.definitions_outcomes.specs.Outcomes.{Outcomes, Gives, OneOrFault, Then, Each}
use Rattle.stream_core.specs.Files.{Files}
use Rattle.stream_core.specs.Names.{IsName, now_file_name, column_file_name, dictionary_file_name}
use Rattle.column_core.specs.Columns.{Shape}
use Rattle.catalog_core.specs.Columns.{table_at, column_at, columns_of_table}
use Rattle.catalog_core.specs.Dictionaries.{IsDictionaryFile, HasDictionaryFault}
use Rattle.catalog_core.specs.LawfulSchemas.{IsSchema, IsTableDef}
use Rattle.catalog_core.specs.Texts.{Text}
use Rattle.catalog_core.specs.declared.columns.ColumnId.{ColumnId}
use Rattle.catalog_core.specs.declared.columns.Needs.{Needs}
use Rattle.catalog_core.specs.declared.schemas.Kind.{Kind}
use Rattle.catalog_core.specs.declared.schemas.Kind.TheVariants as kind
use Rattle.catalog_core.specs.declared.schemas.ColumnDef.{ColumnDef}
use Rattle.catalog_core.specs.declared.schemas.TableDef.{TableDef}
use Rattle.catalog_core.specs.declared.schemas.Schema.{Schema}
use Rattle.table_core.specs.Tables.{Stored, TableState, nothing_yet, started, placed}
use Rattle.table_core.specs.Held.{is_key_needed}
use Rattle.database_core.specs.NowFiles.{Now, now_in}
use Rattle.database_core.specs.Opening.{HoldsColumn, ColumnOf, TextsOf, WithTexts, StoredOf, OneMore, ColumnStep, KeyStep, OneTable, TableStep, Opened, limited, now_of, for_rows, with_codes, error_of}
use Rattle.database_core.specs.Saving.{SpareFilesAreUnread}
use Rattle.database_core.specs.Standing.{StandsAt}
use Rattle.database_core.specs.TableFiles.{SameRows, IsSpareFile, data_file_names, now_read, now_of_table, other_slot, slot_to_write}
use Rattle.database_core.specs.declared.errors.OpenError.{OpenError}
use Rattle.database_core.specs.declared.errors.OpenError.TheVariants as error
use Rattle.database_core.proofs.FileNameLemmas.{slot_file, column_in, dictionary_in, same_table, now_no_slot, slots_apart, data_in_slot}
use Rattle.database_core.proofs.ListLemmas.{contains_among}
use Rattle.database_core.proofs.StandingLemmas.{now_there}

-- both say the same of where each table's rows stand, and have the same files there
pub record Agree (after before : Files) : Type 0 where
  pub now : (table : List ℕ) → IsName table → after (now_file_name table) ≡ before (now_file_name table)
  pub slot : (table : List ℕ) (now : Now) (rest : List ℕ) → IsName table → now_of_table before table ≡ Some now → after (slot_file table now.slot rest) ≡ before (slot_file table now.slot rest)

agree_back : (after before : Files) → Agree after before → Agree before after
agree_back after before agree = record {
  now = λ table is. sym (agree.now table is);
  slot = λ table now rest is at. sym (agree.slot table now rest is (sym (ap now_read (agree.now table is)) ∙ at));
}

-- A step of one is a step of the other.

then_along : {A B E : Type 0} (first other : Outcomes A E) (next more : A → Outcomes B E) (end : Result B E) → ((e : Result A E) → first e → other e)
    → ((a : A) (e : Result B E) → first (Ok a) → next a e → more a e) → Then first next end → Then other more end
then_along first other next more end along rest (inl (a, p, q)) = inl (a, along (Ok a) p, rest a end p q)
then_along first other next more end along rest (inr (e, p, is)) = inr (e, along (Err e) p, is)

each_same : {S A E : Type 0} (step other : S → A → Outcomes S E) → ((state : S) (item : A) (end : Result S E) → step state item end → other state item end)
    → (items : List A) (state : S) (end : Result S E) → Each step state items end → Each other state items end
each_same step other along [] state end ends = ends
each_same step other along (item ∷ items) state end ends =
    then_along (step state item) (other state item) (λ next. Each step next items) (λ next. Each other next items) end
    (λ e. along state item e) (λ next e first. each_same step other along items next e) ends

column_same : (after before : Files) (file : List ℕ) (rows : ℕ) (end : Result Shape OpenError) → after file ≡ before file → ColumnOf after file rows end → ColumnOf before file rows end
column_same after before file rows end same ends =
    subst (λ (found : Option (List ℕ)). Then (Gives (bind (ok_or found (error.NoFile file)) (limited file))) (λ bytes.
    Then (OneOrFault (HoldsColumn bytes) (HasFileFault bytes) (λ found. error.Column file (error_of found))) (λ held.
    Gives (for_rows file rows held))) end) same ends

texts_same : (after before : Files) (file : List ℕ) (end : Result (List Text) OpenError) → after file ≡ before file → TextsOf after file end → TextsOf before file end
texts_same after before file end same ends =
    subst (λ (found : Option (List ℕ)). Then (Gives (bind (ok_or found (error.NoFile file)) (limited file))) (λ bytes.
    OneOrFault (λ texts. IsDictionaryFile texts bytes) (HasDictionaryFault bytes) (λ found. error.Dict file found)) end) same ends

with_texts_same : (after before : Files) (file dictionary : List ℕ) (kind : Kind) (held : Shape) (end : Result Stored OpenError) → after dictionary ≡ before dictionary
    → WithTexts after file dictionary kind held end → WithTexts before file dictionary kind held end
with_texts_same after before file dictionary kind.Number held end same ends = ends
with_texts_same after before file dictionary kind.Text held end same ends =
    then_along (TextsOf after dictionary) (TextsOf before dictionary) (λ texts. Gives (with_codes file held texts)) (λ texts. Gives (with_codes file held texts)) end
    (λ e. texts_same after before dictionary e same) (λ texts e first gives. gives) ends

-- the files in the table's slot are the same
abbrev SameSlot : List ℕ → Now → Files → Files → Type 0
SameSlot table now after before = (rest : List ℕ) → after (slot_file table now.slot rest) ≡ before (slot_file table now.slot rest)

column_at_slot : (after before : Files) (table : List ℕ) (now : Now) (column : List ℕ) → SameSlot table now after before
    → after (column_file_name table now.slot column) ≡ before (column_file_name table now.slot column)
column_at_slot after before table now column same =
    ap after (column_in table now.slot column) ∙ same (column ++ 46 ∷ 99 ∷ 111 ∷ 108 ∷ []) ∙ sym (ap before (column_in table now.slot column))

dictionary_at_slot : (after before : Files) (table : List ℕ) (now : Now) (column : List ℕ) → SameSlot table now after before
    → after (dictionary_file_name table now.slot column) ≡ before (dictionary_file_name table now.slot column)
dictionary_at_slot after before table now column same =
    ap after (dictionary_in table now.slot column) ∙ same (column ++ 46 ∷ 100 ∷ 105 ∷ 99 ∷ []) ∙ sym (ap before (dictionary_in table now.slot column))

stored_same : (after before : Files) (table : List ℕ) (now : Now) (definition : ColumnDef) (end : Result Stored OpenError) → SameSlot table now after before → StoredOf after table now definition end
    → StoredOf before table now definition end
stored_same after before table now definition end same ends =
    let file = column_file_name table now.slot definition.name in
    let dictionary = dictionary_file_name table now.slot definition.name in
    then_along (ColumnOf after file now.rows) (ColumnOf before file now.rows) (λ held. WithTexts after file dictionary definition.kind held) (λ held. WithTexts before file dictionary definition.kind held) end
    (λ e. column_same after before file now.rows e (column_at_slot after before table now definition.name same))
    (λ held e first. with_texts_same after before file dictionary definition.kind held e (dictionary_at_slot after before table now definition.name same)) ends

more_same : (after before : Files) (table : List ℕ) (now : Now) (tables : List TableState) (id : ColumnId) (found : Option ColumnDef) (end : Result (List TableState) OpenError) → SameSlot table now after before
    → OneMore after table now tables id found end → OneMore before table now tables id found end
more_same after before table now tables id None end same ends = ends
more_same after before table now tables id (Some definition) end same ends =
    then_along (StoredOf after table now definition) (StoredOf before table now definition) (λ stored. Gives (Ok (placed tables id stored))) (λ stored. Gives (Ok (placed tables id stored))) end
    (λ e. stored_same after before table now definition e same) (λ stored e first gives. gives) ends

-- where the rows stand is read alike
now_said : (files : Files) (definition : TableDef) (now : Now) → StandsAt files definition now → now_of_table files definition.name ≡ Some now
now_said files definition now at = ap now_read at.there ∙ at.says

now_same : (after before : Files) (table : ℕ) (name : List ℕ) → after (now_file_name name) ≡ before (now_file_name name) → now_of after table name ≡ now_of before table name
now_same after before table name same = ap (λ (found : Option (List ℕ)). bind (ok_or found (error.NoFile (now_file_name name))) (λ bytes. ok_or (now_in bytes) (error.BadNow table))) same

table_same : (after before : Files) (schema : Schema) (needs : Needs) (tables : List TableState) (table : ℕ) (found : Option TableDef) (end : Result (List TableState) OpenError) → Agree after before
    → ((definition : TableDef) → found ≡ Some definition → IsName definition.name) → OneTable after schema needs tables table found end → OneTable before schema needs tables table found end
table_same after before schema needs tables table None end agree named ends = ends
table_same after before schema needs tables table (Some definition) end agree named ends =
    let name = definition.name in
    let is : IsName name = named definition refl in
    let key = KeyStep (is_key_needed definition needs table) table in
    let columns : Files → Now → Outcomes (List TableState) OpenError = λ files now. Each (ColumnStep files schema name now) (started tables table now.rows) (columns_of_table needs table) in
    then_along (Gives (now_of after table name)) (Gives (now_of before table name)) (λ now. Then (columns after now) key) (λ now. Then (columns before now) key) end
    (λ e gives. gives ∙ now_same after before table name (agree.now name is))
    (λ now e gives.
    let at : now_of_table before name ≡ Some now = now_said before definition now (now_there before table definition now (gives ∙ now_same after before table name (agree.now name is))) in
    then_along (columns after now) (columns before now) key key e
    (each_same (ColumnStep after schema name now) (ColumnStep before schema name now) (λ state id e. more_same after before name now state id (column_at schema id) e (λ rest. agree.slot name now rest is at))
    (columns_of_table needs table) (started tables table now.rows))
    (λ filled e first keyed. keyed)) ends

-- each table of a lawful schema has a name
all_slice : {A : Type 0} (P : A → Type 0) (items : List A) (place : ℕ) (item : A) → AllByRecursion P items → slice_get items place ≡ Some item → P item
all_slice P [] place item all there = absurd (cc there)
all_slice P (first ∷ items) zero item all there =
    let same : first ≡ item = cc there in subst P same all.0
all_slice P (first ∷ items) (suc place) item all there = all_slice P items place item all.1 there

pub name_at : (schema : Schema) (table : ℕ) (definition : TableDef) → IsSchema schema → table_at schema table ≡ Some definition → IsName definition.name
name_at schema table definition lawful there =
    let is : IsTableDef definition = all_slice IsTableDef schema.tables table definition lawful.tables there in is.name

opens_along : (after before : Files) → Agree after before → (schema : Schema) (needs : Needs) (end : Result (List TableState) OpenError) → IsSchema schema → Opened after schema needs end → Opened before schema needs end
opens_along after before agree schema needs end lawful ends =
    each_same (TableStep after schema needs) (TableStep before schema needs)
    (λ state table e. table_same after before schema needs state table (table_at schema table) e agree (λ definition there. name_at schema table definition lawful there))
    needs.tables (nothing_yet schema) end ends

pub same_rows : (after before : Files) → Agree after before → SameRows after before
same_rows after before agree schema needs end lawful is =
    (opens_along after before agree schema needs end lawful, opens_along before after (agree_back after before agree) schema needs end lawful)

-- Spare files are not read.

spare_no_now : (table other : List ℕ) (slot : ℕ) (rest : List ℕ) → IsName table → IsName other → now_file_name other ≡ slot_file table slot rest → ⊥
spare_no_now table other slot rest is be same = now_no_slot slot rest (same_table other table (110 ∷ 111 ∷ 119 ∷ []) (slot ∷ 46 ∷ rest) be is same).1

spare_other_slot : (files : Files) (table other : List ℕ) (now : Now) (rest more : List ℕ) → IsName table → IsName other → now_of_table files other ≡ Some now
    → slot_file other now.slot rest ≡ slot_file table (slot_to_write files table) more → ⊥
spare_other_slot files table other now rest more is be at same =
    let p = same_table other table (now.slot ∷ 46 ∷ rest) (slot_to_write files table ∷ 46 ∷ more) be is same in
    let slots : now.slot ≡ slot_to_write files table = cc p.1 in
    slots_apart now (slots ∙ ap other_slot (sym (ap (now_of_table files) p.0) ∙ at))

pub spare_files_are_unread : SpareFilesAreUnread
spare_files_are_unread files held table is others =
    let slot = slot_to_write files table.name in
    let found : (name : List ℕ) → IsSpareFile table files name → (rest : List ℕ) × (name ≡ slot_file table.name slot rest) =
    λ name spare. data_in_slot table.name slot table.columns name (contains_among name (data_file_names table slot) spare) in
    same_rows held files (record {
      now = λ other be. others (now_file_name other) (λ spare.
          let (rest, same) = found (now_file_name other) spare in
          spare_no_now table.name other slot rest is be same);
      slot = λ other now rest be at. others (slot_file other now.slot rest) (λ spare.
          let (more, same) = found (slot_file other now.slot rest) spare in
          spare_other_slot files table.name other now rest more is be at same);
    })
