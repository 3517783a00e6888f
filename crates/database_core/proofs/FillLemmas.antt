-- Steps of the code that fill tables are the steps of their definitions.
use Rattle.std.proofs.Common.{◌≡◌, ◌<◌, ℕ, zero, suc, Bool, true, false, List, [], ◌∷◌, ◌++◌, length, get_or, inl, inr, Option, Some, None, Result, Ok, Err, refl, sym, ap, ◌∙◌, subst, eq-eqb, arith}
use Rattle.std.proofs.lemmas.Bool.{cases_Bool}
use Rattle.std.proofs.lemmas.Option.{slice_get_read, slice_get_within}
use Rattle.std.specs.Prelude.{nat_eq, slice_get, slice_index, unwrap_or, is_some, IsSome, IfSome, IsTrue}
use Rattle.std.specs.List.{AllByRecursion, IsDistinct}
use Rattle.definitions_outcomes.specs.Computed.{and_then}
use Rattle.definitions_outcomes.specs.Outcomes.{Outcomes, Gives, Then, Each}
use Rattle.definitions_outcomes.proofs.OutcomeLaws.{same_value, same_refusal}
use Rattle.stream_core.specs.Files.{Files}
use Rattle.stream_core.specs.Names.{column_file_name, dictionary_file_name}
use Rattle.column_core.specs.Columns.{Shape}
use Rattle.catalog_core.specs.Columns.{table_at, column_at, columns_of_table}
use Rattle.catalog_core.specs.Texts.{Text}
use Rattle.catalog_core.specs.declared.columns.ColumnId.{ColumnId}
use Rattle.catalog_core.specs.declared.columns.Needs.{Needs}
use Rattle.catalog_core.specs.declared.schemas.Kind.{Kind}
use Rattle.catalog_core.specs.declared.schemas.Kind.TheVariants as kind
use Rattle.catalog_core.specs.declared.schemas.ColumnDef.{ColumnDef}
use Rattle.catalog_core.specs.declared.schemas.TableDef.{TableDef}
use Rattle.catalog_core.specs.declared.schemas.Schema.{Schema}
use Rattle.table_core.specs.Tables.{TableState, started, placed, key_values, are_codes}
use Rattle.table_core.specs.Held.{HasEqualKeys, KeysDiffer, is_key_needed, is_text}
use Rattle.database_core.specs.NowFiles.{Now}
use Rattle.database_core.specs.Opening.{ColumnOf, WithTexts, OneMore, ColumnStep, KeyStep, OneTable, TableStep, now_of, with_codes}
use Rattle.database_core.specs.Opens.{Opens}
use Rattle.database_core.specs.Filling.{Puts, FitsKind, if_of}
use Rattle.database_core.specs.Steps.{TextsFor, put_in, stored}
use Rattle.database_core.specs.declared.errors.OpenError.{OpenError}
use Rattle.database_core.specs.declared.errors.OpenError.TheVariants as error
use Rattle.database_core.proofs.FilledLemmas.{is_some_has}
use Rattle.database_core.proofs.StepLemmas.{Opens-along, Opens-refused}

-- A column with its texts.

refused_texts : (files : Files) (file dictionary : List ℕ) (kind : Kind) (held : Shape) (given : OpenError) → TextsFor files dictionary kind (Err given) → WithTexts files file dictionary kind held (Err given)
refused_texts files file dictionary kind.Number held given is = absurd (cc is)
refused_texts files file dictionary kind.Text held given (inl (texts, first, is)) = absurd (cc is)
refused_texts files file dictionary kind.Text held given (inr (refusal, first, is)) = inr (refusal, first, ap (λ (e : OpenError). Err e) (same_refusal given refusal is))

module _ (files : Files) (file dictionary : List ℕ) (tables : List TableState) (id : ColumnId) (held : Shape) where
  put_texts : (kind : Kind) (texts : Option (List Text)) (end : Result (List TableState) OpenError) → TextsFor files dictionary kind (Ok texts) → end ≡ put_in file tables id held texts
      → Then (WithTexts files file dictionary kind held) (λ one. Gives (Ok (placed tables id one))) end
  put_texts kind.Number texts end given is =
      let none : texts ≡ None = same_value texts None given in
      inl (stored held None, refl, is ∙ ap (put_in file tables id held) none)
  put_texts kind.Text texts end (inr (refusal, first, is)) never = absurd (cc is)
  put_texts kind.Text texts end (inl (given, first, same)) is =
      let some : texts ≡ Some given = same_value texts (Some given) same in
      let ends : end ≡ put_in file tables id held (Some given) = is ∙ ap (put_in file tables id held) some in
      elim (cases_Bool (are_codes (Some given) held.values)) [
        | inl good ↦ inl (stored held (Some given), inl (given, first, sym (good_codes given good)), ends ∙ good_put given good)
        | inr bad ↦ inr (error.BadCode file, inl (given, first, sym (bad_codes given bad)), ends ∙ bad_put given bad)
      ] where
        good_codes : (texts : List Text) → are_codes (Some texts) held.values ≡ true → with_codes file held texts ≡ Ok (stored held (Some texts))
        good_codes texts good = rw good

        bad_codes : (texts : List Text) → are_codes (Some texts) held.values ≡ false → with_codes file held texts ≡ Err (error.BadCode file)
        bad_codes texts bad = rw bad

        good_put : (texts : List Text) → are_codes (Some texts) held.values ≡ true → put_in file tables id held (Some texts) ≡ Ok (placed tables id (stored held (Some texts)))
        good_put texts good = rw good

        bad_put : (texts : List Text) → are_codes (Some texts) held.values ≡ false → put_in file tables id held (Some texts) ≡ Err (error.BadCode file)
        bad_put texts bad = rw bad

-- steps that follow one another in another grouping
regroup : {A B C : Type 0} (first : Outcomes A OpenError) (next : A → Outcomes B OpenError) (last : B → Outcomes C OpenError) (value : A) (end : Result C OpenError) → first (Ok value) → Then (next value) last end
    → Then (Then first next) last end
regroup first next last value end gone (inl (given, second, third)) = inl (given, inl (value, gone, second), third)
regroup first next last value end gone (inr (refusal, second, is)) = inr (refusal, inl (value, gone, second), is)

module _ (files : Files) (table : List ℕ) (now : Now) (tables : List TableState) (id : ColumnId) (definition : ColumnDef) (view : Unit {0} → List TableState) where
  pub column_refused : (given : OpenError) → Opens (λ (held : Shape). held) (Err given) (ColumnOf files (column_file_name table now.slot definition.name) now.rows)
      → Opens view (Err given) (OneMore files table now tables id (Some definition))
  column_refused given h =
      Opens-refused (λ (held : Shape). held) (ColumnOf files (column_file_name table now.slot definition.name) now.rows) view (OneMore files table now tables id (Some definition)) given
      (λ e. inr (given, inr (given, e, refl), refl)) h

  pub texts_refused : (held : Shape) (given : OpenError) → ColumnOf files (column_file_name table now.slot definition.name) now.rows (Ok held)
      → Opens (λ (texts : Option (List Text)). texts) (Err given) (TextsFor files (dictionary_file_name table now.slot definition.name) definition.kind)
      → Opens view (Err given) (OneMore files table now tables id (Some definition))
  texts_refused held given gone h =
      let file = column_file_name table now.slot definition.name in
      let dictionary = dictionary_file_name table now.slot definition.name in
      Opens-refused (λ (texts : Option (List Text)). texts) (TextsFor files dictionary definition.kind) view (OneMore files table now tables id (Some definition)) given
      (λ e. inr (given, inl (held, gone, refused_texts files file dictionary definition.kind held given e), refl)) h

  pub column_put : (held : Shape) (texts : Option (List Text)) (result : Result (Unit {0}) OpenError) → ColumnOf files (column_file_name table now.slot definition.name) now.rows (Ok held)
      → TextsFor files (dictionary_file_name table now.slot definition.name) definition.kind (Ok texts)
      → Opens view result (Gives (put_in (column_file_name table now.slot definition.name) tables id held texts)) → Opens view result (OneMore files table now tables id (Some definition))
  column_put held texts result gone given h =
      let file = column_file_name table now.slot definition.name in
      let dictionary = dictionary_file_name table now.slot definition.name in
      let to : (end : Result (List TableState) OpenError) → end ≡ put_in file tables id held texts → OneMore files table now tables id (Some definition) end =
      λ end is. regroup (ColumnOf files file now.rows) (λ one. WithTexts files file dictionary definition.kind one) (λ one. Gives (Ok (placed tables id one))) held end gone
      (put_texts files file dictionary tables id held definition.kind texts end given is) in
      Opens-along view (Gives (put_in file tables id held texts)) view (OneMore files table now tables id (Some definition)) result (λ done e. to (Ok (view done)) e) (λ refusal e. to (Err refusal) e) h

-- One more column, if it is of the table.

pub one_turn : {S A : Type 0} (step : S → A → Outcomes S OpenError) (state : S) (item : A) (view : Unit {0} → S) (result : Result (Unit {0}) OpenError) → Opens view result (step state item)
    → Opens view result (Each step state (item ∷ []))
one_turn step state item view result h =
    Opens-along view (step state item) view (Each step state (item ∷ [])) result (λ done e. inl (view done, e, refl)) (λ refusal e. inr (refusal, e, refl)) h

pub is_of : (table : ℕ) (id : ColumnId) → id.table ≡ table → if_of table id ≡ id ∷ []
is_of table id same = rw (eq-eqb id.table table same)

pub column_is : (schema : Schema) (table : ℕ) (id : ColumnId) (definition : TableDef) (column : ColumnDef) → table_at schema table ≡ Some definition → id.table ≡ table → IsSome (column_at schema id)
    → column ≡ get_or definition.columns id.column column → column_at schema id ≡ Some column
column_is schema table id definition column known same some is =
    let here : table_at schema id.table ≡ Some definition = ap (table_at schema) same ∙ known in
    let found = is_some_has (column_at schema id) some in
    let there : column_at schema id ≡ slice_get definition.columns id.column = ap (λ (t : Option TableDef). and_then t (λ one. slice_get one.columns id.column)) here in
    there ∙ slice_get_read definition.columns (length definition.columns) id.column column refl (slice_get_within definition.columns id.column found.0 (sym there ∙ found.1)) is

pub column_fits : (schema : Schema) (column : ColumnDef) (tables : List TableState) (id : ColumnId) (end : Result (List TableState) OpenError) → column_at schema id ≡ Some column
    → Puts (λ one given. is_some given.texts ≡ is_text column.kind) tables id end → Puts (FitsKind schema) tables id end
column_fits schema column tables id end known puts = record { stored = puts.stored; fits = fits_some (column_at schema id) known; done = puts.done } where
  fits_some : (found : Option ColumnDef) → found ≡ Some column → IfSome found (λ one. is_some puts.stored.texts ≡ is_text one.kind)
  fits_some found is = rw is puts.fits

-- A loop over items goes on from what is done.

pub each_append : {S A : Type 0} (step : S → A → Outcomes S OpenError) (first rest : List A) (state next : S) (end : Result S OpenError) → Each step state first (Ok next) → Each step next rest end → Each step state (first ++ rest) end
each_append step [] rest state next end done left = subst (λ s. Each step s rest end) (same_value next state done) left
each_append step (item ∷ first) rest state next end (inl (value, gone, done)) left = inl (value, gone, each_append step first rest value next end done left)
each_append step (item ∷ first) rest state next end (inr (refusal, gone, is)) left = absurd (cc is)

pub each_refused : {S A : Type 0} (step : S → A → Outcomes S OpenError) (first rest : List A) (state : S) (given : OpenError) → Each step state first (Err given) → Each step state (first ++ rest) (Err given)
each_refused step [] rest state given is = absurd (cc is)
each_refused step (item ∷ first) rest state given (inl (value, gone, done)) = inl (value, gone, each_refused step first rest value given done)
each_refused step (item ∷ first) rest state given (inr (refusal, gone, is)) = inr (refusal, gone, is)

-- Keys that repeat are refused.

all_place : (P : ℕ → Type 0) (items : List ℕ) (place : ℕ) → AllByRecursion P items → place < length items → P (get_or items place 0)
all_place P [] place all within = absurd (omega (arith, within))
all_place P (item ∷ items) zero all within = all.0
all_place P (item ∷ items) (suc place) all within = all_place P items place all.1 (omega (arith, within))

equal_keys : (values : List ℕ) (row later : ℕ) → row < later → later < length values → slice_index values row ≡ slice_index values later → IsDistinct nat_eq values → ⊥
unfolding IsDistinct
equal_keys [] row later before within same distinct = absurd (omega (arith, within))
equal_keys (value ∷ values) row zero before within same distinct = absurd (omega (arith, before))
equal_keys (value ∷ values) zero (suc later) before within same distinct =
    let differ : nat_eq value (get_or values later 0) ≡ false = all_place (λ other. nat_eq value other ≡ false) values later distinct.0 (omega (arith, within)) in
    absurd (cc (sym differ ∙ eq-eqb value (get_or values later 0) same))
equal_keys (value ∷ values) (suc row) (suc later) before within same distinct = equal_keys values row later (omega (arith, before)) (omega (arith, within)) same distinct.1

repeat_differs : (found : Option (List ℕ)) → IsSome found → IfSome found HasEqualKeys → IsDistinct nat_eq (unwrap_or found []) → ⊥
repeat_differs None some has distinct = absurd (cc some)
repeat_differs (Some values) some has distinct = equal_keys values has.row has.later has.order has.within has.equal distinct

pub key_repeated : (needed : Bool) (table : ℕ) (tables : List TableState) → needed ≡ true → IsSome (key_values tables table) → IfSome (key_values tables table) HasEqualKeys → KeyStep needed table tables (Err (error.RepeatedKey table))
key_repeated false table tables is some has = absurd (cc is)
key_repeated true table tables is some has = (λ held differ. repeat_differs (key_values tables table) some has differ.1, refl)

-- A table's steps.

module _ (files : Files) (schema : Schema) (needs : Needs) (tables : List TableState) (table : ℕ) (definition : TableDef) (known : table_at schema table ≡ Some definition) (see : Unit {0} → List TableState) where
  known_step : (result : Result (Unit {0}) OpenError) → Opens see result (OneTable files schema needs tables table (Some definition)) → Opens see result (TableStep files schema needs tables table)
  known_step result h = subst (λ (found : Option TableDef). Opens see result (OneTable files schema needs tables table found)) (sym known) h

  pub now_refused : {X : Type 0} (view : X → Now) (given : OpenError) → Opens view (Err given) (Gives (now_of files table definition.name)) → Opens see (Err given) (TableStep files schema needs tables table)
  now_refused view given h =
      known_step (Err given) (Opens-refused view (Gives (now_of files table definition.name)) see (OneTable files schema needs tables table (Some definition)) given (λ e. inr (given, e, refl)) h)

  pub columns_refused : (view : Unit {0} → List TableState) (now : Now) (given : OpenError) → Ok now ≡ now_of files table definition.name
      → Opens view (Err given) (Each (ColumnStep files schema definition.name now) (started tables table now.rows) (columns_of_table needs table)) → Opens see (Err given) (TableStep files schema needs tables table)
  columns_refused view now given gone h =
      known_step (Err given)
      (Opens-refused view (Each (ColumnStep files schema definition.name now) (started tables table now.rows) (columns_of_table needs table)) see (OneTable files schema needs tables table (Some definition)) given
      (λ e. inl (now, gone, inr (given, e, refl))) h)

  pub key_ended : (now : Now) (filled : List TableState) (result : Result (Unit {0}) OpenError) → Ok now ≡ now_of files table definition.name
      → Each (ColumnStep files schema definition.name now) (started tables table now.rows) (columns_of_table needs table) (Ok filled)
      → Opens see result (KeyStep (is_key_needed definition needs table) table filled) → Opens see result (TableStep files schema needs tables table)
  key_ended now filled result gone run h =
      known_step result
      (Opens-along see (KeyStep (is_key_needed definition needs table) table filled) see (OneTable files schema needs tables table (Some definition)) result
      (λ done e. inl (now, gone, inl (filled, run, e))) (λ refusal e. inl (now, gone, inl (filled, run, e))) h)

pub keys_known : (schema : Schema) (needs : Needs) (tables : List TableState) (table : ℕ) (definition : TableDef) → table_at schema table ≡ Some definition
    → (IsTrue (is_key_needed definition needs table) → IfSome (key_values tables table) (IsDistinct nat_eq)) → KeysDiffer schema needs tables table
keys_known schema needs tables table definition known differ = rw known differ
