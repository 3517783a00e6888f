-- The files of a column, among the data files that are written.
use Rattle.std.proofs.Common.{◌≡◌, ◌≢◌, ℕ, zero, suc, false, List, [], ◌∷◌, ◌++◌, length, length-append, Option, Some, None, refl, sym, ap, ◌∙◌, subst, arith}
use Rattle.std.proofs.lemmas.List.{append_cancel_left, append_cancel_right}
use Rattle.std.proofs.lemmas.Slice.Eq.{bytes_eq-Decides}
use Rattle.std.specs.Prelude.{get_or, map, slice_get, IfSome}
use Rattle.std.specs.List.{AllByRecursion, IsDistinct}
use Rattle.std.specs.Str.{bytes_eq}
use Rattle.definitions_columns.specs.ColumnFiles.{IsColumnFile}
use Rattle.stream_core.specs.Files.{Files}
use Rattle.stream_core.specs.Names.{column_file_name, dictionary_file_name}
use Rattle.block_core.specs.Formats.{format_of}
use Rattle.catalog_core.specs.Dictionaries.{AreTexts, dictionary_file}
use Rattle.catalog_core.specs.Texts.{Text}
use Rattle.catalog_core.specs.declared.schemas.ColumnDef.{ColumnDef}
use Rattle.table_core.specs.Tables.{Stored}
use Rattle.database_core.specs.Saving.{File, file, put, puts, files_of_column, AreDataFiles}
use Rattle.database_core.proofs.FileNameLemmas.{slot_file, column_in, dictionary_in}
use Rattle.database_core.proofs.PutLemmas.{put_there, put_other, puts_other, puts-append}

-- Files of columns of different names differ.

same_rest : (table : List ℕ) (slot : ℕ) (rest more : List ℕ) → slot_file table slot rest ≡ slot_file table slot more → rest ≡ more
same_rest table slot rest more same =
    let after : 46 ∷ slot ∷ 46 ∷ rest ≡ 46 ∷ slot ∷ 46 ∷ more = append_cancel_left table (46 ∷ slot ∷ 46 ∷ rest) (46 ∷ slot ∷ 46 ∷ more) same in
    cc after

endings_apart : (name other : List ℕ) → name ++ 46 ∷ 99 ∷ 111 ∷ 108 ∷ [] ≡ other ++ 46 ∷ 100 ∷ 105 ∷ 99 ∷ [] → ⊥
endings_apart [] [] same =
    let letters : ◌≡◌ {A = ℕ} 99 100 = ap (λ (bytes : List ℕ). get_or bytes 1 0) same in absurd (omega (arith, letters))
endings_apart [] (y ∷ ys) same = absurd (omega (arith, ap length same, length-append ys (46 ∷ 100 ∷ 105 ∷ 99 ∷ [])))
endings_apart (x ∷ xs) [] same = absurd (omega (arith, ap length same, length-append xs (46 ∷ 99 ∷ 111 ∷ 108 ∷ [])))
endings_apart (x ∷ xs) (y ∷ ys) same =
    let after : xs ++ 46 ∷ 99 ∷ 111 ∷ 108 ∷ [] ≡ ys ++ 46 ∷ 100 ∷ 105 ∷ 99 ∷ [] = cc same in endings_apart xs ys after

module _ (table : List ℕ) (slot : ℕ) (name other : List ℕ) where
  columns_apart : name ≢ other → column_file_name table slot name ≢ column_file_name table slot other
  columns_apart apart same =
      let ends = 46 ∷ 99 ∷ 111 ∷ 108 ∷ [] in
      apart (append_cancel_right name other ends (same_rest table slot (name ++ ends) (other ++ ends) (sym (column_in table slot name) ∙ same ∙ column_in table slot other)))

  dictionaries_apart : name ≢ other → dictionary_file_name table slot name ≢ dictionary_file_name table slot other
  dictionaries_apart apart same =
      let ends = 46 ∷ 100 ∷ 105 ∷ 99 ∷ [] in
      apart (append_cancel_right name other ends (same_rest table slot (name ++ ends) (other ++ ends) (sym (dictionary_in table slot name) ∙ same ∙ dictionary_in table slot other)))

  kinds_apart : column_file_name table slot name ≢ dictionary_file_name table slot other
  kinds_apart same =
      endings_apart name other
      (same_rest table slot (name ++ 46 ∷ 99 ∷ 111 ∷ 108 ∷ []) (other ++ 46 ∷ 100 ∷ 105 ∷ 99 ∷ []) (sym (column_in table slot name) ∙ same ∙ dictionary_in table slot other))

-- none of the files is a column's of this name, nor its dictionary's
record AreOthers (table : List ℕ) (slot : ℕ) (name : List ℕ) (files : List File) : Type 0 where
  column : AllByRecursion (λ (one : File). column_file_name table slot name ≢ one.name) files
  dictionary : AllByRecursion (λ (one : File). dictionary_file_name table slot name ≢ one.name) files

all_append : {A : Type 0} (P : A → Type 0) (first rest : List A) → AllByRecursion P first → AllByRecursion P rest → AllByRecursion P (first ++ rest)
all_append P [] rest all more = more
all_append P (item ∷ first) rest all more = (all.0, all_append P first rest all.1 more)

others_first : (table : List ℕ) (slot : ℕ) (name other bytes : List ℕ) (texts : Option (List Text)) → name ≢ other → AreOthers table slot name (files_of_column table slot other bytes texts)
others_first table slot name other bytes None apart = record {
  column = (columns_apart table slot name other apart, tt);
  dictionary = ((λ same. kinds_apart table slot other name (sym same)), tt);
}
others_first table slot name other bytes (Some texts) apart = record {
  column = (columns_apart table slot name other apart, (kinds_apart table slot name other, tt));
  dictionary = ((λ same. kinds_apart table slot other name (sym same)), (dictionaries_apart table slot name other apart, tt));
}

others : (table : List ℕ) (slot : ℕ) (name : List ℕ) (definitions : List ColumnDef) (columns : List Stored) (written : List File) → AllByRecursion (λ definition. name ≢ definition.name) definitions
    → AreDataFiles table slot definitions columns written → AreOthers table slot name written
others table slot name [] columns written apart are = subst (AreOthers table slot name) (sym are) (record { column = tt; dictionary = tt })
others table slot name (definition ∷ definitions) [] written apart are = subst (AreOthers table slot name) (sym are) (record { column = tt; dictionary = tt })
others table slot name (definition ∷ definitions) (stored ∷ columns) written apart (first, rest, is, (bytes, encoded, lawful, files), are) =
    let one : AreOthers table slot name first = subst (AreOthers table slot name) (sym files) (others_first table slot name definition.name bytes stored.texts apart.0) in
    let more : AreOthers table slot name rest = others table slot name definitions columns rest apart.1 are in
    subst (AreOthers table slot name) (sym is)
    (record {
      column = all_append (λ (file : File). column_file_name table slot name ≢ file.name) first rest one.column more.column;
      dictionary = all_append (λ (file : File). dictionary_file_name table slot name ≢ file.name) first rest one.dictionary more.dictionary;
    })

-- A column's files are there.

abbrev pub TextsHeld : Files → List ℕ → Option (List Text) → Type 0
TextsHeld files name None = Unit {0}
TextsHeld files name (Some texts) = files name ≡ Some (dictionary_file texts)

pub record IsHeld (files : Files) (table : List ℕ) (slot : ℕ) (definition : ColumnDef) (stored : Stored) : Type 0 where
  pub bytes : List ℕ
  pub encoded : IsColumnFile (format_of stored.column.format) stored.column.values bytes
  pub lawful : IfSome stored.texts AreTexts
  pub there : files (column_file_name table slot definition.name) ≡ Some bytes
  pub texts : TextsHeld files (dictionary_file_name table slot definition.name) stored.texts

pub held_like : (files held : Files) (table : List ℕ) (slot : ℕ) (definition : ColumnDef) (stored : Stored)
    → held (column_file_name table slot definition.name) ≡ files (column_file_name table slot definition.name)
    → held (dictionary_file_name table slot definition.name) ≡ files (dictionary_file_name table slot definition.name)
    → IsHeld files table slot definition stored → IsHeld held table slot definition stored
held_like files held table slot definition stored column dictionary is = record {
  bytes = is.bytes;
  encoded = is.encoded;
  lawful = is.lawful;
  there = column ∙ is.there;
  texts = texts stored.texts is.texts;
} where
  texts : (found : Option (List Text)) → TextsHeld files (dictionary_file_name table slot definition.name) found → TextsHeld held (dictionary_file_name table slot definition.name) found
  texts None there = tt
  texts (Some found) there = dictionary ∙ there

column_set : (table : List ℕ) (slot : ℕ) (name bytes : List ℕ) (texts : Option (List Text)) (files : Files) → puts files (files_of_column table slot name bytes texts) (column_file_name table slot name) ≡ Some bytes
column_set table slot name bytes None files = put_there files (file (column_file_name table slot name) bytes) (column_file_name table slot name) refl
column_set table slot name bytes (Some texts) files =
    put_other (put files (file (column_file_name table slot name) bytes)) (file (dictionary_file_name table slot name) (dictionary_file texts)) (column_file_name table slot name) (kinds_apart table slot name name)
    ∙ put_there files (file (column_file_name table slot name) bytes) (column_file_name table slot name) refl

texts_set : (table : List ℕ) (slot : ℕ) (name bytes : List ℕ) (texts : Option (List Text)) (files : Files)
    → TextsHeld (puts files (files_of_column table slot name bytes texts)) (dictionary_file_name table slot name) texts
texts_set table slot name bytes None files = tt
texts_set table slot name bytes (Some texts) files =
    put_there (put files (file (column_file_name table slot name) bytes)) (file (dictionary_file_name table slot name) (dictionary_file texts)) (dictionary_file_name table slot name) refl

names_differ : (name : List ℕ) (definitions : List ColumnDef) → AllByRecursion (λ (other : List ℕ). bytes_eq name other ≡ false) (map (λ definition. definition.name) definitions)
    → AllByRecursion (λ definition. name ≢ definition.name) definitions
names_differ name [] differ = tt
names_differ name (definition ∷ definitions) differ =
    ((λ same. cc (sym differ.0 ∙ (bytes_eq-Decides name definition.name).1 same)), names_differ name definitions differ.1)

pub held_at : (table : List ℕ) (slot : ℕ) (definitions : List ColumnDef) (columns : List Stored) (written : List File) (files : Files) (place : ℕ) (definition : ColumnDef) (stored : Stored)
    → IsDistinct bytes_eq (map (λ one. one.name) definitions) → AreDataFiles table slot definitions columns written → slice_get definitions place ≡ Some definition → slice_get columns place ≡ Some stored
    → IsHeld (puts files written) table slot definition stored
unfolding IsDistinct
held_at table slot [] columns written files place definition stored distinct are defined there = absurd (cc defined)
held_at table slot (one ∷ definitions) [] written files place definition stored distinct are defined there = absurd (cc there)
held_at table slot (one ∷ definitions) (column ∷ columns) written files zero definition stored distinct (first, rest, is, (bytes, encoded, lawful, set), are) defined there =
    let here : IsHeld (puts files first) table slot one column =
    subst (λ (list : List File). IsHeld (puts files list) table slot one column) (sym set)
    (record {
      bytes = bytes;
      encoded = encoded;
      lawful = lawful;
      there = column_set table slot one.name bytes column.texts files;
      texts = texts_set table slot one.name bytes column.texts files;
    }) in
    let apart : AreOthers table slot one.name rest = others table slot one.name definitions columns rest (names_differ one.name definitions distinct.0) are in
    let all : IsHeld (puts (puts files first) rest) table slot one column =
    held_like (puts files first) (puts (puts files first) rest) table slot one column
    (puts_other (puts files first) rest (column_file_name table slot one.name) apart.column) (puts_other (puts files first) rest (dictionary_file_name table slot one.name) apart.dictionary) here in
    let definition_is : one ≡ definition = cc defined in
    let stored_is : column ≡ stored = cc there in
    let whole : puts (puts files first) rest ≡ puts files written = sym (puts-append files first rest) ∙ ap (puts files) (sym is) in
    subst (λ (d : ColumnDef). IsHeld (puts files written) table slot d stored) definition_is
    (subst (λ (s : Stored). IsHeld (puts files written) table slot one s) stored_is (subst (λ (f : Files). IsHeld f table slot one column) whole all))
held_at table slot (one ∷ definitions) (column ∷ columns) written files (suc place) definition stored distinct (first, rest, is, set, are) defined there =
    let whole : puts (puts files first) rest ≡ puts files written = sym (puts-append files first rest) ∙ ap (puts files) (sym is) in
    subst (λ (f : Files). IsHeld f table slot definition stored) whole (held_at table slot definitions columns rest (puts files first) place definition stored distinct.1 are defined there)
