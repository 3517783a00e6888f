-- The steps of a save, one after the other.
use Rattle.std.proofs.Common.{◌≡◌, ◌≢◌, ◌≤◌, ◌+◌, ℕ, zero, suc, List, [], ◌∷◌, ◌++◌, drop, length, inl, inr, Option, Some, None, Result, Ok, Err, refl, sym, ap, ◌∙◌, subst, drop_of_length-le, arith}
use Rattle.std.proofs.lemmas.Option.{slice_get_within, get_or_from_slice_get}
use Rattle.std.specs.Prelude.{slice_get, flat_map}
use Rattle.definitions_columns.specs.ColumnFiles.{IsColumnFile}
use Rattle.stream_core.specs.Files.{Files}
use Rattle.stream_core.specs.Names.{now_file_name, column_file_name, dictionary_file_name}
use Rattle.stream_core.specs.Stores.{Exceeds, IsSaved, Saves}
use Rattle.stream_core.specs.declared.storing.SaveError.{SaveError}
use Rattle.stream_core.specs.declared.storing.SaveError.TheVariants as save
use Rattle.block_core.specs.Formats.{format_of}
use Rattle.column_core.specs.Columns.{Shape}
use Rattle.catalog_core.specs.Dictionaries.{IsDictionaryFile}
use Rattle.catalog_core.specs.Texts.{Text}
use Rattle.catalog_core.specs.declared.schemas.ColumnDef.{ColumnDef}
use Rattle.table_core.specs.Tables.{Stored}
use Rattle.database_core.specs.Saving.{file, put, puts, FitsDefinition, AreColumnsOf, files_of_column}
use Rattle.database_core.specs.SavingSteps.{Between, ChangesOnly, Sets, WritesColumn, WritesColumns}
use Rattle.database_core.specs.TableFiles.{Same, now_read, other_slot, names_of_column, slot_to_write}
use Rattle.database_core.proofs.FileNameLemmas.{column_among}
use Rattle.database_core.proofs.ListLemmas.{Among, among_contains, contains_among}
use Rattle.database_core.proofs.LoopLemmas.{items_here}
use Rattle.database_core.proofs.NowLemmas.{other_length}
use Rattle.database_core.proofs.PutLemmas.{same_put, same_puts, puts-append, is_put}

-- Files before and after.

pub between_join : (first next whole : Files → Files → Type 0) → ((f g h : Files) → first f g → next g h → whole f h) → (a b c : Option Files) → Between first a b → Between next b c → Between whole a c
between_join first next whole join None None c p q = q
between_join first next whole join None (Some g) c p q = absurd (cc p)
between_join first next whole join (Some f) None c p q = absurd p
between_join first next whole join (Some f) (Some g) None p q = absurd q
between_join first next whole join (Some f) (Some g) (Some h) p q = join f g h p q

pub between_map : (holds other : Files → Files → Type 0) → ((f g : Files) → holds f g → other f g) → (a b : Option Files) → Between holds a b → Between other a b
between_map holds other along None b p = p
between_map holds other along (Some f) None p = absurd p
between_map holds other along (Some f) (Some g) p = along f g p

pub between_same : (holds : Files → Files → Type 0) → ((f : Files) → holds f f) → (a : Option Files) → Between holds a a
between_same holds always None = refl
between_same holds always (Some f) = always f

-- A file is saved.

saved_between : (a b : Option Files) (name bytes : List ℕ) (result : Result (Unit {0}) SaveError) → IsSaved a b name bytes result → Between (λ f g. Saves f g name bytes result) a b
saved_between None b name bytes result saved = saved
saved_between (Some f) None name bytes result saved = absurd saved
saved_between (Some f) (Some g) name bytes result saved = saved

pub file_set : (a b : Option Files) (name bytes : List ℕ) (done : Unit {0}) → IsSaved a b name bytes (Ok done) → Between (Sets (file name bytes)) a b
file_set a b name bytes done saved =
    between_map (λ f g. Saves f g name bytes (Ok done)) (Sets (file name bytes)) (λ f g replaces. is_put f g (file name bytes) replaces.0 replaces.1) a b (saved_between a b name bytes (Ok done) saved)

saves_changes : (f g : Files) (name bytes : List ℕ) (result : Result (Unit {0}) SaveError) → Saves f g name bytes result → (other : List ℕ) → other ≢ name → g other ≡ f other
saves_changes f g name bytes (Ok done) saves other apart = saves.1 other apart
saves_changes f g name bytes (Err save.Failed) saves other apart = saves other apart
saves_changes f g name bytes (Err save.Memory) saves other apart = saves other

pub file_changes : (a b : Option Files) (name bytes : List ℕ) (result : Result (Unit {0}) SaveError) → IsSaved a b name bytes result → Between (ChangesOnly (name ∷ [])) a b
file_changes a b name bytes result saved =
    between_map (λ f g. Saves f g name bytes result) (ChangesOnly (name ∷ []))
    (λ f g saves other none. saves_changes f g name bytes result saves other (λ same. none (among_contains other (name ∷ []) (inl (sym same))))) a b (saved_between a b name bytes result saved)

pub file_kept : (a b : Option Files) (name bytes : List ℕ) → IsSaved a b name bytes (Err save.Memory) → Between (ChangesOnly []) a b
file_kept a b name bytes saved =
    between_map (λ f g. Saves f g name bytes (Err save.Memory)) (ChangesOnly []) (λ f g kept other none. kept other) a b (saved_between a b name bytes (Err save.Memory) saved)

-- a file that is too long says nothing, and so leads to the slot `a`
pub too_long_to_say : (files : Files) (table : List ℕ) → Exceeds files (now_file_name table) 13 → slot_to_write files table ≡ 97
too_long_to_say files table exceeds =
    ap (λ (found : Option (List ℕ)). other_slot (now_read found)) exceeds.there ∙ ap other_slot (sym (other_length exceeds.bytes (λ e. omega (arith, exceeds.long, e))))

-- What changes.

within : (names more : List (List ℕ)) → ((name : List ℕ) → Among name names → Among name more) → (f g : Files) → ChangesOnly names f g → ChangesOnly more f g
within names more all f g changes = λ name none. changes name (λ some. none (among_contains name more (all name (contains_among name names some))))

pub changes_within : (names more : List (List ℕ)) → ((name : List ℕ) → Among name names → Among name more) → (a b : Option Files) → Between (ChangesOnly names) a b → Between (ChangesOnly more) a b
changes_within names more all a b changes = between_map (ChangesOnly names) (ChangesOnly more) (within names more all) a b changes

pub changes_join : (names : List (List ℕ)) (a b c : Option Files) → Between (ChangesOnly names) a b → Between (ChangesOnly names) b c → Between (ChangesOnly names) a c
changes_join names a b c first next =
    between_join (ChangesOnly names) (ChangesOnly names) (ChangesOnly names) (λ f g h p q name none. q name none ∙ p name none) a b c first next

pub columns_within : (table : List ℕ) (slot : ℕ) (definitions : List ColumnDef) (place : ℕ) (definition : ColumnDef) (a b : Option Files) → slice_get definitions place ≡ Some definition
    → Between (ChangesOnly (names_of_column table slot definition)) a b → Between (ChangesOnly (flat_map (names_of_column table slot) definitions)) a b
columns_within table slot definitions place definition a b there changes =
    changes_within (names_of_column table slot definition) (flat_map (names_of_column table slot) definitions) (λ name among. column_among table slot definitions place definition name there among) a b changes

pub one_within : (name : List ℕ) (names : List (List ℕ)) (a b : Option Files) → Among name names → Between (ChangesOnly (name ∷ [])) a b → Between (ChangesOnly names) a b
one_within name names a b there changes = changes_within (name ∷ []) names only a b changes where
  only : (one : List ℕ) → Among one (name ∷ []) → Among one names
  only one (inl same) = subst (λ n. Among n names) same there
  only one (inr none) = absurd none

-- A column's files are written.

pub column_written : (table : List ℕ) (slot : ℕ) (definition : ColumnDef) (held : Shape) (bytes : List ℕ) (a b : Option Files) → IsColumnFile (format_of held.format) held.values bytes
    → Between (Sets (file (column_file_name table slot definition.name) bytes)) a b → Between (WritesColumn table slot definition (record { column = held; texts = None })) a b
column_written table slot definition held bytes a b is sets =
    let stored : Stored = record { column = held; texts = None } in
    between_map (Sets (file (column_file_name table slot definition.name) bytes)) (WritesColumn table slot definition stored)
    (λ f g same. (files_of_column table slot definition.name bytes None, (bytes, is, tt, refl), same)) a b sets

pub texts_written : (table : List ℕ) (slot : ℕ) (definition : ColumnDef) (held : Shape) (texts : List Text) (bytes entries : List ℕ) (a b c : Option Files)
    → IsColumnFile (format_of held.format) held.values bytes → IsDictionaryFile texts entries → Between (Sets (file (column_file_name table slot definition.name) bytes)) a b
    → Between (Sets (file (dictionary_file_name table slot definition.name) entries)) b c → Between (WritesColumn table slot definition (record { column = held; texts = Some texts })) a c
texts_written table slot definition held texts bytes entries a b c is entered first next =
    let stored : Stored = record { column = held; texts = Some texts } in
    let column = file (column_file_name table slot definition.name) bytes in
    let dictionary = file (dictionary_file_name table slot definition.name) in
    between_join (Sets column) (Sets (dictionary entries)) (WritesColumn table slot definition stored)
    (λ f g h p q. (
      files_of_column table slot definition.name bytes (Some texts),
      (bytes, is, entered.lawful, refl),
      subst (λ (e : List ℕ). Same h (put (put f column) (dictionary e))) entered.bytes_are (λ name. q name ∙ same_put g (put f column) (dictionary entries) p name),
    )) a b c first next

-- The columns that are left, written from here, make up all.

abbrev pub LeftColumns : List ℕ → ℕ → List ColumnDef → List Stored → ℕ → Option Files → Option Files → Type 0
LeftColumns table slot definitions columns place start now =
    (end : Option Files) → Between (WritesColumns table slot (drop place definitions) (drop place columns)) now end → Between (WritesColumns table slot definitions columns) start end

one_more : (table : List ℕ) (slot : ℕ) (definition : ColumnDef) (definitions : List ColumnDef) (stored : Stored) (columns : List Stored) (f g h : Files)
    → WritesColumn table slot definition stored f g → WritesColumns table slot definitions columns g h → WritesColumns table slot (definition ∷ definitions) (stored ∷ columns) f h
one_more table slot definition definitions stored columns f g h (first, are, same) (rest, all, more) = (
  first ++ rest,
  (first, rest, refl, are, all),
  λ name. more name ∙ same_puts g (puts f first) rest same name ∙ sym (ap (λ (files : Files). files name) (puts-append f first rest)),
)

here : {A : Type 0} (items : List A) (place : ℕ) (item : A) → slice_get items place ≡ Some item → drop place items ≡ item ∷ drop (place + 1) items
here items place item there = items_here items place item (slice_get_within items place item there) (sym (get_or_from_slice_get items place item item there))

pub left_goes : (table : List ℕ) (slot : ℕ) (definitions : List ColumnDef) (columns : List Stored) (place : ℕ) (definition : ColumnDef) (stored : Stored) (start now next : Option Files)
    → slice_get definitions place ≡ Some definition → slice_get columns place ≡ Some stored → Between (WritesColumn table slot definition stored) now next
    → LeftColumns table slot definitions columns place start now → LeftColumns table slot definitions columns (place + 1) start next
left_goes table slot definitions columns place definition stored start now next defined there written left = λ end rest.
    let more = drop (place + 1) definitions in
    let others = drop (place + 1) columns in
    let joined : Between (WritesColumns table slot (definition ∷ more) (stored ∷ others)) now end =
    between_join (WritesColumn table slot definition stored) (WritesColumns table slot more others) (WritesColumns table slot (definition ∷ more) (stored ∷ others))
    (one_more table slot definition more stored others) now next end written rest in
    left end
    (subst (λ (l : List Stored). Between (WritesColumns table slot (drop place definitions) l) now end) (sym (here columns place stored there))
    (subst (λ (l : List ColumnDef). Between (WritesColumns table slot l (stored ∷ others)) now end) (sym (here definitions place definition defined)) joined))

pub left_none : (table : List ℕ) (slot : ℕ) (definitions : List ColumnDef) (columns : List Stored) (place : ℕ) (start now : Option Files) → length definitions ≤ place
    → LeftColumns table slot definitions columns place start now → Between (WritesColumns table slot definitions columns) start now
left_none table slot definitions columns place start now past left =
    left now (subst (λ (l : List ColumnDef). Between (WritesColumns table slot l (drop place columns)) now now) (sym (drop_of_length-le definitions {i = place} past))
    (between_same (WritesColumns table slot [] (drop place columns)) (λ f. ([], refl, λ name. refl)) now))

-- each column fits its definition
pub as_many : (rows : ℕ) (definitions : List ColumnDef) (columns : List Stored) → AreColumnsOf rows definitions columns → length definitions ≡ length columns
as_many rows [] [] are = refl
as_many rows [] (stored ∷ columns) are = absurd are
as_many rows (definition ∷ definitions) [] are = absurd are
as_many rows (definition ∷ definitions) (stored ∷ columns) are = omega (arith, as_many rows definitions columns are.1)

pub fits_at : (rows : ℕ) (definitions : List ColumnDef) (columns : List Stored) (place : ℕ) (definition : ColumnDef) (stored : Stored) → AreColumnsOf rows definitions columns
    → slice_get definitions place ≡ Some definition → slice_get columns place ≡ Some stored → FitsDefinition rows definition stored
fits_at rows [] columns place definition stored are defined there = absurd (cc defined)
fits_at rows (first ∷ definitions) [] place definition stored are defined there = absurd (cc there)
fits_at rows (first ∷ definitions) (one ∷ columns) zero definition stored are defined there =
    let column : first ≡ definition = cc defined in
    let same : one ≡ stored = cc there in
    subst (λ (d : ColumnDef). FitsDefinition rows d stored) column (subst (λ (s : Stored). FitsDefinition rows first s) same are.0)
fits_at rows (first ∷ definitions) (one ∷ columns) (suc place) definition stored are defined there = fits_at rows definitions columns place definition stored are.1 defined there
