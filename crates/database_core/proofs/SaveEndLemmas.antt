-- What became of a table that was saved, or was not.
use Rattle.std.proofs.Common.{◌≡◌, ℕ, List, [], ◌∷◌, inl, inr, Option, Some, None, Result, Ok, Err, refl, sym, ap, ◌∙◌, subst}
use Rattle.std.specs.Prelude.{unwrap_or, OnOk, IsErrOf}
use Rattle.std.specs.List.{Contains}
use Rattle.stream_core.specs.Files.{Files}
use Rattle.stream_core.specs.Names.{IsName, now_file_name}
use Rattle.catalog_core.specs.declared.schemas.TableDef.{TableDef}
use Rattle.table_core.specs.Tables.{Stored}
use Rattle.database_core.specs.Saving.{File, put, puts, AreDataFiles, row_count, now_file_of, IsWritten, IsTableSaved}
use Rattle.database_core.specs.SavingSteps.{Between, ChangesOnly, Sets, WritesColumns}
use Rattle.database_core.specs.TableFiles.{Same, SameRows, data_file_names, slot_to_write, ChangesTable}
use Rattle.database_core.specs.declared.errors.SaveTableError.{SaveTableError}
use Rattle.database_core.specs.declared.errors.SaveTableError.TheVariants as error
use Rattle.database_core.proofs.ListLemmas.{Among, among_contains, contains_among}
use Rattle.database_core.proofs.PutLemmas.{same_put, put_other}
use Rattle.database_core.proofs.SameRowsLemmas.{spare_files_are_unread}
use Rattle.database_core.proofs.SavingLemmas.{changes_within, changes_join, one_within}

abbrev pub IsSlotToWrite : TableDef → ℕ → Option Files → Type 0
IsSlotToWrite table slot before = (files : Files) → before ≡ Some files → slot ≡ slot_to_write files table.name

rows_stand : (table : TableDef) (slot : ℕ) (files held : Files) → IsName table.name → slot ≡ slot_to_write files table.name → ChangesOnly (data_file_names table slot) files held → SameRows held files
rows_stand table slot files held is same changes =
    spare_files_are_unread files held table is (subst (λ (s : ℕ). ChangesOnly (data_file_names table s) files held) same changes)

pub unsaved : (table : TableDef) (columns : List Stored) (slot : ℕ) (a b : Option Files) (given : SaveTableError) → IsName table.name → IsSlotToWrite table slot a → (IsErrOf {T = Unit {0}} (Err given) error.Switch → ⊥)
    → Between (ChangesOnly (data_file_names table slot)) a b → IsTableSaved table columns a b (Err given)
unsaved table columns slot None b given is writes early changes = changes
unsaved table columns slot (Some files) None given is writes early changes = absurd changes
unsaved table columns slot (Some files) (Some held) error.Store is writes early changes = rows_stand table slot files held is (writes files refl) changes
unsaved table columns slot (Some files) (Some held) error.Switch is writes early changes = absurd (early refl)
unsaved table columns slot (Some files) (Some held) error.Memory is writes early changes = rows_stand table slot files held is (writes files refl) changes

pub untouched : (table : TableDef) (columns : List Stored) (a b : Option Files) (given : SaveTableError) → IsName table.name → (IsErrOf {T = Unit {0}} (Err given) error.Switch → ⊥) → b ≡ a → IsTableSaved table columns a b (Err given)
untouched table columns a b given is early same = subst (λ (files : Option Files). IsTableSaved table columns a files (Err given)) (sym same) (kept a) where
  kept : (files : Option Files) → IsTableSaved table columns files files (Err given)
  kept None = refl
  kept (Some files) = unsaved table columns (slot_to_write files table.name) (Some files) (Some files) given is (λ other told. ap (λ (f : Option Files). slot_to_write (unwrap_or f files) table.name) told) early (λ name none. refl)

table_changes : (table : TableDef) (slot : ℕ) (a b : Option Files) → IsSlotToWrite table slot a → Between (ChangesOnly (now_file_name table.name ∷ data_file_names table slot)) a b → ChangesTable table a b
table_changes table slot None b writes changes = changes
table_changes table slot (Some files) None writes changes = absurd changes
table_changes table slot (Some files) (Some held) writes changes = λ name none.
    let names = data_file_names table slot in
    changes name (λ some. elim (contains_among name (now_file_name table.name ∷ names) some) [
      | inl now ↦ none (inl (sym now))
      | inr among ↦ none (inr (subst (λ (s : ℕ). Contains (data_file_names table s) name) (writes files refl) (among_contains name names among)))
    ])

-- the two steps of a save: the data files, and then the now file
pub changes_both : (table : TableDef) (slot : ℕ) (a b c : Option Files) → IsSlotToWrite table slot a → Between (ChangesOnly (data_file_names table slot)) a b
    → Between (ChangesOnly (now_file_name table.name ∷ [])) b c → ChangesTable table a c
changes_both table slot a b c writes first next =
    let names = data_file_names table slot in
    let all = now_file_name table.name ∷ names in
    table_changes table slot a c writes
    (changes_join all a b c (changes_within names all (λ name among. inr among) a b first) (one_within (now_file_name table.name) all b c (inl refl) next))

pub changes_first : (table : TableDef) (slot : ℕ) (a b : Option Files) → IsSlotToWrite table slot a → Between (ChangesOnly (data_file_names table slot)) a b → ChangesTable table a b
changes_first table slot a b writes first =
    let names = data_file_names table slot in
    table_changes table slot a b writes (changes_within names (now_file_name table.name ∷ names) (λ name among. inr among) a b first)

pub changes_none : (table : TableDef) (a b : Option Files) → b ≡ a → ChangesTable table a b
changes_none table a b same = subst (λ (files : Option Files). ChangesTable table a files) (sym same) (kept a) where
  kept : (files : Option Files) → ChangesTable table files files
  kept None = refl
  kept (Some files) = λ name none. refl

module _ (table : TableDef) (columns : List Stored) (slot : ℕ) (is : IsName table.name) where
  abbrev now_set : File
  now_set = now_file_of table.name slot (row_count columns)

  -- the files with all written
  all_written : (f g : Files) → slot ≡ slot_to_write f table.name → WritesColumns table.name slot table.columns columns f g → IsWritten f table columns (put g now_set)
  all_written f g writes (written, are, same) =
      subst (λ (s : ℕ). (list : List File) × AreDataFiles table.name s table.columns columns list × Same (put g now_set) (put (puts f list) (now_file_of table.name s (row_count columns)))) writes
      (written, are, same_put g (puts f written) now_set same)

  written_also : (f g h : Files) → Same h g → IsWritten f table columns g → IsWritten f table columns h
  written_also f g h same (written, are, all) = (written, are, λ name. same name ∙ all name)

  switched_from : (f g : Files) (c : Option Files) (result : Result (Unit {0}) SaveTableError) → slot ≡ slot_to_write f table.name → WritesColumns table.name slot table.columns columns f g
      → ChangesOnly (data_file_names table slot) f g → OnOk result (Between (Sets now_set) (Some g) c) → Between (ChangesOnly (now_file_name table.name ∷ [])) (Some g) c
      → (IsErrOf result error.Memory → Between (ChangesOnly []) (Some g) c) → (IsErrOf result error.Store → ⊥) → IsTableSaved table columns (Some f) c result
  switched_from f g None result writes written slots sets changes kept late = absurd changes
  switched_from f g (Some h) (Ok done) writes written slots sets changes kept late = written_also f (put g now_set) h sets (all_written f g writes written)
  switched_from f g (Some h) (Err error.Store) writes written slots sets changes kept late = absurd (late refl)
  switched_from f g (Some h) (Err error.Switch) writes written slots sets changes kept late = (
    put g now_set,
    all_written f g writes written,
    λ name apart. changes name (λ some. not_now name apart (contains_among name (now_file_name table.name ∷ []) some)) ∙ sym (put_other g now_set name apart),
  ) where
    not_now : (name : List ℕ) → (name ≡ now_file_name table.name → ⊥) → Among name (now_file_name table.name ∷ []) → ⊥
    not_now name apart (inl same) = apart (sym same)
    not_now name apart (inr none) = none
  switched_from f g (Some h) (Err error.Memory) writes written slots sets changes kept late =
      rows_stand table slot f h is writes (λ name none. kept refl name (λ some. contains_among name [] some) ∙ slots name none)

  pub switched : (a b c : Option Files) (result : Result (Unit {0}) SaveTableError) → IsSlotToWrite table slot a → Between (WritesColumns table.name slot table.columns columns) a b
      → Between (ChangesOnly (data_file_names table slot)) a b → OnOk result (Between (Sets (now_file_of table.name slot (row_count columns))) b c)
      → Between (ChangesOnly (now_file_name table.name ∷ [])) b c → (IsErrOf result error.Memory → Between (ChangesOnly []) b c) → (IsErrOf result error.Store → ⊥) → IsTableSaved table columns a c result
  switched None None c result writes written slots sets changes kept late = changes
  switched None (Some g) c result writes written slots sets changes kept late = absurd (cc slots)
  switched (Some f) None c result writes written slots sets changes kept late = absurd slots
  switched (Some f) (Some g) c result writes written slots sets changes kept late = switched_from f g c result (writes f refl) written slots sets changes kept late
