-- What a save writes is determined, and stands in the files.
use Rattle.std.proofs.Common.{◌≡◌, ◌≤◌, ℕ, List, [], ◌∷◌, ◌++◌, inl, inr, Option, Some, None, refl, sym, ap, ap₂, ◌∙◌, arith}
use Rattle.std.proofs.lemmas.Bool.{cases_Bool}
use Rattle.std.specs.Prelude.{◌==◌, is_some, IfSome, IsTrue}
use Rattle.std.specs.List.{AllByRecursion}
use Rattle.definitions_blocks.specs.Columns.{max_rows}
use Rattle.definitions_columns.specs.ColumnFiles.{second}
use Rattle.definitions_columns.proofs.FileLaws.{one_file}
use Rattle.stream_core.specs.Files.{Files}
use Rattle.stream_core.specs.Names.{now_file_name, column_file_name, dictionary_file_name}
use Rattle.block_core.specs.Formats.{format_of}
use Rattle.catalog_core.specs.Dictionaries.{AreTexts, dictionary_file}
use Rattle.catalog_core.specs.Texts.{Text}
use Rattle.catalog_core.specs.declared.schemas.Kind.{Kind}
use Rattle.catalog_core.specs.declared.schemas.Kind.TheVariants as kind
use Rattle.catalog_core.specs.declared.schemas.ColumnDef.{ColumnDef}
use Rattle.table_core.specs.Held.{is_text}
use Rattle.table_core.specs.Tables.{Stored}
use Rattle.database_core.specs.NowFiles.{Now, is_slot, now_file}
use Rattle.database_core.specs.Saving.{File, file, put, puts, AreColumnsOf, row_count, files_of_column, AreDataFiles, now_file_of, OneSaved, IsShort, SavedStands}
use Rattle.database_core.specs.Standing.{StandsAt, TextsStand}
use Rattle.database_core.specs.TableFiles.{now_of_table, other_slot, slot_to_write, dictionary_names}
use Rattle.database_core.proofs.FileNameLemmas.{column_in, dictionary_in, now_apart}
use Rattle.database_core.proofs.HeldFilesLemmas.{TextsHeld, IsHeld, held_like, held_at}
use Rattle.database_core.proofs.NowLemmas.{now_files_are_read}
use Rattle.database_core.proofs.PutLemmas.{put_there, put_other}
use Rattle.database_core.proofs.SavingLemmas.{fits_at}

-- One save.

pub one_data : (table : List ℕ) (slot : ℕ) (definitions : List ColumnDef) (columns : List Stored) (written other : List File) → AreDataFiles table slot definitions columns written
    → AreDataFiles table slot definitions columns other → written ≡ other
one_data table slot [] columns written other are be = are ∙ sym be
one_data table slot (definition ∷ definitions) [] written other are be = are ∙ sym be
one_data table slot (definition ∷ definitions) (stored ∷ columns) written other (first, rest, is, (bytes, encoded, lawful, files), are) (one, more, be_is, (others, also, good, same), be) =
    let bytes_same : bytes ≡ others = one_file second (format_of stored.column.format) stored.column.values bytes others encoded also in
    let first_same : first ≡ one = files ∙ ap (λ (b : List ℕ). files_of_column table slot definition.name b stored.texts) bytes_same ∙ sym same in
    is ∙ ap₂ (λ (a b : List File). a ++ b) first_same (one_data table slot definitions columns rest more are be) ∙ sym be_is

pub one_saved : OneSaved
one_saved files held other table columns (written, are, same) (all, be, also) = λ name.
    let slot = slot_to_write files table.name in
    same name
    ∙ ap (λ (list : List File). put (puts files list) (now_file_of table.name slot (row_count columns)) name) (one_data table.name slot table.columns columns written all are be)
    ∙ sym (also name)

-- Where the rows stand.

is_slot-other : (now : Option Now) → IsTrue (is_slot (other_slot now))
is_slot-other None = refl
is_slot-other (Some now) = elim (cases_Bool (now.slot == 97)) [
  | inl first ↦ rw first refl
  | inr other ↦ rw other refl
]

few_rows : (table : List ℕ) (slot rows : ℕ) (definitions : List ColumnDef) (columns : List Stored) (written : List File) → AreColumnsOf rows definitions columns
    → AreDataFiles table slot definitions columns written → row_count columns ≤ max_rows
few_rows table slot rows definitions [] written of are = omega arith
few_rows table slot rows [] (stored ∷ columns) written of are = absurd of
few_rows table slot rows (definition ∷ definitions) (stored ∷ columns) written of (first, rest, is, (bytes, encoded, lawful, set), are) = encoded.column.few

texts_stand : (files : Files) (table : List ℕ) (slot : ℕ) (name : List ℕ) (kind : Kind) (texts : Option (List Text)) → is_some texts ≡ is_text kind → IfSome texts AreTexts
    → AllByRecursion (IsShort files) (dictionary_names table slot name kind) → TextsHeld files (dictionary_file_name table slot name) texts → TextsStand files (dictionary_file_name table slot name) texts
texts_stand files table slot name kind None fits lawful short there = tt
texts_stand files table slot name kind.Number (Some texts) fits lawful short there = absurd (cc fits)
texts_stand files table slot name kind.Text (Some texts) fits lawful short there =
    (dictionary_file texts, record { there = there; short = short.0 (dictionary_file texts) there }, record { lawful = lawful; bytes_are = refl })

pub saved_stands : SavedStands
saved_stands files held table columns distinct of (written, are, same) =
    let slot = slot_to_write files table.name in
    let rows = row_count columns in
    let now : Now = record { slot = slot; rows = rows } in
    let set = now_file_of table.name slot rows in
    let at : StandsAt held table now = record {
      bytes = now_file now;
      there = same (now_file_name table.name) ∙ put_there (puts files written) set (now_file_name table.name) refl;
      says = (now_files_are_read now (now_file now)).1 (record {
        slot = is_slot-other (now_of_table files table.name);
        few = few_rows table.name slot rows table.columns columns written of are;
        bytes_are = refl;
      });
    } in (
      now,
      at,
      refl,
      λ place definition stored defined there codes short.
          let name = column_file_name table.name slot definition.name in
          let dictionary = dictionary_file_name table.name slot definition.name in
          let fits = fits_at rows table.columns columns place definition stored of defined there in
          let is : IsHeld held table.name slot definition stored =
          held_like (puts files written) held table.name slot definition stored
          (same name ∙ put_other (puts files written) set name (λ e. now_apart table.name slot (definition.name ++ 46 ∷ 99 ∷ 111 ∷ 108 ∷ []) (sym e ∙ column_in table.name slot definition.name)))
          (same dictionary ∙ put_other (puts files written) set dictionary (λ e. now_apart table.name slot (definition.name ++ 46 ∷ 100 ∷ 105 ∷ 99 ∷ []) (sym e ∙ dictionary_in table.name slot definition.name)))
          (held_at table.name slot table.columns columns written files place definition stored distinct are defined there) in
          record {
            now = now;
            at = at;
            bytes = is.bytes;
            file = record { there = is.there; short = short.0 is.bytes is.there };
            holds = (second, is.encoded);
            whole = fits.0;
            texts = texts_stand held table.name slot definition.name definition.kind stored.texts fits.1 is.lawful short.1 is.texts;
            codes = codes;
          },
    )
