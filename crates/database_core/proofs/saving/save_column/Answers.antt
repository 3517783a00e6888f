use Rattle.std.proofs.Common.{◌≡◌, ℕ, List, Option, true, inl, inr, sym, ap, ◌∙◌, subst}
use Rattle.std.proofs.lemmas.Result.{on_ok_weaker}
use Rattle.std.specs.Prelude.{is_some}
use Rattle.stream_core.specs.Names.{column_file_name}
use Rattle.catalog_core.specs.Texts.{Text}
use Rattle.table_core.specs.Held.{is_text}
use Rattle.database_core.specs.NowViews.{letter_of}
use Rattle.database_core.specs.Saving.{file}
use Rattle.database_core.specs.SavingSteps.{Between, Sets, WritesColumn}
use Rattle.database_core.specs.TableFiles.{dictionary_names, names_of_column}
use Rattle.database_core.proofs.FileNameLemmas.{dictionary_among}
use Rattle.database_core.proofs.ListLemmas.{Among}
use Rattle.database_core.proofs.SavingLemmas.{one_within, changes_join, column_written, texts_written}
use Rattle.database_core.proofs.saving.save_column.Goals as goal

pub returns-in_err-save_file-clause-changes : goal.returns-in_err-save_file-clause-changes
returns-in_err-save_file-clause-changes g c =
    let start = g.S.Store.files c.args.store.now in
    let now = g.S.Store.files c.save_file.new.store in
    let names = names_of_column c.args.table.now (letter_of c.args.slot) c.args.definition.now in
    one_within c.column_file_name-file.result names start now (inl (sym c.column_file_name-file.ensures)) c.save_file.ensures.changes

pub returns-in-Some-clause-saved : goal.returns-in-Some-clause-saved
returns-in-Some-clause-saved g c =
    let start = g.S.Store.files c.args.store.now in
    let now = g.S.Store.files c.save_file.new.store in
    let end = g.S.Store.files c.save_file-in-Some.new.store in
    let table = c.args.table.now in
    let slot = letter_of c.args.slot in
    let definition = c.args.definition.now in
    let held = c.args.stored.now.column in
    let bytes = c.encoded.result.now in
    let entries = c.encoded-in-Some.result.now in
    let first : Between (Sets (file (column_file_name table slot definition.name) bytes)) start now =
    subst (λ (n : List ℕ). Between (Sets (file n bytes)) start now) c.column_file_name-file.ensures c.in_ok-save_file.ensures.saved in
    on_ok_weaker c.save_file-in-Some.result (λ (next : Between (Sets (file c.dictionary_file_name-file.result entries)) now end).
    subst (λ (texts : Option (List Text)). Between (WritesColumn table slot definition (record { column = held; texts = texts })) start end) (sym c.in-Some.is)
    (texts_written table slot definition held c.in-Some.dictionary bytes entries start now end c.encoded.ensures.file c.encoded-in-Some.ensures first
    (subst (λ (n : List ℕ). Between (Sets (file n entries)) now end) c.dictionary_file_name-file.ensures next))) c.save_file-in-Some.ensures.saved

pub returns-in-Some-clause-changes : goal.returns-in-Some-clause-changes
returns-in-Some-clause-changes g c =
    let start = g.S.Store.files c.args.store.now in
    let now = g.S.Store.files c.save_file.new.store in
    let end = g.S.Store.files c.save_file-in-Some.new.store in
    let table = c.args.table.now in
    let slot = letter_of c.args.slot in
    let definition = c.args.definition.now in
    let names = names_of_column table slot definition in
    let text : true ≡ is_text definition.kind = sym (ap is_some c.in-Some.is) ∙ c.requires in
    let among : Among c.dictionary_file_name-file.result (dictionary_names table slot definition.name definition.kind) =
    subst (λ (n : List ℕ). Among n (dictionary_names table slot definition.name definition.kind)) (sym c.dictionary_file_name-file.ensures) (dictionary_among table slot definition.name definition.kind text) in
    changes_join names start now end (one_within c.column_file_name-file.result names start now (inl (sym c.column_file_name-file.ensures)) c.save_file.ensures.changes)
    (one_within c.dictionary_file_name-file.result names now end (inr among) c.save_file-in-Some.ensures.changes)

pub returns-in-None-clause-saved : goal.returns-in-None-clause-saved
returns-in-None-clause-saved g c =
    let start = g.S.Store.files c.args.store.now in
    let now = g.S.Store.files c.save_file.new.store in
    let table = c.args.table.now in
    let slot = letter_of c.args.slot in
    let definition = c.args.definition.now in
    let held = c.args.stored.now.column in
    let bytes = c.encoded.result.now in
    subst (λ (texts : Option (List Text)). Between (WritesColumn table slot definition (record { column = held; texts = texts })) start now) (sym c.in-None.is)
    (column_written table slot definition held bytes start now c.encoded.ensures.file
    (subst (λ (n : List ℕ). Between (Sets (file n bytes)) start now) c.column_file_name-file.ensures c.in_ok-save_file.ensures.saved))
