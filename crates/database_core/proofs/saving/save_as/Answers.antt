use Rattle.std.proofs.Common.{ℕ, Option, map, subst}
use Rattle.std.proofs.lemmas.Result.{err_from_is_err_and}
use Rattle.std.specs.Prelude.{OnOk}
use Rattle.stream_core.specs.Files.{Files}
use Rattle.table_core.specs.Views.{stored_of}
use Rattle.database_core.specs.NowViews.{letter_of}
use Rattle.database_core.specs.Saving.{now_file_of}
use Rattle.database_core.specs.SavingSteps.{Between, ChangesOnly, Sets, WritesColumns}
use Rattle.database_core.specs.TableFiles.{data_file_names}
use Rattle.database_core.proofs.SaveEndLemmas.{unsaved, switched, changes_first, changes_both}
use Rattle.database_core.proofs.saving.save_as.Goals as goal

pub returns-in_err-save_columns-clause-saved : goal.returns-in_err-save_columns-clause-saved
returns-in_err-save_columns-clause-saved g c =
    let p = err_from_is_err_and c.from_residual-in_err-save_columns.result c.from_residual-in_err-save_columns.ensures.1 in
    let table = c.args.table.now in
    let slot = letter_of c.in_ok-slot.slot in
    let start = g.S.Store.files c.args.store.now in
    let now = g.S.Store.files c.save_columns.new.store in
    rw (p.1, p.2)
    (unsaved table (map stored_of c.args.columns.now) slot start now c.in_err-save_columns.field-0.0 c.requires.named c.in_ok-slot.ensures.slot c.in_err-save_columns.ensures.causes.early
    (subst (λ (files : Option Files). Between (ChangesOnly (data_file_names table slot)) files now) c.in_ok-slot.ensures.unchanged c.save_columns.ensures.changes))

pub returns-in_err-save_columns-clause-changes : goal.returns-in_err-save_columns-clause-changes
returns-in_err-save_columns-clause-changes g c =
    let table = c.args.table.now in
    let slot = letter_of c.in_ok-slot.slot in
    let start = g.S.Store.files c.args.store.now in
    let now = g.S.Store.files c.save_columns.new.store in
    changes_first table slot start now c.in_ok-slot.ensures.slot
    (subst (λ (files : Option Files). Between (ChangesOnly (data_file_names table slot)) files now) c.in_ok-slot.ensures.unchanged c.save_columns.ensures.changes)

pub returns-clause-saved : goal.returns-clause-saved
returns-clause-saved g c =
    let table = c.args.table.now in
    let columns = map stored_of c.args.columns.now in
    let slot = letter_of c.in_ok-slot.slot in
    let start = g.S.Store.files c.args.store.now in
    let now = g.S.Store.files c.save_columns.new.store in
    let end = g.S.Store.files c.switch.new.store in
    switched table columns slot c.requires.named start now end c.switch.result c.in_ok-slot.ensures.slot
    (subst (λ (files : Option Files). Between (WritesColumns table.name slot table.columns columns) files now) c.in_ok-slot.ensures.unchanged c.in_ok-save_columns.ensures.saved)
    (subst (λ (files : Option Files). Between (ChangesOnly (data_file_names table slot)) files now) c.in_ok-slot.ensures.unchanged c.save_columns.ensures.changes)
    (subst (λ (rows : ℕ). OnOk c.switch.result (Between (Sets (now_file_of table.name slot rows)) now end)) c.row_count.ensures c.switch.ensures.saved)
    c.switch.ensures.changes c.switch.ensures.same c.switch.ensures.late

pub returns-clause-changes : goal.returns-clause-changes
returns-clause-changes g c =
    let table = c.args.table.now in
    let slot = letter_of c.in_ok-slot.slot in
    let start = g.S.Store.files c.args.store.now in
    let now = g.S.Store.files c.save_columns.new.store in
    let end = g.S.Store.files c.switch.new.store in
    changes_both table slot start now end c.in_ok-slot.ensures.slot
    (subst (λ (files : Option Files). Between (ChangesOnly (data_file_names table slot)) files now) c.in_ok-slot.ensures.unchanged c.save_columns.ensures.changes) c.switch.ensures.changes
