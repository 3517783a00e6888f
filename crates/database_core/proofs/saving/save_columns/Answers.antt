use Rattle.std.proofs.Common.{◌≡◌, Some, map, length, refl, ap, ◌∙◌, arith}
use Rattle.std.proofs.lemmas.List.{length-map}
use Rattle.std.proofs.lemmas.Option.{slice_get_read, slice_get-map}
use Rattle.std.specs.Prelude.{slice_get, option_map}
use Rattle.table_core.specs.Views.{stored_of}
use Rattle.database_core.specs.NowViews.{letter_of}
use Rattle.database_core.specs.Saving.{FitsDefinition, row_count}
use Rattle.database_core.specs.TableFiles.{data_file_names}
use Rattle.database_core.proofs.SavingLemmas.{as_many, fits_at, columns_within, changes_join, left_goes, left_none}
use Rattle.database_core.proofs.saving.save_columns.Goals as goal

pub bounds-definitions-place : goal.bounds-definitions-place
bounds-definitions-place g c =
    let columns = map stored_of c.args.columns.now in
    let many : length c.args.table.now.columns ≡ length columns = as_many (row_count columns) c.args.table.now.columns columns c.requires in
    rw c.as_slice-definitions.ensures (omega (arith, c.loop-place-test.true, many, length-map c.args.columns.now stored_of))

pub save_column-requires : goal.save_column-requires
save_column-requires g c =
    let place = c.loop-place.place in
    let definitions = c.args.table.now.columns in
    let items = c.args.columns.now in
    let columns = map stored_of items in
    let definition = c.index-definitions-place.result in
    let item = c.index-columns-place.result in
    let many : length definitions ≡ length columns = as_many (row_count columns) definitions columns c.requires in
    let defined : slice_get definitions place ≡ Some definition =
    slice_get_read definitions (length definitions) place definition refl (omega (arith, c.loop-place-test.true, many, length-map items stored_of))
    (rw c.as_slice-definitions.ensures at c.index-definitions-place.is) in
    let there : slice_get columns place ≡ Some (stored_of item) =
    slice_get-map stored_of items place ∙ ap (option_map stored_of) (slice_get_read items (length items) place item refl c.loop-place-test.true c.index-columns-place.is) in
    let fits : FitsDefinition (row_count columns) definition (stored_of item) = fits_at (row_count columns) definitions columns place definition (stored_of item) c.requires defined there in
    fits.1

pub returns-in_err-save_column-clause-changes : goal.returns-in_err-save_column-clause-changes
returns-in_err-save_column-clause-changes g c =
    let l = c.loop-place in
    let table = c.args.table.now in
    let slot = letter_of c.args.slot in
    let columns = map stored_of c.args.columns.now in
    let definition = c.index-definitions-place.result in
    let many : length table.columns ≡ length columns = as_many (row_count columns) table.columns columns c.requires in
    let defined : slice_get table.columns l.place ≡ Some definition =
    slice_get_read table.columns (length table.columns) l.place definition refl (omega (arith, c.loop-place-test.true, many, length-map c.args.columns.now stored_of))
    (rw c.as_slice-definitions.ensures at c.index-definitions-place.is) in
    let start = g.S.Store.files c.args.store.now in
    let now = g.S.Store.files l.store in
    let next = g.S.Store.files c.save_column.new.store in
    changes_join (data_file_names table slot) start now next l.invariant.changes
    (columns_within table.name slot table.columns l.place definition now next defined c.save_column.ensures.changes)

pub loop-place-preserved : goal.loop-place-preserved
loop-place-preserved g c =
    let l = c.loop-place in
    let table = c.args.table.now in
    let slot = letter_of c.args.slot in
    let items = c.args.columns.now in
    let columns = map stored_of items in
    let definition = c.index-definitions-place.result in
    let item = c.index-columns-place.result in
    let many : length table.columns ≡ length columns = as_many (row_count columns) table.columns columns c.requires in
    let defined : slice_get table.columns l.place ≡ Some definition =
    slice_get_read table.columns (length table.columns) l.place definition refl (omega (arith, c.loop-place-test.true, many, length-map items stored_of))
    (rw c.as_slice-definitions.ensures at c.index-definitions-place.is) in
    let there : slice_get columns l.place ≡ Some (stored_of item) =
    slice_get-map stored_of items l.place ∙ ap (option_map stored_of) (slice_get_read items (length items) l.place item refl c.loop-place-test.true c.index-columns-place.is) in
    let start = g.S.Store.files c.args.store.now in
    let now = g.S.Store.files l.store in
    let next = g.S.Store.files c.save_column.new.store in
    record {
      left = left_goes table.name slot table.columns columns l.place definition (stored_of item) start now next defined there c.in_ok-save_column.ensures.saved l.invariant.left;
      changes = changes_join (data_file_names table slot) start now next l.invariant.changes
          (columns_within table.name slot table.columns l.place definition now next defined c.save_column.ensures.changes);
      calm = c.in_ok-save_column.ensures.causes.calm (λ e. cc) ∙ l.invariant.calm;
    }

pub returns-clause-saved : goal.returns-clause-saved
returns-clause-saved g c =
    let l = c.loop-place in
    let table = c.args.table.now in
    let columns = map stored_of c.args.columns.now in
    let many : length table.columns ≡ length columns = as_many (row_count columns) table.columns columns c.requires in
    left_none table.name (letter_of c.args.slot) table.columns columns l.place (g.S.Store.files c.args.store.now) (g.S.Store.files l.store)
    (omega (arith, c.loop-place-test.false, many, length-map c.args.columns.now stored_of)) l.invariant.left
