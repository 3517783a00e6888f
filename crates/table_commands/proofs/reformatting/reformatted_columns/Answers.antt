use Rattle.std.proofs.Common.{◌≡◌, ◌+◌, ◌∙◌, ◌++◌, ◌∷◌, [], List, Option, ap, sym, subst, map, length, take, arith}
use Rattle.std.specs.Prelude.{IsSome}
use Rattle.std.proofs.lemmas.List.{map-append}
use Rattle.std.proofs.lemmas.Option.{same_Some}
use Rattle.definitions_outcomes.specs.Computed.{and_then}
use Rattle.catalog_core.specs.declared.columns.ColumnId.{ColumnId}
use Rattle.table_core.specs.Tables.{Stored, stored_at}
use Rattle.table_core.specs.Views.{stored_of}
use Rattle.table_core.proofs.PlaceLemmas.{is_some_value}
use Rattle.database_core.specs.Saving.{AreColumnsOf}
use Rattle.table_commands.specs.Saving.{AreStoredAs}
use Rattle.table_commands.proofs.HeldLemmas.{data_before, stored_more, fits_more, stored_all, fits_all}
use Rattle.table_commands.proofs.reformatting.reformatted_columns.Goals as goal

pub take_reformatted-requires : goal.take_reformatted-requires
take_reformatted-requires c =
    let l = c.loop-place in
    subst (λ (slot : Option Stored). IsSome slot) (sym (l.invariant.later l.place (omega arith))) (c.requires.held.there l.place c.loop-place-test.true)

pub loop-place-preserved : goal.loop-place-preserved
loop-place-preserved c =
    let l = c.loop-place in
    let definitions = c.args.definitions.now in
    let tables = c.args.tables in
    let table = c.args.table in
    let held = c.requires.held in
    let within = c.loop-place-test.true in
    let definition = c.index-definitions-place.result in
    let made = c.in_ok-one.ensures in
    let one = stored_of c.in_ok-one.one in
    let so_far = map stored_of l.all.items in
    let id : ColumnId = record { table = table; column = l.place } in
    let here : stored_at l.tables id ≡ stored_at tables id = l.invariant.later l.place (omega arith) in
    let some = is_some_value (stored_at tables id) (held.there l.place within) in
    let is = made.stored some.0 (here ∙ some.1) in
    let all : map stored_of c.push.new.self.items ≡ so_far ++ one ∷ [] = ap (map stored_of) c.in_ok-push.ensures.items ∙ map-append stored_of l.all.items (c.in_ok-one.one ∷ []) in
    record {
      stored = subst (λ (columns : List Stored). AreStoredAs (take (l.place + 1) definitions) (data_before tables table (l.place + 1)) columns) (sym all)
          (stored_more definitions table tables held l.place within definition c.index-definitions-place.is so_far one some.0 some.1 is l.invariant.stored);
      fits = λ rows known.
          let whole : length one.column.values ≡ rows = same_Some (length one.column.values) rows (sym made.whole ∙ l.invariant.rows ∙ known) in
          subst (λ (columns : List Stored). AreColumnsOf rows (take (l.place + 1) definitions) columns) (sym all)
          (fits_more definitions table tables held l.place within definition c.index-definitions-place.is so_far one some.0 some.1 is rows whole (l.invariant.fits rows known));
      later = λ place past.
          let other : ColumnId = record { table = table; column = place } in
          ap (λ (slot : Option (Option Stored)). and_then slot (λ slot. slot))
          (made.only.others other (λ same. let at : place ≡ l.place = ap (λ (one : ColumnId). one.column) same in omega (arith, past, at)))
          ∙ l.invariant.later place (omega (arith, past));
      rows = made.only.rows table ∙ l.invariant.rows;
    }

pub returns-clause-stored : goal.returns-clause-stored
returns-clause-stored c =
    let l = c.loop-place in
    rw c.from_vec.ensures
    (stored_all c.args.definitions.now c.args.table c.args.tables (map stored_of l.all.items) l.place c.requires.held (omega (arith, c.loop-place-test.false)) l.invariant.stored)

pub returns-clause-fits : goal.returns-clause-fits
returns-clause-fits c = λ rows known.
    let l = c.loop-place in
    rw c.from_vec.ensures (fits_all rows c.args.definitions.now (map stored_of l.all.items) l.place (omega (arith, c.loop-place-test.false)) (l.invariant.fits rows known))
