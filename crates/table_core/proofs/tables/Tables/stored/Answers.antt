use Rattle.std.proofs.Common.{◌≡◌, ◌∙◌, Bor, Option, Some, List, option_map, slice_get, sym, ap, subst, rules, arith}
use Rattle.std.proofs.lemmas.Grind.{common_steps}
use Rattle.std.proofs.lemmas.Option.{gets}
use Rattle.definitions_outcomes.specs.Computed.{and_then}
use Rattle.table_core.specs.declared.tables.StoredColumn.{StoredColumn}
use Rattle.table_core.specs.Tables.{AreSound, stored_at}
use Rattle.table_core.specs.Views.{stored_of}
use Rattle.table_core.proofs.TableLemmas.{stored-states, stored_past, copied_stored, sound_found}
use Rattle.table_core.proofs.tables.Tables.stored.Goals as goal

pub returns-in-Some-clause-sound : goal.returns-in-Some-clause-sound
returns-in-Some-clause-sound c =
    let inside = c.self.inside.tables.items in
    let found : slice_get inside c.args.id.table ≡ Some c.in-Some.table.now = first_of (search (rules, gets), grind (arith, common_steps, gets)) in
    let slots : List (Option StoredColumn) → Option StoredColumn = λ columns. and_then (slice_get columns c.args.id.column) (λ slot. slot) in
    let same : option_map (λ (stored : Bor StoredColumn). stored_of stored.now) c.stored_in.result ≡ stored_at c.args.self.now c.args.id =
    copied_stored c.stored_in.result ∙ ap (option_map stored_of) (c.stored_in.ensures ∙ ap slots c.as_slice.ensures.value)
    ∙ sym (stored-states inside c.args.id c.in-Some.table.now found) ∙ ap (λ tables. stored_at tables c.args.id) c.self.view_is in
    sound_found c.args.self.now c.args.id c.stored_in.result (subst AreSound c.self.view_is c.self.invariant) same

pub returns-in-None-clause-stored : goal.returns-in-None-clause-stored
returns-in-None-clause-stored c = sym (sym (ap (λ tables. stored_at tables c.args.id) c.self.view_is) ∙ stored_past c.self.inside.tables.items c.args.id (search rules))
