use Rattle.std.proofs.Common.{◌≡◌, ◌∙◌, None, option_map, length, sym, ap, subst, refl, arith}
use Rattle.std.proofs.lemmas.Option.{slice_get_read}
use Rattle.table_core.specs.Tables.{AreSound, PutsOnly, stored_at}
use Rattle.table_core.specs.Held.{AreTablesOf}
use Rattle.table_core.specs.Views.{stored_of}
use Rattle.table_core.proofs.HeldLemmas.{AreSound-slot}
use Rattle.table_core.proofs.TableLemmas.{stored-states, state_after, slot_after, Takes-emptied, sound_taken, if_some, is_some-map}
use Rattle.table_core.proofs.tables.Tables.take.Goals as goal

pub invariant_of-self : goal.invariant_of-self
invariant_of-self c =
    let tables = c.args.self.now in
    let inside = c.self.inside.tables.items in
    let one = c.index_mut-table.result.now in
    let found = slice_get_read inside (length inside) c.args.id.table one refl (omega arith) c.index_mut-table.ensures.value in
    let after = slot_after inside tables c.args.id one (record one { columns = c.take_at.new.columns }) None c.self.view_is found (state_after one c.take_at.new.columns.items c.args.id.column None c.take_at.ensures.left) in
    subst AreSound (sym after) (AreSound-slot tables c.args.id None (subst AreSound c.self.view_is c.self.invariant) tt)

pub returns : goal.returns
returns c =
    let tables = c.args.self.now in
    let inside = c.self.inside.tables.items in
    let one = c.index_mut-table.result.now in
    let found = slice_get_read inside (length inside) c.args.id.table one refl (omega arith) c.index_mut-table.ensures.value in
    let after = slot_after inside tables c.args.id one (record one { columns = c.take_at.new.columns }) None c.self.view_is found (state_after one c.take_at.new.columns.items c.args.id.column None c.take_at.ensures.left) in
    let given = option_map stored_of c.take_at.result in
    let taken : given ≡ stored_at tables c.args.id =
    ap (option_map stored_of) c.take_at.ensures.taken ∙ sym (stored-states inside c.args.id one found) ∙ ap (λ before. stored_at before c.args.id) c.self.view_is in
    let takes = Takes-emptied tables c.args.id given (sym taken) in
    record {
      taken = taken;
      sound = sound_taken tables c.args.id c.take_at.result (subst AreSound c.self.view_is c.self.invariant) taken;
      left = if_some c.take_at.result _ (λ some. after);
      only = if_some c.take_at.result _ (λ some. subst (PutsOnly c.args.id None tables) (sym after) (takes.only (is_some-map stored_of c.take_at.result ∙ some)));
      of = λ schema of. subst (AreTablesOf schema) (sym after) (takes.of schema of);
      unchanged = λ none. after ∙ takes.same (ap (option_map stored_of) none);
    }
