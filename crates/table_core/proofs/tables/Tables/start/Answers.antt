use Rattle.std.proofs.Common.{sym, subst}
use Rattle.table_core.specs.Tables.{AreSound, StartsOnly}
use Rattle.table_core.specs.Held.{AreTablesOf}
use Rattle.table_core.proofs.HeldLemmas.{StartsOnly-started, AreTablesOf-started, AreSound-started}
use Rattle.table_core.proofs.TableLemmas.{started_after}
use Rattle.table_core.proofs.tables.Tables.start.Goals as goal

pub invariant_of-self : goal.invariant_of-self
invariant_of-self c =
    let tables = c.args.self.now in
    let after = started_after c.self.inside.tables.items tables c.args.table c.args.rows c.index_mut-one.result.now c.self.view_is c.requires.within c.index_mut-one.ensures.value in
    subst AreSound (sym after) (AreSound-started tables c.args.table c.args.rows (subst AreSound c.self.view_is c.self.invariant) c.requires.unset)

pub returns : goal.returns
returns c =
    let tables = c.args.self.now in
    let after = started_after c.self.inside.tables.items tables c.args.table c.args.rows c.index_mut-one.result.now c.self.view_is c.requires.within c.index_mut-one.ensures.value in
    record {
      started = after;
      only = subst (StartsOnly c.args.table c.args.rows tables) (sym after) (StartsOnly-started tables c.args.table c.args.rows c.requires.within);
      of = λ schema of. subst (AreTablesOf schema) (sym after) (AreTablesOf-started schema tables c.args.table c.args.rows of);
    }
