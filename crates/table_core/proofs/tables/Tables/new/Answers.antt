use Rattle.std.proofs.Common.{◌≡◌, ◌∙◌, map, sym, ap, subst, arith}
use Rattle.std.proofs.lemmas.List.{take_all}
use Rattle.table_core.specs.Tables.{state_of, nothing_yet, AreSound}
use Rattle.table_core.specs.Views.{states_of}
use Rattle.table_core.specs.Held.{AreTablesOf}
use Rattle.table_core.proofs.HeldLemmas.{AreSound-nothing_yet, AreTablesOf-nothing_yet}
use Rattle.table_core.proofs.tables.Tables.new.Goals as goal

pub invariant_of-result : goal.invariant_of-result
invariant_of-result c =
    let all : states_of c.loop-definition.tables.items ≡ nothing_yet c.args.schema.now =
    c.loop-definition.invariant ∙ ap (map state_of) (take_all c.loop-definition.definition-index c.as_slice-definitions.result.now (omega arith) ∙ c.as_slice-definitions.ensures) in
    subst AreSound (sym all) (AreSound-nothing_yet c.args.schema.now)

pub returns-clause-of : goal.returns-clause-of
returns-clause-of c =
    let all : states_of c.loop-definition.tables.items ≡ nothing_yet c.args.schema.now =
    c.loop-definition.invariant ∙ ap (map state_of) (take_all c.loop-definition.definition-index c.as_slice-definitions.result.now (omega arith) ∙ c.as_slice-definitions.ensures) in
    subst (AreTablesOf c.args.schema.now) (sym all) (AreTablesOf-nothing_yet c.args.schema.now)
