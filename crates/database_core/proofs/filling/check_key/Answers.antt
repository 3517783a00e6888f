use Rattle.std.proofs.Common.{◌≡◌, true, refl, rules}
use Rattle.table_core.specs.Held.{is_key_needed}
use Rattle.database_core.proofs.FillLemmas.{key_repeated}
use Rattle.database_core.proofs.filling.check_key.Goals as goal

pub returns-in-Err-Repeated-clause-step : goal.returns-in-Err-Repeated-clause-step
returns-in-Err-Repeated-clause-step c =
    let needed : is_key_needed c.args.definition.now c.args.needs.now c.args.table ≡ true = search rules in
    key_repeated (is_key_needed c.args.definition.now c.args.needs.now c.args.table) c.args.table c.args.tables.now needed (c.requires needed)
    ((rw c.in-Err-Repeated.field-0-is at c.in-Err-Repeated.ensures.repeated) refl)
