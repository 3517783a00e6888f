use Rattle.query_text.specs.Views.{query_view}
use Rattle.query_bind.proofs.StageLaws.{bound_is, answer_lawful}
use Rattle.query_bind.proofs.binding.bind.Goals as goal

-- the tables are known, and the rest is the steps from the columns on
pub returns-clause-bound : goal.returns-clause-bound
returns-clause-bound c =
    let whole = bound_is c.args.schema.now (query_view c.args.query.now) c.in_ok-tables.tables.items c.in_ok-fact.fact
    (rw c.as_slice.ensures at c.in_ok-tables.ensures.tables)
    (rw (c.as_slice-2.ensures, c.as_slice-3.ensures.value) at c.in_ok-fact.ensures) in
    rw whole (rw (c.in_ok-index.ensures, c.as_slice-4.ensures.value) at c.bound_in.ensures)

-- what the steps gave is lawful
pub returns-clause-lawful : goal.returns-clause-lawful
returns-clause-lawful c = answer_lawful c.args.schema.now (query_view c.args.query.now) c.bound_in.result c.requires.few (returns-clause-bound c)
