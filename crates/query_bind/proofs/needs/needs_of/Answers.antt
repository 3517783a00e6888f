use Rattle.std.proofs.Common.{sym, subst}
use Rattle.catalog_core.specs.Columns.{IsNeeds}
use Rattle.query_bind.specs.Views.{bound_view}
use Rattle.query_bind.proofs.NeedsLemmas.{needs_are, needs_lawful}
use Rattle.query_bind.proofs.needs.needs_of.Goals as goal

pub returns-clause-tables : goal.returns-clause-tables
returns-clause-tables c = λ table.
    let once = rw c.in_ok-tables.ensures at c.sort_tables.ensures in
    rw c.from_vec.ensures (once.only table, once.all table)

pub returns-clause-columns : goal.returns-clause-columns
returns-clause-columns c = λ id.
    let once = rw c.in_ok-columns.ensures at c.sort_columns.ensures in
    rw c.from_vec-2.ensures (once.only id, once.all id)

pub returns-clause-needs : goal.returns-clause-needs
returns-clause-needs c = λ schema lawful.
    rw (c.from_vec.ensures, c.from_vec-2.ensures)
    (needs_are schema (bound_view c.args.bound.now) lawful c.sort_tables.new.tables.items c.sort_columns.new.columns.items
    (rw c.in_ok-tables.ensures at c.sort_tables.ensures) (rw c.in_ok-columns.ensures at c.sort_columns.ensures))

pub returns-clause-ordered : goal.returns-clause-ordered
returns-clause-ordered c = λ schema lawful.
    subst (IsNeeds schema) (sym (returns-clause-needs c schema lawful)) (needs_lawful schema (bound_view c.args.bound.now) lawful)
