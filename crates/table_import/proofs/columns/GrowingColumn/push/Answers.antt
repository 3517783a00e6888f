use Rattle.table_import.proofs.ColumnLemmas.{on_ok, takes_number, takes_text}
use Rattle.table_import.proofs.columns.GrowingColumn.push.Goals as goal

pub returns-in-Numbers-clause-taken : goal.returns-in-Numbers-clause-taken
returns-in-Numbers-clause-taken c =
    rw c.in-Numbers.is (on_ok _ (takes_number c.args.row c.args.place c.args.field.now c.in-Numbers.values c.push_number.new.values) c.push_number.ensures.taken)

pub returns-in-Texts-clause-taken : goal.returns-in-Texts-clause-taken
returns-in-Texts-clause-taken c =
    rw c.in-Texts.is (on_ok _ (takes_text c.args.row c.args.place c.args.field.now c.in-Texts.texts c.push_text.new.texts) c.push_text.ensures.taken)
