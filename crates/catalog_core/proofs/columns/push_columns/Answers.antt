use Rattle.catalog_core.proofs.ColumnLemmas.{column_pushed}
use Rattle.catalog_core.proofs.columns.push_columns.Goals as goal

pub loop-column-preserved : goal.loop-column-preserved
loop-column-preserved c =
    let l = c.loop-column in
    column_pushed c.args.columns.now.items l.columns.items c.push.new.self.items c.args.table l.column l.invariant c.in_ok-push.ensures.items
