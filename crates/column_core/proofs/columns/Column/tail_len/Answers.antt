use Rattle.std.proofs.Common.{◌%◌, sym, ap, ◌∙◌}
use Rattle.column_core.proofs.ColumnLemmas.{held, length-tail_of}
use Rattle.column_core.proofs.columns.Column.tail_len.Goals as goal

pub returns-clause-tail : goal.returns-clause-tail
returns-clause-tail c =
    let is = held c.self.inside.format c.self.inside.stored.0 c.args.self.now c.self.inside.static_width c.self.inside.tail_width c.self.inside.count c.self.inside.bytes.items c.self.view_is c.self.invariant in
    length-tail_of c.args.self.now.values ∙ ap (λ n. n % 1024) (sym is.count_is)
