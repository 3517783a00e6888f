use Rattle.std.proofs.Common.{◌<◌, ◌∙◌, ◌++◌, ◌∷◌, [], List, ap, sym, map, length, take, arith}
use Rattle.std.proofs.lemmas.List.{map-append}
use Rattle.table_core.specs.Tables.{stored_at}
use Rattle.answer_text.specs.HeldColumns.{columns_at}
use Rattle.answer_text.specs.Exports.{columns_there}
use Rattle.answer_text.specs.Printed.{Printed, printed_of}
use Rattle.answer_text.proofs.LineLemmas.{there-more}
use Rattle.answer_text.proofs.printed.printed_columns.Goals as goal

pub loop-place-preserved : goal.loop-place-preserved
loop-place-preserved c =
    let l = c.loop-place in
    let slots = columns_at c.args.tables.now c.args.table in
    let pushed = c.in_ok-push_column.ensures in
    let next = columns_there (stored_at c.args.tables.now (record { table = c.args.table; column = l.place }) ∷ []) in
    let within : l.place < length slots = omega (arith, c.requires.count, c.loop-place-test.true) in
    record {
      columns = pushed.columns ∙ ap (λ (columns : List Printed). columns ++ map printed_of next) l.invariant.columns
          ∙ sym (ap (map printed_of) (there-more c.args.tables.now c.args.table l.place within) ∙ map-append printed_of (columns_there (take l.place slots)) next);
      rows = pushed.rows l.invariant.rows;
    }
