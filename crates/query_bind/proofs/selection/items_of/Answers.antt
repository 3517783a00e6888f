use Rattle.std.proofs.Common.{rules, arith}
use Rattle.query_text.specs.Views.{item_view, items_view}
use Rattle.query_bind.specs.Binding.{next_item, items_of}
use Rattle.query_bind.specs.Views.{selected_view}
use Rattle.query_bind.proofs.AccumulateLemmas.{goes, stops, handed}
use Rattle.query_bind.proofs.selection.items_of.Goals as goal

pub returns-in_err-push_item : goal.returns-in_err-push_item
returns-in_err-push_item c =
    let l = c.loop-item in
    let item = c.item-item.result in
    let given = c.in_err-push_item.field-0.0 in
    handed selected_view (items_of c.args.index.now c.args.groups.now (items_view c.args.items.now)) c.from_residual.result given c.from_residual.ensures.1
    (λ other. stops (next_item c.args.index.now c.args.groups.now) item_view c.args.items.now _ (selected_view l.selected) l.item-index item (search rules) c.item-item.is given
    (c.in_err-push_item.ensures.refused other) l.invariant.whole)

pub loop-item-preserved : goal.loop-item-preserved
loop-item-preserved c =
    let l = c.loop-item in
    let item = c.item-item.result in
    record {
      count = omega (arith, l.invariant.count, c.in_ok-push_item.ensures.count);
      whole = goes (next_item c.args.index.now c.args.groups.now) item_view c.args.items.now _ (selected_view l.selected) l.item-index item (search rules) c.item-item.is
          (selected_view c.push_item.new.selected) c.in_ok-push_item.ensures.next l.invariant.whole;
    }
