use Rattle.std.specs.List.{flat_map}
use Rattle.query_text.specs.Views.{item_view, items_view}
use Rattle.query_bind.specs.Binding.{item_words, are_of_from}
use Rattle.query_bind.proofs.AccumulateLemmas.{handed_on}
use Rattle.query_bind.proofs.MentionLemmas.{all_go, all_stop}
use Rattle.query_bind.proofs.mentions.check_items.Goals as goal

pub returns-in_err-check_item : goal.returns-in_err-check_item
returns-in_err-check_item c =
    let l = c.loop-item in
    let given = c.in_err-check_item.field-0.0 in
    let whole = are_of_from c.args.index.now c.args.tables.now (flat_map item_words (items_view c.args.items.now)) in
    handed_on whole c.from_residual.result given c.from_residual.ensures.1
    (λ other. all_stop c.args.index.now c.args.tables.now item_words item_view c.args.items.now whole l.item-index c.item-item.result c.loop-item-test.true c.item-item.is given
    (c.in_err-check_item.ensures other) l.invariant)

pub loop-item-preserved : goal.loop-item-preserved
loop-item-preserved c =
    let l = c.loop-item in
    let whole = are_of_from c.args.index.now c.args.tables.now (flat_map item_words (items_view c.args.items.now)) in
    all_go c.args.index.now c.args.tables.now item_words item_view c.args.items.now whole l.item-index c.item-item.result c.loop-item-test.true c.item-item.is
    c.in_ok-check_item.ensures l.invariant
