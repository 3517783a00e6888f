use Rattle.std.specs.List.{flat_map}
use Rattle.query_text.specs.Views.{condition_view, conditions_view}
use Rattle.query_bind.specs.Binding.{condition_words, are_of_from}
use Rattle.query_bind.proofs.AccumulateLemmas.{handed_on}
use Rattle.query_bind.proofs.MentionLemmas.{all_go, all_stop}
use Rattle.query_bind.proofs.mentions.check_conditions.Goals as goal

pub returns-in_err-check_condition : goal.returns-in_err-check_condition
returns-in_err-check_condition c =
    let l = c.loop-condition in
    let given = c.in_err-check_condition.field-0.0 in
    let whole = are_of_from c.args.index.now c.args.tables.now (flat_map condition_words (conditions_view c.args.conditions.now)) in
    handed_on whole c.from_residual.result given c.from_residual.ensures.1
    (λ other. all_stop c.args.index.now c.args.tables.now condition_words condition_view c.args.conditions.now whole l.condition-index c.condition-item.result c.loop-condition-test.true c.condition-item.is given
    (c.in_err-check_condition.ensures other) l.invariant)

pub loop-condition-preserved : goal.loop-condition-preserved
loop-condition-preserved c =
    let l = c.loop-condition in
    let whole = are_of_from c.args.index.now c.args.tables.now (flat_map condition_words (conditions_view c.args.conditions.now)) in
    all_go c.args.index.now c.args.tables.now condition_words condition_view c.args.conditions.now whole l.condition-index c.condition-item.result c.loop-condition-test.true c.condition-item.is
    c.in_ok-check_condition.ensures l.invariant
