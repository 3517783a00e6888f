use Rattle.std.proofs.Common.{rules}
use Rattle.query_text.specs.Views.{condition_view, conditions_view}
use Rattle.query_bind.specs.Binding.{next_condition, conditions_of}
use Rattle.query_bind.specs.Views.{parted_view}
use Rattle.query_bind.proofs.AccumulateLemmas.{goes, stops, handed}
use Rattle.query_bind.proofs.conditions.conditions_of.Goals as goal

pub returns-in_err-push_condition : goal.returns-in_err-push_condition
returns-in_err-push_condition c =
    let l = c.loop-condition in
    let condition = c.condition-item.result in
    let given = c.in_err-push_condition.field-0.0 in
    handed parted_view (conditions_of c.args.index.now c.args.fact (conditions_view c.args.conditions.now)) c.from_residual.result given c.from_residual.ensures.1
    (λ other. stops (next_condition c.args.index.now c.args.fact) condition_view c.args.conditions.now _ (parted_view l.sorted) l.condition-index condition (search rules) c.condition-item.is given
    (c.in_err-push_condition.ensures.refused other) l.invariant)

pub loop-condition-preserved : goal.loop-condition-preserved
loop-condition-preserved c =
    let l = c.loop-condition in
    let condition = c.condition-item.result in
    goes (next_condition c.args.index.now c.args.fact) condition_view c.args.conditions.now _ (parted_view l.sorted) l.condition-index condition (search rules) c.condition-item.is
    (parted_view c.push_condition.new.earlier) c.in_ok-push_condition.ensures.next l.invariant
