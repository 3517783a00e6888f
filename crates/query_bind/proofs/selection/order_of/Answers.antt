use Rattle.std.proofs.Common.{rules}
use Rattle.query_text.specs.Views.{key_view, keys_view}
use Rattle.query_bind.specs.Binding.{key_in, order_of}
use Rattle.definitions_outcomes.proofs.ComputedLaws.{loop_goes, loop_stops}
use Rattle.query_bind.proofs.AccumulateLemmas.{handed}
use Rattle.query_bind.proofs.selection.order_of.Goals as goal

pub returns-in_err-key_in : goal.returns-in_err-key_in
returns-in_err-key_in c =
    let l = c.loop-key in
    let key = c.key-item.result in
    let given = c.in_err-key_in.field-0.0 in
    handed (λ order. order.items) (order_of c.args.groups.now c.args.aliases.now (keys_view c.args.keys.now)) c.from_residual.result given c.from_residual.ensures.1
    (λ other. loop_stops (λ number. key_in c.args.groups.now c.args.aliases.now) key_view c.args.keys.now _ l.order.items l.key-index l.key-index key (search rules) c.key-item.is given
    (c.in_err-key_in.ensures other) l.invariant)

pub loop-key-preserved : goal.loop-key-preserved
loop-key-preserved c =
    let l = c.loop-key in
    let key = c.key-item.result in
    rw c.in_ok-push.ensures.items
    (loop_goes (λ number. key_in c.args.groups.now c.args.aliases.now) key_view c.args.keys.now _ l.order.items l.key-index l.key-index key (search rules) c.key-item.is
    c.in_ok-key_in.field-0 c.in_ok-key_in.ensures l.invariant)
