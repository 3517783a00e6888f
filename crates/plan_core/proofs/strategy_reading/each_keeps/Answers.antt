use Rattle.std.proofs.Common.{◌≡◌, ◌∙◌, ◌∷◌, [], true, false, arith, ap, sym, map}
use Rattle.std.proofs.lemmas.Grind.{common_steps}
use Rattle.toml.specs.View.{view}
use Rattle.toml.proofs.Views.{Entry}
use Rattle.catalog_core.specs.Schemas.{meaning}
use Rattle.plan_core.specs.Strategies.{top_rules, keeps, each_keeps}
use Rattle.plan_core.proofs.StrategyLemmas.{entry_view, in_order-view, keeps_goes, keeps_stops}
use Rattle.plan_core.proofs.strategy_reading.each_keeps.Goals as goal

pub loop-key-init : goal.loop-key-init
loop-key-init c =
    let whole : c.into_iter-key-iterator.result ≡ c.args.keys.now.entries = c.into_iter-key-iterator.ensures.into_iter_gives ∙ c.iter-key-items.ensures.rest in
    (tt, tt, ap each_keeps (in_order-view c.args.keys.now.entries c.iter-key-items.ensures.ordered ∙ sym (ap (map entry_view) whole)))

pub returns-then-not-keeps_rule : goal.returns-then-not-keeps_rule
returns-then-not-keeps_rule c =
    let (can, finite, left) = c.loop-key.invariant in
    let entry : Entry = (c.in-Some.key.now, c.in-Some.value.now) in
    let iter : c.loop-key.key-iterator ≡ entry ∷ c.next.new.self = grind (arith, common_steps) in
    let broken : keeps (meaning top_rules c.as_str.result.now) (view entry.1) ≡ false = sym c.keeps_rule.ensures ∙ c.if-not-keeps_rule.true in
    let at : keeps (meaning top_rules (entry_view entry).0) (entry_view entry).1 ≡ false =
    sym (ap (λ key. keeps (meaning top_rules key) (view entry.1)) c.as_str.ensures.value) ∙ broken in
    let stops = left ∙ ap (λ entries. each_keeps (map entry_view entries)) iter ∙ keeps_stops (entry_view entry) (map entry_view c.next.new.self) at in
    sym (rw (← c.as_str-then-not-keeps_rule.ensures.value, ← c.unknown.ensures) at stops)

pub loop-key-preserved : goal.loop-key-preserved
loop-key-preserved c =
    let (can, finite, left) = c.loop-key.invariant in
    let entry : Entry = (c.in-Some.key.now, c.in-Some.value.now) in
    let iter : c.loop-key.key-iterator ≡ entry ∷ c.next.new.self = grind (arith, common_steps) in
    let kept : keeps (meaning top_rules c.as_str.result.now) (view entry.1) ≡ true = sym c.keeps_rule.ensures ∙ c.if-not-keeps_rule.false in
    let at : keeps (meaning top_rules (entry_view entry).0) (entry_view entry).1 ≡ true =
    sym (ap (λ key. keeps (meaning top_rules key) (view entry.1)) c.as_str.ensures.value) ∙ kept in
    (tt, tt, left ∙ ap (λ entries. each_keeps (map entry_view entries)) iter ∙ keeps_goes (entry_view entry) (map entry_view c.next.new.self) at)

pub returns : goal.returns
returns c =
    let (can, finite, left) = c.loop-key.invariant in
    let none : c.loop-key.key-iterator ≡ [] = grind (arith, common_steps) in
    sym (left ∙ ap (λ entries. each_keeps (map entry_view entries)) none)
