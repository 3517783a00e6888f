use Rattle.std.proofs.Common.{◌≡◌, ◌∙◌, ◌∷◌, [], length, codes, arith, ap, sym, map, Some, None, string_bytes}
use Rattle.std.proofs.lemmas.Grind.{common_steps}
use Rattle.toml.specs.View.{view}
use Rattle.toml.proofs.Views.{Entry}
use Rattle.catalog_core.specs.Schemas.{format_words}
use Rattle.plan_core.specs.Strategies.{choice_in, chosen}
use Rattle.plan_core.proofs.StrategyLemmas.{entry_view, in_order-view, chosen_goes, chosen_stops, chose}
use Rattle.plan_core.proofs.strategy_reading.put_formats.Goals as goal

pub loop-key-init : goal.loop-key-init
loop-key-init c =
    let whole : c.into_iter-key-iterator.result ≡ c.args.table.now.entries = c.into_iter-key-iterator.ensures.into_iter_gives ∙ c.iter-key-items.ensures.rest in (
      tt,
      tt,
      ap (λ entries. chosen (codes "c") format_words entries c.args.formats.now)
          (in_order-view c.args.table.now.entries c.iter-key-items.ensures.ordered ∙ sym (ap (map entry_view) whole)),
    )

pub returns-in_default-clause-refused : goal.returns-in_default-clause-refused
returns-in_default-clause-refused c =
    let (can, finite, left) = c.loop-key.invariant in
    let entry : Entry = (c.in-Some.key.now, c.in-Some.value.now) in
    let iter : c.loop-key.key-iterator ≡ entry ∷ c.next.new.self = grind (arith, common_steps) in
    let none : choice_in (codes "c") format_words (length c.loop-key.formats) (entry_view entry) ≡ None =
    chose (codes "c") format_words (length c.loop-key.formats) (length c.args.formats.now) (string_bytes c.in-Some.key.now) c.as_str.result.now (view c.in-Some.value.now) None c.loop-key.auto.formats c.as_str.ensures.value (sym c.format_choice.ensures.choice ∙ c.in_default.is) in
    let stops = left ∙ ap (λ entries. chosen (codes "c") format_words (map entry_view entries) c.loop-key.formats) iter
    ∙ chosen_stops (codes "c") format_words (entry_view entry) (map entry_view c.next.new.self) c.loop-key.formats none in
    rw (← c.as_str-in_default.ensures.value, ← c.unknown.ensures) at stops

pub loop-key-preserved : goal.loop-key-preserved
loop-key-preserved c =
    let (can, finite, left) = c.loop-key.invariant in
    let entry : Entry = (c.in-Some.key.now, c.in-Some.value.now) in
    let iter : c.loop-key.key-iterator ≡ entry ∷ c.next.new.self = grind (arith, common_steps) in
    let some : choice_in (codes "c") format_words (length c.loop-key.formats) (entry_view entry) ≡ Some (c.in-Some-format_choice.place, c.in-Some-format_choice.format) =
    chose (codes "c") format_words (length c.loop-key.formats) (length c.args.formats.now) (string_bytes c.in-Some.key.now) c.as_str.result.now (view c.in-Some.value.now) (Some (c.in-Some-format_choice.place, c.in-Some-format_choice.format)) c.loop-key.auto.formats c.as_str.ensures.value (sym c.format_choice.ensures.choice ∙ c.in-Some-format_choice.is) in (
      tt,
      tt,
      left ∙ ap (λ entries. chosen (codes "c") format_words (map entry_view entries) c.loop-key.formats) iter
          ∙ chosen_goes (codes "c") format_words (entry_view entry) (map entry_view c.next.new.self) c.loop-key.formats
          (c.in-Some-format_choice.place, c.in-Some-format_choice.format) some,
    )

pub returns-clause-formats : goal.returns-clause-formats
returns-clause-formats c =
    let (can, finite, left) = c.loop-key.invariant in
    let none : c.loop-key.key-iterator ≡ [] = grind (arith, common_steps) in
    left ∙ ap (λ entries. chosen (codes "c") format_words (map entry_view entries) c.loop-key.formats) none
