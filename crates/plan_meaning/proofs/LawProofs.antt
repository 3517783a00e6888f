-- The law of plans.
use Rattle.std.proofs.Common.{◌≡◌, [], sym, ◌∙◌, All, subst}
use Rattle.catalog_core.specs.declared.schemas.Schema.{Schema}
use Rattle.query_bind.specs.Binding.{Binding}
use Rattle.query_bind.specs.LawfulBindings.{IsBinding}
use Rattle.plan_core.specs.WholePlan.{plan_of}
use Rattle.plan_meaning.specs.Law.{PlanMeansQuery, PlanFits}
use Rattle.plan_meaning.specs.Shapes.{PlanIsOrderly}
use Rattle.plan_meaning.proofs.BindingLaws.{lawful_of}
use Rattle.plan_meaning.proofs.NeededLaws.{needed_data, needed-stand}
use Rattle.plan_meaning.proofs.TransferLaws.{means_same, too_many_same}
use Rattle.plan_meaning.proofs.WholePlanLaws.{plan_of-holds, plan_of-fits}
use Rattle.plan_meaning.proofs.MeaningLaws.{whole-means}
use Rattle.plan_meaning.specs.Operands.{IsMade}
use Rattle.plan_meaning.specs.Shapes.{ReadsNeeded, SelectsRange, SumLabel, labels_of, labels_from, IsOrderly}
use Rattle.plan_meaning.proofs.StepLaws.{Serves}
use Rattle.plan_meaning.proofs.OrderLaws.{all_ranges, whole-joins_before, counted}
use Rattle.plan_meaning.proofs.NumberLaws.{has_numbers, groups-low}
use Rattle.plan_meaning.proofs.LabelLaws.{whole-labels, whole-last, whole-unread}
use Rattle.std.proofs.lemmas.List.Elements.{All-weaker}

pub plan-orderly : (schema : Schema) (binding : Binding) → IsBinding schema binding → IsOrderly schema binding (plan_of binding schema)
plan-orderly schema binding is =
    let plan = plan_of binding schema in
    let lawful = lawful_of schema binding is in
    let ranged = all_ranges schema binding binding.tests is.tests in
    let before = whole-joins_before schema binding ranged in
    let numbers = has_numbers schema binding lawful in
    let labels : labels_of plan.operators ≡ labels_from 1 plan.sums = whole-labels schema binding ranged in
    record {
      reads = All-weaker (Serves schema binding) (ReadsNeeded binding) (λ operator serves. serves.0) plan.operators before.serve;
      selects = All-weaker (Serves schema binding) (SelectsRange schema) (λ operator serves. serves.1) plan.operators before.serve;
      numbered = numbers.numbered;
      keys = numbers.keys;
      keys_made = numbers.keys_made;
      keys_last = whole-last schema binding;
      sums = labels;
      sums_made = subst (All (λ (label : SumLabel). IsMade plan.columns label.out)) (sym labels) numbers.sums_made;
      unread = whole-unread schema binding ranged (groups-low schema binding lawful);
      counted = counted schema binding ranged is;
      joins = before.joins;
    }

pub means_query : (schema : Schema) (binding : Binding) → PlanMeansQuery schema binding
means_query schema binding is stored stands =
    let plan = plan_of binding schema in
    let lawful = lawful_of schema binding is in
    let whole = needed-stand schema binding lawful is.joined stored stands in
    means_same binding stored lawful plan (plan-orderly schema binding is).reads
    (whole-means binding (needed_data binding stored) plan lawful (plan_of-holds binding schema lawful (needed_data binding stored) whole))

pub is_orderly : (schema : Schema) (binding : Binding) → PlanIsOrderly schema binding
is_orderly schema binding is = plan-orderly schema binding is

pub fits : (schema : Schema) (binding : Binding) → PlanFits schema binding
fits schema binding is none stored stands =
    let plan = plan_of binding schema in
    let lawful = lawful_of schema binding is in
    sym (too_many_same binding stored lawful [] 1 plan.operators (plan-orderly schema binding is).reads)
    ∙ plan_of-fits binding schema lawful none (needed_data binding stored) (needed-stand schema binding lawful is.joined stored stands)
