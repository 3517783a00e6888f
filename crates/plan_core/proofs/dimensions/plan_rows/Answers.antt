-- each call's clause, in the order of the steps
use Rattle.std.proofs.Common.{◌∙◌, ap, List, [], map}
use Rattle.std.specs.Prelude.{Bool, None, filter, not}
use Rattle.plan_core.specs.Planner as planner
use Rattle.plan_core.specs.Planner.{add_list, add_conditions, add_dimensions, add_semi_joins, add_joins, no_steps, conditions_on, is_joined}
use Rattle.plan_core.specs.Views.{rows_of, dimension_view, listed_of}
use Rattle.query_bind.specs.Views.{tested_view, bound_view}
use Rattle.std.proofs.Common.{arith, length}
use Rattle.std.specs.Prelude.{sum_by}
use Rattle.plan_core.specs.Sizes.{size_of}
use Rattle.plan_core.proofs.SizeLemmas.{twos, joins_size}
use Rattle.plan_core.specs.Plans.{Steps}
use Rattle.query_bind.specs.declared.bounds.JoinTo.{JoinTo}
use Rattle.plan_core.proofs.dimensions.plan_rows.Goals as goal

pub returns-clause-plan : goal.returns-clause-plan
returns-clause-plan c =
    let bound = bound_view c.args.bound.now in
    let wanted : JoinTo → Bool = is_joined bound c.args.schema.now in
    let others : List planner.Dimension → List planner.Dimension = filter (λ dimension. not (wanted dimension.to)) in
    let ours : List planner.Dimension → List planner.Dimension = filter (λ dimension. wanted dimension.to) in
    let fourth : List planner.Dimension → planner.Listed → planner.Rows = λ dimensions listed. add_joins (record { steps = listed.steps; facts = listed.list; lists = [] }) (ours dimensions) in
    let third : List planner.Dimension → planner.Listed → planner.Rows = λ dimensions listed. fourth dimensions (add_semi_joins listed (others dimensions)) in
    let second : planner.Dimensions → planner.Rows = λ made. third made.dimensions (add_list made.steps bound bound.fact) in
    let dimensions = map dimension_view c.in_ok-dimensions.dimensions.items in
    c.in_ok-rows.ensures.made
    ∙ ap (λ items. add_joins (rows_of c.add_semi_joins.new.planner c.in_ok-facts.facts []) (ours (map dimension_view items))) c.as_slice-3.ensures.value
    ∙ ap (fourth dimensions)
    (c.in_ok-facts.ensures.made ∙ ap (λ items. add_semi_joins (listed_of c.condition_list.new.self c.in_ok-list.list) (others (map dimension_view items))) c.as_slice-2.ensures.value)
    ∙ ap (third dimensions)
    (c.in_ok-list.ensures.list ∙ ap (λ items. add_conditions (listed_of c.add_all.new.planner None) (conditions_on bound.fact (map tested_view items))) c.as_slice.ensures)
    ∙ ap second (c.in_ok-dimensions.ensures.made ∙ ap (λ steps. add_dimensions steps bound bound.joins []) c.new-planner.ensures)

pub add_semi_joins-requires : goal.add_semi_joins-requires
add_semi_joins-requires c =
    let joins = c.args.bound.now.joins in
    let none = ap (λ (steps : Steps). steps.columns) c.new-planner.ensures in
    let first = c.in_ok-dimensions.ensures.columns in
    let list = c.in_ok-list.ensures.columns in
    let same = ap (sum_by size_of) c.as_slice.ensures in
    let two = twos c.as_slice-2.result.now (length joins) (ap length c.as_slice-2.ensures.value ∙ c.in_ok-dimensions.ensures.count) in
    let room = c.requires.room in
    record { room = omega (arith, none, first, list, same, two, room) }

pub add_joins-requires : goal.add_joins-requires
add_joins-requires c =
    let joins = c.args.bound.now.joins in
    let none = ap (λ (steps : Steps). steps.columns) c.new-planner.ensures in
    let first = c.in_ok-dimensions.ensures.columns in
    let list = c.in_ok-list.ensures.columns in
    let same = ap (sum_by size_of) c.as_slice.ensures in
    let two = twos c.as_slice-2.result.now (length joins) (ap length c.as_slice-2.ensures.value ∙ c.in_ok-dimensions.ensures.count) in
    let third = c.in_ok-facts.ensures.columns in
    let all = joins_size c.as_slice-3.result.now (length joins) (ap length c.as_slice-3.ensures.value ∙ c.in_ok-dimensions.ensures.count) in
    let room = c.requires.room in
    record { room = omega (arith, none, first, list, same, two, third, all, room) }

pub returns-clause-columns : goal.returns-clause-columns
returns-clause-columns c =
    let joins = c.args.bound.now.joins in
    let none = ap (λ (steps : Steps). steps.columns) c.new-planner.ensures in
    let first = c.in_ok-dimensions.ensures.columns in
    let list = c.in_ok-list.ensures.columns in
    let same = ap (sum_by size_of) c.as_slice.ensures in
    let two = twos c.as_slice-2.result.now (length joins) (ap length c.as_slice-2.ensures.value ∙ c.in_ok-dimensions.ensures.count) in
    let third = c.in_ok-facts.ensures.columns in
    let all = joins_size c.as_slice-3.result.now (length joins) (ap length c.as_slice-3.ensures.value ∙ c.in_ok-dimensions.ensures.count) in
    let fourth = c.in_ok-rows.ensures.columns in
    omega (arith, none, first, list, same, two, third, all, fourth)
