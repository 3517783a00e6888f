-- each call's clause, in the order of the step
use Rattle.std.proofs.Common.{◌≡◌, ◌∙◌, ap, ap₂, ℕ, ◌+◌, ◌++◌, ◌∷◌, [], map, arith}
use Rattle.std.specs.Prelude.{Some, None}
use Rattle.std.proofs.lemmas.List.{map_push}
use Rattle.plan_core.specs.Plans as plans
use Rattle.plan_core.specs.Plans.{Steps}
use Rattle.plan_core.specs.Planner as planner
use Rattle.plan_core.specs.Planner.{with_two, add_values, add_places, add_row_lists, Made, Read}
use Rattle.plan_core.specs.Views.{row_list_view, rows_of, dimension_view}
use Rattle.plan_core.proofs.dimensions.add_join.Goals as goal

pub returns-clause-made : goal.returns-clause-made
returns-clause-made c =
    let lists = map row_list_view c.args.rows.lists.items in
    let dimension = dimension_view c.args.dimension in
    let table = dimension.to.key.table in
    let own : ℕ → planner.Rows → Made → planner.Rows = λ facts earlier own. record { steps = own.steps; facts = Some facts; lists = earlier.lists ++ record { table = table; number = own.number } ∷ [] } in
    let last : ℕ → ℕ → planner.Rows → planner.Rows = λ facts left earlier. own facts earlier (add_places earlier.steps dimension.list (left + 1)) in
    let third : ℕ → Made → planner.Rows = λ left facts. last facts.number left (add_row_lists facts.steps [] lists left) in
    let second : Steps → ℕ → planner.Rows = λ joined left. third left (add_places joined c.args.rows.facts left) in
    let first : Read → planner.Rows = λ probe. second (with_two probe.steps (plans.join probe.input dimension.keys)) (probe.steps.columns + 1) in
    let left = c.in_ok-left.left in
    let left_is = c.in_ok-left.ensures.out.0 in
    let right_is = c.in_ok-left.ensures.out.1 in
    let right : c.in_ok-left.right ≡ left + 1 = omega (arith, left_is, right_is) in
    let facts = c.in_ok-facts.facts in
    let earlier : planner.Rows = rows_of c.add_row_lists.new.planner None c.in_ok-lists.lists.items in
    let pushed : map row_list_view c.push.new.self.items ≡ map row_list_view c.in_ok-lists.lists.items ++ row_list_view (record { table = c.args.dimension.to.key.table; number = c.in_ok-number.number }) ∷ [] =
    ap (map row_list_view) c.in_ok-push.ensures.items ∙ map_push row_list_view c.in_ok-lists.lists.items (record { table = c.args.dimension.to.key.table; number = c.in_ok-number.number }) in
    ap (λ l. let rows : planner.Rows = record { steps = c.places-2.new.self; facts = Some facts; lists = l } in rows) pushed
    ∙ ap (own facts earlier) (c.in_ok-number.ensures.made ∙ ap (add_places earlier.steps dimension.list) right)
    ∙ ap (last facts left) (c.in_ok-lists.ensures.made ∙ ap (λ items. add_row_lists c.places.new.self [] (map row_list_view items) left) c.as_slice.ensures.value)
    ∙ ap (third left) c.in_ok-facts.ensures.made
    ∙ ap₂ second c.in_ok-left.ensures.steps left_is
    ∙ ap first c.in_ok-probe.ensures.made
