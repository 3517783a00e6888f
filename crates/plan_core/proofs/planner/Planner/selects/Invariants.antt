-- the Selects of the ranges left make the whole
use Rattle.std.proofs.Common.{◌≡◌, ◌+◌, map, drop}
use Rattle.plan_core.specs.Planner.{add_selects}
use Rattle.definitions_queries.specs.Queries.{equal}
use Rattle.query_text.specs.Views.{literal_view}
use Rattle.plan_core.proofs.planner.Planner.selects.Given as goal

abbrev pub invariant-loop-literal : goal.invariant-loop-literal
invariant-loop-literal l = record {
  steps : add_selects l.self l.column (map (λ literal. equal (literal_view literal)) (drop l.literal-index l.literals))
      ≡ add_selects l.initial.self l.column (map (λ literal. equal (literal_view literal)) l.literals);
  columns : l.self.columns ≡ l.initial.self.columns + l.literal-index;
}
