-- the Unions of the ranges left make the whole
use Rattle.std.proofs.Common.{◌≡◌, ◌+◌, map, drop}
use Rattle.plan_core.specs.Planner.{add_unions}
use Rattle.definitions_queries.specs.Queries.{equal}
use Rattle.query_text.specs.Views.{literal_view}
use Rattle.plan_core.proofs.planner.Planner.unions.Given as goal

abbrev pub invariant-loop-literal : goal.invariant-loop-literal
invariant-loop-literal l = record {
  made : add_unions l.self l.running (l.next + 1) (map (λ literal. equal (literal_view literal)) (drop l._literal-index l.further))
      ≡ add_unions l.initial.self l.first (l.first + 1) (map (λ literal. equal (literal_view literal)) l.further);
  columns : l.self.columns ≡ l.initial.self.columns + l._literal-index;
  next : l.next ≡ l.first + l._literal-index;
}
