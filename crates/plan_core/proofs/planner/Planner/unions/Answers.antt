use Rattle.std.proofs.Common.{◌∙◌, ap, sym, ap₂, ◌+◌, List, map, arith, drop, length, ◌<◌}
use Rattle.plan_core.specs.Plans.{Steps}
use Rattle.std.proofs.lemmas.List.{at_drop_more}
use Rattle.plan_core.specs.Planner.{add_unions}
use Rattle.query_text.specs.declared.query.Literal.{Literal}
use Rattle.query_text.specs.declared.query.Literal.TheVariants as literal_kinds
use Rattle.definitions_queries.specs.Queries.{equal}
use Rattle.query_text.specs.Views.{literal_view}
use Rattle.plan_core.proofs.planner.Planner.unions.Goals as goal

pub loop-literal-preserved : goal.loop-literal-preserved
loop-literal-preserved c =
    let l = c.loop-literal in
    let i = l._literal-index in
    let none : Literal = literal_kinds.Number 0 in
    let F : List Literal → _ = λ literals. add_unions l.self l.running (l.next + 1) (map (λ literal. equal (literal_view literal)) literals) in
    let within : i < length c.args.further.now = omega arith in
    let more = at_drop_more F c.args.further.now i none within in
    record {
      made =
          ap₂ (λ steps number. add_unions steps number (l.next + 1 + 1) (map (λ literal. equal (literal_view literal)) (drop (i + 1) c.args.further.now))) c.in_ok-running.ensures.steps c.in_ok-running.ensures.out
          ∙ sym more ∙ l.invariant.made;
      columns = let one = ap (λ (steps : Steps). steps.columns) c.in_ok-running.ensures.steps in omega arith;
      next = omega arith;
    }
