use Rattle.std.proofs.Common.{◌≡◌, ap, ◌∙◌}
use Rattle.std.proofs.lemmas.Result.{IfOk-weaker}
use Rattle.definitions_operators.specs.Operators.{values_at}
use Rattle.definitions_operators.specs.Sums.{kept_values}
use Rattle.definitions_operators.proofs.SumLaws.{values_at-positions_in}
use Rattle.engine_tool.proofs.sums.kept_where.Goals as goal

pub returns : goal.returns
returns c =
    let summed = c.args.summed.now in
    let tested = c.args.tested.now in
    let places = c.as_slice.ensures ∙ c.in_ok-places.ensures.positions in
    IfOk-weaker c.project.result (λ found. found ≡ values_at summed c.as_slice.result.now) (λ kept. kept ≡ kept_values summed tested c.args.low c.args.high)
    (λ found is. is ∙ ap (values_at summed) places ∙ values_at-positions_in summed tested c.args.low c.args.high c.requires) c.project.ensures
