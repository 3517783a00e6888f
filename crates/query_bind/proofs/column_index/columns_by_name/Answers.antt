use Rattle.std.proofs.Common.{rules, ◌∙◌, ap}
use Rattle.std.specs.List.{find}
use Rattle.std.specs.Str.{bytes_eq}
use Rattle.std.proofs.lemmas.List.{take_all}
use Rattle.query_bind.specs.Binding.{column_name}
use Rattle.query_bind.proofs.IndexLemmas.{added}
use Rattle.query_bind.proofs.column_index.columns_by_name.Goals as goal

pub loop-place-preserved : goal.loop-place-preserved
loop-place-preserved c =
    rw c.in_ok-add_column.ensures (added (column_name c.args.schema.now) c.args.ids.now c.loop-place.place _ c.loop-place.columns (search rules) (search rules) c.loop-place.invariant)

pub returns : goal.returns
returns c = λ name. c.loop-place.invariant name ∙ ap (find (λ id. bytes_eq name (column_name c.args.schema.now id))) (take_all c.loop-place.place c.args.ids.now (search rules))
