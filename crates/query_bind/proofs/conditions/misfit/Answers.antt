use Rattle.std.proofs.Common.{◌∙◌, sym, not}
use Rattle.query_text.specs.Views.{literal_view}
use Rattle.query_bind.specs.Binding.{fits}
use Rattle.query_bind.proofs.PlaceLemmas.{position-map}
use Rattle.query_bind.proofs.conditions.misfit.Goals as goal

pub returns-in-OneOf : goal.returns-in-OneOf
returns-in-OneOf c =
    rw (c.in-OneOf.is) (rw c.as_slice.ensures at c.first_misfit.ensures ∙ sym (position-map (λ literal. not (fits c.args.kind literal)) literal_view c.in-OneOf.values))
