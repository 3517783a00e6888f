-- The choices of `in`.
use Rattle.std.proofs.Common.{◌≡◌, List, [], ◌∷◌, map, refl, ap}
use Rattle.definitions_queries.specs.Queries.{Test, equal}
use Rattle.query_text.specs.Views.{literal_view}
use Rattle.query_text.specs.declared.query.Literal.{Literal}

pub choices_are : (literals : List Literal) → map (λ literal. equal (literal_view literal)) literals ≡ map (λ literal. equal literal) (map literal_view literals)
choices_are [] = refl
choices_are (literal ∷ more) = ap (λ (tests : List Test). equal (literal_view literal) ∷ tests) (choices_are more)
