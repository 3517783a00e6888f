use Rattle.std.proofs.Common.{[], ◌∷◌}
use Rattle.std.specs.Prelude.{codes}
use Rattle.engine_tool.specs.Tokens.{word, number, Begins}
use Rattle.engine_tool.proofs.TextLemmas.{begins_next}
use Rattle.engine_tool.proofs.text.read_condition.Goals as goal

pub returns-in_err-tested : goal.returns-in_err-tested
returns-in_err-tested c = rw c.from_residual-in_err-tested.ensures (λ name low high rest lawful begins.
    let first : Begins c.in_ok-rest.rest.now (word name ∷ word (codes "between") ∷ number low ∷ word (codes "and") ∷ number high ∷ []) rest =
    begins_next _ _ rest _ _ (word name ∷ word (codes "between") ∷ number low ∷ word (codes "and") ∷ number high ∷ []) c.in_ok-rest.ensures begins in
    c.in_err-tested.ensures name lawful first.0 first.1)
