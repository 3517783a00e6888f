use Rattle.std.proofs.Common.{[], ◌∷◌}
use Rattle.engine_tool.specs.Tokens.{word, Begins}
use Rattle.engine_tool.proofs.TextLemmas.{begins_next}
use Rattle.engine_tool.proofs.text.read_table.Goals as goal

pub returns-in_err-name : goal.returns-in_err-name
returns-in_err-name c = rw c.from_residual-in_err-name.ensures (λ name rest lawful begins.
    let first : Begins c.in_ok-rest.rest.now (word name ∷ []) rest = begins_next _ _ rest _ _ (word name ∷ []) c.in_ok-rest.ensures begins in
    c.in_err-name.ensures name lawful first.0 first.1)
