use Rattle.std.proofs.Common.{[], ◌∷◌}
use Rattle.std.specs.Prelude.{codes}
use Rattle.engine_tool.specs.Tokens.{word, symbol, Begins}
use Rattle.engine_tool.proofs.TextLemmas.{begins_next}
use Rattle.engine_tool.proofs.text.read_item.Goals as goal

pub returns-in_err-name : goal.returns-in_err-name
returns-in_err-name c = rw c.from_residual-in_err-name.ensures (λ name rest lawful begins.
    let first : Begins c.in_ok-rest.rest.now (word (codes "sum") ∷ symbol (codes "(") ∷ word name ∷ symbol (codes ")") ∷ []) rest = begins_next _ _ rest _ _ (word (codes "sum") ∷ symbol (codes "(") ∷ word name ∷ symbol (codes ")") ∷ []) c.in_ok-rest.ensures begins in
    let second : Begins c.in_ok-rest-2.rest.now (symbol (codes "(") ∷ word name ∷ symbol (codes ")") ∷ []) rest = begins_next _ _ rest _ _ (symbol (codes "(") ∷ word name ∷ symbol (codes ")") ∷ []) c.in_ok-rest-2.ensures first in
    let third : Begins c.in_ok-rest-3.rest.now (word name ∷ symbol (codes ")") ∷ []) rest = begins_next _ _ rest _ _ (word name ∷ symbol (codes ")") ∷ []) c.in_ok-rest-3.ensures second in
    c.in_err-name.ensures name lawful third.0 third.1)
