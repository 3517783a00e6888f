use Rattle.std.proofs.Common.{◌≡◌, [], ◌∷◌, ap, sym, ◌∙◌}
use Rattle.std.proofs.lemmas.List.{nil_from_length}
use Rattle.engine_tool.specs.Tokens.{symbol}
use Rattle.engine_tool.proofs.TextLemmas.{symbol_lacks_other, token_at-parenthesis, lacks_token, has_token, lacks_at_end}
use Rattle.engine_tool.proofs.text.parenthesis.Goals as goal

pub returns-in_err-first : goal.returns-in_err-first
returns-in_err-first c = rw c.from_residual.ensures
    (lacks_token _ [] _ (sym c.skip_white_space-text.ensures ∙ nil_from_length _ c.in_err-first.ensures.cases) (lacks_at_end (symbol (c.args.expected ∷ []))))

pub returns-then-first-expected : goal.returns-then-first-expected
returns-then-first-expected c =
    lacks_token _ _ _ (sym c.skip_white_space-text.ensures ∙ c.in_ok-first.ensures.cases.0) (symbol_lacks_other c.args.expected c.in_ok-first.first.now c.in_ok-first.rest.now c.if-first-expected.true)

pub returns : goal.returns
returns c =
    let same : c.in_ok-first.first.now ≡ c.args.expected = c.if-first-expected.false in
    has_token _ _ _ _ (sym c.skip_white_space-text.ensures ∙ c.in_ok-first.ensures.cases.0 ∙ ap (λ a. a ∷ c.in_ok-first.rest.now) same)
    (token_at-parenthesis c.args.expected c.in_ok-first.rest.now c.requires)
