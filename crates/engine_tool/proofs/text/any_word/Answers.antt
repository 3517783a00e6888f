use Rattle.std.proofs.Common.{◌≡◌, ℕ, List, true, false, [], ◌∷◌, sym, ◌∙◌, subst}
use Rattle.std.proofs.lemmas.List.{nil_from_length}
use Rattle.std.specs.Str.{str_to_ascii_lowercase}
use Rattle.engine_tool.specs.Tokens.{word, begins_word, continues_word, front, behind}
use Rattle.engine_tool.specs.Texts.{HasToken}
use Rattle.engine_tool.proofs.TextLemmas.{word_lacks, token_at-word, lacks_token, has_token, lacks_at_end}
use Rattle.engine_tool.proofs.text.any_word.Goals as goal

pub returns-in_err-first : goal.returns-in_err-first
returns-in_err-first c = rw c.from_residual.ensures
    (λ lower. lacks_token _ [] (word lower) (sym c.skip_white_space-text.ensures ∙ nil_from_length _ c.in_err-first.ensures.cases) (lacks_at_end (word lower)))

pub returns-then-not-begins_word : goal.returns-then-not-begins_word
returns-then-not-begins_word c = λ lower.
    let first = c.in_ok-first.first.now in
    let other : begins_word first ≡ false = sym c.begins_word.ensures ∙ c.if-not-begins_word.true in
    lacks_token _ _ (word lower) (sym c.skip_white_space-text.ensures ∙ c.in_ok-first.ensures.cases.0) (word_lacks lower first c.in_ok-first._rest.now other)

pub returns : goal.returns
returns c =
    let first = c.in_ok-first.first.now in
    let rest = c.in_ok-first._rest.now in
    let begins : begins_word first ≡ true = sym c.begins_word.ensures ∙ c.if-not-begins_word.false in
    let is = c.in_ok-first.ensures.cases.0 in
    let found : HasToken c.args.text.now (word (str_to_ascii_lowercase (front continues_word (first ∷ rest)))) (behind continues_word (first ∷ rest)) =
    has_token _ _ _ _ (sym c.skip_white_space-text.ensures ∙ is) (token_at-word rest first begins) in
    let at : List ℕ → Type 0 = λ l. HasToken c.args.text.now (word (str_to_ascii_lowercase (front continues_word l))) (behind continues_word l) in
    let whole : HasToken c.args.text.now (word (str_to_ascii_lowercase (front continues_word c.skip_white_space-text.result.now))) (behind continues_word c.skip_white_space-text.result.now) = subst at (sym is) found in
    rw (c.split_front.ensures.front, c.split_front.ensures.behind) whole
