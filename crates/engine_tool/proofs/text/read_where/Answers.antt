use Rattle.std.proofs.Common.{◌≡◌, [], Option, Some, None, ap, length, ◌∙◌, arith, List, ℕ}
use Rattle.std.proofs.lemmas.Bool.Decides.{nat_tests}
use Rattle.stream_core.specs.Names.{IsName}
use Rattle.engine_tool.specs.Tokens.{AreTokens, Begins, behind, is_white_space}
use Rattle.engine_tool.specs.Queries.{Condition, NamesTested, where_tokens, condition_tokens}
use Rattle.engine_tool.proofs.text.read_where.Goals as goal

-- a text that is no white space and no condition ends in another way
neither : (text : List ℕ) → (behind is_white_space text ≡ [] → ⊥) → ((name : List ℕ) (low high : ℕ) (rest : List ℕ) → IsName name → Begins text (condition_tokens name low high) rest → ⊥)
    → (condition : Option Condition) → NamesTested condition → AreTokens text (where_tokens condition) → ⊥
neither text some none None names tokens = some (ap (behind is_white_space) tokens.1 ∙ tokens.2)
neither text some none (Some condition) names tokens = none condition.tested condition.low condition.high tokens.0 names tokens.1

pub returns-in_err-condition : goal.returns-in_err-condition
returns-in_err-condition c =
    let some : behind is_white_space c.args.text.now ≡ [] → ⊥ = λ e. let none = ap length (c.skip_white_space.ensures ∙ e) in grind (arith, nat_tests, none) in
    rw c.from_residual.ensures (neither c.args.text.now some c.in_err-condition.ensures)
