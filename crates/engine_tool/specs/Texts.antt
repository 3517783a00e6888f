-- What the reader of a query's text gives.
use Rattle.std.specs.Prelude.{◌≡◌, ℕ, Bool, List, Option, Some, None}
use Rattle.std.specs.Char.{is_ascii_digit}
use Rattle.engine_tool.specs.Tokens.{Token, is_white_space, continues_word, first_token}
use Rattle.engine_tool.specs.Queries as queries
use Rattle.engine_tool.specs.Queries.{Query}
use Rattle.engine_tool.specs.declared.text.Class.{Class}
use Rattle.engine_tool.specs.declared.text.Class.TheVariants as class
use Rattle.engine_tool.specs.declared.text.Condition.{Condition}
use Rattle.engine_tool.specs.declared.text.SumQuery.{SumQuery}

-- the test of a class of bytes
abbrev pub class_test : Class → ℕ → Bool
class_test class.WhiteSpace = is_white_space
class_test class.Word = continues_word
class_test class.Digit = is_ascii_digit

-- the text doesn't begin with the token
abbrev pub LacksToken : List ℕ → Token → Type 0
LacksToken text token = (rest : List ℕ) → first_token text ≡ Some (token, rest) → ⊥

-- the text begins with the token, and the rest follows
abbrev pub HasToken : List ℕ → Token → List ℕ → Type 0
HasToken text token rest = first_token text ≡ Some (token, rest)

-- what a query's fields say
abbrev pub condition_view : Option Condition → Option queries.Condition
condition_view None = None
condition_view (Some condition) = Some (record { tested = condition.tested; low = condition.low; high = condition.high })

abbrev pub query_view : SumQuery → Query
query_view query = record { summed = query.summed; table = query.table; condition = condition_view query.condition }
