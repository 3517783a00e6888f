-- What a reader of the code answers.
use Rattle.std.specs.Prelude.{◌≡◌, List, Result, Ok, Err}
use Rattle.definitions_queries.specs.Tokens.{Placed}
use Rattle.definitions_queries.specs.Queries as said
use Rattle.query_text.specs.declared.conditions.Sign.{Sign}
use Rattle.query_text.specs.declared.conditions.Sign.TheVariants as signs
use Rattle.query_text.specs.declared.stop.Stop.{Stop}
use Rattle.query_text.specs.declared.stop.Stop.TheVariants as stops
use Rattle.query_text.specs.Reading.{Read}

abbrev pub StopsAs : {Y : Type 0} → Stop → Read Y → Type 0
StopsAs (stops.Syntax at) read = read ≡ Err at
StopsAs stops.Memory read = Unit {0}

-- what reading gives, unless memory ran out
abbrev pub ReadsAs : {X Y : Type 0} → (X → Y × List Placed) → Result X Stop → Read Y → Type 0
ReadsAs view (Ok x) read = read ≡ Ok (view x)
ReadsAs view (Err e) read = StopsAs e read

-- the test of a sign
abbrev pub sign_test : Sign → said.Literal → said.Test
sign_test signs.Equal = said.equal
sign_test signs.Below = said.below
sign_test signs.AtMost = said.at_most
sign_test signs.Above = said.above
sign_test signs.AtLeast = said.at_least
