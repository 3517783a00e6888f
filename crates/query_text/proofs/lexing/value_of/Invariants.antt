use Rattle.std.proofs.Common.{◌≡◌, ◌^◌, ◌<◌, take}
use Rattle.definitions_queries.specs.Lexing.{value_of}
use Rattle.query_text.proofs.lexing.value_of.Given as goal

-- the value is that of the digits so far
abbrev pub invariant-loop-digit : goal.invariant-loop-digit
invariant-loop-digit l = record { so_far : l.value ≡ value_of (take l.digit-index l.digits); small : l.value < 2 ^ 64 }
