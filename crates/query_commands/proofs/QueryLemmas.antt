-- What the reading and the binding of a query say in the words of a command's steps.
use Rattle.std.proofs.Common.{◌≢◌, ℕ, List, refl}
use Rattle.definitions_queries.specs.Grammar.{IsQuery}
use Rattle.query_text.specs.Errors.{Refuses}
use Rattle.query_text.specs.Errors.{error_view}
use Rattle.query_text.specs.declared.text.TextError.{TextError}
use Rattle.query_text.specs.declared.text.TextError.TheVariants as text
use Rattle.query_commands.specs.Explaining.{IsRefusedAs}

-- a refusal that is not want of memory is one of the text
pub refused_as : (bytes : List ℕ) (given : TextError) → given ≢ text.Memory → Refuses IsQuery bytes (error_view given) → IsRefusedAs bytes given
refused_as bytes (text.BadByte at) other refused = (_, refl, refused)
refused_as bytes (text.NumberTooLarge at) other refused = (_, refl, refused)
refused_as bytes (text.OpenString at) other refused = (_, refl, refused)
refused_as bytes (text.Syntax at) other refused = (_, refl, refused)
refused_as bytes text.Memory other refused = absurd (other refl)
