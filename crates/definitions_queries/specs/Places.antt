-- Where a text can be refused, in the order of the places.
use Rattle.std.specs.Prelude.{ℕ, List, [], ◌∷◌, ◌++◌, map, length, Option, Some, None}
use Rattle.std.specs.List.Sorted.{IsStrictlyIncreasing}
use Rattle.definitions_queries.specs.Tokens.{Placed}
use Rattle.definitions_queries.specs.Lexing.{LexicalError, AreTokens}

abbrev pub place_of_token : Placed → ℕ
place_of_token token = token.at

abbrev pub places_of_error : Option LexicalError → List ℕ
places_of_error None = []
places_of_error (Some error) = error.at ∷ []

-- the places of the tokens, then that of the lexical error, if there is one, and then the text's length
abbrev pub places_in : List ℕ → List Placed → Option LexicalError → List ℕ
places_in text tokens error = map place_of_token tokens ++ (places_of_error error ++ length text ∷ [])

-- they rise, so that the first refusal of a text is the one with the least place
abbrev pub PlacesRise : Type 0
PlacesRise = (text : List ℕ) (tokens : List Placed) (error : Option LexicalError) → AreTokens text tokens error → IsStrictlyIncreasing (places_in text tokens error)
