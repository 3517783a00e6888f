-- The places in a text rise.
use Rattle.std.proofs.Common.{◌≡◌, ℕ, zero, suc, ◌+◌, ◌-◌, ◌<◌, ◌≤◌, List, [], ◌∷◌, ◌++◌, map, length, Option, Some, None, arith}
use Rattle.std.specs.List.Sorted.{IsStrictlyIncreasing}
use Rattle.definitions_queries.specs.Tokens.{Placed}
use Rattle.definitions_queries.specs.Lexing.{fault, LexicalFault, LexicalError, cut, rest_after, is_white_space, GoesOn}
use Rattle.definitions_queries.specs.Places.{place_of_token, places_of_error, PlacesRise}
use Rattle.query_text.proofs.CuttingLemmas.{cut-less, length-rest_after}

-- no error stands at the end
error-within : (text : List ℕ) (kind : LexicalFault) → cut text ≡ fault kind → 0 < length text
unfolding cut
error-within [] kind e = absurd cc
error-within (a ∷ text) kind e = omega arith

single : (a : ℕ) → IsStrictlyIncreasing (a ∷ [])
single a k within = absurd (omega (arith, within))

one_more : (a b : ℕ) (more : List ℕ) → a < b → IsStrictlyIncreasing (b ∷ more) → IsStrictlyIncreasing (a ∷ b ∷ more)
one_more a b more less rise zero within = less
one_more a b more less rise (suc k) within =
    let next : suc k + 1 ≡ suc (k + 1) = omega arith in
    rw next (rise k (omega (arith, within)))

-- the places from a text's rest on
abbrev places_from : ℕ → List Placed → Option LexicalError → List ℕ
places_from len tokens error = map place_of_token tokens ++ (places_of_error error ++ len ∷ [])

-- they rise after a place that stands before the rest
rise_after : (len before : ℕ) (text : List ℕ) (tokens : List Placed) (error : Option LexicalError) → length text ≤ len → before < len - length text → GoesOn len text tokens error
    → IsStrictlyIncreasing (before ∷ places_from len tokens error)
rise_after len before text [] None small less goes = one_more before len [] (omega arith) (single len)
rise_after len before text [] (Some error) small less goes =
    one_more before error.at (len ∷ []) (omega (arith, goes.1)) (one_more error.at len [] (omega (arith, goes.1, error-within text error.fault goes.0)) (single len))
rise_after len before text (first ∷ tokens) error small less goes =
    one_more before first.at (places_from len tokens error) (omega (arith, goes.2))
    (rise_after len first.at (rest_after is_white_space goes.0) tokens error
    (omega (arith, cut-less text goes.0 first.token goes.1, length-rest_after is_white_space goes.0))
    (omega (arith, goes.2, cut-less text goes.0 first.token goes.1, length-rest_after is_white_space goes.0)) goes.3)

rise_from : (len : ℕ) (text : List ℕ) (tokens : List Placed) (error : Option LexicalError) → length text ≤ len → GoesOn len text tokens error → IsStrictlyIncreasing (places_from len tokens error)
rise_from len text [] None small goes = single len
rise_from len text [] (Some error) small goes = one_more error.at len [] (omega (arith, goes.1, error-within text error.fault goes.0)) (single len)
rise_from len text (first ∷ tokens) error small goes =
    rise_after len first.at (rest_after is_white_space goes.0) tokens error
    (omega (arith, cut-less text goes.0 first.token goes.1, length-rest_after is_white_space goes.0))
    (omega (arith, goes.2, cut-less text goes.0 first.token goes.1, length-rest_after is_white_space goes.0)) goes.3

pub places_rise : PlacesRise
places_rise text tokens error goes = rise_from (length text) (rest_after is_white_space text) tokens error (length-rest_after is_white_space text) goes
