-- How a text is cut into tokens, up to its end or to the first place where no token begins.
use Rattle.std.specs.Prelude.{◌≡◌, ℕ, ◌-◌, ◌+◌, ◌*◌, ◌^◌, Bool, ◌||◌, ◌&&◌, ◌==◌, nat_lt, List, [], ◌∷◌, length, fold, take, drop, Option, Some, None, option_map, if◌then◌else◌}
use Rattle.std.specs.List.{prefix_len}
use Rattle.std.specs.Char.{is_ascii_alphabetic, is_ascii_digit}
use Rattle.std.specs.Str.{str_to_ascii_lowercase}
use Rattle.stream_core.specs.Names.{is_keyword}
use Rattle.definitions_queries.specs.Tokens.{Token, Placed, name, reserved, number, string}

-- space, tab, line feed and carriage return
abbrev pub is_white_space : ℕ → Bool
is_white_space byte = byte == 32 || byte == 9 || byte == 10 || byte == 13

-- a letter or `_`
abbrev pub begins_word : ℕ → Bool
begins_word byte = is_ascii_alphabetic byte || byte == 95

-- a letter, `_` or a digit
abbrev pub continues_word : ℕ → Bool
continues_word byte = begins_word byte || is_ascii_digit byte

-- the front of a text whose bytes pass the test
abbrev pub front : (ℕ → Bool) → List ℕ → List ℕ
front test text = take (prefix_len test text) text

-- what follows that front
abbrev pub rest_after : (ℕ → Bool) → List ℕ → List ℕ
rest_after test text = drop (prefix_len test text) text

-- the number that digits say after a value
abbrev pub value_from : ℕ → List ℕ → ℕ
value_from value digits = fold (λ before digit. before * 10 + (digit - 48)) value digits

abbrev pub value_of : List ℕ → ℕ
value_of digits = value_from 0 digits

-- why no token begins at a place
pub data LexicalFault : Type 0 where
  bad_byte : LexicalFault
  number_too_large : LexicalFault
  open_string : LexicalFault

-- what a text begins with: nothing, a token and what follows it, or a fault
pub data Cut : Type 0 where
  end : Cut
  token : Token → List ℕ → Cut
  fault : LexicalFault → Cut

abbrev pub with_byte : ℕ → Option (List ℕ × List ℕ) → Option (List ℕ × List ℕ)
with_byte byte rest = option_map (λ found. (byte ∷ found.0, found.1)) rest

-- what stands up to the closing quote, two quotes meaning one, and what follows it; nothing if there is none
abbrev pub quoted : List ℕ → Option (List ℕ × List ℕ)
quoted [] = None
quoted (a ∷ []) = if a == 39 then Some ([], []) else None
quoted (a ∷ b ∷ text) =
    if a == 39 then (if b == 39 then with_byte 39 (quoted text) else Some ([], b ∷ text)) else with_byte a (quoted (b ∷ text))

abbrev pub a_string : Option (List ℕ × List ℕ) → Cut
a_string None = fault open_string
a_string (Some found) = token (string found.0) found.1

-- a word in lower case
abbrev pub a_word : List ℕ → Token
a_word word = if is_keyword word then reserved word else name word

-- a number below 2 ^ 64
abbrev pub a_number : List ℕ → List ℕ → Cut
a_number digits rest = if nat_lt (value_of digits) (2 ^ 64) then token (number (value_of digits)) rest else fault number_too_large

-- `,` `(` `)` `*` `-` `=` `<` `>` or `;`
abbrev pub is_symbol : ℕ → Bool
is_symbol a = a == 44 || a == 40 || a == 41 || a == 42 || a == 45 || a == 61 || a == 60 || a == 62 || a == 59

abbrev pub one_byte : ℕ → List ℕ → Cut
one_byte a text = if is_symbol a then token (reserved (a ∷ [])) text else fault bad_byte

-- `<=` or `>=`, else a symbol of one byte
abbrev pub a_symbol : ℕ → List ℕ → Cut
a_symbol a [] = one_byte a []
a_symbol a (b ∷ text) = if (a == 60 || a == 62) && b == 61 then token (reserved (a ∷ b ∷ [])) text else one_byte a (b ∷ text)

-- what a text begins with that has no white space in front
unfoldable pub cut : List ℕ → Cut
cut [] = end
cut (a ∷ text) =
    if begins_word a then token (a_word (str_to_ascii_lowercase (front continues_word (a ∷ text)))) (rest_after continues_word (a ∷ text))
    else (if is_ascii_digit a then a_number (front is_ascii_digit (a ∷ text)) (rest_after is_ascii_digit (a ∷ text))
    else (if a == 39 then a_string (quoted text) else a_symbol a text))

-- a fault, and the place where no token begins
pub record LexicalError : Type 0 where
  pub at : ℕ
  pub fault : LexicalFault

-- from here on a text of `len` bytes has these tokens, and ends after them or has an error there
abbrev pub GoesOn : ℕ → List ℕ → List Placed → Option LexicalError → Type 0
GoesOn len text [] None = cut text ≡ end
GoesOn len text [] (Some error) = (cut text ≡ fault error.fault) × (error.at ≡ len - length text)
GoesOn len text (first ∷ tokens) error =
    (next : List ℕ) × (cut text ≡ token first.token next) × (first.at ≡ len - length text) × GoesOn len (rest_after is_white_space next) tokens error

-- the tokens of a text before its first lexical error, or all of them
abbrev pub AreTokens : List ℕ → List Placed → Option LexicalError → Type 0
AreTokens text tokens error = GoesOn (length text) (rest_after is_white_space text) tokens error
