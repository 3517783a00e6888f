-- How a query's text is cut into tokens.
use Rattle.std.specs.Prelude.{◌≡◌, ℕ, ◌+◌, ◌-◌, ◌*◌, ◌^◌, Bool, ◌||◌, ◌==◌, nat_lt, List, [], ◌∷◌, fold, take, drop, Option, Some, None, option_map, if◌then◌else◌}
use Rattle.std.specs.List.{prefix_len}
use Rattle.std.specs.Char.{is_ascii_alphabetic, is_ascii_digit}
use Rattle.std.specs.Str.{str_to_ascii_lowercase}

pub data Token : Type 0 where
  -- in lower case
  word : List ℕ → Token
  number : ℕ → Token
  -- what stands between single quotes, two of which mean one
  string : List ℕ → Token
  symbol : List ℕ → Token

-- space, tab, line feed and carriage return
abbrev pub is_white_space : ℕ → Bool
is_white_space byte = byte == 32 || byte == 9 || byte == 10 || byte == 13

-- a letter or `_`
abbrev pub begins_word : ℕ → Bool
begins_word byte = is_ascii_alphabetic byte || byte == 95

abbrev pub continues_word : ℕ → Bool
continues_word byte = begins_word byte || is_ascii_digit byte

-- the front of a text whose bytes pass the test, and what follows it
abbrev pub front : (ℕ → Bool) → List ℕ → List ℕ
front test text = take (prefix_len test text) text

abbrev pub behind : (ℕ → Bool) → List ℕ → List ℕ
behind test text = drop (prefix_len test text) text

-- digits after a number, and the value of digits alone
abbrev pub value_from : ℕ → List ℕ → ℕ
value_from value digits = fold (λ before digit. before * 10 + (digit - 48)) value digits

abbrev pub value_of : List ℕ → ℕ
value_of digits = value_from 0 digits

-- what stands up to the closing quote, and what follows it; nothing where there is none
abbrev pub with_byte : ℕ → Option (List ℕ × List ℕ) → Option (List ℕ × List ℕ)
with_byte byte rest = option_map (λ found. (byte ∷ found.0, found.1)) rest

abbrev pub quoted : List ℕ → Option (List ℕ × List ℕ)
quoted [] = None
quoted (a ∷ []) = if a == 39 then Some ([], []) else None
quoted (a ∷ b ∷ text) =
    if a == 39 then (if b == 39 then with_byte 39 (quoted text) else Some ([], b ∷ text)) else with_byte a (quoted (b ∷ text))

-- `<=` and `>=`, else one of `,` `(` `)` `*` `-` `=` `<` `>` `;`
abbrev pub is_symbol : ℕ → Bool
is_symbol a = a == 44 || a == 40 || a == 41 || a == 42 || a == 45 || a == 61 || a == 60 || a == 62 || a == 59

abbrev pub symbol_of_one : ℕ → List ℕ → Option (Token × List ℕ)
symbol_of_one a text = if is_symbol a then Some (symbol (a ∷ []), text) else None

abbrev pub symbol_at : ℕ → List ℕ → Option (Token × List ℕ)
symbol_at a [] = symbol_of_one a []
symbol_at a (b ∷ text) =
    if a == 60 || a == 62 then (if b == 61 then Some (symbol (a ∷ b ∷ []), text) else symbol_of_one a (b ∷ text)) else symbol_of_one a (b ∷ text)

-- a number below 2^64
abbrev pub number_of : List ℕ → List ℕ → Option (Token × List ℕ)
number_of digits rest = if nat_lt (value_of digits) (2 ^ 64) then Some (number (value_of digits), rest) else None

-- the token that a text begins with, and what follows it; nothing at the text's end, at a byte that begins no token,
-- at a number that is too large and at a string without its end
abbrev pub token_at : List ℕ → Option (Token × List ℕ)
token_at [] = None
token_at (a ∷ text) =
    if begins_word a then Some (word (str_to_ascii_lowercase (front continues_word (a ∷ text))), behind continues_word (a ∷ text))
    else (if is_ascii_digit a then number_of (front is_ascii_digit (a ∷ text)) (behind is_ascii_digit (a ∷ text))
    else (if a == 39 then option_map (λ found. (string found.0, found.1)) (quoted text) else symbol_at a text))

-- the first token after white space
unfoldable pub first_token : List ℕ → Option (Token × List ℕ)
first_token text = token_at (behind is_white_space text)

-- the text begins with these tokens, and then the rest follows
abbrev pub Begins : List ℕ → List Token → List ℕ → Type 0
Begins text [] rest = text ≡ rest
Begins text (token ∷ tokens) rest = (next : List ℕ) × (first_token text ≡ Some (token, next)) × Begins next tokens rest

-- the text is these tokens
abbrev pub AreTokens : List ℕ → List Token → Type 0
AreTokens text tokens = (rest : List ℕ) × Begins text tokens rest × (behind is_white_space rest ≡ [])
