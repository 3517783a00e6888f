-- What the code that cuts a text gives.
use Rattle.std.specs.Prelude.{◌≡◌, ℕ, suc, Bool, ◌==◌, if◌then◌else◌, List, [], ◌∷◌, Option, Some, None, Result, Ok, Err, option_map}
use Rattle.std.specs.Borrow.{Bor}
use Rattle.std.specs.Char.{is_ascii_digit}
use Rattle.definitions_queries.specs.Lexing as text
use Rattle.definitions_queries.specs.Lexing.{Cut, is_white_space, continues_word}
use Rattle.query_text.specs.declared.lexing.Class.{Class}
use Rattle.query_text.specs.declared.lexing.Class.TheVariants as classes
use Rattle.query_text.specs.declared.lexing.LexicalFault.{LexicalFault}
use Rattle.query_text.specs.declared.lexing.LexicalFault.TheVariants as faults
use Rattle.query_text.specs.declared.lexing.LexicalError.{LexicalError}
use Rattle.query_text.specs.declared.tokens.Kind.{Kind}
use Rattle.query_text.specs.Views.{kind_view}

-- the test of a class of bytes
abbrev pub class_test : Class → ℕ → Bool
class_test classes.WhiteSpace = is_white_space
class_test classes.Word = continues_word
class_test classes.Digit = is_ascii_digit

-- how many bytes stand before the closing quote
abbrev pub string_length : List ℕ → Option ℕ
string_length [] = None
string_length (a ∷ []) = if a == 39 then Some 0 else None
string_length (a ∷ b ∷ text) =
    if a == 39 then (if b == 39 then option_map (λ n. suc (suc n)) (string_length text) else Some 0)
    else option_map suc (string_length (b ∷ text))

abbrev pub fault_view : LexicalFault → text.LexicalFault
fault_view faults.BadByte = text.bad_byte
fault_view faults.NumberTooLarge = text.number_too_large
fault_view faults.OpenString = text.open_string

abbrev pub lexical_view : Option LexicalError → Option text.LexicalError
lexical_view found = option_map (λ error. record { at = error.at; fault = fault_view error.fault }) found

abbrev pub CutGives : Option (Kind × Bor (List ℕ)) → Cut → Type 0
CutGives None c = c ≡ text.end
CutGives (Some found) c = c ≡ text.token (kind_view found.0) found.1.now

-- what was cut
abbrev pub Cuts : Result (Option (Kind × Bor (List ℕ))) LexicalFault → Cut → Type 0
Cuts (Ok found) c = CutGives found c
Cuts (Err fault) c = c ≡ text.fault (fault_view fault)
