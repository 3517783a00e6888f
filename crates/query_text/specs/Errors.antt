-- What a refusal of the code says.
use Rattle.std.specs.Prelude.{◌≡◌, ℕ, List, Option, Some, None, Result, Ok, Err}
use Rattle.definitions_queries.specs.Grammar.{Language}
use Rattle.definitions_queries.specs.Lexing.{LexicalError, bad_byte, number_too_large, open_string}
use Rattle.definitions_queries.specs.Texts.{Refusal, lexical, syntax, IsRefused}
use Rattle.query_text.specs.declared.text.TextError.{TextError}
use Rattle.query_text.specs.declared.text.TextError.TheVariants as errors
use Rattle.query_text.specs.declared.stop.Stop.{Stop}
use Rattle.query_text.specs.declared.stop.Stop.TheVariants as stops

-- the refusal, or nothing for want of memory
abbrev pub error_view : TextError → Option Refusal
error_view (errors.BadByte at) = Some (lexical (record { at = at; fault = bad_byte }))
error_view (errors.NumberTooLarge at) = Some (lexical (record { at = at; fault = number_too_large }))
error_view (errors.OpenString at) = Some (lexical (record { at = at; fault = open_string }))
error_view (errors.Syntax at) = Some (syntax at)
error_view errors.Memory = None

-- the text is refused so; want of memory says nothing
abbrev pub Refuses : Language → List ℕ → Option Refusal → Type 0
Refuses language text None = Unit {0}
Refuses language text (Some refusal) = IsRefused language text refusal

-- the answer is this value, unless memory ran out
abbrev pub AnswersOnly : {X A : Type 0} → (X → A) → Result X TextError → A → Type 0
AnswersOnly view (Ok found) value = view found ≡ value
AnswersOnly view (Err error) value = error_view error ≡ None

-- ---- in the code's words

-- the refusal of a text of `len` bytes none of whose tokens is refused: the lexical error, or Syntax at the length
abbrev pub end_refusal : Option LexicalError → ℕ → Refusal
end_refusal None len = syntax len
end_refusal (Some error) len = lexical error

-- the refusal at a token, or at the end
abbrev pub refusal_at : Option ℕ → Option LexicalError → ℕ → Refusal
refusal_at (Some at) error len = syntax at
refusal_at None error len = end_refusal error len

abbrev pub stop_refusal : Stop → Option LexicalError → ℕ → Option Refusal
stop_refusal (stops.Syntax at) error len = Some (refusal_at at error len)
stop_refusal stops.Memory error len = None

-- what a text is answered by, from what reading its tokens gave
abbrev pub answer_of : {X : Type 0} → Result X Stop → Option LexicalError → ℕ → Result X (Option Refusal)
answer_of (Ok value) None len = Ok value
answer_of (Ok value) (Some error) len = Err (Some (end_refusal (Some error) len))
answer_of (Err stop) error len = Err (stop_refusal stop error len)

-- the code answers so
abbrev pub IsAnsweredBy : {X : Type 0} → Result X TextError → Result X (Option Refusal) → Type 0
IsAnsweredBy (Ok value) answer = answer ≡ Ok value
IsAnsweredBy (Err error) answer = answer ≡ Err (error_view error)
