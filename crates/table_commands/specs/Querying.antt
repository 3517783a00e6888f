-- What is said of a query that is refused: of its text, and of its binding to a schema. Places count bytes from 0.
use Rattle.std.specs.Prelude.{ℕ, List, [], ◌++◌, codes, decimal, Option, Some, None, unwrap_or}
use Rattle.query_text.specs.declared.text.TextError.{TextError}
use Rattle.query_text.specs.declared.text.TextError.TheVariants as text
use Rattle.query_bind.specs.declared.errors.BindError.{BindError}
use Rattle.query_bind.specs.declared.errors.BindError.TheVariants as binding
use Rattle.table_commands.specs.Refusals.{Refusal, refused_query}

abbrev pub query_too_long : Refusal
query_too_long = refused_query (codes "too long")

-- what is wrong, and where
abbrev pub wrong_at : List ℕ → ℕ → List ℕ
wrong_at what at = what ++ codes " at " ++ decimal at

-- Nothing is said of want of memory, since no text and no schema give it: `query_commands` has the laws.

-- of a text that is no query
abbrev pub text_words : TextError → Option (List ℕ)
text_words (text.BadByte at) = Some (wrong_at (codes "bad byte") at)
text_words (text.NumberTooLarge at) = Some (wrong_at (codes "number too large") at)
text_words (text.OpenString at) = Some (wrong_at (codes "open string") at)
text_words (text.Syntax at) = Some (wrong_at (codes "syntax") at)
text_words text.Memory = None

-- of a query that does not bind
abbrev pub binding_words : BindError → Option (List ℕ)
binding_words (binding.UnknownTable at) = Some (wrong_at (codes "unknown table") at)
binding_words (binding.UnknownColumn at) = Some (wrong_at (codes "unknown column") at)
binding_words (binding.NotInFrom at) = Some (wrong_at (codes "not in from") at)
binding_words (binding.FactCount at) = Some (wrong_at (codes "fact count") at)
binding_words (binding.JoinShape at) = Some (wrong_at (codes "join shape") at)
binding_words (binding.JoinMissing at) = Some (wrong_at (codes "join missing") at)
binding_words (binding.JoinTwice at) = Some (wrong_at (codes "join twice") at)
binding_words (binding.TypeMismatch at) = Some (wrong_at (codes "type mismatch") at)
binding_words (binding.GroupMismatch at) = Some (wrong_at (codes "group mismatch") at)
binding_words (binding.OrderUnknown at) = Some (wrong_at (codes "order unknown") at)
binding_words (binding.NameTwice at) = Some (wrong_at (codes "name twice") at)
binding_words binding.Memory = None

-- the refusals of a text and of a binding
abbrev pub bad_text : TextError → Refusal
bad_text given = refused_query (unwrap_or (text_words given) [])

abbrev pub bad_binding : BindError → Refusal
bad_binding given = refused_query (unwrap_or (binding_words given) [])
