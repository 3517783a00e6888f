-- What `explain` answers, for an outside that does not fail.
use Rattle.std.specs.Prelude.{◌≡◌, ℕ, List, Some, Result, Ok, Err, IsSome}
use Rattle.definitions_outcomes.specs.Outcomes.{Outcomes, Gives, OneOrFault, Then}
use Rattle.definitions_queries.specs.Queries.{Query}
use Rattle.definitions_queries.specs.Grammar.{IsQuery}
use Rattle.definitions_queries.specs.Texts as texts
use Rattle.definitions_queries.specs.Texts.{max_query, IsQueryText, IsRefused}
use Rattle.stream_core.specs.Files.{Files}
use Rattle.catalog_core.specs.declared.schemas.Schema.{Schema}
use Rattle.query_text.specs.Errors.{error_view}
use Rattle.query_text.specs.declared.text.TextError.{TextError}
use Rattle.query_bind.specs.Binding.{Binding, bound_of}
use Rattle.query_bind.specs.declared.errors.BindError.{BindError}
use Rattle.plan_core.specs.Explained.{plan_text}
use Rattle.plan_core.specs.WholePlan.{plan_of}
use Rattle.table_commands.specs.Databases.{SchemaStep}
use Rattle.table_commands.specs.Querying.{query_too_long, text_words, binding_words, bad_text, bad_binding}
use Rattle.table_commands.specs.Refusals.{Refusal, limited}

-- the text is refused so; want of memory is no refusal of a text
abbrev pub IsRefusedAs : List ℕ → TextError → Type 0
IsRefusedAs text given = (refusal : texts.Refusal) × (error_view given ≡ Some refusal) × IsRefused IsQuery text refusal

-- the query that the bytes say, or the refusal with the least place
abbrev pub QueryIn : List ℕ → Outcomes Query Refusal
QueryIn bytes = OneOrFault (IsQueryText bytes) (IsRefusedAs bytes) bad_text

-- the query of a text that is not too long
abbrev pub TextStep : List ℕ → Outcomes Query Refusal
TextStep text = Then (Gives (limited max_query query_too_long text)) QueryIn

-- the text is refused: it is too long, or says no query
abbrev pub SaysNoQuery : List ℕ → Type 0
SaysNoQuery text = (query : Query) → TextStep text (Ok query) → ⊥

-- what the query says of the schema's tables, or the first refusal
abbrev pub with_line : Result Binding BindError → Result Binding Refusal
with_line (Ok binding) = Ok binding
with_line (Err given) = Err (bad_binding given)

abbrev pub BindingStep : Schema → Query → Outcomes Binding Refusal
BindingStep schema query = Gives (with_line (bound_of schema query))

-- the lines of the plan of a bound query
abbrev pub plan_lines : Schema → Binding → List ℕ
plan_lines schema binding = plan_text schema (plan_of binding schema)

-- the lines of the query's plan over the schema, or why it can't be bound to it
abbrev pub ExplainIn : Query → Schema → Outcomes (List ℕ) Refusal
ExplainIn query schema = Then (BindingStep schema query) (λ binding. Gives (Ok (plan_lines schema binding)))

-- the same for the schema of a database
abbrev pub ExplainOf : Files → Query → Outcomes (List ℕ) Refusal
ExplainOf files query = Then (SchemaStep files) (ExplainIn query)

-- the answer to `explain`: the text is judged first, then the schema, then the binding
abbrev pub ExplainReply : Files → List ℕ → Outcomes (List ℕ) Refusal
ExplainReply files text = Then (TextStep text) (ExplainOf files)

-- Laws.

-- something is said of each refusal of a text, and of a binding
abbrev pub TextRefusalsAreSaid : Type 0
TextRefusalsAreSaid = (text : List ℕ) (given : TextError) → IsRefusedAs text given → IsSome (text_words given)

abbrev pub BindingRefusalsAreSaid : Type 0
BindingRefusalsAreSaid = (schema : Schema) (query : Query) (given : BindError) → bound_of schema query ≡ Err given → IsSome (binding_words given)
