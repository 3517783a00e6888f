-- `explain` has one answer at most.
use Rattle.std.proofs.Common.{◌≡◌, ℕ, List, Some, Ok, sym, ap, ◌∙◌}
use Rattle.definitions_outcomes.specs.Outcomes.{Gives, HasOneEnd}
use Rattle.definitions_outcomes.proofs.OutcomeLaws.{Gives-one, OneOrFault-one, Then-one}
use Rattle.definitions_queries.specs.Grammar.{Spells}
use Rattle.definitions_queries.specs.Lexing.{LexicalFault, bad_byte, number_too_large, open_string}
use Rattle.definitions_queries.specs.Queries.{Query}
use Rattle.definitions_queries.specs.Texts.{Refusal, lexical, syntax, HasOneOutcome, IsQueryText, max_query}
use Rattle.stream_core.specs.Files.{Files}
use Rattle.catalog_core.specs.declared.schemas.Schema.{Schema}
use Rattle.query_text.specs.Errors.{error_view}
use Rattle.query_text.specs.Reading.{query_at}
use Rattle.query_text.specs.declared.text.TextError.{TextError}
use Rattle.query_text.specs.declared.text.TextError.TheVariants as text
use Rattle.query_text.proofs.OutcomeLaws.{reads-query, one_outcome}
use Rattle.query_bind.specs.Binding.{bound_of}
use Rattle.table_commands.specs.Databases.{SchemaStep}
use Rattle.table_commands.specs.Querying.{query_too_long, bad_text}
use Rattle.table_commands.specs.Refusals.{limited}
use Rattle.table_commands.proofs.OneReplyLemmas.{SchemaStep-one}
use Rattle.query_commands.specs.Explaining.{IsRefusedAs, QueryIn, TextStep, with_line, BindingStep, plan_lines, ExplainIn, ExplainOf, ExplainReply}

-- the error of a refusal
abbrev fault_error : LexicalFault → ℕ → TextError
fault_error bad_byte at = text.BadByte at
fault_error number_too_large at = text.NumberTooLarge at
fault_error open_string at = text.OpenString at

abbrev error_of : Refusal → TextError
error_of (lexical error) = fault_error error.fault error.at
error_of (syntax at) = text.Syntax at

some_or : {A : Type 0} (a b : A) → Some a ≡ Some b → a ≡ b
some_or a b is = cc

view_error : (given : TextError) (refusal : Refusal) → error_view given ≡ Some refusal → error_of refusal ≡ given
view_error (text.BadByte at) refusal is = ap error_of (sym (some_or _ refusal is))
view_error (text.NumberTooLarge at) refusal is = ap error_of (sym (some_or _ refusal is))
view_error (text.OpenString at) refusal is = ap error_of (sym (some_or _ refusal is))
view_error (text.Syntax at) refusal is = ap error_of (sym (some_or _ refusal is))
view_error text.Memory refusal is = absurd (cc)

-- a text says one query, or has one refusal
QueryIn-one : (bytes : List ℕ) → HasOneEnd (QueryIn bytes)
QueryIn-one bytes =
    let one : HasOneOutcome Spells bytes = one_outcome Spells query_at reads-query bytes in
    OneOrFault-one (IsQueryText bytes) (IsRefusedAs bytes) bad_text one.one_value
    (λ given other p q. sym (view_error given p.0 p.1) ∙ ap error_of (one.one_refusal p.0 q.0 p.2 q.2) ∙ view_error other q.0 q.1)
    (λ query given says refused. one.never_both query refused.0 says refused.2)

TextStep-one : (text : List ℕ) → HasOneEnd (TextStep text)
TextStep-one text = Then-one (Gives (limited max_query query_too_long text)) QueryIn (Gives-one (limited max_query query_too_long text)) QueryIn-one

ExplainIn-one : (query : Query) (schema : Schema) → HasOneEnd (ExplainIn query schema)
ExplainIn-one query schema =
    Then-one (BindingStep schema query) (λ binding. Gives (Ok (plan_lines schema binding))) (Gives-one (with_line (bound_of schema query)))
    (λ binding. Gives-one (Ok (plan_lines schema binding)))

pub ExplainReply-one : (files : Files) (text : List ℕ) → HasOneEnd (ExplainReply files text)
ExplainReply-one files text =
    Then-one (TextStep text) (ExplainOf files) (TextStep-one text)
    (λ query. Then-one (SchemaStep files) (ExplainIn query) (SchemaStep-one files) (ExplainIn-one query))
