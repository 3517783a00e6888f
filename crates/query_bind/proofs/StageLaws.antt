-- The steps of a binding, grouped as the code does them, are its seven steps.
use Rattle.std.proofs.Common.{◌≡◌, ◌≤◌, ◌∙◌, ℕ, List, map, refl}
use Rattle.std.specs.Prelude.{Result, Ok, Err, IfOk}
use Rattle.definitions_outcomes.specs.Computed.{bind}
use Rattle.definitions_queries.specs.Queries.{Query}
use Rattle.definitions_queries.specs.Entries.{entries, max_entries}
use Rattle.definitions_queries.specs.Grammar.{IsSpelled}
use Rattle.catalog_core.specs.declared.schemas.Schema.{Schema}
use Rattle.query_bind.specs.Binding.{column_of, mentioned, tables_of, fact_of, are_of_from, conditions_of, joins_of, groups_of, items_of, order_of, bound_of}
use Rattle.query_bind.specs.LawfulBindings.{IsBinding}
use Rattle.query_bind.specs.Stages.{Listed, binding_of, bound_in}
use Rattle.query_bind.specs.Steps.{AnswersAs}
use Rattle.query_bind.specs.Views.{bound_view}
use Rattle.query_bind.specs.declared.bounds.Bound.{Bound}
use Rattle.query_bind.specs.declared.errors.BindError.{BindError}
use Rattle.query_bind.proofs.BindingLaws.{binding_lawful}

-- a step that went on
goes_on : {A B E : Type 0} (first : Result A E) (next : A → Result B E) (value : A) → first ≡ Ok value → bind first next ≡ next value
goes_on first next value is = rw is refl

-- steps that go on alike
alike : {A B E : Type 0} (first : Result A E) (next other : A → Result B E) → ((value : A) → next value ≡ other value) → bind first next ≡ bind first other
alike (Ok value) next other same = same value
alike (Err refusal) next other same = refl

-- what follows the last of three steps follows all three
after_one : {C D F E : Type 0} (third : Result C E) (made : C → D) (last : D → Result F E)
    → bind third (λ c. last (made c)) ≡ bind (bind third (λ c. Ok (made c))) last
after_one (Ok c) made last = refl
after_one (Err refusal) made last = refl

after_two : {B C D F E : Type 0} (second : Result B E) (third : B → Result C E) (made : B → C → D) (last : D → Result F E)
    → bind second (λ b. bind (third b) (λ c. last (made b c))) ≡ bind (bind second (λ b. bind (third b) (λ c. Ok (made b c)))) last
after_two (Ok b) third made last = after_one (third b) (made b) last
after_two (Err refusal) third made last = refl

after_three : {A B C D F E : Type 0} (first : Result A E) (second : A → Result B E) (third : A → B → Result C E) (made : A → B → C → D) (last : D → Result F E)
    → bind first (λ a. bind (second a) (λ b. bind (third a b) (λ c. last (made a b c)))) ≡ bind (bind first (λ a. bind (second a) (λ b. bind (third a b) (λ c. Ok (made a b c))))) last
after_three (Ok a) second third made last = after_two (second a) (third a) (made a) last
after_three (Err refusal) second third made last = refl

module _ (schema : Schema) (query : Query) where
  -- once the tables are known, what is left is left of the whole
  pub bound_is : (tables : List ℕ) (fact : ℕ) → tables_of schema query.tables ≡ Ok tables → fact_of schema query.tables tables ≡ Ok fact
      → bound_of schema query ≡ bound_in schema query tables fact
  bound_is tables fact named only =
      goes_on (tables_of schema query.tables) _ tables named
      ∙ goes_on (fact_of schema query.tables tables) _ fact only
      ∙ alike (are_of_from schema tables (mentioned query)) _ _ (λ _.
      alike (conditions_of schema fact query.conditions) _ _ (λ conditions.
      alike (joins_of fact conditions.joins query.tables tables) _ _ (λ joins.
      after_three (groups_of query.groups) (λ groups. items_of schema groups query.items) (λ groups selected. order_of groups selected.aliases query.order)
      (λ groups selected order. record { groups = map (column_of schema) query.groups; sums = selected.sums; items = selected.items; order = order })
      (λ (listed : Listed). Ok (binding_of tables fact conditions joins listed)))))

  -- a binding that is the whole is lawful
  pub answer_lawful : (answer : Result Bound BindError) → entries query ≤ max_entries → AnswersAs bound_view (bound_of schema query) answer
      → IfOk answer (λ bound. IsSpelled query → IsBinding schema (bound_view bound))
  answer_lawful (Ok bound) few is = λ spelled. binding_lawful schema query (bound_view bound) spelled few is
  answer_lawful (Err refusal) few is = tt
