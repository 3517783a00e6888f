-- Steps that each go on from what the earlier ones gave.
use Rattle.std.specs.Prelude.{◌≡◌, ◌≢◌, List, [], ◌∷◌, Result, Ok, Err}
use Rattle.definitions_outcomes.specs.Computed.{bind}
use Rattle.query_bind.specs.declared.errors.BindError.{BindError}
use Rattle.query_bind.specs.declared.errors.BindError.TheVariants as refusal

-- the step for each item in turn, from a first state, until one refuses
abbrev pub accumulate : {S A E : Type 0} → (S → A → Result S E) → S → List A → Result S E
accumulate step state [] = Ok state
accumulate step state (item ∷ rest) = bind (step state item) (λ next. accumulate step next rest)

-- the code's result, seen so, is the meaning, unless memory ran out
abbrev pub AnswersAs : {X A : Type 0} → (X → A) → Result A BindError → Result X BindError → Type 0
AnswersAs view meaning (Ok value) = meaning ≡ Ok (view value)
AnswersAs view meaning (Err given) = given ≢ refusal.Memory → meaning ≡ Err given
