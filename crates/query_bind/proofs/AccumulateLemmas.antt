-- How steps over a list go on, stop and end, for loops that have done the front of the list.
use Rattle.std.proofs.Common.{◌≡◌, ◌<◌, ◌≤◌, ℕ, ◌+◌, List, length, get_or, map, drop, drop_of_length-le}
use Rattle.std.proofs.lemmas.List.{length-map}
use Rattle.std.specs.Prelude.{◌≢◌, Result, Ok, Err, IsErrAnd}
use Rattle.definitions_outcomes.specs.Computed.{Answers}
use Rattle.definitions_outcomes.proofs.ComputedLaws.{items_from}
use Rattle.query_bind.specs.Steps.{accumulate, AnswersAs}
use Rattle.query_bind.specs.declared.errors.BindError.{BindError}
use Rattle.query_bind.specs.declared.errors.BindError.TheVariants as refusal

module _ {S A E X : Type 0} (step : S → A → Result S E) (see : X → A) (xs : List X) (whole : Result S E) (state : S) (i : ℕ) where
  pub goes : (item : X) → i < length xs → item ≡ get_or xs i item → (next : S) → step state (see item) ≡ Ok next
      → whole ≡ accumulate step state (drop i (map see xs)) → whole ≡ accumulate step next (drop (i + 1) (map see xs))
  goes item within is next gives so_far = rw gives at (rw (items_from see xs i item within is) at so_far)

  pub stops : (item : X) → i < length xs → item ≡ get_or xs i item → (refusal : E) → step state (see item) ≡ Err refusal
      → whole ≡ accumulate step state (drop i (map see xs)) → whole ≡ Err refusal
  stops item within is refusal refuses so_far = rw refuses at (rw (items_from see xs i item within is) at so_far)

  pub ends : length xs ≤ i → whole ≡ accumulate step state (drop i (map see xs)) → whole ≡ Ok state
  ends past so_far = rw (drop_of_length-le (map see xs) {i = i} (rw (length-map xs see) past)) at so_far

-- the refusal that `?` hands on, and want of memory
pub handed : {X A : Type 0} (view : X → A) (meaning : Result A BindError) (r : Result X BindError) (given : BindError) → IsErrAnd r (λ one. one ≡ given)
    → (given ≢ refusal.Memory → meaning ≡ Err given) → AnswersAs view meaning r
handed view meaning (Ok value) given same refuses = absurd same
handed view meaning (Err one) given same refuses = rw same refuses

-- the same where the code's result is the meaning
pub handed_on : {A : Type 0} (meaning : Result A BindError) (r : Result A BindError) (given : BindError) → IsErrAnd r (λ one. one ≡ given)
    → (given ≢ refusal.Memory → meaning ≡ Err given) → Answers refusal.Memory meaning r
handed_on meaning (Ok value) given same refuses = absurd same
handed_on meaning (Err one) given same refuses = rw same refuses

pub wanting : {X A : Type 0} (view : X → A) (meaning : Result A BindError) (r : Result X BindError) → IsErrAnd r (λ one. one ≡ refusal.Memory) → AnswersAs view meaning r
wanting view meaning (Ok value) same = absurd same
wanting view meaning (Err one) same = λ other. absurd (other same)
