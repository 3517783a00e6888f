-- Steps that recognise something, or are computed: how each may end. A step goes on with a value or ends with a refusal.
use Rattle.std.specs.Prelude.{◌≡◌, ◌⊎◌, List, [], ◌∷◌, Result, Ok, Err}

-- how a step may end
abbrev pub Outcomes : Type 0 → Type 0 → Type 1
Outcomes A E = Result A E → Type 0

-- the step ends in this one way
abbrev pub Gives : {A E : Type 0} → Result A E → Outcomes A E
Gives outcome end = end ≡ outcome

-- there is such a value, or there is none and the step ends with the refusal
abbrev pub OneOr : {A E : Type 0} → (A → Type 0) → E → Outcomes A E
OneOr holds refusal (Ok value) = holds value
OneOr {A} holds refusal (Err given) = ((value : A) → holds value → ⊥) × (given ≡ refusal)

-- there is such a value, or there is such a fault, which the refusal names
abbrev pub OneOrFault : {A F E : Type 0} → (A → Type 0) → (F → Type 0) → (F → E) → Outcomes A E
OneOrFault holds has refusal (Ok value) = holds value
OneOrFault {A} {F} holds has refusal (Err given) = (fault : F) × has fault × (given ≡ refusal fault)

-- first the one step, and then the next, with what the first gave
abbrev pub Then : {A B E : Type 0} → Outcomes A E → (A → Outcomes B E) → Outcomes B E
Then {A} {B} {E} first next end =
    ((value : A) × first (Ok value) × next value end) ⊎ ((refusal : E) × first (Err refusal) × (end ≡ Err refusal))

-- the step for each item in turn, from a first state, until one refuses
abbrev pub Each : {S A E : Type 0} → (S → A → Outcomes S E) → S → List A → Outcomes S E
Each step state [] = Gives (Ok state)
Each step state (item ∷ items) = Then (step state item) (λ next. Each step next items)

-- a step ends in one way at most
abbrev pub HasOneEnd : {A E : Type 0} → Outcomes A E → Type 0
HasOneEnd {A} {E} step = (end other : Result A E) → step end → step other → end ≡ other
