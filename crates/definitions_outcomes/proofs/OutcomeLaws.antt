-- Steps that end in one way at most.
use Rattle.std.proofs.Common.{◌≡◌, List, [], ◌∷◌, Result, Ok, Err, refl, sym, ap, ◌∙◌, subst, inl, inr}
use Rattle.definitions_outcomes.specs.Outcomes.{Outcomes, Gives, OneOr, OneOrFault, Then, Each, HasOneEnd}

abbrev value_or : {A E : Type 0} → A → Result A E → A
value_or other (Ok value) = value
value_or other (Err refusal) = other

abbrev refusal_or : {A E : Type 0} → E → Result A E → E
refusal_or other (Ok value) = other
refusal_or other (Err refusal) = refusal

-- what two ends that are the same say of their values and of their refusals
pub same_value : {A E : Type 0} (value other : A) → ◌≡◌ {A = Result A E} (Ok value) (Ok other) → value ≡ other
same_value value other same = ap (value_or value) same

pub same_refusal : {A E : Type 0} (refusal other : E) → ◌≡◌ {A = Result A E} (Err refusal) (Err other) → refusal ≡ other
same_refusal refusal other same = ap (refusal_or refusal) same

pub Gives-one : {A E : Type 0} (outcome : Result A E) → HasOneEnd (Gives outcome)
Gives-one outcome end other first second = first ∙ sym second

pub OneOr-one : {A E : Type 0} (holds : A → Type 0) (refusal : E) → ((a b : A) → holds a → holds b → a ≡ b) → HasOneEnd (OneOr holds refusal)
OneOr-one holds refusal one (Ok a) (Ok b) first second = ap (λ v. Ok v) (one a b first second)
OneOr-one holds refusal one (Ok a) (Err e) first second = absurd (second.0 a first)
OneOr-one holds refusal one (Err e) (Ok b) first second = absurd (first.0 b second)
OneOr-one holds refusal one (Err e) (Err f) first second = ap (λ r. Err r) (first.1 ∙ sym second.1)

module _ {A F E : Type 0} (holds : A → Type 0) (has : F → Type 0) (refusal : F → E)
    (one : (a b : A) → holds a → holds b → a ≡ b) (fault : (f g : F) → has f → has g → f ≡ g) (never : (a : A) (f : F) → holds a → has f → ⊥) where
  pub OneOrFault-one : HasOneEnd (OneOrFault holds has refusal)
  OneOrFault-one (Ok a) (Ok b) first second = ap (λ v. Ok v) (one a b first second)
  OneOrFault-one (Ok a) (Err e) first second = absurd (never a second.0 first second.1)
  OneOrFault-one (Err e) (Ok b) first second = absurd (never b first.0 second first.1)
  OneOrFault-one (Err e) (Err f) first second =
      ap (λ r. Err r) (first.2 ∙ ap refusal (fault first.0 second.0 first.1 second.1) ∙ sym second.2)

pub Then-one : {A B E : Type 0} (first : Outcomes A E) (next : A → Outcomes B E) → HasOneEnd first → ((a : A) → HasOneEnd (next a)) → HasOneEnd (Then first next)
Then-one first next one rest end other (inl (a, p, q)) (inl (b, r, s)) =
    let same = same_value a b (one (Ok a) (Ok b) p r) in rest a end other q (subst (λ v. next v other) (sym same) s)
Then-one first next one rest end other (inl (a, p, q)) (inr (e, r, s)) = absurd (cc (one (Ok a) (Err e) p r))
Then-one first next one rest end other (inr (e, p, q)) (inl (b, r, s)) = absurd (cc (one (Err e) (Ok b) p r))
Then-one first next one rest end other (inr (e, p, q)) (inr (f, r, s)) = q ∙ ap (λ x. Err x) (same_refusal e f (one (Err e) (Err f) p r)) ∙ sym s

pub Each-one : {S A E : Type 0} (step : S → A → Outcomes S E) → ((s : S) (a : A) → HasOneEnd (step s a)) → (state : S) (items : List A) → HasOneEnd (Each step state items)
Each-one step one state [] = Gives-one (Ok state)
Each-one step one state (item ∷ items) = Then-one (step state item) (λ next. Each step next items) (one state item) (λ next. Each-one step one next items)
