-- How a walk over a list goes on, stops and ends, for loops that have done the front of the list.
use Rattle.std.proofs.Common.{◌≡◌, ◌<◌, ◌≤◌, ℕ, ◌+◌, List, [], ◌∷◌, ◌++◌, refl, ap, sym, ◌∙◌, length, get_or, map, drop, arith, drop_of_length-le}
use Rattle.std.proofs.lemmas.List.{append-nil, append_assoc, drop_more, get_or-map, length-map}
use Rattle.std.specs.Prelude.{Result, Ok, Err, IfErr, IsErrAnd}
use Rattle.definitions_outcomes.specs.Computed.{bind, walk}

-- what a walk gives after what is done
abbrev pub after : {B E : Type 0} → List B → Result (List B) E → Result (List B) E
after done rest = bind rest (λ more. Ok (done ++ more))

pub after_one : {B E : Type 0} (done : List B) (one : B) (rest : Result (List B) E)
    → after done (bind rest (λ more. Ok (one ∷ more))) ≡ after (done ++ one ∷ []) rest
after_one done one (Ok more) = ap Ok (sym (append_assoc done (one ∷ []) more))
after_one done one (Err refusal) = refl

-- nothing is done yet
pub walk_starts : {B E : Type 0} (whole : Result (List B) E) → whole ≡ after [] whole
walk_starts (Ok all) = refl
walk_starts (Err refusal) = refl

module _ {A B E : Type 0} (step : ℕ → A → Result B E) (whole : Result (List B) E) (done : List B) (number : ℕ) where
  pub walk_goes : (item : A) (rest : List A) (one : B) → step number item ≡ Ok one
      → whole ≡ after done (walk step number (item ∷ rest)) → whole ≡ after (done ++ one ∷ []) (walk step (number + 1) rest)
  walk_goes item rest one gives so_far = (rw gives at so_far) ∙ after_one done one (walk step (number + 1) rest)

  pub walk_stops : (item : A) (rest : List A) (refusal : E) → step number item ≡ Err refusal
      → whole ≡ after done (walk step number (item ∷ rest)) → whole ≡ Err refusal
  walk_stops item rest refusal refuses so_far = rw refuses at so_far

  pub walk_ends : whole ≡ after done (walk step number []) → whole ≡ Ok done
  walk_ends so_far = so_far ∙ ap Ok (append-nil done)

-- the items from i on, where the item stands at i
pub items_from : {A X : Type 0} (see : X → A) (xs : List X) (i : ℕ) (item : X) → i < length xs → item ≡ get_or xs i item
    → drop i (map see xs) ≡ see item ∷ drop (i + 1) (map see xs)
items_from see xs i item within is =
    let here : get_or (map see xs) i (see item) ≡ see item = get_or-map see xs i item (see item) within ∙ ap see (sym is) in
    drop_more (map see xs) i (see item) (rw (length-map xs see) within) ∙ ap (λ x. x ∷ drop (i + 1) (map see xs)) here

-- the same for a loop over what is seen as the items
module _ {A B E X : Type 0} (step : ℕ → A → Result B E) (see : X → A) (xs : List X) (whole : Result (List B) E) (done : List B) (number i : ℕ) where
  pub loop_goes : (item : X) → i < length xs → item ≡ get_or xs i item → (one : B) → step number (see item) ≡ Ok one
      → whole ≡ after done (walk step number (drop i (map see xs))) → whole ≡ after (done ++ one ∷ []) (walk step (number + 1) (drop (i + 1) (map see xs)))
  loop_goes item within is one gives so_far =
      walk_goes step whole done number (see item) (drop (i + 1) (map see xs)) one gives (rw (items_from see xs i item within is) at so_far)

  pub loop_stops : (item : X) → i < length xs → item ≡ get_or xs i item → (refusal : E) → step number (see item) ≡ Err refusal
      → whole ≡ after done (walk step number (drop i (map see xs))) → whole ≡ Err refusal
  loop_stops item within is refusal refuses so_far =
      walk_stops step whole done number (see item) (drop (i + 1) (map see xs)) refusal refuses (rw (items_from see xs i item within is) at so_far)

  pub loop_ends : length xs ≤ i → whole ≡ after done (walk step number (drop i (map see xs))) → whole ≡ Ok done
  loop_ends past so_far = walk_ends step whole done number (rw (drop_of_length-le (map see xs) {i = i} (rw (length-map xs see) past)) at so_far)

-- what holds of a refusal holds of the one that `?` hands on
pub handed_on : {A E : Type 0} (r : Result A E) (e : E) (P : E → Type 0) → IsErrAnd r (λ given. given ≡ e) → P e → IfErr r P
handed_on (Ok value) e P same holds = tt
handed_on (Err given) e P same holds = rw same holds
