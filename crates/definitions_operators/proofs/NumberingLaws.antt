-- One pass finds the groups.
use Rattle.std.proofs.Common.{◌≡◌, ℕ, suc, ◌≤◌, ◌+◌, Bool, true, false, cond, List, [], ◌∷◌, ◌++◌, length, refl, sym, ap, ap₂, ◌∙◌, arith, append_assoc, length-append}
use Rattle.std.specs.List.{list_any, fold, zip}
use Rattle.std.specs.Cmp.{IsEquivalence, nat_eq_equiv}
use Rattle.std.proofs.lemmas.List.{append-nil}
use Rattle.std.proofs.lemmas.Bool.{and_from, and_parts}
use Rattle.std.specs.Prelude.{nat_eq, ◌&&◌}
use Rattle.definitions_operators.specs.Groups.{with_item, distinct}
use Rattle.definitions_operators.proofs.GroupWords.{place_in, ids_of, extents_of, same_pair, numbers_from, new_place, new_places}
use Rattle.definitions_operators.proofs.GroupLaws.{distinct_more, ids_more, extents_more}

module _ {A : Type 0} (same : A → A → Bool) (o : IsEquivalence same) where
  ids_split : (before items : List A) → ids_of same (before ++ items) ≡ ids_of same before ++ numbers_from same (distinct same before) items
  ids_split before [] = ap (ids_of same) (append-nil before) ∙ sym (append-nil (ids_of same before))
  ids_split before (item ∷ items) =
      let number = place_in same (distinct same before) item in
      ap (ids_of same) (sym (append_assoc before (item ∷ []) items))
      ∙ ids_split (before ++ item ∷ []) items
      ∙ ap₂ (λ (ids : List ℕ) (seen : List A). ids ++ numbers_from same seen items) (ids_more same o before item) (distinct_more same before item)
      ∙ append_assoc (ids_of same before) (number ∷ []) (numbers_from same (with_item same (distinct same before) item) items)

  either_more : (b : Bool) (xs : List ℕ) (place : ℕ) → cond b xs (xs ++ place ∷ []) ≡ xs ++ cond b [] (place ∷ [])
  either_more true xs place = sym (append-nil xs)
  either_more false xs place = refl

  extents_split : (before items : List A) → extents_of same (before ++ items) ≡ extents_of same before ++ new_places same (distinct same before) (length before) items
  extents_split before [] = ap (extents_of same) (append-nil before) ∙ sym (append-nil (extents_of same before))
  extents_split before (item ∷ items) =
      let seen = distinct same before in
      let place = new_place same seen (length before) item in
      let rest = new_places same (with_item same seen item) (length before + 1) items in
      ap (extents_of same) (sym (append_assoc before (item ∷ []) items))
      ∙ extents_split (before ++ item ∷ []) items
      ∙ ap (λ (extents : List ℕ). extents ++ new_places same (distinct same (before ++ item ∷ [])) (length (before ++ item ∷ [])) items)
      (extents_more same o before item ∙ either_more (list_any (same item) seen) (extents_of same before) (length before))
      ∙ ap₂ (λ (next : List A) (n : ℕ). (extents_of same before ++ place) ++ new_places same next n items) (distinct_more same before item) (length-append before (item ∷ []))
      ∙ append_assoc (extents_of same before) place rest

  -- from nothing seen on, the numbers are the ids and the new places the extents
  pub numbers_from-start : (items : List A) → numbers_from same [] items ≡ ids_of same items
  unfolding distinct ids_of
  numbers_from-start items = sym (ids_split [] items)

  pub new_places-start : (items : List A) → new_places same [] 0 items ≡ extents_of same items
  unfolding distinct extents_of
  new_places-start items = sym (extents_split [] items)

module _ {A : Type 0} (same : A → A → Bool) where
  -- one item more
  pub ids_step : (list : List ℕ) (seen items : List A) (item : A) (rest : List A) (whole : List ℕ) → items ≡ item ∷ rest → list ++ numbers_from same seen items ≡ whole
      → (list ++ place_in same seen item ∷ []) ++ numbers_from same (with_item same seen item) rest ≡ whole
  ids_step list seen items item rest whole e h =
      append_assoc list (place_in same seen item ∷ []) (numbers_from same (with_item same seen item) rest) ∙ ap (λ (all : List A). list ++ numbers_from same seen all) (sym e) ∙ h

  pub extents_step : (list : List ℕ) (seen : List A) (place : ℕ) (items : List A) (item : A) (rest : List A) (whole : List ℕ) → items ≡ item ∷ rest → list ++ new_places same seen place items ≡ whole
      → (list ++ new_place same seen place item) ++ new_places same (with_item same seen item) (place + 1) rest ≡ whole
  extents_step list seen place items item rest whole e h =
      append_assoc list (new_place same seen place item) (new_places same (with_item same seen item) (place + 1) rest) ∙ ap (λ (all : List A). list ++ new_places same seen place all) (sym e) ∙ h

  pub seen_step : (seen items : List A) (item : A) (rest whole : List A) → items ≡ item ∷ rest → fold (with_item same) seen items ≡ whole
      → fold (with_item same) (with_item same seen item) rest ≡ whole
  seen_step seen items item rest whole e h = ap (λ (all : List A). fold (with_item same) seen all) (sym e) ∙ h

  -- a block more
  pub numbers_from-append : (seen front back : List A) → numbers_from same seen (front ++ back) ≡ numbers_from same seen front ++ numbers_from same (fold (with_item same) seen front) back
  numbers_from-append seen [] back = refl
  numbers_from-append seen (item ∷ front) back = ap (λ (rest : List ℕ). place_in same seen item ∷ rest) (numbers_from-append (with_item same seen item) front back)

  pub new_places-append : (seen : List A) (place : ℕ) (front back : List A)
      → new_places same seen place (front ++ back) ≡ new_places same seen place front ++ new_places same (fold (with_item same) seen front) (place + length front) back
  new_places-append seen place [] back = ap (λ (n : ℕ). new_places same seen n back) (omega arith)
  new_places-append seen place (item ∷ front) back =
      let later = new_places same (fold (with_item same) (with_item same seen item) front) in
      ap (λ (rest : List ℕ). new_place same seen place item ++ rest)
      (new_places-append (with_item same seen item) (place + 1) front back
      ∙ ap (λ (n : ℕ). new_places same (with_item same seen item) (place + 1) front ++ later n back) (omega arith))
      ∙ sym (append_assoc (new_place same seen place item) (new_places same (with_item same seen item) (place + 1) front) (later (place + length (item ∷ front)) back))

  pub ids_block : (list : List ℕ) (seen items front back : List A) (whole : List ℕ) → items ≡ front ++ back → list ++ numbers_from same seen items ≡ whole
      → (list ++ numbers_from same seen front) ++ numbers_from same (fold (with_item same) seen front) back ≡ whole
  ids_block list seen items front back whole e h =
      append_assoc list (numbers_from same seen front) (numbers_from same (fold (with_item same) seen front) back)
      ∙ ap (λ (all : List ℕ). list ++ all) (sym (numbers_from-append seen front back)) ∙ ap (λ (all : List A). list ++ numbers_from same seen all) (sym e) ∙ h

  pub extents_block : (list : List ℕ) (seen : List A) (place : ℕ) (items front back : List A) (whole : List ℕ) → items ≡ front ++ back → list ++ new_places same seen place items ≡ whole
      → (list ++ new_places same seen place front) ++ new_places same (fold (with_item same) seen front) (place + length front) back ≡ whole
  extents_block list seen place items front back whole e h =
      append_assoc list (new_places same seen place front) (new_places same (fold (with_item same) seen front) (place + length front) back)
      ∙ ap (λ (all : List ℕ). list ++ all) (sym (new_places-append seen place front back)) ∙ ap (λ (all : List A). list ++ new_places same seen place all) (sym e) ∙ h

  pub length-numbers_from : (seen items : List A) → length (numbers_from same seen items) ≡ length items
  length-numbers_from seen [] = refl
  length-numbers_from seen (item ∷ items) = ap (λ (n : ℕ). suc n) (length-numbers_from (with_item same seen item) items)

  pub length-new_place : (b : Bool) (place : ℕ) → length (cond b [] (place ∷ [])) ≤ 1
  length-new_place true place = omega arith
  length-new_place false place = omega arith

  pub length-new_places : (seen : List A) (place : ℕ) (items : List A) → length (new_places same seen place items) ≤ length items
  length-new_places seen place [] = omega arith
  length-new_places seen place (item ∷ items) =
      let one = length-new_place (list_any (same item) seen) place in
      let rest = length-new_places (with_item same seen item) (place + 1) items in
      omega (arith, one, rest, length-append (new_place same seen place item) (new_places same (with_item same seen item) (place + 1) items))

-- ---- pairs

pair-refl : (x : ℕ × ℕ) → same_pair x x ≡ true
pair-refl x = and_from (nat_eq x.0 x.0) (nat_eq x.1 x.1) (nat_eq_equiv.refl x.0) (nat_eq_equiv.refl x.1)

pub same_pair-equivalence : IsEquivalence same_pair
same_pair-equivalence = record {
  refl = pair-refl;
  symm = λ x y. ap₂ (λ (a b : Bool). a && b) (nat_eq_equiv.symm x.0 y.0) (nat_eq_equiv.symm x.1 y.1);
  congr = λ x y z h. let parts = and_parts (nat_eq x.0 y.0) (nat_eq x.1 y.1) h in
      ap₂ (λ (a b : Bool). a && b) (nat_eq_equiv.congr x.0 y.0 z.0 parts.0) (nat_eq_equiv.congr x.1 y.1 z.1 parts.1);
}

pub length-zip : (xs ys : List ℕ) → length xs ≡ length ys → length (zip xs ys) ≡ length ys
length-zip [] [] e = refl
length-zip [] (y ∷ ys) e = absurd (omega arith)
length-zip (x ∷ xs) [] e = absurd (omega arith)
length-zip (x ∷ xs) (y ∷ ys) e = ap (λ (n : ℕ). suc n) (length-zip xs ys (omega arith))
