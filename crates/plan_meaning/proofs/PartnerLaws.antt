-- The partners of a fact row: those among the passing rows, at most one where keys are distinct, and none where no key is equal.
use Rattle.std.proofs.Common.{◌≡◌, ℕ, zero, suc, ◌+◌, ◌<◌, ◌≤◌, Bool, true, false, cond, List, [], ◌∷◌, ◌++◌, map, length, refl, sym, ap, ◌∙◌, subst, All, arith}
use Rattle.std.specs.Prelude.{◌&&◌, ◌||◌, ◌==◌, flat_map, filter}
use Rattle.std.specs.List.{range_with_len, list_any, list_all}
use Rattle.std.proofs.lemmas.Bool.Decides.{Decides-eqb}
use Rattle.std.proofs.lemmas.List.Elements.{All-head, All-tail, All-nil, All-append, All-map}
use Rattle.definitions_operators.specs.Operators as lists
use Rattle.definitions_operators.specs.Operators.{has, places, places_of}
use Rattle.definitions_operators.specs.Groups.{distinct}
use Rattle.query_bind.specs.Binding.{Binding}
use Rattle.query_bind.specs.declared.bounds.JoinTo.{JoinTo}
use Rattle.plan_meaning.specs.StoredLists.{StoredLists, value_at}
use Rattle.plan_meaning.proofs.Matched.{HasApart, partners, passes, passing_rows}
use Rattle.definitions_operators.proofs.PlaceLaws.{places-below, places_where-below}
use Rattle.definitions_operators.proofs.MapLaws.{filter-filter}
use Rattle.definitions_operators.proofs.OperatorLaws.{range-below, range-from}
use Rattle.plan_meaning.proofs.JoinedLaws.{IsAlone, is_some_row}

-- a key is there exactly where a row has it
pub has-map : (g : ℕ → ℕ) (rows : List ℕ) (value : ℕ) → has (map g rows) value ≡ is_some_row (filter (λ row. g row == value) rows)
has-map g [] value = refl
has-map g (row ∷ rows) value =
    ap (λ b. (g row == value) || b) (has-map g rows value)
    ∙ (elim (g row == value) as (λ b. (b || is_some_row (filter (λ row. g row == value) rows)) ≡ is_some_row (cond b (row ∷ filter (λ row. g row == value) rows) (filter (λ row. g row == value) rows))) [ true ↦ refl | false ↦ refl ])

-- whether a row has a key that equals the fact row's join column
abbrev pub matches : StoredLists → JoinTo → ℕ → ℕ → Bool
matches stored to fact row = value_at stored to.key row == value_at stored to.fact_column fact

pub partners-passing : (binding : Binding) (stored : StoredLists) (fact : ℕ) (to : JoinTo)
    → filter (matches stored to fact) (passing_rows binding stored to.key.table) ≡ partners binding stored fact to
partners-passing binding stored fact to = filter-filter (passes binding stored to.key.table) (matches stored to fact) (places (stored.rows to.key.table))

filter-none : (p : ℕ → Bool) (xs : List ℕ) → All (λ x. p x ≡ false) xs → filter p xs ≡ []
filter-none p [] none = refl
filter-none p (x ∷ xs) none =
    ap (λ b. cond b (x ∷ filter p xs) (filter p xs)) (All-head (λ x. p x ≡ false) x xs none) ∙ filter-none p xs (All-tail (λ x. p x ≡ false) x xs none)

not_true : (b : Bool) → (b ≡ true → ⊥) → b ≡ false
not_true true never = absurd (never refl)
not_true false never = refl

alone-range : (p : ℕ → Bool) (a n : ℕ) → ((x y : ℕ) → x < a + n → y < a + n → p x ≡ true → p y ≡ true → x ≡ y) → IsAlone (filter p (range_with_len a n))
alone-range p a zero one = omega arith
alone-range p a (suc n) one =
    let rest = range_with_len (a + 1) n in
    let later : IsAlone (filter p rest) = alone-range p (a + 1) n (λ x y hx hy px py. one x y (omega arith) (omega arith) px py) in
    (elim (p a) as (λ b. (b ≡ true → filter p rest ≡ []) → IsAlone (cond b (a ∷ filter p rest) (filter p rest))) [
      | true ↦ λ empty. let none : filter p rest ≡ [] = empty refl in subst (λ l. suc (length l) ≤ 1) (sym none) (omega arith)
      | false ↦ λ empty. later
    ])
    (λ here. filter-none p rest
    (λ k d within.
    let x = Rattle.std.proofs.Common.get_or rest k d in
    let from : a + 1 ≤ x = range-from (a + 1) n k d within in
    let below : x < a + 1 + n = range-below (a + 1) n k d within in
    not_true (p x) (λ px. let e : a ≡ x = one a x (omega arith) (omega arith) here px in absurd (omega arith))))

and_second : (a b : Bool) → (a && b) ≡ true → b ≡ true
and_second true b h = h
and_second false b h = absurd (cc)

-- Where keys are distinct, a fact row has at most one partner.
pub partners-alone : (binding : Binding) (stored : StoredLists) (fact : ℕ) (to : JoinTo) → HasApart stored to.key → IsAlone (partners binding stored fact to)
partners-alone binding stored fact to distinct =
    let n = stored.rows to.key.table in
    let found = value_at stored to.fact_column fact in
    let p : ℕ → Bool = λ row. passes binding stored to.key.table row && matches stored to fact row in
    let is : (x : ℕ) → p x ≡ true → value_at stored to.key x ≡ found = λ x px. (Decides-eqb (value_at stored to.key x) found).0 (and_second (passes binding stored to.key.table x) (matches stored to fact x) px) in
    alone-range p 0 n (λ x y hx hy px py. distinct x y (omega arith) (omega arith) (is x px ∙ sym (is y py)))

-- whether keys, those of the passing rows, have a fact row's join column
pub has-partners : (binding : Binding) (stored : StoredLists) (fact : ℕ) (to : JoinTo)
    → has (map (value_at stored to.key) (passing_rows binding stored to.key.table)) (value_at stored to.fact_column fact) ≡ is_some_row (partners binding stored fact to)
has-partners binding stored fact to =
    has-map (value_at stored to.key) (passing_rows binding stored to.key.table) (value_at stored to.fact_column fact)
    ∙ ap is_some_row (partners-passing binding stored fact to)

pub All-flat_map : {A B : Type 0} (P : A → Type 0) (Q : B → Type 0) (f : A → List B) → ((x : A) → P x → All Q (f x)) → (xs : List A) → All P xs → All Q (flat_map f xs)
All-flat_map P Q f each [] all = All-nil Q
All-flat_map P Q f each (x ∷ xs) all =
    All-append Q (f x) (flat_map f xs) (each x (All-head P x xs all)) (All-flat_map P Q f each xs (All-tail P x xs all))

-- the pairs of a Join are places of its values and of its keys
pub join-lefts : (values keys : List ℕ) → All (λ place. place < length values) (map (λ pair. pair.0) (lists.join values keys))
join-lefts values keys =
    All-map (λ place. place < length values) (λ (pair : ℕ × ℕ). pair.0) (lists.join values keys)
    (All-flat_map (λ place. place < length values) (λ pair. pair.0 < length values) (λ place. map (λ key. (place, key)) (places_of keys (Rattle.std.specs.Prelude.slice_index values place)))
    (λ place within. All-map (λ pair. pair.0 < length values) (λ key. (place, key)) (places_of keys (Rattle.std.specs.Prelude.slice_index values place)) (λ k d h. within))
    (places (length values)) (places-below (length values)))

pub join-rights : (values keys : List ℕ) → All (λ place. place < length keys) (map (λ pair. pair.1) (lists.join values keys))
join-rights values keys =
    All-map (λ place. place < length keys) (λ (pair : ℕ × ℕ). pair.1) (lists.join values keys)
    (All-flat_map (λ place. place < length values) (λ pair. pair.1 < length keys) (λ place. map (λ key. (place, key)) (places_of keys (Rattle.std.specs.Prelude.slice_index values place)))
    (λ place within.
    let value = Rattle.std.specs.Prelude.slice_index values place in
    All-map (λ pair. pair.1 < length keys) (λ key. (place, key)) (places_of keys value) (places_where-below (λ key. Rattle.std.specs.Prelude.slice_index keys key == value) (length keys)))
    (places (length values)) (places-below (length values)))
