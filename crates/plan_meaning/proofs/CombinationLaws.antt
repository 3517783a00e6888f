-- The joined rows are those found from the fact rows: the matched combinations.
use Rattle.std.proofs.Common.{◌≡◌, ℕ, Bool, true, false, cond, List, [], ◌∷◌, ◌++◌, map, length, refl, sym, ap, ap₂, ◌∙◌, All, arith, inl, inr}
use Rattle.std.specs.Prelude.{◌&&◌, ◌||◌, ◌==◌, ◌⊎◌, ⊤, flat_map, filter}
use Rattle.std.specs.List.{list_all, list_any}
use Rattle.std.proofs.lemmas.Bool.Decides.{nat_tests, Decides-eqb}
use Rattle.std.proofs.lemmas.List.{length-map}
use Rattle.std.proofs.lemmas.List.Elements.{filter-append, filter_agree, All-head, All-tail, All-nil, All-cons, All-map, All-weaker, filter_passes}
use Rattle.definitions_operators.specs.Operators.{places}
use Rattle.definitions_operators.proofs.ListLaws.{filter-map, filter-same}
use Rattle.definitions_operators.proofs.MapLaws.{flat_map-each, flat_map-filter}
use Rattle.query_bind.specs.Binding.{Binding, Tested}
use Rattle.query_bind.specs.declared.bounds.JoinTo.{JoinTo}
use Rattle.plan_core.specs.Planner.{conditions_on}
use Rattle.plan_meaning.specs.StoredLists.{StoredLists, value_at, holds}
use Rattle.plan_meaning.specs.JoinedRows.{Combination, row_among, row_of, value_in, one_of_each, combinations, is_matched, is_tested, joined_rows}
use Rattle.plan_meaning.proofs.Matched.{passes, passing_rows, partners, matches_of, matched, AreApart, IsLawful}
use Rattle.plan_meaning.proofs.PartnerLaws.{All-flat_map}

-- # All combinations, filtered table by table

-- whether each row has the key that equals the fact row's join column, and all conditions on its table hold at it
abbrev belongs : Binding → StoredLists → ℕ → JoinTo → ℕ → Bool
belongs binding stored fact to row = passes binding stored to.key.table row && (value_at stored to.key row == value_at stored to.fact_column fact)

abbrev belong : Binding → StoredLists → ℕ → List JoinTo → List ℕ → Bool
belong binding stored fact [] rows = true
belong binding stored fact (to ∷ joins) [] = true
belong binding stored fact (to ∷ joins) (row ∷ rows) = belongs binding stored fact to row && belong binding stored fact joins rows

filter-flat_map : {A B : Type 0} (q : B → Bool) (f : A → List B) (xs : List A) → filter q (flat_map f xs) ≡ flat_map (λ x. filter q (f x)) xs
filter-flat_map q f [] = refl
filter-flat_map q f (x ∷ xs) = filter-append q (f x) (flat_map f xs) ∙ ap (λ l. filter q (f x) ++ l) (filter-flat_map q f xs)

filter-false : {A : Type 0} (xs : List A) → filter (λ x. false) xs ≡ []
filter-false [] = refl
filter-false (x ∷ xs) = filter-false xs

filter-both : {A : Type 0} (b : Bool) (q : A → Bool) (xs : List A) → filter (λ x. b && q x) xs ≡ cond b (filter q xs) []
filter-both true q xs = refl
filter-both false q xs = filter-false xs

map-cond : {A B : Type 0} (b : Bool) (f : A → B) (xs : List A) → map f (cond b xs []) ≡ cond b (map f xs) []
map-cond true f xs = refl
map-cond false f xs = refl

-- those of a flat map whose items pass two tests, one on what they come from
filter-pairs : {A B C : Type 0} (p : A → Bool) (q : A → B → Bool) (pack : A → B → C) (test : C → Bool) (rest : A → List B) (xs : List A)
    → ((x : A) (y : B) → test (pack x y) ≡ (p x && q x y))
    → filter test (flat_map (λ x. map (pack x) (rest x)) xs) ≡ flat_map (λ x. map (pack x) (filter (q x) (rest x))) (filter p xs)
filter-pairs p q pack test rest xs same =
    filter-flat_map test (λ x. map (pack x) (rest x)) xs
    ∙ flat_map-each (λ x. filter test (map (pack x) (rest x))) (λ x. cond (p x) (map (pack x) (filter (q x) (rest x))) [])
    (λ x.
    filter-map test (pack x) (rest x)
    ∙ ap (map (pack x)) (filter_agree (λ y. test (pack x y)) (λ y. p x && q x y) (same x) (rest x) ∙ filter-both (p x) (q x) (rest x))
    ∙ map-cond (p x) (pack x) (filter (q x) (rest x))) xs
    ∙ sym (flat_map-filter (λ x. map (pack x) (filter (q x) (rest x))) p xs)

choices-belong : (binding : Binding) (stored : StoredLists) (fact : ℕ) (joins : List JoinTo)
    → filter (belong binding stored fact joins) (one_of_each (map (λ to. places (stored.rows to.key.table)) joins)) ≡ one_of_each (map (partners binding stored fact) joins)
choices-belong binding stored fact [] = refl
choices-belong binding stored fact (to ∷ joins) =
    let all = one_of_each (map (λ to. places (stored.rows to.key.table)) joins) in
    filter-pairs (belongs binding stored fact to) (λ row. belong binding stored fact joins) (λ row others. row ∷ others) (belong binding stored fact (to ∷ joins)) (λ row. all) (places (stored.rows to.key.table)) (λ row others. refl)
    ∙ ap (λ l. flat_map (λ row. map (λ others. row ∷ others) l) (partners binding stored fact to)) (choices-belong binding stored fact joins)

abbrev belongs_to : Binding → StoredLists → Combination → Bool
belongs_to binding stored combination = passes binding stored binding.fact combination.fact && belong binding stored combination.fact binding.joins combination.rows

matched-all : (binding : Binding) (stored : StoredLists) → matched binding stored ≡ filter (belongs_to binding stored) (combinations binding stored)
matched-all binding stored =
    let pack : ℕ → List ℕ → Combination = λ fact others. record { fact = fact; rows = others } in
    let all = one_of_each (map (λ to. places (stored.rows to.key.table)) binding.joins) in
    sym (filter-pairs (passes binding stored binding.fact) (λ fact. belong binding stored fact binding.joins) pack
    (belongs_to binding stored) (λ fact. all) (places (stored.rows binding.fact)) (λ fact others. refl)
    ∙ flat_map-each (λ fact. map (pack fact) (filter (belong binding stored fact binding.joins) all)) (matches_of binding stored binding.joins)
    (λ fact. ap (map (pack fact)) (choices-belong binding stored fact binding.joins)) (passing_rows binding stored binding.fact))

-- # Table by table, or join by join and condition by condition

pub all-same : {X : Type 0} (P : X → Type 0) (p q : X → Bool) → ((x : X) → P x → p x ≡ q x) → (xs : List X) → All P xs → list_all p xs ≡ list_all q xs
all-same P p q same [] all = refl
all-same P p q same (x ∷ xs) all = ap₂ (λ a b. a && b) (same x (All-head P x xs all)) (all-same P p q same xs (All-tail P x xs all))

-- each row is found by its table
belong-is : (binding : Binding) (stored : StoredLists) (fact : ℕ) (joins : List JoinTo) (rows : List ℕ) → AreApart joins → length rows ≡ length joins
    → list_all (λ to. belongs binding stored fact to (row_among to.key.table joins rows)) joins ≡ belong binding stored fact joins rows
belong-is binding stored fact [] rows apart long = refl
belong-is binding stored fact (to ∷ joins) [] apart long = absurd (omega arith)
belong-is binding stored fact (to ∷ joins) (row ∷ rows) apart long =
    let here : (to.key.table == to.key.table) ≡ true = grind (arith, nat_tests) in
    ap₂ (λ a b. a && b)
    (ap (λ b. belongs binding stored fact to (cond b row (row_among to.key.table joins rows))) here)
    (all-same (λ other. (to.key.table == other.key.table) ≡ false) (λ other. belongs binding stored fact other (row_among other.key.table (to ∷ joins) (row ∷ rows)))
    (λ other. belongs binding stored fact other (row_among other.key.table joins rows))
    (λ other away. ap (λ b. belongs binding stored fact other (cond b row (row_among other.key.table joins rows))) away) joins apart.0
    ∙ belong-is binding stored fact joins rows apart.1 (omega arith))

swap_both : (a b c d : Bool) → ((a && b) && (c && d)) ≡ ((a && c) && (b && d))
swap_both true true c d = refl
swap_both true false true d = refl
swap_both true false false d = refl
swap_both false b c d = refl

all-both : {X : Type 0} (p q : X → Bool) (xs : List X) → list_all (λ x. p x && q x) xs ≡ (list_all p xs && list_all q xs)
all-both p q [] = refl
all-both p q (x ∷ xs) = ap (λ b. (p x && q x) && b) (all-both p q xs) ∙ swap_both (p x) (q x) (list_all p xs) (list_all q xs)

-- the tests of one table
abbrev on : ℕ → Tested → Bool
on table tested = tested.column.table == table

-- all of the fact table's tests, and all of each dimension's
abbrev by_table : (Tested → Bool) → ℕ → List JoinTo → List Tested → Bool
by_table test fact joins tests = list_all test (filter (on fact) tests) && list_all (λ to. list_all test (filter (on to.key.table) tests)) joins

drop_true : (b c : Bool) (test : Tested → Bool) (tested : Tested) (rest : List Tested) → test tested ≡ true → list_all test (cond b (tested ∷ rest) rest) ≡ list_all test rest
drop_true true c test tested rest passes = ap (λ b. b && list_all test rest) passes
drop_true false c test tested rest passes = refl

some_false : (test : Tested → Bool) (tested : Tested) (tests : List Tested) (joins : List JoinTo) → test tested ≡ false → list_any (λ to. to.key.table == tested.column.table) joins ≡ true
    → list_all (λ to. list_all test (filter (on to.key.table) (tested ∷ tests))) joins ≡ false
some_false test tested tests [] fails among = absurd (cc)
some_false test tested tests (to ∷ joins) fails among =
    let rest = filter (on to.key.table) tests in
    (elim (to.key.table == tested.column.table) as (λ b. (b ≡ (to.key.table == tested.column.table)) → (b || list_any (λ to. to.key.table == tested.column.table) joins) ≡ true
    → (list_all test (cond (on to.key.table tested) (tested ∷ rest) rest) && list_all (λ to. list_all test (filter (on to.key.table) (tested ∷ tests))) joins) ≡ false) [
      | true ↦ λ same found.
          let there : on to.key.table tested ≡ true = grind (arith, nat_tests) in
          ap (λ b. list_all test (cond b (tested ∷ rest) rest) && list_all (λ to. list_all test (filter (on to.key.table) (tested ∷ tests))) joins) there
          ∙ ap (λ b. (b && list_all test rest) && list_all (λ to. list_all test (filter (on to.key.table) (tested ∷ tests))) joins) fails
      | false ↦ λ same found.
          ap (λ b. list_all test (cond (on to.key.table tested) (tested ∷ rest) rest) && b) (some_false test tested tests joins fails found)
          ∙ and_false (list_all test (cond (on to.key.table tested) (tested ∷ rest) rest))
    ]) refl among
  where
    and_false : (b : Bool) → (b && false) ≡ false
    and_false true = refl
    and_false false = refl

abbrev IsOfSome : ℕ → List JoinTo → Tested → Type 0
IsOfSome fact joins tested =
    ((fact == tested.column.table) ≡ true) ⊎ (((fact == tested.column.table) ≡ false) × (list_any (λ to. to.key.table == tested.column.table) joins ≡ true))

by_table-is : (test : Tested → Bool) (fact : ℕ) (joins : List JoinTo) (tests : List Tested) → All (IsOfSome fact joins) tests → by_table test fact joins tests ≡ list_all test tests
by_table-is test fact joins [] all = all_empty joins
  where
    all_empty : (joins : List JoinTo) → list_all (λ to. true) joins ≡ true
    all_empty [] = refl
    all_empty (to ∷ joins) = all_empty joins
by_table-is test fact joins (tested ∷ tests) all =
    let later = by_table-is test fact joins tests (All-tail (IsOfSome fact joins) tested tests all) in
    (elim (test tested) as (λ b. test tested ≡ b → by_table test fact joins (tested ∷ tests) ≡ (b && list_all test tests)) [
      | true ↦ λ passes.
          ap₂ (λ a b. a && b)
          (drop_true (on fact tested) true test tested (filter (on fact) tests) passes)
          (all_drop passes joins)
          ∙ later
      | false ↦ λ fails. one_false fails (All-head (IsOfSome fact joins) tested tests all)
    ]) refl
  where
    all_drop : test tested ≡ true → (joins : List JoinTo) → list_all (λ to. list_all test (filter (on to.key.table) (tested ∷ tests))) joins
        ≡ list_all (λ to. list_all test (filter (on to.key.table) tests)) joins
    all_drop passes [] = refl
    all_drop passes (to ∷ joins) = ap₂ (λ a b. a && b) (drop_true (on to.key.table tested) true test tested (filter (on to.key.table) tests) passes) (all_drop passes joins)

    one_false : test tested ≡ false → IsOfSome fact joins tested → by_table test fact joins (tested ∷ tests) ≡ false
    one_false fails (inl here) =
        let there : on fact tested ≡ true = grind (arith, nat_tests) in
        let rest = filter (on fact) tests in
        let others = list_all (λ to. list_all test (filter (on to.key.table) (tested ∷ tests))) joins in
        ap (λ b. list_all test (cond b (tested ∷ rest) rest) && others) there
        ∙ ap (λ b. (b && list_all test rest) && others) fails
    one_false fails (inr other) =
        let front = list_all test (filter (on fact) (tested ∷ tests)) in
        ap (λ b. front && b) (some_false test tested tests joins fails other.1) ∙ (elim front as (λ b. (b && false) ≡ false) [ true ↦ refl | false ↦ refl ])

-- # One combination

-- the conditions on a table hold at a combination's row of it
passes-is : (binding : Binding) (stored : StoredLists) (combination : Combination) (table : ℕ)
    → passes binding stored table (row_of binding table combination) ≡ list_all (is_tested binding stored combination) (conditions_on table binding.tests)
passes-is binding stored combination table =
    all-same (λ tested. (tested.column.table == table) ≡ true) (λ tested. holds stored tested (row_of binding table combination)) (is_tested binding stored combination)
    (λ tested here. ap (λ t. holds stored tested (row_of binding t combination)) (sym ((Decides-eqb tested.column.table table).0 here)))
    (conditions_on table binding.tests) (filter_passes (λ tested. tested.column.table == table) binding.tests)

abbrev is_joined_row : Binding → StoredLists → Combination → Bool
is_joined_row binding stored combination = list_all (is_matched binding stored combination) binding.joins && list_all (is_tested binding stored combination) binding.tests

abbrev KnownJoin : Binding → JoinTo → Type 0
KnownJoin binding to = ((binding.fact == to.key.table) ≡ false) × (to.fact_column.table ≡ binding.fact)

move_front : (a b c : Bool) → (a && (b && c)) ≡ (c && (a && b))
move_front true true true = refl
move_front true true false = refl
move_front true false true = refl
move_front true false false = refl
move_front false b true = refl
move_front false b false = refl

belongs_to-is : (binding : Binding) (stored : StoredLists) (combination : Combination) → IsLawful binding → length combination.rows ≡ length binding.joins
    → belongs_to binding stored combination ≡ is_joined_row binding stored combination
belongs_to-is binding stored combination lawful long =
    let fact = combination.fact in
    let joins = binding.joins in
    let rows = combination.rows in
    let here : (binding.fact == binding.fact) ≡ true = grind (arith, nat_tests) in
    let tested : Tested → Bool = is_tested binding stored combination in
    let of_fact : passes binding stored binding.fact fact ≡ list_all tested (conditions_on binding.fact binding.tests) =
    ap (λ b. passes binding stored binding.fact (cond b fact (row_among binding.fact joins rows))) (sym here) ∙ passes-is binding stored combination binding.fact in
    let known : All (KnownJoin binding) joins = λ k d within. (lawful.dimensions k d within, lawful.facts k d within) in
    let one : (to : JoinTo) → KnownJoin binding to
    → belongs binding stored fact to (row_among to.key.table joins rows)
    ≡ (list_all tested (conditions_on to.key.table binding.tests) && is_matched binding stored combination to) =
    λ to is.
    let row : row_among to.key.table joins rows ≡ row_of binding to.key.table combination = ap (λ b. cond b fact (row_among to.key.table joins rows)) (sym is.0) in
    let column : value_at stored to.fact_column fact ≡ value_in binding stored to.fact_column combination =
    ap (λ b. value_at stored to.fact_column (cond b fact (row_among to.fact_column.table joins rows))) (sym (ap (λ t. binding.fact == t) is.1 ∙ here)) in
    ap (belongs binding stored fact to) row
    ∙ ap₂ (λ a value. a && (value_in binding stored to.key combination == value)) (passes-is binding stored combination to.key.table) column in
    let all_tested = list_all (λ to. list_all tested (conditions_on to.key.table binding.tests)) joins in
    ap₂ (λ a b. a && b) of_fact
    (sym (belong-is binding stored fact joins rows lawful.apart long)
    ∙ all-same (KnownJoin binding) (λ to. belongs binding stored fact to (row_among to.key.table joins rows))
    (λ to. list_all tested (conditions_on to.key.table binding.tests) && is_matched binding stored combination to) one joins known
    ∙ all-both (λ to. list_all tested (conditions_on to.key.table binding.tests)) (is_matched binding stored combination) joins)
    ∙ move_front (list_all tested (conditions_on binding.fact binding.tests)) all_tested (list_all (is_matched binding stored combination) joins)
    ∙ ap (λ b. list_all (is_matched binding stored combination) joins && b) (by_table-is tested binding.fact joins binding.tests lawful.tests)

-- # All combinations

choices-long : (lists : List (List ℕ)) → All (λ rows. length rows ≡ length lists) (one_of_each lists)
choices-long [] = All-cons (λ rows. length rows ≡ 0) [] [] refl (All-nil (λ rows. length rows ≡ 0))
choices-long (first ∷ lists) =
    All-flat_map (λ row. ⊤) (λ rows. length rows ≡ length (first ∷ lists)) (λ row. map (λ others. row ∷ others) (one_of_each lists))
    (λ row known. All-map (λ rows. length rows ≡ length (first ∷ lists)) (λ others. row ∷ others) (one_of_each lists)
    (All-weaker (λ rows. length rows ≡ length lists) (λ others. length (row ∷ others) ≡ length (first ∷ lists)) (λ others e. omega arith) (one_of_each lists) (choices-long lists)))
    first (λ k d within. _)

combinations-long : (binding : Binding) (stored : StoredLists) → All (λ combination. length combination.rows ≡ length binding.joins) (combinations binding stored)
combinations-long binding stored =
    let Long : Combination → Type 0 = λ combination. length combination.rows ≡ length binding.joins in
    let tables : List (List ℕ) = map (λ to. places (stored.rows to.key.table)) binding.joins in
    All-flat_map (λ fact. ⊤) Long (λ fact. map (λ rows. record { fact = fact; rows = rows }) (one_of_each tables))
    (λ fact known. All-map Long (λ rows. record { fact = fact; rows = rows }) (one_of_each tables)
    (All-weaker (λ rows. length rows ≡ length tables) (λ rows. length rows ≡ length binding.joins)
    (λ rows e. e ∙ length-map binding.joins (λ to. places (stored.rows to.key.table))) (one_of_each tables) (choices-long tables)))
    (places (stored.rows binding.fact)) (λ k d within. _)

-- The joined rows are the matched ones.
pub joined-matched : (binding : Binding) (stored : StoredLists) → IsLawful binding → matched binding stored ≡ joined_rows binding stored
joined-matched binding stored lawful =
    matched-all binding stored
    ∙ filter-same (λ combination. length combination.rows ≡ length binding.joins) (belongs_to binding stored) (is_joined_row binding stored)
    (λ combination long. belongs_to-is binding stored combination lawful long) (combinations binding stored) (combinations-long binding stored)
