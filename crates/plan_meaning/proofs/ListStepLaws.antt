-- Steps that make position lists: conditions, semi-joins, and values at a position list.
use Rattle.std.proofs.Common.{◌≡◌, ℕ, ◌+◌, ◌<◌, ◌≤◌, Bool, true, false, List, [], ◌∷◌, length, refl, sym, ap, ap₂, ◌∙◌, subst, All, arith}
use Rattle.std.specs.Prelude.{Option, Some, None, ⊤, ◌||◌, ◌==◌, not, filter, slice_index, slice_get, map, drop}
use Rattle.std.specs.Option.{option_map_or}
use Rattle.std.specs.List.{list_any}
use Rattle.std.specs.List.Sorted.{IsStrictlyIncreasing}
use Rattle.std.proofs.lemmas.Bool.Decides.{Decides-eqb}
use Rattle.std.proofs.lemmas.List.{length-map}
use Rattle.std.proofs.lemmas.List.Kept.{IsStrictlyIncreasing-filter}
use Rattle.std.proofs.lemmas.List.Elements.{All-head, All-tail, All-filter, All-weaker, filter_passes}
use Rattle.std.proofs.lemmas.List.Filters.{length-filter_both}
use Rattle.definitions_operators.specs.Operators as lists
use Rattle.plan_core.specs.declared.plans.Input.TheVariants as input
use Rattle.definitions_operators.specs.Operators.{places, places_where}
use Rattle.definitions_queries.specs.Queries.{Literal, Test, at_least, at_most, between, equal, of_number, of_text, one_of}
use Rattle.catalog_core.specs.declared.columns.ColumnId.{ColumnId}
use Rattle.query_bind.specs.Binding.{Binding, Tested}
use Rattle.plan_core.specs.Plans.{Steps, intersect, project, select, union}
use Rattle.plan_core.specs.Planner.{Listed, Made, add_condition, add_conditions, add_list, add_places, add_selects, add_unions, add_values, choices_of, combine, conditions_on, with_one}
use Rattle.plan_meaning.specs.StoredLists.{StoredLists, accepts, holds, is_met, value_at}
use Rattle.definitions_blocks.specs.Columns.{max_rows}
use Rattle.plan_meaning.specs.Columns.{column, made_column}
use Rattle.plan_meaning.specs.Operands.{IsShortList}
use Rattle.plan_meaning.proofs.Matched.{HasChoices, HasLengths, Holds, Lists, Reads, passes, passing_rows}
use Rattle.definitions_operators.proofs.PlaceLaws.{length-places, places-below, places-rise, places_where-rise, places_where-same}
use Rattle.definitions_operators.proofs.MapLaws.{kept, kept-filter}
use Rattle.definitions_operators.proofs.OperatorLaws.{intersect-where, union-where, values_at-all, values_at-places}
use Rattle.plan_meaning.proofs.RunLaws.{GoesOn, GoesOn-refl, GoesOn-then, Holds-later, IsRun, Lists-later, column-short, columns_so_far, made_number, with_one-holds}
use Rattle.catalog_core.specs.Texts.{Text}
use Rattle.plan_core.specs.Meaning.{meets}
use Rattle.definitions_queries.specs.Queries as queries

-- a rising list of places below n
pub record IsPositions (n : ℕ) (list : List ℕ) : Type 0 where
  pub below : All (λ place. place < n) list
  pub rising : IsStrictlyIncreasing list

pub IsPositions-places : (n : ℕ) → IsPositions n (places n)
IsPositions-places n = record { below = places-below n; rising = places-rise n }

pub IsPositions-filter : (test : ℕ → Bool) (n : ℕ) (list : List ℕ) → IsPositions n list → IsPositions n (filter test list)
IsPositions-filter test n list is = record { below = All-filter test (λ place. place < n) list is.below; rising = IsStrictlyIncreasing-filter test list is.rising }

pub length-filter-le : {X : Type 0} (test : X → Bool) (xs : List X) → length (filter test xs) ≤ length xs
length-filter-le test xs =
    let both : length (filter test xs) + length (filter (λ x. not (test x)) xs) ≡ length xs = length-filter_both test (λ x. not (test x)) (λ x. refl) xs in
    omega arith

pub places_where-short : (test : ℕ → Bool) (n : ℕ) → n ≤ max_rows → IsShortList (places_where test n)
places_where-short test n short =
    let less : length (places_where test n) ≤ length (places n) = length-filter-le test (places n) in
    let long : length (places n) ≡ n = length-places n in
    omega arith

-- the rows that a one_test accepts
abbrev pub accepted_rows : StoredLists → ColumnId → Test → List ℕ
accepted_rows stored column one_test = places_where (λ row. accepts stored column one_test row) (stored.rows column.table)

-- one list for each one_test, from a number on
abbrev pub SelectsHeld : StoredLists → Steps → ColumnId → ℕ → List Test → Type 0
SelectsHeld stored steps column next [] = ⊤
SelectsHeld stored steps column next (one_test ∷ tests) = Holds stored steps next (accepted_rows stored column one_test) × SelectsHeld stored steps column (next + 1) tests

SelectsHeld-later : (count : ℕ) (stored : StoredLists) (a b : Steps) (column : ColumnId) (next : ℕ) (tests : List Test)
    → GoesOn count stored a b → SelectsHeld stored a column next tests → SelectsHeld stored b column next tests
SelectsHeld-later count stored a b column next [] on held = _
SelectsHeld-later count stored a b column next (one_test ∷ tests) on held =
    (Holds-later count stored a b next (accepted_rows stored column one_test) on held.0, SelectsHeld-later count stored a b column (next + 1) tests on held.1)

add_selects-holds : (count : ℕ) (stored : StoredLists) → HasLengths stored → (steps : Steps) (column : ColumnId) (tests : List Test) → IsRun count stored steps
    → GoesOn count stored steps (add_selects steps column tests) × SelectsHeld stored (add_selects steps column tests) column (steps.columns + 1) tests
add_selects-holds count stored given steps column [] run = (GoesOn-refl count stored steps run, _)
add_selects-holds count stored given steps column (one_test ∷ tests) run =
    let one = with_one steps (select column one_test) in
    let all = add_selects one column tests in
    let list = accepted_rows stored column one_test in
    let first = with_one-holds count stored steps (select column one_test) list run
    (ap (λ n. places_where (λ row. accepts stored column one_test row) n ∷ []) (given.lengths column))
    refl _ (λ short. places_where-short (λ row. accepts stored column one_test row) (stored.rows column.table) (given.short column.table)) in
    let rest = add_selects-holds count stored given one column tests first.0.run in
    (GoesOn-then count stored steps one all first.0 rest.0, (Holds-later count stored one all (steps.columns + 1) list rest.0 first.1, rest.1))

or_false : (b : Bool) → b ≡ (b || false)
or_false true = refl
or_false false = refl

or_assoc : (a b c : Bool) → ((a || b) || c) ≡ (a || (b || c))
or_assoc true b c = refl
or_assoc false b c = refl

add_unions-holds : (count : ℕ) (stored : StoredLists) → HasLengths stored → (steps : Steps) (column : ColumnId) (running next : ℕ) (tests : List Test) (test : ℕ → Bool)
    → IsRun count stored steps
    → Holds stored steps running (places_where test (stored.rows column.table))
    → SelectsHeld stored steps column next tests
    → GoesOn count stored steps (add_unions steps running next tests).steps
    × Holds stored (add_unions steps running next tests).steps (add_unions steps running next tests).number
    (places_where (λ row. test row || list_any (λ one_test. accepts stored column one_test row) tests) (stored.rows column.table))
add_unions-holds count stored given steps column running next [] test run holds held = (
  GoesOn-refl count stored steps run,
  subst (Holds stored steps running) (places_where-same test (λ row. test row || false) (stored.rows column.table) (λ row below. or_false (test row))) holds,
)
add_unions-holds count stored given steps column running next (one_test ∷ tests) test run holds held =
    let n = stored.rows column.table in
    let accept : ℕ → Bool = λ row. accepts stored column one_test row in
    let either : ℕ → Bool = λ row. test row || accept row in
    let rest : ℕ → Bool = λ row. list_any (λ one_test. accepts stored column one_test row) tests in
    let one = with_one steps (union running next) in
    let all = add_unions one (steps.columns + 1) (next + 1) tests in
    let first = with_one-holds count stored steps (union running next) (places_where either n) run
    (ap₂ (λ a b. lists.union a b ∷ []) holds.is held.0.is ∙ ap (λ l. l ∷ []) (union-where test accept n))
    (made_number stored steps running _ holds, made_number stored steps next _ held.0, refl)
    (subst IsStrictlyIncreasing (sym holds.is) (places_where-rise test n), subst IsStrictlyIncreasing (sym held.0.is) (places_where-rise accept n))
    (λ short. places_where-short either n (given.short column.table)) in
    let later = add_unions-holds count stored given one column (steps.columns + 1) (next + 1) tests either first.0.run first.1
    (SelectsHeld-later count stored steps one column (next + 1) tests first.0 held.1) in (
      GoesOn-then count stored steps one all.steps first.0 later.0,
      subst (Holds stored all.steps all.number) (places_where-same (λ row. either row || rest row) (λ row. test row || (accept row || rest row)) n (λ row below. or_assoc (test row) (accept row) (rest row))) later.1,
    )

-- # One condition

or_nothing : (b : Bool) → (b || false) ≡ b
or_nothing true = refl
or_nothing false = refl

any_none : (tests : List Test) → list_any (λ one_test. false) tests ≡ false
any_none [] = refl
any_none (one_test ∷ tests) = any_none tests

any_equal : (test : Test → Bool) (literals : List Literal) → list_any test (map (λ literal. equal literal) literals) ≡ list_any (λ literal. test (equal literal)) literals
any_equal test [] = refl
any_equal test (literal ∷ literals) = ap (λ b. test (equal literal) || b) (any_equal test literals)

meets_choices : (test : Test) (value : Literal) → list_any (λ one_test. meets one_test value) (choices_of test) ≡ meets test value
meets_choices (equal literal) value = or_nothing _
meets_choices (queries.below literal) value = or_nothing _
meets_choices (at_most literal) value = or_nothing _
meets_choices (queries.above literal) value = or_nothing _
meets_choices (at_least literal) value = or_nothing _
meets_choices (between low high) value = or_nothing _
meets_choices (one_of literals) value = any_equal (λ one_test. meets one_test value) literals

text_choices : (test : Test) (text : Option Text)
    → list_any (λ one_test. option_map_or (λ bytes. meets one_test (of_text bytes)) text false) (choices_of test) ≡ option_map_or (λ bytes. meets test (of_text bytes)) text false
text_choices test None = any_none (choices_of test)
text_choices test (Some bytes) = meets_choices test (of_text bytes)

-- a value meets a test exactly if it meets one of the tests of one literal that it is a choice of
met_choices : (texts : Option (List Text)) (test : Test) (value : ℕ) → list_any (λ one_test. is_met texts one_test value) (choices_of test) ≡ is_met texts test value
met_choices None test value = meets_choices test (of_number value)
met_choices (Some texts) test value = text_choices test (slice_get texts value)

-- the rows at which one condition holds
abbrev pub held_rows : StoredLists → Tested → List ℕ
held_rows stored condition = places_where (holds stored condition) (stored.rows condition.column.table)

-- the list of some tests on a column
abbrev list_of_tests : Steps → ColumnId → List Test → Made
list_of_tests steps column tests = add_unions (add_selects steps column tests) (steps.columns + 1) (steps.columns + 2) (drop 1 tests)

abbrev HasTests : ℕ → StoredLists → Steps → ColumnId → List Test → Type 0
HasTests count stored steps column tests =
    GoesOn count stored steps (list_of_tests steps column tests).steps
    × Holds stored (list_of_tests steps column tests).steps (list_of_tests steps column tests).number
    (places_where (λ row. list_any (λ one_test. accepts stored column one_test row) tests) (stored.rows column.table))

list_of_tests-holds : (count : ℕ) (stored : StoredLists) → HasLengths stored → (steps : Steps) (column : ColumnId) (test : Test) (more : List Test) → IsRun count stored steps
    → HasTests count stored steps column (test ∷ more)
list_of_tests-holds count stored given steps column test more run =
    let selected = add_selects steps column (test ∷ more) in
    let all = list_of_tests steps column (test ∷ more) in
    let first = add_selects-holds count stored given steps column (test ∷ more) run in
    let next : steps.columns + 1 + 1 ≡ steps.columns + 2 = omega arith in
    let rest = add_unions-holds count stored given selected column (steps.columns + 1) (steps.columns + 2) more
    (λ row. accepts stored column test row) first.0.run first.1.0
    (subst (λ k. SelectsHeld stored selected column k more) next first.1.1) in
    (GoesOn-then count stored steps selected all.steps first.0 rest.0, rest.1)

pub add_condition-holds : (count : ℕ) (stored : StoredLists) → HasLengths stored → (steps : Steps) (condition : Tested) → HasChoices condition → IsRun count stored steps
    → GoesOn count stored steps (add_condition steps condition).steps
    × Holds stored (add_condition steps condition).steps (add_condition steps condition).number (held_rows stored condition)
add_condition-holds count stored given steps condition chosen run =
    let column = condition.column in
    let n = stored.rows column.table in
    let all = add_condition steps condition in
    let made : HasTests count stored steps column (choices_of condition.test) =
    subst (HasTests count stored steps column) (sym chosen.2) (list_of_tests-holds count stored given steps column chosen.0 chosen.1 run) in (
      made.0,
      subst (Holds stored all.steps all.number)
          (places_where-same (λ row. list_any (λ one_test. accepts stored column one_test row) (choices_of condition.test)) (holds stored condition) n
          (λ row below. met_choices (stored.texts column) condition.test (value_at stored column row)))
          made.1,
    )

-- a running list combined with the rows that a test keeps is what the test keeps of it
pub combine-lists : (count : ℕ) (stored : StoredLists) (which : Option ℕ) (new : Made) (n : ℕ) (list : List ℕ) (test : ℕ → Bool)
    → IsRun count stored new.steps → n ≤ max_rows → IsPositions n list
    → Lists stored new.steps which n list → Holds stored new.steps new.number (places_where test n)
    → GoesOn count stored new.steps (combine which new).steps × Lists stored (combine which new).steps (combine which new).list n (filter test list)
combine-lists count stored None new n list test run short positions all holds =
    (GoesOn-refl count stored new.steps run, subst (λ l. Holds stored new.steps new.number (filter test l)) (sym all) holds)
combine-lists count stored (Some running) new n list test run short positions running_is holds =
    with_one-holds count stored new.steps (intersect running new.number) (filter test list) run
    (ap₂ (λ a b. lists.intersect a b ∷ []) running_is.is holds.is ∙ ap (λ l. l ∷ []) (intersect-where test n list positions.below))
    (made_number stored new.steps running _ running_is, made_number stored new.steps new.number _ holds, refl)
    (subst IsStrictlyIncreasing (sym running_is.is) positions.rising, subst IsStrictlyIncreasing (sym holds.is) (places_where-rise test n))
    (λ so_far.
    let less : length (filter test list) ≤ length list = length-filter-le test list in
    let long : length list ≤ max_rows = subst IsShortList running_is.is (column-short (columns_so_far stored new.steps) running so_far) in
    omega arith)

abbrev pub IsOn : ℕ → Tested → Type 0
IsOn table condition = condition.column.table ≡ table

pub add_conditions-lists : (count : ℕ) (stored : StoredLists) → HasLengths stored → (table : ℕ) (listed : Listed) (conditions : List Tested) (list : List ℕ)
    → IsRun count stored listed.steps → All HasChoices conditions → All (IsOn table) conditions → IsPositions (stored.rows table) list
    → Lists stored listed.steps listed.list (stored.rows table) list
    → GoesOn count stored listed.steps (add_conditions listed conditions).steps
    × Lists stored (add_conditions listed conditions).steps (add_conditions listed conditions).list (stored.rows table) (kept (holds stored) conditions list)
unfolding kept
add_conditions-lists count stored given table listed [] list run chosen on positions lists = (GoesOn-refl count stored listed.steps run, lists)
add_conditions-lists count stored given table listed (condition ∷ conditions) list run chosen on positions lists =
    let n = stored.rows table in
    let made = add_condition listed.steps condition in
    let next = combine listed.list made in
    let all = add_conditions next conditions in
    let new = add_condition-holds count stored given listed.steps condition (All-head HasChoices condition conditions chosen) run in
    let here : condition.column.table ≡ table = All-head (IsOn table) condition conditions on in
    let combined = combine-lists count stored listed.list made n list (holds stored condition) new.0.run (given.short table) positions
    (Lists-later count stored listed.steps made.steps listed.list n list new.0 lists)
    (subst (λ t. Holds stored made.steps made.number (places_where (holds stored condition) (stored.rows t))) here new.1) in
    let rest = add_conditions-lists count stored given table next conditions (filter (holds stored condition) list) combined.0.run
    (All-tail HasChoices condition conditions chosen) (All-tail (IsOn table) condition conditions on) (IsPositions-filter (holds stored condition) n list positions) combined.1 in
    (GoesOn-then count stored listed.steps made.steps all.steps new.0 (GoesOn-then count stored made.steps next.steps all.steps combined.0 rest.0), rest.1)

pub passing-positions : (binding : Binding) (stored : StoredLists) (table : ℕ) → IsPositions (stored.rows table) (passing_rows binding stored table)
passing-positions binding stored table = IsPositions-filter (passes binding stored table) (stored.rows table) (places (stored.rows table)) (IsPositions-places (stored.rows table))

-- a table's list is its rows at which all of its conditions hold
pub add_list-lists : (binding : Binding) (count : ℕ) (stored : StoredLists) → HasLengths stored → All HasChoices binding.tests → (steps : Steps) (table : ℕ) → IsRun count stored steps
    → GoesOn count stored steps (add_list steps binding table).steps
    × Lists stored (add_list steps binding table).steps (add_list steps binding table).list (stored.rows table) (passing_rows binding stored table)
add_list-lists binding count stored given chosen steps table run =
    let n = stored.rows table in
    let conditions = conditions_on table binding.tests in
    let start : Listed = record { steps = steps; list = None } in
    let all = add_list steps binding table in
    let made = add_conditions-lists count stored given table start conditions (places n) run
    (All-filter (λ condition. condition.column.table == table) HasChoices binding.tests chosen)
    (All-weaker (λ condition. (condition.column.table == table) ≡ true) (IsOn table) (λ condition h. (Decides-eqb condition.column.table table).0 h) conditions (filter_passes (λ condition. condition.column.table == table) binding.tests))
    (IsPositions-places n) refl in
    (made.0, subst (Lists stored all.steps all.list n) (kept-filter (holds stored) conditions (places n)) made.1)

-- a base column's values at a position list, all of it where there is none
pub add_values-reads : (count : ℕ) (stored : StoredLists) → HasLengths stored → (steps : Steps) (id : ColumnId) (which : Option ℕ) (list : List ℕ)
    → IsRun count stored steps → Lists stored steps which (stored.rows id.table) list → All (λ place. place < stored.rows id.table) list
    → GoesOn count stored steps (add_values steps id which).steps
    × Reads stored (add_values steps id which).steps (add_values steps id which).input (lists.values_at (stored.values id) list)
add_values-reads count stored given steps id None list run all below =
    (GoesOn-refl count stored steps run, sym (ap (lists.values_at (stored.values id)) all ∙ values_at-places (stored.values id) (stored.rows id.table) (given.lengths id)))
add_values-reads count stored given steps id (Some number) list run holds below =
    with_one-holds count stored steps (project (input.Base id) number) (lists.values_at (stored.values id) list) run
    (ap (λ l. lists.values_at (stored.values id) l ∷ []) holds.is)
    (_, made_number stored steps number _ holds, refl)
    (subst (λ l. All (λ place. place < length (stored.values id)) l) (sym holds.is) (subst (λ n. All (λ place. place < n) list) (sym (given.lengths id)) below))
    (λ short. subst (λ n. n ≤ max_rows) (ap length holds.is ∙ sym (length-map list (slice_index (stored.values id)))) (column-short (columns_so_far stored steps) number short))

-- a position list at places of it
pub add_places-holds : (count : ℕ) (stored : StoredLists) (steps : Steps) (which : Option ℕ) (n : ℕ) (list : List ℕ) (at : ℕ) (places_at : List ℕ)
    → IsRun count stored steps → Lists stored steps which n list → Holds stored steps at places_at → All (λ place. place < length list) places_at
    → GoesOn count stored steps (add_places steps which at).steps
    × Holds stored (add_places steps which at).steps (add_places steps which at).number (lists.values_at list places_at)
add_places-holds count stored steps None n list at places_at run all holds within = (
  GoesOn-refl count stored steps run,
  subst (Holds stored steps at)
      (sym (values_at-all n places_at (subst (λ m. All (λ place. place < m) places_at) (ap length all ∙ length-places n) within)) ∙ ap (λ l. lists.values_at l places_at) (sym all)) holds,
)
add_places-holds count stored steps (Some number) n list at places_at run list_is holds within =
    with_one-holds count stored steps (project (input.Made number) at) (lists.values_at list places_at) run
    (ap₂ (λ a b. lists.values_at a b ∷ []) list_is.is holds.is)
    (made_number stored steps number _ list_is, made_number stored steps at _ holds, refl)
    (subst (λ l. All (λ place. place < length l) (made_column (columns_so_far stored steps) at)) (sym list_is.is) (subst (All (λ place. place < length list)) (sym holds.is) within))
    (λ short. subst (λ n. n ≤ max_rows) (ap length holds.is ∙ sym (length-map places_at (slice_index list))) (column-short (columns_so_far stored steps) at short))
