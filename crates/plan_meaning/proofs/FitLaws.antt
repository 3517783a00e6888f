-- Steps without a Join keep that no Join is too large.
use Rattle.std.proofs.Common.{◌≡◌, ℕ, ◌+◌, ◌≤◌, false, cond, List, [], ◌∷◌, ◌++◌, length, refl, sym, ap, ◌∙◌, subst, All, arith, length-append}
use Rattle.std.specs.Prelude.{Option, Some, None, nat_lt, flat_map, drop}
use Rattle.std.proofs.lemmas.Bool.Decides.{nat_tests}
use Rattle.plan_core.specs.declared.plans.Input.TheVariants as input
use Rattle.definitions_queries.specs.Queries.{Test}
use Rattle.catalog_core.specs.declared.columns.ColumnId.{ColumnId}
use Rattle.query_bind.specs.Binding.{Binding, Tested}
use Rattle.query_bind.specs.declared.bounds.JoinTo.{JoinTo}
use Rattle.plan_core.specs.declared.plans.Input.{Input}
use Rattle.plan_core.specs.Plans.{Operator, Steps, intersect, project, select, semi_join, union}
use Rattle.plan_core.specs.Planner.{Dimension, Listed, Made, RowList, add_condition, add_conditions, add_dimensions, add_list, add_places, add_row_lists, add_selects, add_semi_joins, add_unions, add_values, choices_of, combine, conditions_on, make_one, with_one, with_two}
use Rattle.plan_meaning.specs.StoredLists.{StoredLists}
use Rattle.definitions_blocks.specs.Columns.{max_rows}
use Rattle.plan_meaning.specs.Columns.{column, columns_after, input_of, is_too_large, outputs, too_large_from}
use Rattle.plan_meaning.specs.Operands.{IsShortList}
use Rattle.plan_meaning.proofs.Matched.{HasLengths}
use Rattle.plan_meaning.proofs.RunLaws.{NoneTooLarge, column-short, columns_so_far}

-- no Join so far is too large
abbrev pub Fits : StoredLists → Steps → Type 0
Fits stored steps = NoneTooLarge stored [] steps.operators

NoneTooLarge-more : (stored : StoredLists) (columns : List (List ℕ)) (operators : List Operator) (operator : Operator)
    → NoneTooLarge stored columns operators → is_too_large stored (columns_after stored columns operators) operator ≡ false
    → NoneTooLarge stored columns (operators ++ operator ∷ [])
NoneTooLarge-more stored columns [] operator fits last = (last, _)
NoneTooLarge-more stored columns (first ∷ operators) operator fits last =
    (fits.0, NoneTooLarge-more stored (columns ++ outputs stored columns first) operators operator fits.1 last)

pub Fits-one : (stored : StoredLists) (steps : Steps) (operator : ℕ → Operator) → is_too_large stored (columns_so_far stored steps) (operator (steps.columns + 1)) ≡ false
    → Fits stored steps → Fits stored (with_one steps operator)
Fits-one stored steps operator small fits = NoneTooLarge-more stored [] steps.operators (operator (steps.columns + 1)) fits small

pub Fits-two : (stored : StoredLists) (steps : Steps) (operator : ℕ → ℕ → Operator) → is_too_large stored (columns_so_far stored steps) (operator (steps.columns + 1) (steps.columns + 2)) ≡ false
    → Fits stored steps → Fits stored (with_two steps operator)
Fits-two stored steps operator small fits = NoneTooLarge-more stored [] steps.operators (operator (steps.columns + 1) (steps.columns + 2)) fits small

Fits-selects : (stored : StoredLists) (steps : Steps) (column : ColumnId) (tests : List Test) → Fits stored steps → Fits stored (add_selects steps column tests)
Fits-selects stored steps column [] fits = fits
Fits-selects stored steps column (one_test ∷ tests) fits = Fits-selects stored (with_one steps (select column one_test)) column tests (Fits-one stored steps (select column one_test) refl fits)

Fits-unions : (stored : StoredLists) (steps : Steps) (running next : ℕ) (tests : List Test) → Fits stored steps → Fits stored (add_unions steps running next tests).steps
Fits-unions stored steps running next [] fits = fits
Fits-unions stored steps running next (one_test ∷ tests) fits =
    Fits-unions stored (with_one steps (union running next)) (steps.columns + 1) (next + 1) tests (Fits-one stored steps (union running next) refl fits)

Fits-condition : (stored : StoredLists) (steps : Steps) (condition : Tested) → Fits stored steps → Fits stored (add_condition steps condition).steps
Fits-condition stored steps condition fits =
    let all = choices_of condition.test in
    Fits-unions stored (add_selects steps condition.column all) (steps.columns + 1) (steps.columns + 2) (drop 1 all) (Fits-selects stored steps condition.column all fits)

Fits-combine : (stored : StoredLists) (which : Option ℕ) (new : Made) → Fits stored new.steps → Fits stored (combine which new).steps
Fits-combine stored None new fits = fits
Fits-combine stored (Some running) new fits = Fits-one stored new.steps (intersect running new.number) refl fits

Fits-conditions : (stored : StoredLists) (listed : Listed) (conditions : List Tested) → Fits stored listed.steps → Fits stored (add_conditions listed conditions).steps
Fits-conditions stored listed [] fits = fits
Fits-conditions stored listed (condition ∷ conditions) fits =
    Fits-conditions stored (combine listed.list (add_condition listed.steps condition)) conditions
    (Fits-combine stored listed.list (add_condition listed.steps condition) (Fits-condition stored listed.steps condition fits))

pub Fits-list : (stored : StoredLists) (steps : Steps) (binding : Binding) (table : ℕ) → Fits stored steps → Fits stored (add_list steps binding table).steps
Fits-list stored steps binding table fits = Fits-conditions stored (record { steps = steps; list = None }) (conditions_on table binding.tests) fits

pub Fits-values : (stored : StoredLists) (steps : Steps) (id : ColumnId) (which : Option ℕ) → Fits stored steps → Fits stored (add_values steps id which).steps
Fits-values stored steps id None fits = fits
Fits-values stored steps id (Some list) fits = Fits-one stored steps (project (input.Base id) list) refl fits

pub Fits-places : (stored : StoredLists) (steps : Steps) (which : Option ℕ) (at : ℕ) → Fits stored steps → Fits stored (add_places steps which at).steps
Fits-places stored steps None at fits = fits
Fits-places stored steps (Some list) at fits = Fits-one stored steps (project (input.Made list) at) refl fits

pub Fits-dimensions : (stored : StoredLists) (steps : Steps) (binding : Binding) (joins : List JoinTo) (done : List Dimension) → Fits stored steps → Fits stored (add_dimensions steps binding joins done).steps
Fits-dimensions stored steps binding [] done fits = fits
Fits-dimensions stored steps binding (to ∷ joins) done fits =
    let listed = add_list steps binding to.key.table in
    let read = add_values listed.steps to.key listed.list in
    Fits-dimensions stored read.steps binding joins (done ++ record { to = to; list = listed.list; keys = read.input } ∷ [])
    (Fits-values stored listed.steps to.key listed.list (Fits-list stored steps binding to.key.table fits))

pub Fits-semi_joins : (stored : StoredLists) (listed : Listed) (dimensions : List Dimension) → Fits stored listed.steps → Fits stored (add_semi_joins listed dimensions).steps
Fits-semi_joins stored listed [] fits = fits
Fits-semi_joins stored listed (dimension ∷ dimensions) fits =
    let one = make_one listed.steps (semi_join dimension.to.fact_column dimension.keys) in
    Fits-semi_joins stored (combine listed.list one) dimensions
    (Fits-combine stored listed.list one (Fits-one stored listed.steps (semi_join dimension.to.fact_column dimension.keys) refl fits))

pub Fits-row_lists : (stored : StoredLists) (steps : Steps) (done lists : List RowList) (left : ℕ) → Fits stored steps → Fits stored (add_row_lists steps done lists left).steps
Fits-row_lists stored steps done [] left fits = fits
Fits-row_lists stored steps done (rows ∷ lists) left fits =
    Fits-row_lists stored (with_one steps (project (input.Made rows.number) left)) (done ++ record { table = rows.table; number = steps.columns + 1 } ∷ []) lists left
    (Fits-one stored steps (project (input.Made rows.number) left) refl fits)

-- a list of at most one item each is no longer
pub length-flat_map-alone : {A B : Type 0} (f : A → List B) → ((x : A) → length (f x) ≤ 1) → (xs : List A) → length (flat_map f xs) ≤ length xs
length-flat_map-alone f alone [] = omega arith
length-flat_map-alone f alone (x ∷ xs) =
    let here : length (f x) ≤ 1 = alone x in
    let rest : length (flat_map f xs) ≤ length xs = length-flat_map-alone f alone xs in
    omega (arith, length-append (f x) (flat_map f xs))

pub input-short : (stored : StoredLists) → HasLengths stored → (columns : List (List ℕ)) (input : Input) → All IsShortList columns → IsShortList (input_of stored columns input)
input-short stored given columns (input.Base id) all = subst (λ n. n ≤ max_rows) (sym (given.lengths id)) (given.short id.table)
input-short stored given columns (input.Made number) all = column-short columns number all

pub small_enough : (n : ℕ) → n ≤ max_rows → nat_lt max_rows n ≡ false
small_enough n fits = grind (arith, nat_tests)

too_large-none : (stored : StoredLists) (columns : List (List ℕ)) (number : ℕ) (operators : List Operator) → NoneTooLarge stored columns operators → too_large_from stored columns number operators ≡ None
too_large-none stored columns number [] fits = refl
too_large-none stored columns number (operator ∷ operators) fits =
    let rest = columns ++ outputs stored columns operator in
    ap (λ b. cond b (Some number) (too_large_from stored rest (number + 1) operators)) fits.0 ∙ too_large-none stored rest (number + 1) operators fits.1

pub Fits-none : (stored : StoredLists) (steps : Steps) → Fits stored steps → too_large_from stored [] 1 steps.operators ≡ None
Fits-none stored steps fits = too_large-none stored [] 1 steps.operators fits
