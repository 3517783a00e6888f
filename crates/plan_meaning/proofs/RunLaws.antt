-- Running a plan so far: one operator more, and what earlier columns keep.
use Rattle.std.proofs.Common.{◌≡◌, ℕ, zero, suc, ◌+◌, ◌-◌, ◌<◌, ◌≤◌, Bool, true, false, cond, List, [], ◌∷◌, ◌++◌, map, length, get_or, refl, sym, ap, ◌∙◌, subst, All, arith, append_assoc, append-nil, length-append}
use Rattle.std.specs.Prelude.{Option, Some, None, ⊤}
use Rattle.std.proofs.lemmas.List.{get_or_append_left, get_or_at, get_or_past}
use Rattle.std.proofs.lemmas.List.Elements.{All-append, All-cons, All-nil, All-get_or}
use Rattle.plan_core.specs.declared.plans.Input.TheVariants as input
use Rattle.definitions_operators.specs.Operators.{has}
use Rattle.plan_core.specs.declared.plans.Input.{Input}
use Rattle.plan_core.specs.Plans.{Operator, Steps}
use Rattle.plan_core.specs.Planner.{no_steps, with_one, with_two}
use Rattle.plan_meaning.specs.StoredLists.{StoredLists, holds}
use Rattle.plan_meaning.specs.Columns.{column, made_column, columns_after, input_of, is_too_large, outputs, too_large_from}
use Rattle.plan_meaning.specs.Operands.{CanRun, HasOperands, IsMade, IsNumbered, IsReadable, IsShortList, MetSoFar}
use Rattle.plan_meaning.proofs.Matched.{Holds, Lists, Reads}

abbrev pub columns_so_far : StoredLists → Steps → List (List ℕ)
columns_so_far stored steps = columns_after stored [] steps.operators

-- no Join has too many pairs
abbrev pub NoneTooLarge : StoredLists → List (List ℕ) → List Operator → Type 0
NoneTooLarge stored columns [] = ⊤
NoneTooLarge stored columns (operator ∷ operators) =
    (is_too_large stored columns operator ≡ false) × NoneTooLarge stored (columns ++ outputs stored columns operator) operators

pub columns_after-more : (stored : StoredLists) (columns : List (List ℕ)) (operators : List Operator) (operator : Operator)
    → columns_after stored columns (operators ++ operator ∷ []) ≡ columns_after stored columns operators ++ outputs stored (columns_after stored columns operators) operator
columns_after-more stored columns [] operator = refl
columns_after-more stored columns (first ∷ operators) operator = columns_after-more stored (columns ++ outputs stored columns first) operators operator

MetSoFar-more : (count : ℕ) (stored : StoredLists) (columns : List (List ℕ)) (operators : List Operator) (operator : Operator)
    → MetSoFar count stored columns operators
    → CanRun count stored (columns_after stored columns operators) operator
    → (NoneTooLarge stored columns operators → is_too_large stored (columns_after stored columns operators) operator ≡ false
    → All IsShortList (outputs stored (columns_after stored columns operators) operator))
    → MetSoFar count stored columns (operators ++ operator ∷ [])
MetSoFar-more count stored columns [] operator met can short = (can, λ small. (short _ small, _))
MetSoFar-more count stored columns (first ∷ operators) operator met can short = (
  met.0,
  λ small.
      let rest = met.1 small in
      (rest.0, MetSoFar-more count stored (columns ++ outputs stored columns first) operators operator rest.1 can (λ none. short (small, none))),
)

NoneTooLarge-less : (stored : StoredLists) (columns : List (List ℕ)) (operators : List Operator) (operator : Operator)
    → NoneTooLarge stored columns (operators ++ operator ∷ [])
    → NoneTooLarge stored columns operators × (is_too_large stored (columns_after stored columns operators) operator ≡ false)
NoneTooLarge-less stored columns [] operator fit = (_, fit.0)
NoneTooLarge-less stored columns (first ∷ operators) operator fit =
    let rest = NoneTooLarge-less stored (columns ++ outputs stored columns first) operators operator fit.1 in
    ((fit.0, rest.0), rest.1)

none_from_cond : (b : Bool) (number : ℕ) (rest : Option ℕ) → cond b (Some number) rest ≡ None → (b ≡ false) × (rest ≡ None)
none_from_cond true number rest none = absurd (cc)
none_from_cond false number rest none = (refl, none)

-- a plan without a Join that is too large
pub NoneTooLarge-from : (stored : StoredLists) (columns : List (List ℕ)) (number : ℕ) (operators : List Operator)
    → too_large_from stored columns number operators ≡ None → NoneTooLarge stored columns operators
NoneTooLarge-from stored columns number [] none = _
NoneTooLarge-from stored columns number (operator ∷ operators) none =
    let rest = columns ++ outputs stored columns operator in
    let split = none_from_cond (is_too_large stored columns operator) number (too_large_from stored rest (number + 1) operators) none in
    (split.0, NoneTooLarge-from stored rest (number + 1) operators split.1)

-- the columns have their numbers, all conditions are met up to the first Join that is too large, and no list before it is too long
pub record IsRun (count : ℕ) (stored : StoredLists) (steps : Steps) : Type 0 where
  pub numbered : length (columns_so_far stored steps) ≡ steps.columns
  pub met : MetSoFar count stored [] steps.operators
  pub short : NoneTooLarge stored [] steps.operators → All IsShortList (columns_so_far stored steps)

-- what columns hold they hold later
pub record Keeps (stored : StoredLists) (before after : Steps) : Type 0 where
  pub more : before.columns ≤ after.columns
  pub same : (number : ℕ) → 1 ≤ number → number ≤ before.columns → column stored after.operators number ≡ column stored before.operators number

-- a plan goes on
pub record GoesOn (count : ℕ) (stored : StoredLists) (before after : Steps) : Type 0 where
  pub run : IsRun count stored after
  pub keeps : Keeps stored before after

pub GoesOn-refl : (count : ℕ) (stored : StoredLists) (steps : Steps) → IsRun count stored steps → GoesOn count stored steps steps
GoesOn-refl count stored steps run = record { run = run; keeps = record { more = omega arith; same = λ number from below. refl } }

pub GoesOn-then : (count : ℕ) (stored : StoredLists) (a b c : Steps) → GoesOn count stored a b → GoesOn count stored b c → GoesOn count stored a c
GoesOn-then count stored a b c first next = record {
  run = next.run;
  keeps = record {
    more = let h = first.keeps.more in let k = next.keeps.more in omega arith;
    same = λ number from below. next.keeps.same number from (let h = first.keeps.more in omega arith) ∙ first.keeps.same number from below;
  };
}

pub Holds-later : (count : ℕ) (stored : StoredLists) (a b : Steps) (number : ℕ) (list : List ℕ) → GoesOn count stored a b → Holds stored a number list → Holds stored b number list
Holds-later count stored a b number list on holds = record {
  from = holds.from;
  made = let h = on.keeps.more in let k = holds.made in omega arith;
  is = on.keeps.same number holds.from holds.made ∙ holds.is;
}

pub Reads-later : (count : ℕ) (stored : StoredLists) (a b : Steps) (input : Input) (list : List ℕ) → GoesOn count stored a b → Reads stored a input list → Reads stored b input list
Reads-later count stored a b (input.Base id) list on reads = reads
Reads-later count stored a b (input.Made number) list on reads = Holds-later count stored a b number list on reads

pub Lists-later : (count : ℕ) (stored : StoredLists) (a b : Steps) (which : Option ℕ) (rows : ℕ) (list : List ℕ) → GoesOn count stored a b → Lists stored a which rows list → Lists stored b which rows list
Lists-later count stored a b None rows list on lists = lists
Lists-later count stored a b (Some number) rows list on lists = Holds-later count stored a b number list on lists

pub Reads-is : (stored : StoredLists) (steps : Steps) (input : Input) (list : List ℕ) → Reads stored steps input list → input_of stored (columns_so_far stored steps) input ≡ list
Reads-is stored steps (input.Base id) list reads = reads
Reads-is stored steps (input.Made number) list reads = reads.is

pub IsRun-none : (count : ℕ) (stored : StoredLists) → IsRun count stored no_steps
IsRun-none count stored = record { numbered = refl; met = _; short = λ fit. All-nil IsShortList }

pub column-short : (columns : List (List ℕ)) (number : ℕ) → All IsShortList columns → IsShortList (made_column columns number)
column-short columns number all =
    elim (Rattle.std.proofs.lemmas.Bool.cases_lt (number - 1) (length columns)) [
      | Rattle.std.proofs.Common.inl within ↦ All-get_or IsShortList columns (number - 1) [] within all
      | Rattle.std.proofs.Common.inr past ↦ subst IsShortList (sym (get_or_past columns (number - 1) [] past)) (omega arith)
    ]

-- what holds a list is one of the columns made so far
pub made_number : (stored : StoredLists) (steps : Steps) (number : ℕ) (list : List ℕ) → Holds stored steps number list → IsMade steps.columns number
made_number stored steps number list holds = (holds.from, holds.made)

pub made_input : (stored : StoredLists) (steps : Steps) (input : Input) (list : List ℕ) → Reads stored steps input list → IsReadable steps.columns input
made_input stored steps (input.Base id) list reads = _
made_input stored steps (input.Made number) list reads = made_number stored steps number list reads

-- any operator more
grown : (count : ℕ) (stored : StoredLists) (steps : Steps) (operator : Operator) (news : List (List ℕ)) (columns : ℕ)
    → IsRun count stored steps
    → outputs stored (columns_so_far stored steps) operator ≡ news
    → columns ≡ steps.columns + length news
    → IsNumbered steps.columns operator
    → HasOperands count stored (columns_so_far stored steps) operator
    → (is_too_large stored (columns_so_far stored steps) operator ≡ false → All IsShortList (columns_so_far stored steps) → All IsShortList news)
    → GoesOn count stored steps (record { operators = steps.operators ++ operator ∷ []; columns = columns })
grown count stored steps operator news columns run gives many number has short =
    let so_far = columns_so_far stored steps in
    let all : columns_after stored [] (steps.operators ++ operator ∷ []) ≡ so_far ++ news =
    columns_after-more stored [] steps.operators operator ∙ ap (λ l. so_far ++ l) gives in
    record {
      run = record {
        numbered = ap length all ∙ length-append so_far news ∙ (let h = run.numbered in omega arith);
        met = MetSoFar-more count stored [] steps.operators operator run.met
            (record { numbered = subst (λ n. IsNumbered n operator) (sym run.numbered) number; operands = has })
            (λ fit small. subst (All IsShortList) (sym gives) (short small (run.short fit)));
        short = λ fit.
            let less = NoneTooLarge-less stored [] steps.operators operator fit in
            subst (All IsShortList) (sym all) (All-append IsShortList so_far news (run.short less.0) (short less.1 (run.short less.0)));
      };
      keeps = record {
        more = omega arith;
        same = λ number from below.
            ap (λ l. made_column l number) all
            ∙ get_or_append_left so_far news [] (number - 1) (let h = run.numbered in omega arith);
      };
    }

-- an operator with one output more
pub with_one-holds : (count : ℕ) (stored : StoredLists) (steps : Steps) (operator : ℕ → Operator) (list : List ℕ)
    → IsRun count stored steps
    → outputs stored (columns_so_far stored steps) (operator (steps.columns + 1)) ≡ list ∷ []
    → IsNumbered steps.columns (operator (steps.columns + 1))
    → HasOperands count stored (columns_so_far stored steps) (operator (steps.columns + 1))
    → (All IsShortList (columns_so_far stored steps) → IsShortList list)
    → GoesOn count stored steps (with_one steps operator) × Holds stored (with_one steps operator) (steps.columns + 1) list
with_one-holds count stored steps operator list run gives number has short =
    let so_far = columns_so_far stored steps in
    let long : length so_far ≡ steps.columns = run.numbered in (
      grown count stored steps (operator (steps.columns + 1)) (list ∷ []) (steps.columns + 1) run gives refl number has (λ fit all. All-cons IsShortList list [] (short all) (All-nil IsShortList)),
      record {
        from = omega arith;
        made = omega arith;
        is = ap (λ l. made_column l (steps.columns + 1)) (columns_after-more stored [] steps.operators (operator (steps.columns + 1)) ∙ ap (λ l. so_far ++ l) gives)
            ∙ get_or_at so_far list [] [] (steps.columns + 1 - 1) (omega arith);
      },
    )

-- a Join more: two outputs, which are not too long where it is not too large
pub with_two-holds : (count : ℕ) (stored : StoredLists) (steps : Steps) (operator : ℕ → ℕ → Operator) (left right : List ℕ)
    → IsRun count stored steps
    → outputs stored (columns_so_far stored steps) (operator (steps.columns + 1) (steps.columns + 2)) ≡ left ∷ right ∷ []
    → IsNumbered steps.columns (operator (steps.columns + 1) (steps.columns + 2))
    → HasOperands count stored (columns_so_far stored steps) (operator (steps.columns + 1) (steps.columns + 2))
    → (is_too_large stored (columns_so_far stored steps) (operator (steps.columns + 1) (steps.columns + 2)) ≡ false → All IsShortList (columns_so_far stored steps) → IsShortList left × IsShortList right)
    → GoesOn count stored steps (with_two steps operator)
    × Holds stored (with_two steps operator) (steps.columns + 1) left
    × Holds stored (with_two steps operator) (steps.columns + 2) right
with_two-holds count stored steps operator left right run gives number has short =
    let so_far = columns_so_far stored steps in
    let long : length so_far ≡ steps.columns = run.numbered in
    let all : columns_so_far stored (with_two steps operator) ≡ so_far ++ left ∷ right ∷ [] =
    columns_after-more stored [] steps.operators (operator (steps.columns + 1) (steps.columns + 2)) ∙ ap (λ l. so_far ++ l) gives in (
      grown count stored steps (operator (steps.columns + 1) (steps.columns + 2)) (left ∷ right ∷ []) (steps.columns + 2) run gives refl number has
          (λ fit all. let both = short fit all in All-cons IsShortList left (right ∷ []) both.0 (All-cons IsShortList right [] both.1 (All-nil IsShortList))),
      record {
        from = omega arith;
        made = omega arith;
        is = ap (λ l. made_column l (steps.columns + 1)) all ∙ get_or_at so_far left (right ∷ []) [] (steps.columns + 1 - 1) (omega arith);
      },
      record {
        from = omega arith;
        made = omega arith;
        is = ap (λ l. made_column l (steps.columns + 2)) (all ∙ sym (append_assoc so_far (left ∷ []) (right ∷ [])))
            ∙ get_or_at (so_far ++ left ∷ []) right [] [] (steps.columns + 2 - 1) (length-append so_far (left ∷ []) ∙ (omega arith));
      },
    )
