-- A plan's sums stand in the order of SELECT, no operator reads one, and its last operators make the keys.
use Rattle.std.proofs.Common.{◌≡◌, ℕ, ◌+◌, ◌-◌, ◌≤◌, Bool, true, false, cond, List, [], ◌∷◌, ◌++◌, map, drop, length, refl, sym, ap, ap₂, ◌∙◌, subst, All, arith, append_assoc, append-nil, length-append}
use Rattle.std.specs.Prelude.{◌||◌, ◌==◌, Option, Some, None, ⊤, option_map}
use Rattle.std.specs.List.{list_any}
use Rattle.std.proofs.lemmas.Bool.Decides.{nat_tests}
use Rattle.std.proofs.lemmas.List.{drop_at, length-map}
use Rattle.std.proofs.lemmas.List.Folds.{list_any-append, list_any_none}
use Rattle.std.proofs.lemmas.List.Elements.{All-nil, All-cons, All-head, All-tail, All-append, All-weaker}
use Rattle.catalog_core.specs.declared.columns.ColumnId.{ColumnId}
use Rattle.catalog_core.specs.declared.schemas.Schema.{Schema}
use Rattle.query_bind.specs.Binding.{Binding}
use Rattle.query_bind.specs.declared.bounds.SumOf.{SumOf}
use Rattle.query_bind.specs.declared.bounds.SumOf.TheVariants as operand
use Rattle.plan_core.specs.declared.plans.Input.{Input}
use Rattle.plan_core.specs.declared.plans.Input.TheVariants as input
use Rattle.plan_core.specs.declared.plans.SumPlace.{SumPlace}
use Rattle.plan_core.specs.Plans.{Operator, select, union, intersect, project, semi_join, join, group, refine, sum, sum_product, Steps}
use Rattle.plan_core.specs.Planner.{with_one, add_values, RowList, Rows, plan_rows, number_of, add_column}
use Rattle.plan_core.specs.WholePlan.{Grouped, Groups, add_groups, Sums, add_sum, add_sums, Keys, add_keys, keys_at, plan_of}
use Rattle.plan_meaning.specs.Shapes.{NeedsInput, input_numbers, id_numbers, numbers_read, SumLabel, label_of, labels_of, second_label, labels_from, is_sum_column, ReadNoSums, is_sum, projected}
use Rattle.plan_meaning.proofs.NeededLaws.{needs_all}
use Rattle.plan_meaning.proofs.StepLaws.{AreRanges, groups-keep}
use Rattle.plan_meaning.proofs.StepLaws.{AreRanges, groups-keep}
use Rattle.plan_meaning.proofs.OrderLaws.{HasNoSum, AllowsNoSum, no_sum-more, rows-no_sum}
use Rattle.plan_meaning.proofs.NumberLaws.{IsLow, IsLowInput, AreLowGroups, AreLow}
use Rattle.std.proofs.lemmas.List.{drop_all}

-- # Labels

unlabelled : (operator : Operator) → is_sum operator ≡ false → label_of operator ≡ []
unlabelled (select id test out) none = refl
unlabelled (union left right out) none = refl
unlabelled (intersect left right out) none = refl
unlabelled (project values places out) none = refl
unlabelled (semi_join probe keys out) none = refl
unlabelled (join probe keys left right) none = refl
unlabelled (group values ids extents) none = refl
unlabelled (refine before values ids extents) none = refl
unlabelled (sum values ids out number operand) none = absurd (cc)
unlabelled (sum_product first second ids out number) none = absurd (cc)

or_first : (a b : Bool) → (a || b) ≡ false → a ≡ false
or_first true b h = absurd (cc)
or_first false b h = refl

or_second : (a b : Bool) → (a || b) ≡ false → b ≡ false
or_second true b h = absurd (cc)
or_second false b h = h

labels-none : (operators : List Operator) → list_any is_sum operators ≡ false → labels_of operators ≡ []
labels-none [] none = refl
labels-none (operator ∷ operators) none =
    ap₂ (λ (a b : List SumLabel). a ++ b) (unlabelled operator (or_first (is_sum operator) (list_any is_sum operators) none))
    (labels-none operators (or_second (is_sum operator) (list_any is_sum operators) none))

labels-more : (operators : List Operator) (operator : Operator) → labels_of (operators ++ operator ∷ []) ≡ labels_of operators ++ label_of operator
labels-more [] operator = append-nil (label_of operator)
labels-more (first ∷ operators) operator =
    ap (λ (l : List SumLabel). label_of first ++ l) (labels-more operators operator) ∙ sym (append_assoc (label_of first) (labels_of operators) (label_of operator))

-- groups have no sums before them
pub groups-no_sum : (schema : Schema) (binding : Binding) → All (AreRanges schema) binding.tests
    → (let rows = plan_rows binding schema in HasNoSum schema binding (add_groups binding rows (record { steps = rows.steps; last = None; values = [] }) binding.groups).steps)
groups-no_sum schema binding ranged =
    let rows = plan_rows binding schema in
    (groups-keep schema binding ranged (AllowsNoSum schema binding) (HasNoSum schema binding) (λ operator is. (is.0, is.2))
    (λ steps operator allowed has. no_sum-more schema binding steps.operators (steps.columns + 1) (operator (steps.columns + 1)) steps.columns allowed has)
    (λ steps operator allowed has. no_sum-more schema binding steps.operators (steps.columns + 2) (operator (steps.columns + 1) (steps.columns + 2)) steps.columns allowed has)
    rows (record { steps = rows.steps; last = None; values = [] }) binding.groups (needs_all binding).groups (All-nil (NeedsInput binding)) (rows-no_sum schema binding ranged)).0

abbrev labels_so_far : Steps → List SumLabel
labels_so_far steps = labels_of steps.operators

values-labels : (steps : Steps) (id : ColumnId) (which : Option ℕ) → labels_so_far (add_values steps id which).steps ≡ labels_so_far steps
values-labels steps id None = refl
values-labels steps id (Some list) = labels-more steps.operators (project (input.Base id) list (steps.columns + 1)) ∙ append-nil (labels_so_far steps)

abbrev which_of : Binding → Rows → ColumnId → Option ℕ
which_of binding rows id = cond (binding.fact == id.table) rows.facts (number_of id.table rows.lists)

abbrev labels_at : ℕ → SumPlace → List SumLabel
labels_at number place = record { number = number; operand = 1; out = place.first } ∷ second_label number place.second

sum-labels : (binding : Binding) (steps : Steps) (rows : Rows) (ids : Option ℕ) (number : ℕ) (what : SumOf)
    → (let summed = add_sum steps binding rows ids number what in labels_so_far summed.steps ≡ labels_so_far steps ++ labels_at number summed.place)
sum-labels binding steps rows ids number (operand.Plain id) =
    let read = add_column steps binding rows id in
    let operator = sum read.input ids (read.steps.columns + 1) number 1 in
    labels-more read.steps.operators operator ∙ ap (λ l. l ++ label_of operator) (values-labels steps id (which_of binding rows id))
sum-labels binding steps rows ids number (operand.Product left right) =
    let first = add_column steps binding rows left in
    let second = add_column first.steps binding rows right in
    let operator = sum_product first.input second.input ids (second.steps.columns + 1) number in
    labels-more second.steps.operators operator
    ∙ ap (λ l. l ++ label_of operator) (values-labels first.steps right (which_of binding rows right) ∙ values-labels steps left (which_of binding rows left))
sum-labels binding steps rows ids number (operand.Difference left right) =
    let first = add_column steps binding rows left in
    let second = add_column first.steps binding rows right in
    let minuend = sum first.input ids (second.steps.columns + 1) number 1 in
    let one = with_one second.steps (λ out. sum first.input ids out number 1) in
    let subtrahend = sum second.input ids (one.columns + 1) number 2 in
    labels-more one.operators subtrahend
    ∙ ap (λ l. l ++ label_of subtrahend)
    (labels-more second.steps.operators minuend
    ∙ ap (λ l. l ++ label_of minuend) (values-labels first.steps right (which_of binding rows right) ∙ values-labels steps left (which_of binding rows left)))
    ∙ append_assoc (labels_so_far steps) (label_of minuend) (label_of subtrahend)

labels_from-push : (number : ℕ) (places : List SumPlace) (place : SumPlace) → labels_from number (places ++ place ∷ []) ≡ labels_from number places ++ labels_at (number + length places) place
labels_from-push number [] place =
    append-nil (labels_at number place) ∙ ap (λ n. labels_at n place) (let h : number ≡ number + 0 = omega arith in h)
labels_from-push number (first ∷ places) place =
    ap (λ (l : List SumLabel). labels_at number first ++ l)
    (labels_from-push (number + 1) places place ∙ ap (λ n. labels_from (number + 1) places ++ labels_at n place) (let h : number + 1 + length places ≡ number + length (first ∷ places) = omega arith in h))
    ∙ sym (append_assoc (labels_at number first) (labels_from (number + 1) places) (labels_at (number + length (first ∷ places)) place))

sums-labels : (binding : Binding) (rows : Rows) (ids : Option ℕ) (number : ℕ) (sums : Sums) (todo : List SumOf) → number ≡ 1 + length sums.places
    → labels_so_far sums.steps ≡ labels_from 1 sums.places
    → (let all = add_sums binding rows ids number sums todo in labels_so_far all.steps ≡ labels_from 1 all.places)
sums-labels binding rows ids number sums [] at before = before
sums-labels binding rows ids number sums (what ∷ todo) at before =
    let summed = add_sum sums.steps binding rows ids number what in
    let next : Sums = record { steps = summed.steps; places = sums.places ++ summed.place ∷ [] } in
    sums-labels binding rows ids (number + 1) next todo (let h : length (sums.places ++ summed.place ∷ []) ≡ length sums.places + 1 = length-append sums.places (summed.place ∷ []) in omega arith)
    (sum-labels binding sums.steps rows ids number what
    ∙ ap₂ (λ (l : List SumLabel) (n : ℕ). l ++ labels_at n summed.place) before at
    ∙ sym (labels_from-push 1 sums.places summed.place))

keys-labels : (extents : ℕ) (keys : Keys) (values : List Input) → labels_so_far (add_keys extents keys values).steps ≡ labels_so_far keys.steps
keys-labels extents keys [] = refl
keys-labels extents keys (value ∷ values) =
    keys-labels extents (record { steps = with_one keys.steps (project value extents); keys = keys.keys ++ (keys.steps.columns + 1) ∷ [] }) values
    ∙ labels-more keys.steps.operators (project value extents (keys.steps.columns + 1)) ∙ append-nil (labels_so_far keys.steps)

keys_at-labels : (last : Option Grouped) (steps : Steps) (values : List Input) → labels_so_far (keys_at last steps values).steps ≡ labels_so_far steps
keys_at-labels None steps values = refl
keys_at-labels (Some last) steps values = keys-labels last.extents (record { steps = steps; keys = [] }) values

pub whole-labels : (schema : Schema) (binding : Binding) → All (AreRanges schema) binding.tests → (let plan = plan_of binding schema in labels_of plan.operators ≡ labels_from 1 plan.sums)
whole-labels schema binding ranged =
    let rows = plan_rows binding schema in
    let start : Groups = record { steps = rows.steps; last = None; values = [] } in
    let groups = add_groups binding rows start binding.groups in
    let ids = option_map (λ (last : Grouped). last.ids) groups.last in
    let no_sums : Sums = record { steps = groups.steps; places = [] } in
    let sums = add_sums binding rows ids 1 no_sums binding.sums in
    keys_at-labels groups.last sums.steps groups.values
    ∙ sums-labels binding rows ids 1 no_sums binding.sums refl (labels-none groups.steps.operators (groups-no_sum schema binding ranged).none)

-- # The last operators

record EndsIn (keys : Keys) (after : Keys) : Type 0 where
  news : List Operator
  numbers : List ℕ
  operators : after.steps.operators ≡ keys.steps.operators ++ news
  made : map projected news ≡ map (λ key. Some key) numbers
  keys_are : after.keys ≡ keys.keys ++ numbers

keys-end : (extents : ℕ) (keys : Keys) (values : List Input) → EndsIn keys (add_keys extents keys values)
keys-end extents keys [] = record { news = []; numbers = []; operators = sym (append-nil keys.steps.operators); made = refl; keys_are = sym (append-nil keys.keys) }
keys-end extents keys (value ∷ values) =
    let operator = project value extents (keys.steps.columns + 1) in
    let number = keys.steps.columns + 1 in
    let next : Keys = record { steps = with_one keys.steps (project value extents); keys = keys.keys ++ number ∷ [] } in
    let rest = keys-end extents next values in
    record {
      news = operator ∷ rest.news;
      numbers = number ∷ rest.numbers;
      operators = rest.operators ∙ append_assoc keys.steps.operators (operator ∷ []) rest.news;
      made = ap (λ l. Some number ∷ l) rest.made;
      keys_are = rest.keys_are ∙ append_assoc keys.keys (number ∷ []) rest.numbers;
    }

abbrev LastMake : List Operator → List ℕ → Type 0
LastMake operators keys = map projected (drop (length operators - length keys) operators) ≡ map (λ key. Some key) keys

drop_whole : (operators : List Operator) → drop (length operators - 0) operators ≡ []
drop_whole operators = drop_all (length operators - 0) operators (omega arith)

last_make : (front news : List Operator) (numbers : List ℕ) → map projected news ≡ map (λ key. Some key) numbers → LastMake (front ++ news) numbers
last_make front news numbers made =
    let same : length news ≡ length numbers = sym (length-map news projected) ∙ ap length made ∙ length-map numbers (λ key. Some key) in
    let at : length (front ++ news) - length numbers ≡ length front = omega (arith, length-append front news, same) in
    ap (map projected) (ap (λ n. drop n (front ++ news)) at ∙ drop_at front news (length front) refl) ∙ made

keys_at-last : (last : Option Grouped) (steps : Steps) (values : List Input) → (let keys = keys_at last steps values in LastMake keys.steps.operators keys.keys)
keys_at-last None steps values = ap (map projected) (drop_whole steps.operators)
keys_at-last (Some last) steps values =
    let start : Keys = record { steps = steps; keys = [] } in
    let end = keys-end last.extents start values in
    let all = add_keys last.extents start values in
    subst (λ (operators : List Operator). LastMake operators all.keys) (sym end.operators)
    (subst (λ (keys : List ℕ). LastMake (steps.operators ++ end.news) keys) (sym end.keys_are) (last_make steps.operators end.news end.numbers end.made))

pub whole-last : (schema : Schema) (binding : Binding) → (let plan = plan_of binding schema in LastMake plan.operators plan.keys)
whole-last schema binding =
    let rows = plan_rows binding schema in
    let start : Groups = record { steps = rows.steps; last = None; values = [] } in
    let groups = add_groups binding rows start binding.groups in
    let ids = option_map (λ (last : Grouped). last.ids) groups.last in
    let no_sums : Sums = record { steps = groups.steps; places = [] } in
    let sums = add_sums binding rows ids 1 no_sums binding.sums in
    keys_at-last groups.last sums.steps groups.values

-- # No operator reads a sum

-- a column that is there and is no sum
abbrev FreeAt : Steps → ℕ → Type 0
FreeAt steps number = (is_sum_column (labels_so_far steps) number ≡ false) × (number ≤ steps.columns)

abbrev IsFree : Steps → Option ℕ → Type 0
IsFree steps None = ⊤
IsFree steps (Some number) = FreeAt steps number

abbrev IsFreeInput : Steps → Input → Type 0
IsFreeInput steps (input.Base id) = ⊤
IsFreeInput steps (input.Made number) = FreeAt steps number

abbrev AreFreeIds : Steps → Option ℕ → Type 0
AreFreeIds steps None = ⊤
AreFreeIds steps (Some ids) = FreeAt steps ids × FreeAt steps (ids + 1)

record AreFreeRows (steps : Steps) (rows : Rows) : Type 0 where
  facts : IsFree steps rows.facts
  lists : All (λ list. FreeAt steps list.number) rows.lists

-- no operator so far reads a sum
record IsUnread (steps : Steps) : Type 0 where
  unread : ReadNoSums [] steps.operators
  low : All (λ label. label.out ≤ steps.columns) (labels_so_far steps)

-- a plan that goes on so
record Goes (before after : Steps) : Type 0 where
  unread : IsUnread after
  free : (number : ℕ) → FreeAt before number → FreeAt after number

unread-more : (sums : List SumLabel) (operators : List Operator) (operator : Operator) → ReadNoSums sums operators
    → All (λ number. is_sum_column (sums ++ labels_of operators) number ≡ false) (numbers_read operator) → ReadNoSums sums (operators ++ operator ∷ [])
unread-more sums [] operator before all =
    (subst (λ (l : List SumLabel). All (λ number. is_sum_column l number ≡ false) (numbers_read operator)) (append-nil sums) all, _)
unread-more sums (first ∷ operators) operator before all = (
  before.0,
  unread-more (sums ++ label_of first) operators operator before.1
      (subst (λ (l : List SumLabel). All (λ number. is_sum_column l number ≡ false) (numbers_read operator)) (sym (append_assoc sums (label_of first) (labels_of operators))) all),
)

-- an operator's own label, if it has one
abbrev OwnLabel : ℕ → Operator → Type 0
OwnLabel columns operator = All (λ label. label.out ≡ columns + 1) (label_of operator)

goes-one : (steps : Steps) (operator : ℕ → Operator) → IsUnread steps → All (FreeAt steps) (numbers_read (operator (steps.columns + 1))) → OwnLabel steps.columns (operator (steps.columns + 1))
    → Goes steps (with_one steps operator)
goes-one steps operator is reads own =
    let new = operator (steps.columns + 1) in
    let labels = labels_so_far steps in
    let more : labels_of (steps.operators ++ new ∷ []) ≡ labels ++ label_of new = labels-more steps.operators new in
    record {
      unread = record {
        unread = unread-more [] steps.operators new is.unread (All-weaker (FreeAt steps) (λ number. is_sum_column labels number ≡ false) (λ number free. free.0) (numbers_read new) reads);
        low = subst (All (λ label. label.out ≤ steps.columns + 1)) (sym more)
            (All-append (λ label. label.out ≤ steps.columns + 1) labels (label_of new)
            (All-weaker (λ label. label.out ≤ steps.columns) (λ label. label.out ≤ steps.columns + 1) (λ label h. omega arith) labels is.low)
            (All-weaker (λ label. label.out ≡ steps.columns + 1) (λ label. label.out ≤ steps.columns + 1) (λ label h. omega arith) (label_of new) own));
      };
      free = λ number free. (
        ap (λ (l : List SumLabel). is_sum_column l number) more ∙ list_any-append (λ label. label.out == number) labels (label_of new)
            ∙ ap₂ (λ a b. a || b) free.0
            (list_any_none (λ label. label.out == number) (label_of new)
            (All-weaker (λ label. label.out ≡ steps.columns + 1) (λ label. (label.out == number) ≡ false)
            (λ label h. let k : number ≤ steps.columns = free.1 in other_number label.out number steps.columns h k) (label_of new) own)),
        (let k : number ≤ steps.columns = free.1 in omega arith),
      );
    }
  where
    other_number : (out number columns : ℕ) → out ≡ columns + 1 → number ≤ columns → (out == number) ≡ false
    other_number out number columns is low = grind (arith, nat_tests)

-- a new column that is no sum
new_free : (steps : Steps) (operator : ℕ → Operator) → IsUnread steps → label_of (operator (steps.columns + 1)) ≡ [] → FreeAt (with_one steps operator) (steps.columns + 1)
new_free steps operator is none =
    let new = operator (steps.columns + 1) in
    let labels = labels_so_far steps in (
      ap (λ (l : List SumLabel). is_sum_column l (steps.columns + 1)) (labels-more steps.operators new ∙ ap (λ (l : List SumLabel). labels ++ l) none ∙ append-nil labels)
          ∙ list_any_none (λ label. label.out == steps.columns + 1) labels
          (All-weaker (λ label. label.out ≤ steps.columns) (λ label. (label.out == steps.columns + 1) ≡ false) (λ label h. low_number label.out steps.columns h) labels is.low),
      omega arith,
    )
  where
    low_number : (out columns : ℕ) → out ≤ columns → (out == columns + 1) ≡ false
    low_number out columns low = grind (arith, nat_tests)

goes-none : (steps : Steps) → IsUnread steps → Goes steps steps
goes-none steps is = record { unread = is; free = λ number free. free }

goes-then : (a b c : Steps) → Goes a b → Goes b c → Goes a c
goes-then a b c first next = record { unread = next.unread; free = λ number free. next.free number (first.free number free) }

free-later : (a b : Steps) (which : Option ℕ) → Goes a b → IsFree a which → IsFree b which
free-later a b None goes free = _
free-later a b (Some number) goes free = goes.free number free

input-later : (a b : Steps) (one : Input) → Goes a b → IsFreeInput a one → IsFreeInput b one
input-later a b (input.Base id) goes free = _
input-later a b (input.Made number) goes free = goes.free number free

ids-later : (a b : Steps) (ids : Option ℕ) → Goes a b → AreFreeIds a ids → AreFreeIds b ids
ids-later a b None goes free = _
ids-later a b (Some ids) goes free = (goes.free ids free.0, goes.free (ids + 1) free.1)

rows-later : (a b : Steps) (rows : Rows) → Goes a b → AreFreeRows a rows → AreFreeRows b rows
rows-later a b rows goes free = record {
  facts = free-later a b rows.facts goes free.facts;
  lists = All-weaker (λ list. FreeAt a list.number) (λ list. FreeAt b list.number) (λ list one. goes.free list.number one) rows.lists free.lists;
}

inputs-later : (a b : Steps) (values : List Input) → Goes a b → All (IsFreeInput a) values → All (IsFreeInput b) values
inputs-later a b values goes free = All-weaker (IsFreeInput a) (IsFreeInput b) (λ one is. input-later a b one goes is) values free

input-reads : (steps : Steps) (one : Input) → IsFreeInput steps one → All (FreeAt steps) (input_numbers one)
input-reads steps (input.Base id) free = All-nil (FreeAt steps)
input-reads steps (input.Made number) free = All-cons (FreeAt steps) number [] free (All-nil (FreeAt steps))

ids-read : (steps : Steps) (ids : Option ℕ) → AreFreeIds steps ids → All (FreeAt steps) (id_numbers ids)
ids-read steps None free = All-nil (FreeAt steps)
ids-read steps (Some ids) free = All-cons (FreeAt steps) ids ((ids + 1) ∷ []) free.0 (All-cons (FreeAt steps) (ids + 1) [] free.1 (All-nil (FreeAt steps)))

no_label : (columns : ℕ) → All (λ (label : SumLabel). label.out ≡ columns + 1) []
no_label columns = All-nil (λ (label : SumLabel). label.out ≡ columns + 1)

values-go : (steps : Steps) (id : ColumnId) (which : Option ℕ) → IsUnread steps → IsFree steps which
    → Goes steps (add_values steps id which).steps × IsFreeInput (add_values steps id which).steps (add_values steps id which).input
values-go steps id None is free = (goes-none steps is, _)
values-go steps id (Some list) is free =
    let operator : ℕ → Operator = project (input.Base id) list in
    (goes-one steps operator is (All-cons (FreeAt steps) list [] free (All-nil (FreeAt steps))) (no_label steps.columns), new_free steps operator is refl)

list_free : (steps : Steps) (table : ℕ) (lists : List RowList) → All (λ list. FreeAt steps list.number) lists → IsFree steps (number_of table lists)
list_free steps table [] free = _
list_free steps table (first ∷ lists) free =
    let F : RowList → Type 0 = λ list. FreeAt steps list.number in
    (elim (first.table == table) as (λ b. IsFree steps (cond b (Some first.number) (number_of table lists))) [
      | true ↦ All-head F first lists free
      | false ↦ list_free steps table lists (All-tail F first lists free)
    ])

which_free : (binding : Binding) (steps : Steps) (rows : Rows) (id : ColumnId) → AreFreeRows steps rows → IsFree steps (which_of binding rows id)
which_free binding steps rows id free =
    (elim (binding.fact == id.table) as (λ b. IsFree steps (cond b rows.facts (number_of id.table rows.lists))) [
      | true ↦ free.facts
      | false ↦ list_free steps id.table rows.lists free.lists
    ])

column-go : (binding : Binding) (steps : Steps) (rows : Rows) (id : ColumnId) → IsUnread steps → AreFreeRows steps rows
    → Goes steps (add_column steps binding rows id).steps × IsFreeInput (add_column steps binding rows id).steps (add_column steps binding rows id).input
column-go binding steps rows id is free = values-go steps id (which_of binding rows id) is (which_free binding steps rows id free)

own_label : (columns : ℕ) (label : SumLabel) → label.out ≡ columns + 1 → All (λ (label : SumLabel). label.out ≡ columns + 1) (label ∷ [])
own_label columns label is = All-cons (λ (label : SumLabel). label.out ≡ columns + 1) label [] is (no_label columns)

summed-go : (steps : Steps) (values : Input) (ids : Option ℕ) (number operand : ℕ) → IsUnread steps → IsFreeInput steps values → AreFreeIds steps ids
    → Goes steps (with_one steps (λ out. sum values ids out number operand))
summed-go steps values ids number operand is free by =
    goes-one steps (λ out. sum values ids out number operand) is
    (All-append (FreeAt steps) (input_numbers values) (id_numbers ids) (input-reads steps values free) (ids-read steps ids by))
    (own_label steps.columns (record { number = number; operand = operand; out = steps.columns + 1 }) refl)

sum-go : (binding : Binding) (steps : Steps) (rows : Rows) (ids : Option ℕ) (number : ℕ) (what : SumOf) → IsUnread steps → AreFreeRows steps rows → AreFreeIds steps ids
    → Goes steps (add_sum steps binding rows ids number what).steps
sum-go binding steps rows ids number (operand.Plain id) is free by =
    let read = add_column steps binding rows id in
    let first = column-go binding steps rows id is free in
    goes-then steps read.steps (with_one read.steps (λ out. sum read.input ids out number 1)) first.0
    (summed-go read.steps read.input ids number 1 first.0.unread first.1 (ids-later steps read.steps ids first.0 by))
sum-go binding steps rows ids number (operand.Product left right) is free by =
    let read = add_column steps binding rows left in
    let other = add_column read.steps binding rows right in
    let first = column-go binding steps rows left is free in
    let second = column-go binding read.steps rows right first.0.unread (rows-later steps read.steps rows first.0 free) in
    let both = goes-then steps read.steps other.steps first.0 second.0 in
    let operator : ℕ → Operator = λ out. sum_product read.input other.input ids out number in
    goes-then steps other.steps (with_one other.steps operator) both
    (goes-one other.steps operator second.0.unread
    (All-append (FreeAt other.steps) (input_numbers read.input ++ input_numbers other.input) (id_numbers ids)
    (All-append (FreeAt other.steps) (input_numbers read.input) (input_numbers other.input)
    (input-reads other.steps read.input (input-later read.steps other.steps read.input second.0 first.1)) (input-reads other.steps other.input second.1))
    (ids-read other.steps ids (ids-later steps other.steps ids both by)))
    (own_label other.steps.columns (record { number = number; operand = 1; out = other.steps.columns + 1 }) refl))
sum-go binding steps rows ids number (operand.Difference left right) is free by =
    let read = add_column steps binding rows left in
    let other = add_column read.steps binding rows right in
    let first = column-go binding steps rows left is free in
    let second = column-go binding read.steps rows right first.0.unread (rows-later steps read.steps rows first.0 free) in
    let both = goes-then steps read.steps other.steps first.0 second.0 in
    let minuend = with_one other.steps (λ out. sum read.input ids out number 1) in
    let third = summed-go other.steps read.input ids number 1 second.0.unread (input-later read.steps other.steps read.input second.0 first.1) (ids-later steps other.steps ids both by) in
    let three = goes-then steps other.steps minuend both third in
    goes-then steps minuend (with_one minuend (λ out. sum other.input ids out number 2)) three
    (summed-go minuend other.input ids number 2 third.unread (input-later other.steps minuend other.input third second.1) (ids-later steps minuend ids three by))

sums-go : (binding : Binding) (rows : Rows) (ids : Option ℕ) (number : ℕ) (sums : Sums) (todo : List SumOf) → IsUnread sums.steps → AreFreeRows sums.steps rows → AreFreeIds sums.steps ids
    → Goes sums.steps (add_sums binding rows ids number sums todo).steps
sums-go binding rows ids number sums [] is free by = goes-none sums.steps is
sums-go binding rows ids number sums (what ∷ todo) is free by =
    let summed = add_sum sums.steps binding rows ids number what in
    let next : Sums = record { steps = summed.steps; places = sums.places ++ summed.place ∷ [] } in
    let first = sum-go binding sums.steps rows ids number what is free by in
    goes-then sums.steps summed.steps (add_sums binding rows ids (number + 1) next todo).steps first
    (sums-go binding rows ids (number + 1) next todo first.unread (rows-later sums.steps summed.steps rows first free) (ids-later sums.steps summed.steps ids first by))

keys-go : (extents : ℕ) (keys : Keys) (values : List Input) → IsUnread keys.steps → FreeAt keys.steps extents → All (IsFreeInput keys.steps) values → IsUnread (add_keys extents keys values).steps
keys-go extents keys [] is at free = is
keys-go extents keys (value ∷ values) is at free =
    let operator : ℕ → Operator = project value extents in
    let next : Keys = record { steps = with_one keys.steps operator; keys = keys.keys ++ (keys.steps.columns + 1) ∷ [] } in
    let one = goes-one keys.steps operator is
    (All-cons (FreeAt keys.steps) extents (input_numbers value) at (input-reads keys.steps value (All-head (IsFreeInput keys.steps) value values free))) (no_label keys.steps.columns) in
    keys-go extents next values one.unread (one.free extents at) (inputs-later keys.steps next.steps values one (All-tail (IsFreeInput keys.steps) value values free))

keys_at-go : (last : Option Grouped) (before steps : Steps) (values : List Input) → Goes before steps → IsFree before (option_map (λ one. one.extents) last)
    → All (IsFreeInput before) values → IsUnread (keys_at last steps values).steps
keys_at-go None before steps values goes free values_free = goes.unread
keys_at-go (Some last) before steps values goes free values_free =
    keys-go last.extents (record { steps = steps; keys = [] }) values goes.unread (goes.free last.extents free) (inputs-later before steps values goes values_free)

-- where nothing is summed yet, no sum is read
read_none : (operators : List Operator) → list_any is_sum operators ≡ false → ReadNoSums [] operators
read_none [] none = _
read_none (operator ∷ operators) none = (
  (λ k d within. refl),
  subst (λ (l : List SumLabel). ReadNoSums l operators) (sym (unlabelled operator (or_first (is_sum operator) (list_any is_sum operators) none)))
      (read_none operators (or_second (is_sum operator) (list_any is_sum operators) none)),
)

low_free : (steps : Steps) → labels_so_far steps ≡ [] → (number : ℕ) → number ≤ steps.columns → FreeAt steps number
low_free steps none number low = (ap (λ (l : List SumLabel). is_sum_column l number) none, low)

low_which : (steps : Steps) → labels_so_far steps ≡ [] → (which : Option ℕ) → IsLow steps.columns which → IsFree steps which
low_which steps none None low = _
low_which steps none (Some number) low = low_free steps none number low

low_ids : (steps : Steps) → labels_so_far steps ≡ [] → (last : Option Grouped) → AreLowGroups steps.columns last
    → AreFreeIds steps (option_map (λ one. one.ids) last) × IsFree steps (option_map (λ one. one.extents) last)
low_ids steps none None low = (_, _)
low_ids steps none (Some last) low = ((low_free steps none last.ids low.0, low_free steps none (last.ids + 1) low.1), low_free steps none last.extents low.2)

low_inputs-free : (steps : Steps) → labels_so_far steps ≡ [] → (values : List Input) → All (IsLowInput steps.columns) values → All (IsFreeInput steps) values
low_inputs-free steps none values low = All-weaker (IsLowInput steps.columns) (IsFreeInput steps) (λ one is. low_input-free one is) values low
  where
    low_input-free : (one : Input) → IsLowInput steps.columns one → IsFreeInput steps one
    low_input-free (input.Base id) is = _
    low_input-free (input.Made number) is = low_free steps none number is

pub whole-unread : (schema : Schema) (binding : Binding) → All (AreRanges schema) binding.tests
    → (let rows = plan_rows binding schema in AreLow rows (add_groups binding rows (record { steps = rows.steps; last = None; values = [] }) binding.groups))
    → ReadNoSums [] (plan_of binding schema).operators
whole-unread schema binding ranged low =
    let rows = plan_rows binding schema in
    let start : Groups = record { steps = rows.steps; last = None; values = [] } in
    let groups = add_groups binding rows start binding.groups in
    let ids = option_map (λ (last : Grouped). last.ids) groups.last in
    let no_sums : Sums = record { steps = groups.steps; places = [] } in
    let sums = add_sums binding rows ids 1 no_sums binding.sums in
    let no_sum = (groups-no_sum schema binding ranged).none in
    let none : labels_so_far groups.steps ≡ [] = labels-none groups.steps.operators no_sum in
    let is : IsUnread groups.steps = record {
      unread = read_none groups.steps.operators no_sum;
      low = subst (All (λ (label : SumLabel). label.out ≤ groups.steps.columns)) (sym none) (All-nil (λ (label : SumLabel). label.out ≤ groups.steps.columns));
    } in
    let free : AreFreeRows groups.steps rows = record {
      facts = low_which groups.steps none rows.facts low.facts;
      lists = All-weaker (λ list. list.number ≤ groups.steps.columns) (λ list. FreeAt groups.steps list.number) (λ list h. low_free groups.steps none list.number h) rows.lists low.lists;
    } in
    let grouped = low_ids groups.steps none groups.last low.last in
    (keys_at-go groups.last groups.steps sums.steps groups.values (sums-go binding rows ids 1 no_sums binding.sums is free grouped.0) grouped.1
    (low_inputs-free groups.steps none groups.values low.values)).unread
