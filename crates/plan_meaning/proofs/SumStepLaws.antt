-- Steps 6 and 7: the sums of the groups, and their keys.
use Rattle.std.proofs.Common.{◌≡◌, ℕ, ◌+◌, ◌<◌, ◌≤◌, List, [], ◌∷◌, ◌++◌, map, length, refl, sym, ap, ap₂, ◌∙◌, subst, All, arith, append_assoc, append-nil}
use Rattle.std.specs.Prelude.{Option, Some, None, ⊤, filter, slice_index, not, option_map}
use Rattle.std.proofs.lemmas.List.{length-map}
use Rattle.std.proofs.lemmas.List.Elements.{All-head, All-tail}
use Rattle.definitions_operators.specs.Operators as lists
use Rattle.query_bind.specs.declared.bounds.SumOf.TheVariants as operand
use Rattle.definitions_operators.specs.Operators.{places}
use Rattle.definitions_operators.specs.Groups.{Grouping, products_of, sums_of}
use Rattle.catalog_core.specs.declared.schemas.Schema.{Schema}
use Rattle.query_bind.specs.Binding.{Binding}
use Rattle.query_bind.specs.LawfulBindings.{operands}
use Rattle.query_bind.specs.declared.bounds.SumOf.{SumOf}
use Rattle.plan_core.specs.declared.plans.Input.{Input}
use Rattle.plan_core.specs.declared.plans.SumPlace.{SumPlace}
use Rattle.plan_core.specs.Plans.{Steps, project, sum, sum_product}
use Rattle.plan_core.specs.Planner.{Rows, add_column, with_one}
use Rattle.plan_core.specs.WholePlan.{Grouped, Keys, Sums, add_keys, add_sum, add_sums}
use Rattle.plan_meaning.specs.StoredLists.{StoredLists, holds}
use Rattle.definitions_blocks.specs.Columns.{max_rows}
use Rattle.plan_meaning.specs.JoinedRows.{value_in}
use Rattle.plan_meaning.specs.Columns.{made_column, sums_by}
use Rattle.plan_meaning.specs.Operands.{AreIds, HasIds, IsShortList}
use Rattle.plan_meaning.specs.Law.{SumLists}
use Rattle.plan_meaning.proofs.Matched.{AreJoined, HasLengths, Holds, Reads, matched}
use Rattle.definitions_operators.proofs.PlaceLaws.{length-places}
use Rattle.plan_meaning.proofs.RunLaws.{GoesOn, GoesOn-refl, GoesOn-then, Holds-later, IsRun, Reads-is, Reads-later, column-short, columns_so_far, made_input, made_number, with_one-holds}
use Rattle.plan_meaning.proofs.ReadLaws.{add_column-reads}
use Rattle.plan_meaning.proofs.GroupStepLaws.{AreGroups, IsReadColumn, ReadEach, ReadEach-later, values_of}

-- columns hold lists, one by one
abbrev pub HoldEach : StoredLists → Steps → List ℕ → List (List ℕ) → Type 0
HoldEach stored steps [] [] = ⊤
HoldEach stored steps (number ∷ numbers) (list ∷ lists) = Holds stored steps number list × HoldEach stored steps numbers lists
HoldEach stored steps numbers lists = ⊥

abbrev pub HoldSecond : StoredLists → Steps → Option ℕ → Option (List ℕ) → Type 0
HoldSecond stored steps None None = ⊤
HoldSecond stored steps (Some number) (Some list) = Holds stored steps number list
HoldSecond stored steps number list = ⊥

abbrev pub HoldSum : StoredLists → Steps → SumPlace → SumLists → Type 0
HoldSum stored steps place lists = Holds stored steps place.first lists.first × HoldSecond stored steps place.second lists.second

abbrev pub HoldSums : StoredLists → Steps → List SumPlace → List SumLists → Type 0
HoldSums stored steps [] [] = ⊤
HoldSums stored steps (place ∷ places) (lists ∷ rest) = HoldSum stored steps place lists × HoldSums stored steps places rest
HoldSums stored steps places lists = ⊥

-- the sum of all values, or the sums of the groups
abbrev pub totals : Option Grouping → List ℕ → List ℕ
totals None values = Rattle.std.specs.Prelude.sum values ∷ []
totals (Some groups) values = sums_of values groups.ids (length groups.extents)

abbrev pub item_sums : Binding → StoredLists → Option Grouping → SumOf → SumLists
item_sums binding stored groups (operand.Plain id) = record { first = totals groups (values_of binding stored id); second = None }
item_sums binding stored groups (operand.Product left right) =
    record { first = totals groups (products_of (values_of binding stored left) (values_of binding stored right)); second = None }
item_sums binding stored groups (operand.Difference left right) =
    record { first = totals groups (values_of binding stored left); second = Some (totals groups (values_of binding stored right)) }

-- the ids that sums go by hold the groups of n rows, and the extents follow them
pub record HoldsGroupIds (stored : StoredLists) (steps : Steps) (n ids : ℕ) (groups : Grouping) : Type 0 where
  pub ids_hold : Holds stored steps ids groups.ids
  pub extents_hold : Holds stored steps (ids + 1) groups.extents
  pub count : length groups.ids ≡ n
  pub numbers : All (λ id. id < length groups.extents) groups.ids

abbrev pub HoldsIds : StoredLists → Steps → ℕ → Option ℕ → Option Grouping → Type 0
HoldsIds stored steps n None None = ⊤
HoldsIds stored steps n (Some ids) (Some groups) = HoldsGroupIds stored steps n ids groups
HoldsIds stored steps n ids groups = ⊥

pub HoldsIds-groups : (stored : StoredLists) (steps : Steps) (n : ℕ) (last : Option Grouped) (groups : Option Grouping)
    → AreGroups stored steps n last groups → HoldsIds stored steps n (option_map (λ last. last.ids) last) groups
HoldsIds-groups stored steps n None None is = _
HoldsIds-groups stored steps n None (Some groups) is = absurd is
HoldsIds-groups stored steps n (Some last) None is = absurd is
HoldsIds-groups stored steps n (Some last) (Some groups) is = record {
  ids_hold = is.ids;
  extents_hold = subst (λ k. Holds stored steps k groups.extents) is.next is.extents;
  count = is.count;
  numbers = is.numbers;
}

HoldsIds-later : (count : ℕ) (stored : StoredLists) (a b : Steps) (n : ℕ) (ids : Option ℕ) (groups : Option Grouping) → GoesOn count stored a b → HoldsIds stored a n ids groups → HoldsIds stored b n ids groups
HoldsIds-later count stored a b n None None on is = _
HoldsIds-later count stored a b n None (Some groups) on is = is
HoldsIds-later count stored a b n (Some ids) None on is = is
HoldsIds-later count stored a b n (Some ids) (Some groups) on is = record {
  ids_hold = Holds-later count stored a b ids groups.ids on is.ids_hold;
  extents_hold = Holds-later count stored a b (ids + 1) groups.extents on is.extents_hold;
  count = is.count;
  numbers = is.numbers;
}

made_ids : (stored : StoredLists) (steps : Steps) (n : ℕ) (ids : Option ℕ) (groups : Option Grouping) → HoldsIds stored steps n ids groups → AreIds steps.columns ids
made_ids stored steps n None None is = _
made_ids stored steps n None (Some groups) is = absurd is
made_ids stored steps n (Some ids) None is = absurd is
made_ids stored steps n (Some ids) (Some groups) is = (made_number stored steps ids groups.ids is.ids_hold, made_number stored steps (ids + 1) groups.extents is.extents_hold)

has_ids : (count : ℕ) (stored : StoredLists) (steps : Steps) (n : ℕ) (ids : Option ℕ) (groups : Option Grouping) → HoldsIds stored steps n ids groups → n ≡ count
    → HasIds count (columns_so_far stored steps) ids
has_ids count stored steps n None None is many = _
has_ids count stored steps n None (Some groups) is many = absurd is
has_ids count stored steps n (Some ids) None is many = absurd is
has_ids count stored steps n (Some ids) (Some groups) is many = (
  ap length is.ids_hold.is ∙ is.count ∙ many,
  subst (λ l. All (λ id. id < length l) (made_column (columns_so_far stored steps) ids)) (sym is.extents_hold.is)
      (subst (All (λ id. id < length groups.extents)) (sym is.ids_hold.is) is.numbers),
)

-- what a sum gives
summed-is : (stored : StoredLists) (steps : Steps) (n : ℕ) (ids : Option ℕ) (groups : Option Grouping) (values : List ℕ) → HoldsIds stored steps n ids groups
    → sums_by (columns_so_far stored steps) values ids ≡ totals groups values
summed-is stored steps n None None values is = refl
summed-is stored steps n None (Some groups) values is = absurd is
summed-is stored steps n (Some ids) None values is = absurd is
summed-is stored steps n (Some ids) (Some groups) values is =
    ap₂ (λ by extents. sums_of values by (length extents)) is.ids_hold.is is.extents_hold.is

summed-short : (stored : StoredLists) (steps : Steps) (n : ℕ) (ids : Option ℕ) (groups : Option Grouping) (values : List ℕ) → HoldsIds stored steps n ids groups
    → All IsShortList (columns_so_far stored steps) → IsShortList (totals groups values)
summed-short stored steps n None None values is short = omega arith
summed-short stored steps n None (Some groups) values is short = absurd is
summed-short stored steps n (Some ids) None values is short = absurd is
summed-short stored steps n (Some ids) (Some groups) values is short =
    let few : IsShortList groups.extents = subst IsShortList is.extents_hold.is (column-short (columns_so_far stored steps) (ids + 1) short) in
    subst (λ m. m ≤ max_rows) (sym (length-map (places (length groups.extents)) _ ∙ length-places (length groups.extents))) few

-- one Sum more
with_sum-holds : (count : ℕ) (stored : StoredLists) (steps : Steps) (ids : Option ℕ) (groups : Option Grouping) (given_input : Input) (values : List ℕ) (number operand : ℕ)
    → IsRun count stored steps → HoldsIds stored steps (length values) ids groups → Reads stored steps given_input values → length values ≡ count
    → GoesOn count stored steps (with_one steps (λ out. sum given_input ids out number operand))
    × Holds stored (with_one steps (λ out. sum given_input ids out number operand)) (steps.columns + 1) (totals groups values)
with_sum-holds count stored steps ids groups given_input values number operand run is reads many =
    let input_is = Reads-is stored steps given_input values reads in
    with_one-holds count stored steps (λ out. sum given_input ids out number operand) (totals groups values) run
    (ap (λ vs. sums_by (columns_so_far stored steps) vs ids ∷ []) input_is ∙ ap (λ l. l ∷ []) (summed-is stored steps (length values) ids groups values is))
    (made_input stored steps given_input values reads, made_ids stored steps (length values) ids groups is, refl)
    (ap length input_is ∙ many, has_ids count stored steps (length values) ids groups is many)
    (summed-short stored steps (length values) ids groups values is)

-- one SumProduct more
with_product-holds : (count : ℕ) (stored : StoredLists) (steps : Steps) (ids : Option ℕ) (groups : Option Grouping) (first second : Input) (left right : List ℕ) (n number : ℕ)
    → IsRun count stored steps → HoldsIds stored steps n ids groups → Reads stored steps first left → Reads stored steps second right → length left ≡ n → length right ≡ n → n ≡ count
    → GoesOn count stored steps (with_one steps (λ out. sum_product first second ids out number))
    × Holds stored (with_one steps (λ out. sum_product first second ids out number)) (steps.columns + 1) (totals groups (products_of left right))
with_product-holds count stored steps ids groups first second left right n number run is reads also long same many =
    let first_is = Reads-is stored steps first left reads in
    let second_is = Reads-is stored steps second right also in
    with_one-holds count stored steps (λ out. sum_product first second ids out number) (totals groups (products_of left right)) run
    (ap₂ (λ vs ws. sums_by (columns_so_far stored steps) (products_of vs ws) ids ∷ []) first_is second_is ∙ ap (λ l. l ∷ []) (summed-is stored steps n ids groups (products_of left right) is))
    (made_input stored steps first left reads, made_input stored steps second right also, made_ids stored steps n ids groups is, refl)
    (ap length first_is ∙ long ∙ many, ap length second_is ∙ same ∙ many, has_ids count stored steps n ids groups is many)
    (summed-short stored steps n ids groups (products_of left right) is)

-- Step 6 for one sum.
add_sum-holds : (binding : Binding) (schema : Schema) (count : ℕ) (stored : StoredLists) → HasLengths stored → length (matched binding stored) ≡ count → (steps : Steps) (rows : Rows) (ids : Option ℕ) (groups : Option Grouping) (number : ℕ) (one : SumOf)
    → IsRun count stored steps → GoesOn count stored rows.steps steps → AreJoined binding schema stored rows → All (IsReadColumn binding schema) (operands one)
    → HoldsIds stored steps (length (matched binding stored)) ids groups
    → GoesOn count stored steps (add_sum steps binding rows ids number one).steps
    × HoldSum stored (add_sum steps binding rows ids number one).steps (add_sum steps binding rows ids number one).place (item_sums binding stored groups one)
add_sum-holds binding schema count stored given whole steps rows ids groups number (operand.Plain id) run on are readable is =
    let n = length (matched binding stored) in
    let values = values_of binding stored id in
    let many : length values ≡ n = length-map (matched binding stored) (value_in binding stored id) in
    let read = add_column steps binding rows id in
    let after = add_sum steps binding rows ids number (operand.Plain id) in
    let first = add_column-reads binding schema count stored given steps rows id run on are (All-head (IsReadColumn binding schema) id [] readable) in
    let made = with_sum-holds count stored read.steps ids groups read.input values number 1 first.0.run
    (subst (λ m. HoldsIds stored read.steps m ids groups) (sym many) (HoldsIds-later count stored steps read.steps n ids groups first.0 is)) first.1 (many ∙ whole) in (
      GoesOn-then count stored steps read.steps after.steps first.0 made.0,
      (made.1, _),
    )
add_sum-holds binding schema count stored given whole steps rows ids groups number (operand.Product left right) run on are readable is =
    let n = length (matched binding stored) in
    let read = add_column steps binding rows left in
    let other = add_column read.steps binding rows right in
    let after = add_sum steps binding rows ids number (operand.Product left right) in
    let first = add_column-reads binding schema count stored given steps rows left run on are (All-head (IsReadColumn binding schema) left (right ∷ []) readable) in
    let second = add_column-reads binding schema count stored given read.steps rows right first.0.run (GoesOn-then count stored rows.steps steps read.steps on first.0) are
    (All-head (IsReadColumn binding schema) right [] (All-tail (IsReadColumn binding schema) left (right ∷ []) readable)) in
    let both : GoesOn count stored steps other.steps = GoesOn-then count stored steps read.steps other.steps first.0 second.0 in
    let made = with_product-holds count stored other.steps ids groups read.input other.input (values_of binding stored left) (values_of binding stored right) n number second.0.run
    (HoldsIds-later count stored steps other.steps n ids groups both is) (Reads-later count stored read.steps other.steps read.input (values_of binding stored left) second.0 first.1) second.1
    (length-map (matched binding stored) (value_in binding stored left)) (length-map (matched binding stored) (value_in binding stored right)) whole in
    (GoesOn-then count stored steps other.steps after.steps both made.0, (made.1, _))
add_sum-holds binding schema count stored given whole steps rows ids groups number (operand.Difference left right) run on are readable is =
    let n = length (matched binding stored) in
    let minuend = values_of binding stored left in
    let subtrahend = values_of binding stored right in
    let many : length minuend ≡ n = length-map (matched binding stored) (value_in binding stored left) in
    let also : length subtrahend ≡ n = length-map (matched binding stored) (value_in binding stored right) in
    let read = add_column steps binding rows left in
    let other = add_column read.steps binding rows right in
    let one = with_one other.steps (λ out. sum read.input ids out number 1) in
    let after = add_sum steps binding rows ids number (operand.Difference left right) in
    let first = add_column-reads binding schema count stored given steps rows left run on are (All-head (IsReadColumn binding schema) left (right ∷ []) readable) in
    let second = add_column-reads binding schema count stored given read.steps rows right first.0.run (GoesOn-then count stored rows.steps steps read.steps on first.0) are
    (All-head (IsReadColumn binding schema) right [] (All-tail (IsReadColumn binding schema) left (right ∷ []) readable)) in
    let both : GoesOn count stored steps other.steps = GoesOn-then count stored steps read.steps other.steps first.0 second.0 in
    let ids_hold : HoldsIds stored other.steps n ids groups = HoldsIds-later count stored steps other.steps n ids groups both is in
    let made = with_sum-holds count stored other.steps ids groups read.input minuend number 1 second.0.run
    (subst (λ m. HoldsIds stored other.steps m ids groups) (sym many) ids_hold) (Reads-later count stored read.steps other.steps read.input minuend second.0 first.1) (many ∙ whole) in
    let last = with_sum-holds count stored one ids groups other.input subtrahend number 2 made.0.run
    (subst (λ m. HoldsIds stored one m ids groups) (sym also) (HoldsIds-later count stored other.steps one n ids groups made.0 ids_hold)) (Reads-later count stored other.steps one other.input subtrahend made.0 second.1) (also ∙ whole) in (
      GoesOn-then count stored steps other.steps after.steps both (GoesOn-then count stored other.steps one after.steps made.0 last.0),
      (
        Holds-later count stored one after.steps after.place.first (totals groups minuend) last.0 made.1,
        last.1,
      ),
    )

HoldSecond-later : (count : ℕ) (stored : StoredLists) (a b : Steps) (number : Option ℕ) (list : Option (List ℕ)) → GoesOn count stored a b → HoldSecond stored a number list → HoldSecond stored b number list
HoldSecond-later count stored a b None None on holds = _
HoldSecond-later count stored a b None (Some list) on holds = holds
HoldSecond-later count stored a b (Some number) None on holds = holds
HoldSecond-later count stored a b (Some number) (Some list) on holds = Holds-later count stored a b number list on holds

pub HoldSums-later : (count : ℕ) (stored : StoredLists) (a b : Steps) (places : List SumPlace) (lists : List SumLists) → GoesOn count stored a b → HoldSums stored a places lists → HoldSums stored b places lists
HoldSums-later count stored a b [] [] on all = _
HoldSums-later count stored a b [] (list ∷ lists) on all = all
HoldSums-later count stored a b (place ∷ places) [] on all = all
HoldSums-later count stored a b (place ∷ places) (list ∷ lists) on all =
    ((Holds-later count stored a b place.first list.first on all.0.0, HoldSecond-later count stored a b place.second list.second on all.0.1), HoldSums-later count stored a b places lists on all.1)

HoldSums-push : (stored : StoredLists) (steps : Steps) (places : List SumPlace) (lists : List SumLists) (place : SumPlace) (list : SumLists)
    → HoldSums stored steps places lists → HoldSum stored steps place list → HoldSums stored steps (places ++ place ∷ []) (lists ++ list ∷ [])
HoldSums-push stored steps [] [] place list all one = (one, _)
HoldSums-push stored steps [] (other ∷ lists) place list all one = absurd all
HoldSums-push stored steps (first ∷ places) [] place list all one = absurd all
HoldSums-push stored steps (first ∷ places) (other ∷ lists) place list all one = (all.0, HoldSums-push stored steps places lists place list all.1 one)

-- Step 6.
pub add_sums-hold : (binding : Binding) (schema : Schema) (count : ℕ) (stored : StoredLists) → HasLengths stored → length (matched binding stored) ≡ count → (rows : Rows) (ids : Option ℕ) (groups : Option Grouping) (number : ℕ) (sums : Sums) (todo : List SumOf) (lists : List SumLists)
    → IsRun count stored sums.steps → GoesOn count stored rows.steps sums.steps → AreJoined binding schema stored rows → All (λ one. All (IsReadColumn binding schema) (operands one)) todo
    → HoldsIds stored sums.steps (length (matched binding stored)) ids groups → HoldSums stored sums.steps sums.places lists
    → GoesOn count stored sums.steps (add_sums binding rows ids number sums todo).steps
    × HoldSums stored (add_sums binding rows ids number sums todo).steps (add_sums binding rows ids number sums todo).places (lists ++ map (item_sums binding stored groups) todo)
add_sums-hold binding schema count stored given whole rows ids groups number sums [] lists run on are readable is hold =
    (GoesOn-refl count stored sums.steps run, subst (HoldSums stored sums.steps sums.places) (sym (append-nil lists)) hold)
add_sums-hold binding schema count stored given whole rows ids groups number sums (one ∷ todo) lists run on are readable is hold =
    let n = length (matched binding stored) in
    let summed = add_sum sums.steps binding rows ids number one in
    let next : Sums = record { steps = summed.steps; places = sums.places ++ summed.place ∷ [] } in
    let all = add_sums binding rows ids (number + 1) next todo in
    let list = item_sums binding stored groups one in
    let Readable : SumOf → Type 0 = λ one. All (IsReadColumn binding schema) (operands one) in
    let first = add_sum-holds binding schema count stored given whole sums.steps rows ids groups number one run on are (All-head Readable one todo readable) is in
    let rest = add_sums-hold binding schema count stored given whole rows ids groups (number + 1) next todo (lists ++ list ∷ []) first.0.run
    (GoesOn-then count stored rows.steps sums.steps next.steps on first.0) are (All-tail Readable one todo readable)
    (HoldsIds-later count stored sums.steps next.steps n ids groups first.0 is)
    (HoldSums-push stored next.steps sums.places lists summed.place list (HoldSums-later count stored sums.steps next.steps sums.places lists first.0 hold) first.1) in (
      GoesOn-then count stored sums.steps next.steps all.steps first.0 rest.0,
      subst (HoldSums stored all.steps all.places) (append_assoc lists (list ∷ []) (map (item_sums binding stored groups) todo)) rest.1,
    )

HoldEach-later : (count : ℕ) (stored : StoredLists) (a b : Steps) (numbers : List ℕ) (lists : List (List ℕ)) → GoesOn count stored a b → HoldEach stored a numbers lists → HoldEach stored b numbers lists
HoldEach-later count stored a b [] [] on all = _
HoldEach-later count stored a b [] (list ∷ lists) on all = all
HoldEach-later count stored a b (number ∷ numbers) [] on all = all
HoldEach-later count stored a b (number ∷ numbers) (list ∷ lists) on all = (Holds-later count stored a b number list on all.0, HoldEach-later count stored a b numbers lists on all.1)

HoldEach-push : (stored : StoredLists) (steps : Steps) (numbers : List ℕ) (lists : List (List ℕ)) (number : ℕ) (list : List ℕ)
    → HoldEach stored steps numbers lists → Holds stored steps number list → HoldEach stored steps (numbers ++ number ∷ []) (lists ++ list ∷ [])
HoldEach-push stored steps [] [] number list all one = (one, _)
HoldEach-push stored steps [] (other ∷ lists) number list all one = absurd all
HoldEach-push stored steps (first ∷ numbers) [] number list all one = absurd all
HoldEach-push stored steps (first ∷ numbers) (other ∷ lists) number list all one = (all.0, HoldEach-push stored steps numbers lists number list all.1 one)

-- Step 7: the values of n rows each, at the extents.
pub add_keys-hold : (count : ℕ) (stored : StoredLists) (n extents : ℕ) (at : List ℕ) (keys : Keys) (inputs : List Input) (values done : List (List ℕ))
    → IsRun count stored keys.steps → Holds stored keys.steps extents at → All (λ place. place < n) at
    → ReadEach stored keys.steps inputs values → All (λ list. length list ≡ n) values → HoldEach stored keys.steps keys.keys done
    → GoesOn count stored keys.steps (add_keys extents keys inputs).steps
    × HoldEach stored (add_keys extents keys inputs).steps (add_keys extents keys inputs).keys (done ++ map (λ list. lists.values_at list at) values)
add_keys-hold count stored n extents at keys [] [] done run at_is below read long hold = (GoesOn-refl count stored keys.steps run, subst (HoldEach stored keys.steps keys.keys) (sym (append-nil done)) hold)
add_keys-hold count stored n extents at keys [] (list ∷ values) done run at_is below read long hold = absurd read
add_keys-hold count stored n extents at keys (input ∷ inputs) [] done run at_is below read long hold = absurd read
add_keys-hold count stored n extents at keys (input ∷ inputs) (list ∷ values) done run at_is below read long hold =
    let Long : List ℕ → Type 0 = λ list. length list ≡ n in
    let one = with_one keys.steps (project input extents) in
    let next : Keys = record { steps = one; keys = keys.keys ++ (keys.steps.columns + 1) ∷ [] } in
    let all = add_keys extents next inputs in
    let key = lists.values_at list at in
    let input_is = Reads-is stored keys.steps input list read.0 in
    let first = with_one-holds count stored keys.steps (project input extents) key run
    (ap₂ (λ a b. lists.values_at a b ∷ []) input_is at_is.is)
    (made_input stored keys.steps input list read.0, made_number stored keys.steps extents at at_is, refl)
    (subst (λ l. All (λ place. place < length l) (made_column (columns_so_far stored keys.steps) extents)) (sym input_is)
    (subst (All (λ place. place < length list)) (sym at_is.is) (subst (λ m. All (λ place. place < m) at) (sym (All-head Long list values long)) below)))
    (λ short. subst (λ m. m ≤ max_rows) (ap length at_is.is ∙ sym (length-map at (slice_index list))) (column-short (columns_so_far stored keys.steps) extents short)) in
    let rest = add_keys-hold count stored n extents at next inputs values (done ++ key ∷ []) first.0.run (Holds-later count stored keys.steps one extents at first.0 at_is) below
    (ReadEach-later count stored keys.steps one inputs values first.0 read.1) (All-tail Long list values long)
    (HoldEach-push stored one keys.keys done (keys.steps.columns + 1) key (HoldEach-later count stored keys.steps one keys.keys done first.0 hold) first.1) in (
      GoesOn-then count stored keys.steps one all.steps first.0 rest.0,
      subst (HoldEach stored all.steps all.keys) (append_assoc done (key ∷ []) (map (λ list. lists.values_at list at) values)) rest.1,
    )
