-- Steps 1, 3 and 4: the dimensions' lists and keys, the semi-joins, and the joins one after the other.
use Rattle.std.proofs.Common.{◌≡◌, ℕ, ◌+◌, ◌<◌, ◌≤◌, Bool, true, false, cond, List, [], ◌∷◌, ◌++◌, map, length, get_or, refl, sym, ap, ap₂, ◌∙◌, subst, All, arith, append_assoc, append-nil}
use Rattle.std.specs.Prelude.{◌==◌, nat_lt, filter, slice_index}
use Rattle.std.proofs.lemmas.Bool.Decides.{nat_tests}
use Rattle.std.proofs.lemmas.List.{length-map, map-append}
use Rattle.std.proofs.lemmas.List.Elements.{All-cons, All-nil, All-head, All-tail, All-weaker, All-push, All-map}
use Rattle.definitions_operators.specs.Operators as lists
use Rattle.plan_core.specs.declared.plans.Input.TheVariants as input
use Rattle.definitions_operators.specs.Operators.{has, places, places_where}
use Rattle.query_bind.specs.Binding.{Binding}
use Rattle.query_bind.specs.declared.bounds.JoinTo.{JoinTo}
use Rattle.plan_core.specs.Plans.{Steps, join, project, semi_join}
use Rattle.plan_core.specs.Planner.{Dimension, Listed, RowList, Rows, add_dimensions, add_join, add_list, add_places, add_row_lists, add_semi_joins, add_values, combine, make_one, with_one, with_two}
use Rattle.plan_meaning.specs.StoredLists.{StoredLists, value_at}
use Rattle.definitions_blocks.specs.Columns.{max_rows}
use Rattle.plan_meaning.specs.Columns.{made_column, input_of}
use Rattle.plan_meaning.specs.Operands.{IsShortList}
use Rattle.plan_meaning.proofs.Matched.{HasApart, HasChoices, HasLengths, Holds, Lists, Reads, partners, passing_rows}
use Rattle.definitions_operators.proofs.MapLaws.{flat_map-each, kept, map-flat_map, map-map}
use Rattle.definitions_operators.proofs.OperatorLaws.{join-reads}
use Rattle.plan_meaning.proofs.JoinedLaws.{Found, extended, start, with_row}
use Rattle.plan_meaning.proofs.PartnerLaws.{All-flat_map, join-lefts, join-rights, matches, partners-alone, partners-passing}
use Rattle.plan_meaning.proofs.RunLaws.{GoesOn, GoesOn-refl, GoesOn-then, Holds-later, IsRun, Lists-later, Reads-is, Reads-later, column-short, columns_so_far, made_input, made_number, with_one-holds, with_two-holds}
use Rattle.plan_meaning.proofs.ListStepLaws.{IsPositions, IsPositions-filter, add_list-lists, add_places-holds, add_values-reads, combine-lists, passing-positions, places_where-short}
use Rattle.plan_meaning.proofs.FitLaws.{Fits, Fits-places, Fits-row_lists, Fits-two, Fits-values, input-short, length-flat_map-alone, small_enough}

-- the keys of a dimension's passing rows
abbrev pub passing_keys : Binding → StoredLists → JoinTo → List ℕ
passing_keys binding stored to = map (value_at stored to.key) (passing_rows binding stored to.key.table)

-- a dimension's list is its passing rows, and its keys are theirs
pub record IsDimension (binding : Binding) (stored : StoredLists) (steps : Steps) (dimension : Dimension) : Type 0 where
  pub list : Lists stored steps dimension.list (stored.rows dimension.to.key.table) (passing_rows binding stored dimension.to.key.table)
  pub keys : Reads stored steps dimension.keys (passing_keys binding stored dimension.to)

IsDimension-later : (binding : Binding) (count : ℕ) (stored : StoredLists) (a b : Steps) (dimension : Dimension) → GoesOn count stored a b → IsDimension binding stored a dimension → IsDimension binding stored b dimension
IsDimension-later binding count stored a b dimension on is = record {
  list = Lists-later count stored a b dimension.list (stored.rows dimension.to.key.table) (passing_rows binding stored dimension.to.key.table) on is.list;
  keys = Reads-later count stored a b dimension.keys (passing_keys binding stored dimension.to) on is.keys;
}

pub AreDimensions-later : (binding : Binding) (count : ℕ) (stored : StoredLists) (a b : Steps) (dimensions : List Dimension)
    → GoesOn count stored a b → All (IsDimension binding stored a) dimensions → All (IsDimension binding stored b) dimensions
AreDimensions-later binding count stored a b dimensions on all =
    All-weaker (IsDimension binding stored a) (IsDimension binding stored b) (λ dimension is. IsDimension-later binding count stored a b dimension on is) dimensions all

-- Step 1.
pub add_dimensions-are : (binding : Binding) (count : ℕ) (stored : StoredLists) → HasLengths stored → All HasChoices binding.tests → (steps : Steps) (joins : List JoinTo) (done : List Dimension)
    → IsRun count stored steps → All (IsDimension binding stored steps) done
    → GoesOn count stored steps (add_dimensions steps binding joins done).steps
    × All (IsDimension binding stored (add_dimensions steps binding joins done).steps) (add_dimensions steps binding joins done).dimensions
    × (map (λ dimension. dimension.to) (add_dimensions steps binding joins done).dimensions ≡ map (λ dimension. dimension.to) done ++ joins)
add_dimensions-are binding count stored given chosen steps [] done run are = (GoesOn-refl count stored steps run, are, sym (append-nil (map (λ dimension. dimension.to) done)))
add_dimensions-are binding count stored given chosen steps (to ∷ joins) done run are =
    let table = to.key.table in
    let listed = add_list steps binding table in
    let read = add_values listed.steps to.key listed.list in
    let one : Dimension = record { to = to; list = listed.list; keys = read.input } in
    let all = add_dimensions read.steps binding joins (done ++ one ∷ []) in
    let rows = passing_rows binding stored table in
    let first = add_list-lists binding count stored given chosen steps table run in
    let second = add_values-reads count stored given listed.steps to.key listed.list rows first.0.run first.1 (passing-positions binding stored table).below in
    let on : GoesOn count stored steps read.steps = GoesOn-then count stored steps listed.steps read.steps first.0 second.0 in
    let rest = add_dimensions-are binding count stored given chosen read.steps joins (done ++ one ∷ []) second.0.run
    (All-push (IsDimension binding stored read.steps) done one (AreDimensions-later binding count stored steps read.steps done on are)
    (record { list = Lists-later count stored listed.steps read.steps listed.list (stored.rows table) rows second.0 first.1; keys = second.1 })) in (
      GoesOn-then count stored steps read.steps all.steps on rest.0,
      rest.1,
      rest.2 ∙ ap (λ l. l ++ joins) (map-append (λ dimension. dimension.to) done (one ∷ [])) ∙ append_assoc (map (λ dimension. dimension.to) done) (to ∷ []) joins,
    )

-- whether a fact row's join column is among a dimension's keys
abbrev pub has_key : Binding → StoredLists → JoinTo → ℕ → Bool
has_key binding stored to fact = has (passing_keys binding stored to) (value_at stored to.fact_column fact)

abbrev pub IsFrom : Binding → Dimension → Type 0
IsFrom binding dimension = dimension.to.fact_column.table ≡ binding.fact

-- Step 3: the fact list keeps the rows whose join columns are among the keys.
pub add_semi_joins-lists : (binding : Binding) (count : ℕ) (stored : StoredLists) → HasLengths stored → (listed : Listed) (dimensions : List Dimension) (list : List ℕ)
    → IsRun count stored listed.steps → All (IsDimension binding stored listed.steps) dimensions → All (IsFrom binding) dimensions
    → IsPositions (stored.rows binding.fact) list → Lists stored listed.steps listed.list (stored.rows binding.fact) list
    → GoesOn count stored listed.steps (add_semi_joins listed dimensions).steps
    × Lists stored (add_semi_joins listed dimensions).steps (add_semi_joins listed dimensions).list (stored.rows binding.fact)
    (kept (λ dimension. has_key binding stored dimension.to) dimensions list)
unfolding kept
add_semi_joins-lists binding count stored given listed [] list run are from positions lists = (GoesOn-refl count stored listed.steps run, lists)
add_semi_joins-lists binding count stored given listed (dimension ∷ dimensions) list run are from positions lists =
    let n = stored.rows binding.fact in
    let to = dimension.to in
    let test : ℕ → Bool = has_key binding stored to in
    let one = make_one listed.steps (semi_join to.fact_column dimension.keys) in
    let next = combine listed.list one in
    let all = add_semi_joins next dimensions in
    let here : IsDimension binding stored listed.steps dimension = All-head (IsDimension binding stored listed.steps) dimension dimensions are in
    let long : length (stored.values to.fact_column) ≡ n = given.lengths to.fact_column ∙ ap stored.rows (All-head (IsFrom binding) dimension dimensions from) in
    let first = with_one-holds count stored listed.steps (semi_join to.fact_column dimension.keys) (places_where test n) run
    (ap₂ (λ keys m. places_where (λ place. has keys (value_at stored to.fact_column place)) m ∷ []) (Reads-is stored listed.steps dimension.keys (passing_keys binding stored to) here.keys) long)
    (made_input stored listed.steps dimension.keys _ here.keys, refl) _ (λ short. places_where-short test n (given.short binding.fact)) in
    let second = combine-lists count stored listed.list one n list test first.0.run (given.short binding.fact) positions
    (Lists-later count stored listed.steps one.steps listed.list n list first.0 lists) first.1 in
    let on : GoesOn count stored listed.steps next.steps = GoesOn-then count stored listed.steps one.steps next.steps first.0 second.0 in
    let rest = add_semi_joins-lists binding count stored given next dimensions (filter test list) second.0.run
    (AreDimensions-later binding count stored listed.steps next.steps dimensions on (All-tail (IsDimension binding stored listed.steps) dimension dimensions are))
    (All-tail (IsFrom binding) dimension dimensions from) (IsPositions-filter test n list positions) second.1 in
    (GoesOn-then count stored listed.steps next.steps all.steps on rest.0, rest.1)

-- each row list is a function of its table
abbrev pub AreRowLists : StoredLists → Steps → (ℕ → List ℕ) → List RowList → Type 0
AreRowLists stored steps list_of lists = All (λ rows. Holds stored steps rows.number (list_of rows.table)) lists

AreRowLists-later : (count : ℕ) (stored : StoredLists) (a b : Steps) (list_of : ℕ → List ℕ) (lists : List RowList) → GoesOn count stored a b → AreRowLists stored a list_of lists → AreRowLists stored b list_of lists
AreRowLists-later count stored a b list_of lists on all =
    All-weaker (λ rows. Holds stored a rows.number (list_of rows.table)) (λ rows. Holds stored b rows.number (list_of rows.table))
    (λ rows holds. Holds-later count stored a b rows.number (list_of rows.table) on holds) lists all

abbrev pub tables_of : List RowList → List ℕ
tables_of lists = map (λ rows. rows.table) lists

-- the earlier row lists at the places
add_row_lists-are : (count : ℕ) (stored : StoredLists) (steps : Steps) (done todo : List RowList) (left n : ℕ) (at : List ℕ) (list_of : ℕ → List ℕ)
    → IsRun count stored steps → Holds stored steps left at → All (λ place. place < n) at → ((table : ℕ) → length (list_of table) ≡ n)
    → AreRowLists stored steps list_of todo → AreRowLists stored steps (λ table. lists.values_at (list_of table) at) done
    → GoesOn count stored steps (add_row_lists steps done todo left).steps
    × AreRowLists stored (add_row_lists steps done todo left).steps (λ table. lists.values_at (list_of table) at) (add_row_lists steps done todo left).lists
    × (tables_of (add_row_lists steps done todo left).lists ≡ tables_of done ++ tables_of todo)
add_row_lists-are count stored steps done [] left n at list_of run left_is within long todo_are done_are =
    (GoesOn-refl count stored steps run, done_are, sym (append-nil (tables_of done)))
add_row_lists-are count stored steps done (rows ∷ todo) left n at list_of run left_is within long todo_are done_are =
    let one = with_one steps (project (input.Made rows.number) left) in
    let new : RowList = record { table = rows.table; number = steps.columns + 1 } in
    let list = list_of rows.table in
    let projected : ℕ → List ℕ = λ table. lists.values_at (list_of table) at in
    let all = add_row_lists one (done ++ new ∷ []) todo left in
    let Old : RowList → Type 0 = λ rows. Holds stored steps rows.number (list_of rows.table) in
    let is : Holds stored steps rows.number list = All-head Old rows todo todo_are in
    let first = with_one-holds count stored steps (project (input.Made rows.number) left) (projected rows.table) run
    (ap₂ (λ a b. lists.values_at a b ∷ []) is.is left_is.is)
    (made_number stored steps rows.number _ is, made_number stored steps left _ left_is, refl)
    (subst (λ l. All (λ place. place < length l) (made_column (columns_so_far stored steps) left)) (sym is.is)
    (subst (All (λ place. place < length list)) (sym left_is.is) (subst (λ m. All (λ place. place < m) at) (sym (long rows.table)) within)))
    (λ short. subst (λ m. m ≤ max_rows) (ap length left_is.is ∙ sym (length-map at (slice_index list))) (column-short (columns_so_far stored steps) left short)) in
    let New : RowList → Type 0 = λ rows. Holds stored one rows.number (projected rows.table) in
    let rest = add_row_lists-are count stored one (done ++ new ∷ []) todo left n at list_of first.0.run (Holds-later count stored steps one left at first.0 left_is) within long
    (AreRowLists-later count stored steps one list_of todo first.0 (All-tail Old rows todo todo_are))
    (All-push New done new (AreRowLists-later count stored steps one projected done first.0 done_are) first.1) in (
      GoesOn-then count stored steps one all.steps first.0 rest.0,
      rest.1,
      rest.2 ∙ ap (λ l. l ++ tables_of todo) (map-append (λ rows. rows.table) done (new ∷ [])) ∙ append_assoc (tables_of done) (rows.table ∷ []) (tables_of todo),
    )

-- the rows found so far: the fact list and the row lists, side by side
pub record AreFound (binding : Binding) (stored : StoredLists) (rows : Rows) (found : List Found) : Type 0 where
  pub facts : Lists stored rows.steps rows.facts (stored.rows binding.fact) (map (λ each. each.fact) found)
  pub below : All (λ each. each.fact < stored.rows binding.fact) found
  pub lists : AreRowLists stored rows.steps (λ table. map (λ each. each.row table) found) rows.lists

pub All-unmap : {A B : Type 0} (P : B → Type 0) (f : A → B) (xs : List A) → All P (map f xs) → All (λ x. P (f x)) xs
All-unmap P f [] all = All-nil (λ x. P (f x))
All-unmap P f (x ∷ xs) all = All-cons (λ x. P (f x)) x xs (All-head P (f x) (map f xs) all) (All-unmap P f xs (All-tail P (f x) (map f xs) all))

-- what a Join gives, read at each item with each of its partners
joined-reads : (binding : Binding) (stored : StoredLists) (to : JoinTo) (found : List Found) (u : Found → ℕ) (read : ℕ × ℕ → ℕ)
    → ((i j : ℕ) → i < length found → j < length (passing_rows binding stored to.key.table)
    → read (i, j) ≡ u (with_row to (get_or found i (start 0)) (slice_index (passing_rows binding stored to.key.table) j)))
    → map read (lists.join (map (λ each. value_at stored to.fact_column each.fact) found) (passing_keys binding stored to))
    ≡ map u (extended (λ to fact. partners binding stored fact to) to found)
joined-reads binding stored to found u read same =
    let ps = passing_rows binding stored to.key.table in
    let k : Found → ℕ → ℕ = λ each row. u (with_row to each row) in
    join-reads (λ each. value_at stored to.fact_column each.fact) found (start 0) (value_at stored to.key) ps read k same
    ∙ flat_map-each (λ each. map (k each) (filter (matches stored to each.fact) ps)) (λ each. map u (map (with_row to each) (partners binding stored each.fact to)))
    (λ each. ap (map (k each)) (partners-passing binding stored each.fact to) ∙ sym (map-map u (with_row to each) (partners binding stored each.fact to))) found
    ∙ sym (map-flat_map u (λ each. map (with_row to each) (partners binding stored each.fact to)) found)

not_too_large : (n : ℕ) → nat_lt max_rows n ≡ false → n ≤ max_rows
not_too_large n fits = grind (arith, nat_tests)

-- Step 4, for one dimension whose table isn't among those before.
pub add_join-found : (binding : Binding) (count : ℕ) (stored : StoredLists) → HasLengths stored → (rows : Rows) (dimension : Dimension) (found : List Found)
    → IsRun count stored rows.steps → AreFound binding stored rows found → IsDimension binding stored rows.steps dimension → IsFrom binding dimension
    → All (λ table. (dimension.to.key.table == table) ≡ false) (tables_of rows.lists)
    → GoesOn count stored rows.steps (add_join rows dimension).steps
    × AreFound binding stored (add_join rows dimension) (extended (λ to fact. partners binding stored fact to) dimension.to found)
    × (tables_of (add_join rows dimension).lists ≡ tables_of rows.lists ++ dimension.to.key.table ∷ [])
    × (HasApart stored dimension.to.key → Fits stored rows.steps → Fits stored (add_join rows dimension).steps)
add_join-found binding count stored given rows dimension found run are is from apart =
    let to = dimension.to in
    let n = stored.rows binding.fact in
    let more = extended (λ to fact. partners binding stored fact to) to found in
    let ps = passing_rows binding stored to.key.table in
    let facts_of : List Found → List ℕ = map (λ each. each.fact) in
    let values = map (λ each. value_at stored to.fact_column each.fact) found in
    let keys = passing_keys binding stored to in
    let pairs = lists.join values keys in
    let lefts = map (λ pair. pair.0) pairs in
    let rights = map (λ pair. pair.1) pairs in
    let rows_of : ℕ → List ℕ = λ table. map (λ each. each.row table) found in
    let probe = add_values rows.steps to.fact_column rows.facts in
    let left = probe.steps.columns + 1 in
    let joined = with_two probe.steps (join probe.input dimension.keys) in
    let facts = add_places joined rows.facts left in
    let earlier = add_row_lists facts.steps [] rows.lists left in
    let own = add_places earlier.steps dimension.list (left + 1) in
    let new : RowList = record { table = to.key.table; number = own.number } in
    let many : length (map (λ each. each.fact) found) ≡ length found = length-map found (λ each. each.fact) in
    let facts_below : All (λ place. place < n) (facts_of found) = All-map (λ place. place < n) (λ (each : Found). each.fact) found are.below in
    -- the probe
    let probed = add_values-reads count stored given rows.steps to.fact_column rows.facts (facts_of found) run
    (subst (λ table. Lists stored rows.steps rows.facts (stored.rows table) (facts_of found)) (sym from) are.facts)
    (subst (λ table. All (λ place. place < stored.rows table) (facts_of found)) (sym from) facts_below) in
    let probe_is : input_of stored (columns_so_far stored probe.steps) probe.input ≡ values =
    Reads-is stored probe.steps probe.input (lists.values_at (stored.values to.fact_column) (facts_of found)) probed.1
    ∙ map-map (value_at stored to.fact_column) (λ each. each.fact) found in
    let keys_read : Reads stored probe.steps dimension.keys keys = Reads-later count stored rows.steps probe.steps dimension.keys keys probed.0 is.keys in
    let keys_is : input_of stored (columns_so_far stored probe.steps) dimension.keys ≡ keys = Reads-is stored probe.steps dimension.keys keys keys_read in
    -- the Join
    let made = with_two-holds count stored probe.steps (join probe.input dimension.keys) lefts rights probed.0.run
    (ap₂ (λ a b. map (λ pair. pair.0) (lists.join a b) ∷ map (λ pair. pair.1) (lists.join a b) ∷ []) probe_is keys_is)
    (made_input stored probe.steps probe.input _ probed.1, made_input stored probe.steps dimension.keys _ keys_read, refl, refl)
    _
    (λ fits short.
    let few : length pairs ≤ max_rows = not_too_large (length pairs) (sym (ap₂ (λ a b. nat_lt max_rows (length (lists.join a b))) probe_is keys_is) ∙ fits) in
    (subst (λ m. m ≤ max_rows) (sym (length-map pairs (λ pair. pair.0))) few, subst (λ m. m ≤ max_rows) (sym (length-map pairs (λ pair. pair.1))) few)) in
    let on_joined : GoesOn count stored rows.steps joined = GoesOn-then count stored rows.steps probe.steps joined probed.0 made.0 in
    let lefts_within : All (λ place. place < length found) lefts =
    subst (λ m. All (λ place. place < m) lefts) (length-map found (λ each. value_at stored to.fact_column each.fact)) (join-lefts values keys) in
    let rights_within : All (λ place. place < length ps) rights = subst (λ m. All (λ place. place < m) rights) (length-map ps (value_at stored to.key)) (join-rights values keys) in
    -- the fact list
    let made_facts = add_places-holds count stored joined rows.facts n (facts_of found) left lefts made.0.run
    (Lists-later count stored rows.steps joined rows.facts n (facts_of found) on_joined are.facts) made.1
    (subst (λ m. All (λ place. place < m) lefts) (sym many) lefts_within) in
    let on_facts : GoesOn count stored rows.steps facts.steps = GoesOn-then count stored rows.steps joined facts.steps on_joined made_facts.0 in
    -- the earlier row lists
    let made_earlier = add_row_lists-are count stored facts.steps [] rows.lists left (length found) lefts rows_of made_facts.0.run
    (Holds-later count stored joined facts.steps left lefts made_facts.0 made.1) lefts_within
    (λ table. length-map found (λ each. each.row table))
    (AreRowLists-later count stored rows.steps facts.steps rows_of rows.lists on_facts are.lists)
    (All-nil (λ rows. Holds stored facts.steps rows.number (lists.values_at (rows_of rows.table) lefts))) in
    let on_earlier : GoesOn count stored rows.steps earlier.steps = GoesOn-then count stored rows.steps facts.steps earlier.steps on_facts made_earlier.0 in
    -- its own row list
    let second : probe.steps.columns + 2 ≡ left + 1 = omega arith in
    let made_own = add_places-holds count stored earlier.steps dimension.list (stored.rows to.key.table) ps (left + 1) rights made_earlier.0.run
    (Lists-later count stored rows.steps earlier.steps dimension.list (stored.rows to.key.table) ps on_earlier is.list)
    (Holds-later count stored joined earlier.steps (left + 1) rights (GoesOn-then count stored joined facts.steps earlier.steps made_facts.0 made_earlier.0)
    (subst (λ k. Holds stored joined k rights) second made.2))
    rights_within in
    let on_own : GoesOn count stored rows.steps own.steps = GoesOn-then count stored rows.steps earlier.steps own.steps on_earlier made_own.0 in
    -- what they are
    let facts_is : lists.values_at (facts_of found) lefts ≡ facts_of more =
    map-map (slice_index (facts_of found)) (λ (pair : ℕ × ℕ). pair.0) pairs
    ∙ joined-reads binding stored to found (λ each. each.fact) (λ pair. slice_index (facts_of found) pair.0)
    (λ i j within inside. Rattle.std.proofs.lemmas.List.get_or-map (λ each. each.fact) found i (start 0) 0 within) in
    let lists_is : (table : ℕ) → (to.key.table == table) ≡ false → lists.values_at (rows_of table) lefts ≡ map (λ each. each.row table) more =
    λ table other.
    map-map (slice_index (rows_of table)) (λ (pair : ℕ × ℕ). pair.0) pairs
    ∙ joined-reads binding stored to found (λ each. each.row table) (λ pair. slice_index (rows_of table) pair.0)
    (λ i j within inside.
    Rattle.std.proofs.lemmas.List.get_or-map (λ each. each.row table) found i (start 0) 0 within
    ∙ sym (ap (λ b. cond b (slice_index ps j) ((get_or found i (start 0)).row table)) other)) in
    let own_is : lists.values_at ps rights ≡ map (λ each. each.row to.key.table) more =
    let t : (to.key.table == to.key.table) ≡ true = grind (arith, nat_tests) in
    map-map (slice_index ps) (λ (pair : ℕ × ℕ). pair.1) pairs
    ∙ joined-reads binding stored to found (λ each. each.row to.key.table) (λ pair. slice_index ps pair.1)
    (λ i j within inside. sym (ap (λ b. cond b (slice_index ps j) ((get_or found i (start 0)).row to.key.table)) t)) in
    let Old : RowList → Type 0 = λ rows. Holds stored own.steps rows.number (lists.values_at (rows_of rows.table) lefts) in
    let New : RowList → Type 0 = λ rows. Holds stored own.steps rows.number (map (λ each. each.row rows.table) more) in
    let Other : RowList → Type 0 = λ rows. (to.key.table == rows.table) ≡ false in
    let others : All Other earlier.lists =
    All-unmap (λ table. (to.key.table == table) ≡ false) (λ (rows : RowList). rows.table) earlier.lists (subst (All (λ table. (to.key.table == table) ≡ false)) (sym made_earlier.2) apart) in
    let olds : All Old earlier.lists = AreRowLists-later count stored earlier.steps own.steps (λ table. lists.values_at (rows_of table) lefts) earlier.lists made_own.0 made_earlier.1 in
    let news : All New earlier.lists =
    All-weaker (λ rows. Old rows × Other rows) New (λ rows both. subst (Holds stored own.steps rows.number) (lists_is rows.table both.1) both.0) earlier.lists (λ k d within. (olds k d within, others k d within)) in (
      on_own,
      record {
        facts = subst (Holds stored own.steps facts.number) facts_is
            (Holds-later count stored facts.steps own.steps facts.number (lists.values_at (facts_of found) lefts)
            (GoesOn-then count stored facts.steps earlier.steps own.steps made_earlier.0 made_own.0) made_facts.1);
        below = All-flat_map (λ each. each.fact < n) (λ each. each.fact < n) (λ each. map (with_row to each) (partners binding stored each.fact to))
            (λ each within. All-map (λ (each : Found). each.fact < n) (with_row to each) (partners binding stored each.fact to) (λ k d h. within)) found are.below;
        lists = All-push New earlier.lists new news (subst (Holds stored own.steps own.number) own_is made_own.1);
      },
      map-append (λ rows. rows.table) earlier.lists (new ∷ []) ∙ ap (λ l. l ++ to.key.table ∷ []) made_earlier.2,
      λ distinct fits.
          let fits_probe : Fits stored probe.steps = Fits-values stored rows.steps to.fact_column rows.facts fits in
          let alone : (each : Found) → length (map (with_row to each) (partners binding stored each.fact to)) ≤ 1 =
          λ each. subst (λ m. m ≤ 1) (sym (length-map (partners binding stored each.fact to) (with_row to each))) (partners-alone binding stored each.fact to distinct) in
          let fewer : length more ≤ length found = length-flat_map-alone (λ each. map (with_row to each) (partners binding stored each.fact to)) alone found in
          let same : length pairs ≡ length more =
          sym (length-map lefts (slice_index (facts_of found)) ∙ length-map pairs (λ pair. pair.0)) ∙ ap length facts_is ∙ length-map more (λ each. each.fact) in
          let long : length values ≤ max_rows = subst IsShortList probe_is (input-short stored given (columns_so_far stored probe.steps) probe.input (probed.0.run.short fits_probe)) in
          let values_are : length values ≡ length found = length-map found (λ each. value_at stored to.fact_column each.fact) in
          let small : length pairs ≤ max_rows = omega arith in
          Fits-places stored earlier.steps dimension.list (left + 1)
          (Fits-row_lists stored facts.steps [] rows.lists left
          (Fits-places stored joined rows.facts left
          (Fits-two stored probe.steps (join probe.input dimension.keys)
          (ap₂ (λ a b. nat_lt max_rows (length (lists.join a b))) probe_is keys_is ∙ small_enough (length pairs) small) fits_probe))),
    )
