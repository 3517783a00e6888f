-- What a binding names it needs, and data that have no other columns: those are filled up with zeros.
use Rattle.std.proofs.Common.{◌≡◌, ℕ, zero, suc, inl, inr, ◌<◌, ◌≤◌, Bool, true, false, cond, List, [], ◌∷◌, ◌++◌, map, length, replicate, get_or, refl, sym, ap, ap₂, ◌∙◌, subst, All, arith}
use Rattle.std.specs.Prelude.{◌&&◌, ◌||◌, ◌==◌, nat_eq, flat_map, slice_index}
use Rattle.std.specs.List.{list_any, IsDistinct}
use Rattle.std.proofs.lemmas.Bool.{or_left, or_right, or_cases}
use Rattle.std.proofs.lemmas.Bool.Decides.{nat_tests, Decides-eqb}
use Rattle.std.proofs.lemmas.List.{length-replicate}
use Rattle.std.proofs.lemmas.List.Folds.{list_any-append}
use Rattle.std.proofs.lemmas.List.Elements.{All-nil, All-cons, All-head, All-tail, All-weaker, All-append, All-map}
use Rattle.definitions_blocks.specs.Columns.{max_rows}
use Rattle.definitions_operators.proofs.OccurrenceLaws.{All-from_each}
use Rattle.catalog_core.specs.declared.columns.ColumnId.{ColumnId}
use Rattle.catalog_core.specs.declared.schemas.Schema.{Schema}
use Rattle.query_bind.specs.Binding.{Binding, Tested}
use Rattle.query_bind.specs.LawfulBindings.{operands}
use Rattle.query_bind.specs.Needed.{join_columns, named_columns, is_column}
use Rattle.query_bind.specs.declared.bounds.JoinTo.{JoinTo}
use Rattle.plan_meaning.specs.StoredLists.{StoredLists, value_at}
use Rattle.plan_meaning.specs.Shapes.{is_needed, IsNeeded}
use Rattle.plan_meaning.specs.Law.{StandsFor}
use Rattle.plan_meaning.proofs.Matched.{IsLawful, IsOfTables, StandsWhole}
use Rattle.plan_meaning.proofs.JoinStepLaws.{All-unmap}

-- # What is needed

abbrev IsAmong : List ColumnId → ColumnId → Type 0
IsAmong columns id = list_any (is_column id) columns ≡ true

is_itself : (id : ColumnId) → is_column id id ≡ true
is_itself id =
    let table : (id.table == id.table) ≡ true = grind (arith, nat_tests) in
    let column : (id.column == id.column) ≡ true = grind (arith, nat_tests) in
    ap₂ (λ a b. a && b) table column

among_front : (front back : List ColumnId) (id : ColumnId) → IsAmong front id → IsAmong (front ++ back) id
among_front front back id among = list_any-append (is_column id) front back ∙ or_left (list_any (is_column id) front) (list_any (is_column id) back) among

among_back : (front back : List ColumnId) (id : ColumnId) → IsAmong back id → IsAmong (front ++ back) id
among_back front back id among = list_any-append (is_column id) front back ∙ or_right (list_any (is_column id) front) (list_any (is_column id) back) among

all_among : (columns : List ColumnId) → All (IsAmong columns) columns
all_among [] = All-nil (IsAmong [])
all_among (id ∷ columns) =
    All-cons (IsAmong (id ∷ columns)) id columns (or_left (is_column id id) (list_any (is_column id) columns) (is_itself id))
    (All-weaker (IsAmong columns) (IsAmong (id ∷ columns)) (λ other among. or_right (is_column other id) (list_any (is_column other) columns) among) columns (all_among columns))

-- what flat maps have, item by item
all_flat : {X : Type 0} (columns_of : X → List ColumnId) (items : List X) → All (λ item. All (IsAmong (flat_map columns_of items)) (columns_of item)) items
all_flat columns_of [] = All-nil (λ item. All (IsAmong []) (columns_of item))
all_flat {X} columns_of (item ∷ items) =
    let rest = flat_map columns_of items in
    All-cons (λ (one : X). All (IsAmong (columns_of item ++ rest)) (columns_of one)) item items
    (All-weaker (IsAmong (columns_of item)) (IsAmong (columns_of item ++ rest)) (λ id among. among_front (columns_of item) rest id among) (columns_of item) (all_among (columns_of item)))
    (All-weaker (λ (one : X). All (IsAmong rest) (columns_of one)) (λ (one : X). All (IsAmong (columns_of item ++ rest)) (columns_of one))
    (λ one all. All-weaker (IsAmong rest) (IsAmong (columns_of item ++ rest)) (λ id among. among_back (columns_of item) rest id among) (columns_of one) all)
    items (all_flat columns_of items))

all_mapped : {X : Type 0} (column_of : X → ColumnId) (items : List X) → All (λ item. IsAmong (map column_of items) (column_of item)) items
all_mapped column_of [] = All-nil (λ item. IsAmong [] (column_of item))
all_mapped {X} column_of (item ∷ items) =
    let rest = map column_of items in
    All-cons (λ (one : X). IsAmong (column_of item ∷ rest) (column_of one)) item items
    (or_left (is_column (column_of item) (column_of item)) (list_any (is_column (column_of item)) rest) (is_itself (column_of item)))
    (All-weaker (λ (one : X). IsAmong rest (column_of one)) (λ (one : X). IsAmong (column_of item ∷ rest) (column_of one))
    (λ one among. or_right (is_column (column_of one) (column_of item)) (list_any (is_column (column_of one)) rest) among) items (all_mapped column_of items))

-- the columns of joins, tests, groups and sums are needed
pub record NeedsAll (binding : Binding) : Type 0 where
  pub joins : All (λ to. IsNeeded binding to.fact_column × IsNeeded binding to.key) binding.joins
  pub tests : All (λ tested. IsNeeded binding tested.column) binding.tests
  pub groups : All (IsNeeded binding) binding.groups
  pub sums : All (λ sum. All (IsNeeded binding) (operands sum)) binding.sums

pub needs_all : (binding : Binding) → NeedsAll binding
needs_all binding =
    let first = flat_map join_columns binding.joins in
    let second : List ColumnId = map (λ tested. tested.column) binding.tests in
    let third = binding.groups in
    let fourth = flat_map operands binding.sums in
    let in_first : (id : ColumnId) → IsAmong first id → IsNeeded binding id = λ id among.
    among_front (first ++ second ++ third) fourth id (among_front (first ++ second) third id (among_front first second id among)) in
    let in_second : (id : ColumnId) → IsAmong second id → IsNeeded binding id = λ id among.
    among_front (first ++ second ++ third) fourth id (among_front (first ++ second) third id (among_back first second id among)) in
    let in_third : (id : ColumnId) → IsAmong third id → IsNeeded binding id = λ id among.
    among_front (first ++ second ++ third) fourth id (among_back (first ++ second) third id among) in
    let in_fourth : (id : ColumnId) → IsAmong fourth id → IsNeeded binding id = λ id among. among_back (first ++ second ++ third) fourth id among in
    record {
      joins = All-weaker (λ to. All (IsAmong first) (join_columns to)) (λ to. IsNeeded binding to.fact_column × IsNeeded binding to.key)
          (λ to both. (
            in_first to.fact_column (All-head (IsAmong first) to.fact_column (to.key ∷ []) both),
            in_first to.key (All-head (IsAmong first) to.key [] (All-tail (IsAmong first) to.fact_column (to.key ∷ []) both)),
          )) binding.joins (all_flat join_columns binding.joins);
      tests = All-weaker (λ tested. IsAmong second tested.column) (λ tested. IsNeeded binding tested.column) (λ tested among. in_second tested.column among) binding.tests
          (all_mapped (λ (tested : Tested). tested.column) binding.tests);
      groups = All-weaker (IsAmong third) (IsNeeded binding) in_third binding.groups (all_among third);
      sums = All-weaker (λ sum. All (IsAmong fourth) (operands sum)) (λ sum. All (IsNeeded binding) (operands sum))
          (λ sum all. All-weaker (IsAmong fourth) (IsNeeded binding) in_fourth (operands sum) all) binding.sums (all_flat operands binding.sums);
    }

-- # Tables of FROM

-- the fact table, or a table that is joined
abbrev pub is_of : Binding → ℕ → Bool
is_of binding table = (binding.fact == table) || list_any (λ to. to.key.table == table) binding.joins

of_tables : (binding : Binding) (id : ColumnId) → IsOfTables binding id → is_of binding id.table ≡ true
of_tables binding id (inl fact) = or_left (binding.fact == id.table) (list_any (λ to. to.key.table == id.table) binding.joins) fact
of_tables binding id (inr other) = or_right (binding.fact == id.table) (list_any (λ to. to.key.table == id.table) binding.joins) other.1

among_keys : (to : JoinTo) (joins : List JoinTo) → All (λ other. list_any (λ one. one.key.table == other.key.table) joins ≡ true) joins
    → All (λ other. list_any (λ one. one.key.table == other.key.table) (to ∷ joins) ≡ true) joins
among_keys to joins before =
    All-weaker (λ other. list_any (λ one. one.key.table == other.key.table) joins ≡ true) (λ other. list_any (λ one. one.key.table == other.key.table) (to ∷ joins) ≡ true)
    (λ other among. or_right (to.key.table == other.key.table) (list_any (λ one. one.key.table == other.key.table) joins) among) joins before

all_keys : (joins : List JoinTo) → All (λ to. list_any (λ one. one.key.table == to.key.table) joins ≡ true) joins
all_keys [] = All-nil (λ (to : JoinTo). let none : List JoinTo = [] in list_any (λ one. one.key.table == to.key.table) none ≡ true)
all_keys (to ∷ joins) =
    All-cons (λ other. list_any (λ one. one.key.table == other.key.table) (to ∷ joins) ≡ true) to joins
    (let here : (to.key.table == to.key.table) ≡ true = grind (arith, nat_tests) in or_left (to.key.table == to.key.table) (list_any (λ one. one.key.table == to.key.table) joins) here)
    (among_keys to joins (all_keys joins))

pub fact_of : (binding : Binding) → is_of binding binding.fact ≡ true
fact_of binding =
    let here : (binding.fact == binding.fact) ≡ true = grind (arith, nat_tests) in
    or_left (binding.fact == binding.fact) (list_any (λ to. to.key.table == binding.fact) binding.joins) here

pub keys_of : (binding : Binding) → All (λ to. is_of binding to.key.table ≡ true) binding.joins
keys_of binding =
    All-weaker (λ to. list_any (λ one. one.key.table == to.key.table) binding.joins ≡ true) (λ to. is_of binding to.key.table ≡ true)
    (λ to among. or_right (binding.fact == to.key.table) (list_any (λ one. one.key.table == to.key.table) binding.joins) among) binding.joins (all_keys binding.joins)

abbrev IsOfFrom : Binding → ColumnId → Type 0
IsOfFrom binding id = is_of binding id.table ≡ true

all_flat_of : {X : Type 0} (P : ColumnId → Type 0) (columns_of : X → List ColumnId) (items : List X) → All (λ item. All P (columns_of item)) items → All P (flat_map columns_of items)
all_flat_of P columns_of [] all = All-nil P
all_flat_of {X} P columns_of (item ∷ items) all =
    All-append P (columns_of item) (flat_map columns_of items) (All-head (λ (one : X). All P (columns_of one)) item items all)
    (all_flat_of P columns_of items (All-tail (λ (one : X). All P (columns_of one)) item items all))

-- all named columns are of tables of FROM
named_of : (binding : Binding) → IsLawful binding → All (IsOfFrom binding) (named_columns binding)
named_of binding lawful =
    let P : ColumnId → Type 0 = IsOfFrom binding in
    let joins : All P (flat_map join_columns binding.joins) = all_flat_of P join_columns binding.joins
    (λ k d within.
    let to = get_or binding.joins k d in
    All-cons P to.fact_column (to.key ∷ []) (subst (λ table. is_of binding table ≡ true) (sym (lawful.facts k d within)) (fact_of binding))
    (All-cons P to.key [] (keys_of binding k d within) (All-nil P))) in
    let tests : All P (map (λ tested. tested.column) binding.tests) =
    All-map P (λ (tested : Tested). tested.column) binding.tests (λ k d within. of_tables binding (get_or binding.tests k d).column (lawful.tests k d within)) in
    let groups : All P binding.groups = λ k d within. of_tables binding (get_or binding.groups k d) (lawful.groups k d within) in
    let sums : All P (flat_map operands binding.sums) = all_flat_of P operands binding.sums
    (λ k d within. All-weaker (IsOfTables binding) P (of_tables binding) (operands (get_or binding.sums k d)) (lawful.sums k d within)) in
    let first = flat_map join_columns binding.joins in
    let second : List ColumnId = map (λ tested. tested.column) binding.tests in
    All-append P (first ++ second ++ binding.groups) (flat_map operands binding.sums)
    (All-append P (first ++ second) binding.groups (All-append P first second joins tests) groups) sums

and_first : (a b : Bool) → (a && b) ≡ true → a ≡ true
and_first true b h = refl
and_first false b h = absurd (cc)

among_of : (binding : Binding) (id : ColumnId) (columns : List ColumnId) → All (IsOfFrom binding) columns → IsAmong columns id → IsOfFrom binding id
among_of binding id [] all among = absurd (cc)
among_of binding id (other ∷ columns) all among =
    elim (or_cases (is_column id other) (list_any (is_column id) columns) among) [
      | inl here ↦
          let same : id.table ≡ other.table = (Decides-eqb id.table other.table).0 (and_first (id.table == other.table) (id.column == other.column) here) in
          subst (λ table. is_of binding table ≡ true) (sym same) (All-head (IsOfFrom binding) other columns all)
      | inr later ↦ among_of binding id columns (All-tail (IsOfFrom binding) other columns all) later
    ]

pub needed_of : (binding : Binding) → IsLawful binding → (id : ColumnId) → IsNeeded binding id → is_of binding id.table ≡ true
needed_of binding lawful id needed = among_of binding id (named_columns binding) (named_of binding lawful) needed

-- # Data without other columns and tables

-- other tables have no rows, and other columns have zeros
abbrev pub needed_rows : Binding → StoredLists → ℕ → ℕ
needed_rows binding stored table = cond (is_of binding table) (stored.rows table) 0

abbrev pub needed_data : Binding → StoredLists → StoredLists
needed_data binding stored = record {
  rows = needed_rows binding stored;
  values = λ id. cond (is_needed binding id) (stored.values id) (replicate (needed_rows binding stored id.table) 0);
  texts = stored.texts;
}

pub needed_values : (binding : Binding) (stored : StoredLists) (id : ColumnId) → IsNeeded binding id → (needed_data binding stored).values id ≡ stored.values id
needed_values binding stored id needed = ap (λ b. cond b (stored.values id) (replicate (needed_rows binding stored id.table) 0)) needed

pub rows_of : (binding : Binding) (stored : StoredLists) (table : ℕ) → is_of binding table ≡ true → needed_rows binding stored table ≡ stored.rows table
rows_of binding stored table is = ap (λ b. cond b (stored.rows table) 0) is

needed_lengths : (binding : Binding) (stored : StoredLists) (id : ColumnId) → (IsNeeded binding id → length (stored.values id) ≡ needed_rows binding stored id.table)
    → length ((needed_data binding stored).values id) ≡ needed_rows binding stored id.table
needed_lengths binding stored id long =
    let n = needed_rows binding stored id.table in
    (elim (is_needed binding id) as (λ b. (b ≡ true → length (stored.values id) ≡ n) → length (cond b (stored.values id) (replicate n 0)) ≡ n) [
      | true ↦ λ h. h refl
      | false ↦ λ h. length-replicate n 0
    ]) long

joined_table : (P : ℕ → Type 0) (table : ℕ) (joins : List JoinTo) → All (λ to. P to.key.table) joins → list_any (λ to. to.key.table == table) joins ≡ true → P table
joined_table P table [] all among = absurd (cc)
joined_table P table (to ∷ joins) all among =
    elim (or_cases (to.key.table == table) (list_any (λ to. to.key.table == table) joins) among) [
      | inl here ↦ subst P ((Decides-eqb to.key.table table).0 here) (All-head (λ to. P to.key.table) to joins all)
      | inr later ↦ joined_table P table joins (All-tail (λ to. P to.key.table) to joins all) later
    ]

of_all : (binding : Binding) (P : ℕ → Type 0) (table : ℕ) → P binding.fact → All (λ to. P to.key.table) binding.joins → is_of binding table ≡ true → P table
of_all binding P table fact keys is =
    elim (or_cases (binding.fact == table) (list_any (λ to. to.key.table == table) binding.joins) is) [
      | inl here ↦ subst P ((Decides-eqb binding.fact table).0 here) fact
      | inr later ↦ joined_table P table binding.joins keys later
    ]

needed_short : (binding : Binding) (stored : StoredLists) (table : ℕ) → stored.rows binding.fact ≤ max_rows → All (λ to. stored.rows to.key.table ≤ max_rows) binding.joins
    → needed_rows binding stored table ≤ max_rows
needed_short binding stored table fact keys =
    (elim (is_of binding table) as (λ b. (b ≡ true → stored.rows table ≤ max_rows) → cond b (stored.rows table) 0 ≤ max_rows) [
      | true ↦ λ h. h refl
      | false ↦ λ h. omega arith
    ]) (of_all binding (λ table. stored.rows table ≤ max_rows) table fact keys)

-- two places of a list of distinct numbers have different ones
distinct_at : (xs : List ℕ) → IsDistinct nat_eq xs → (a b : ℕ) → a < length xs → b < length xs → get_or xs a 0 ≡ get_or xs b 0 → a ≡ b
unfolding IsDistinct
distinct_at [] distinct a b first second same = absurd (omega arith)
distinct_at (x ∷ xs) distinct zero zero first second same = refl
distinct_at (x ∷ xs) distinct zero (suc b) first second same =
    let no : nat_eq x (get_or xs b 0) ≡ false = All-from_each (λ y. nat_eq x y ≡ false) xs distinct.0 b 0 (omega arith) in
    absurd (let yes : nat_eq x (get_or xs b 0) ≡ true = (Decides-eqb x (get_or xs b 0)).1 same in cc)
distinct_at (x ∷ xs) distinct (suc a) zero first second same =
    let no : nat_eq x (get_or xs a 0) ≡ false = All-from_each (λ y. nat_eq x y ≡ false) xs distinct.0 a 0 (omega arith) in
    absurd (let yes : nat_eq x (get_or xs a 0) ≡ true = (Decides-eqb x (get_or xs a 0)).1 (sym same) in cc)
distinct_at (x ∷ xs) distinct (suc a) (suc b) first second same = ap suc (distinct_at xs distinct.1 a b (omega arith) (omega arith) same)

pub needed-stand : (schema : Schema) (binding : Binding) → IsLawful binding → map (λ to. to.key.table) binding.joins ≡ binding.dimensions
    → (stored : StoredLists) → StandsFor schema binding stored → StandsWhole binding schema (needed_data binding stored)
needed-stand schema binding lawful joined stored stands =
    let P : ℕ → Type 0 = λ table. stored.rows table ≤ max_rows in
    let fact : P binding.fact = All-head P binding.fact binding.dimensions stands.short in
    let keys : All (λ to. P to.key.table) binding.joins =
    All-unmap P (λ (to : JoinTo). to.key.table) binding.joins (subst (All P) (sym joined) (All-tail P binding.fact binding.dimensions stands.short)) in
    record {
      tables = record {
        lengths = λ id. needed_lengths binding stored id (λ needed. stands.lengths id needed ∙ sym (rows_of binding stored id.table (needed_of binding lawful id needed)));
        short = λ table. needed_short binding stored table fact keys;
      };
      keys = λ k d within once a b first second same.
          let to = get_or binding.joins k d in
          let key : (needed_data binding stored).values to.key ≡ stored.values to.key = needed_values binding stored to.key ((needs_all binding).joins k d within).1 in
          let at : (row : ℕ) → value_at (needed_data binding stored) to.key row ≡ value_at stored to.key row = λ row. ap (λ l. slice_index l row) key in
          let long : needed_rows binding stored to.key.table ≡ length (stored.values to.key) =
          rows_of binding stored to.key.table (keys_of binding k d within) ∙ sym (stands.lengths to.key ((needs_all binding).joins k d within).1) in
          distinct_at (stored.values to.key) (stands.keys k d within once) a b (omega (arith, first, long)) (omega (arith, second, long)) (sym (at a) ∙ same ∙ at b);
    }
