-- What a lawful binding needs, as lists in the schema's order.
use Rattle.std.proofs.Common.{◌≡◌, ◌<◌, ℕ, Bool, true, false, ◌&&◌, ◌==◌, List, [], ◌∷◌, ◌++◌, length, map, Some, None, inl, inr, ◌⊎◌, refl, sym, ap, ◌∙◌, arith, nat_eq, nat_lt, get_or, ◌≤◌, true≢false}
use Rattle.std.specs.Prelude.{Option, not, IsTrue, IsSome, is_some, slice_get}
use Rattle.std.specs.Option.{option_map_or}
use Rattle.std.specs.List.{AllByRecursion, Contains, flat_map, list_any, range_with_len, dedup}
use Rattle.std.specs.List.Sorted.{IsPermutation, IsSorted}
use Rattle.std.specs.Ordering.{nat_cmp, eq_by_cmp}
use Rattle.std.specs.Cmp.{nat_cmp_is}
use Rattle.std.specs.declared.cmp.Ordering.TheVariants.{Less, Equal}
use Rattle.std.proofs.lemmas.Bool.{or_cases, and_parts, eqb-true, ltb-true, eq-eqb, and_from}
use Rattle.std.proofs.lemmas.List.FromFn.{length-range_with_len, get_or-range_with_len}
use Rattle.std.proofs.lemmas.Option.{slice_get_cases}
use Rattle.std.specs.Cmp.{IsTotalOrder, IsEquivalence, both_tied, unsigned_ties}
use Rattle.std.specs.declared.cmp.Ordering.{Ordering}
use Rattle.std.proofs.lemmas.Cmp.{nat_cmp_total, then_total, on_total, nat_eq_equiv, and_equiv, on_equiv}
use Rattle.std.proofs.lemmas.List.Kept.{AllPairs-filter, Contains-dedup, Contains-from_dedup, IsStrictlySortedBy-dedup}
use Rattle.std.proofs.lemmas.List.Sorted.{Contains-permutation, IsPermutation-sym}
use Rattle.std.proofs.lemmas.Map.Views.{Contains-from_any}
use Rattle.catalog_core.specs.Columns.{table_at, column_at, comes_before, IsNeeds, column_count, columns_in, needs_of_all}
use Rattle.catalog_core.proofs.ColumnLemmas.{all_tables_IsNeeds, count_there}
use Rattle.catalog_core.specs.declared.columns.ColumnId.{ColumnId}
use Rattle.catalog_core.specs.declared.columns.Needs.{Needs}
use Rattle.catalog_core.specs.declared.schemas.Schema.{Schema}
use Rattle.catalog_core.specs.declared.schemas.TableDef.{TableDef}
use Rattle.catalog_core.specs.declared.schemas.ColumnDef.{ColumnDef}
use Rattle.query_bind.specs.Binding.{Binding, Tested, is_fact_role}
use Rattle.query_bind.specs.LawfulBindings.{IsBinding, IsOfFrom, IsJoin, IsTested, IsOperand, is_dimension, from_tables, operands}
use Rattle.query_bind.specs.Needed.{join_columns, named_columns, is_column, needs_in}
use Rattle.query_bind.specs.Orders.{column_cmp, AreOnce}
use Rattle.query_bind.specs.Views.{tested_view, bound_view}
use Rattle.query_bind.specs.declared.bounds.Condition.{Condition}
use Rattle.query_bind.specs.declared.bounds.Bound.{Bound}
use Rattle.query_bind.proofs.OnceLemmas.{all_append, all_map, all_flat_map, all_weaker, all_members, contains_map, contains_flat_map, any_of_member, holds_of, in_filter, passes_filter, equal_once, sorted_of}

-- ---- the order of columns

pub columns_total : IsTotalOrder column_cmp
columns_total = then_total (on_total (λ (id : ColumnId). id.table) nat_cmp_total) (on_total (λ (id : ColumnId). id.column) nat_cmp_total)

less_by : (id other : ColumnId) → IsTrue (comes_before id other) → column_cmp id other ≡ Less
less_by id other before = by (or_cases (nat_lt id.table other.table) (id.table == other.table && nat_lt id.column other.column) before) where
  by : (nat_lt id.table other.table ≡ true) ⊎ ((id.table == other.table && nat_lt id.column other.column) ≡ true) → column_cmp id other ≡ Less
  by (inl table) = rw (← (nat_cmp_is id.table other.table Less (ltb-true id.table other.table table))) refl
  by (inr both) =
      let (table, column) = and_parts (id.table == other.table) (nat_lt id.column other.column) both in
      rw (← (nat_cmp_is id.table other.table Equal (eqb-true id.table other.table table)), ← (nat_cmp_is id.column other.column Less (ltb-true id.column other.column column))) refl

-- ---- the columns of a schema

table_within : (schema : Schema) (table : ℕ) → is_some (table_at schema table) ≡ true → table < length schema.tables
table_within schema table is =
    elim (slice_get_cases schema.tables table).1 [
      | inl there ↦ there.1
      | inr past ↦ absurd (true≢false (sym is ∙ ap is_some past.1))
    ]

in_range : (count number : ℕ) → number < count → Contains (range_with_len 0 count) number
in_range count number within = (number, rw (length-range_with_len 0 count) within, get_or-range_with_len 0 count number number within ∙ omega arith)

column_in : (schema : Schema) (one : TableDef) (id : ColumnId) → table_at schema id.table ≡ Some one → id.table < length schema.tables → id.column < length one.columns
    → Contains (needs_of_all schema).columns id
column_in schema one id is within column =
    let numbered : ℕ → ColumnId = λ number. record { table = id.table; column = number } in
    let count = column_count schema id.table in
    contains_flat_map (columns_in schema) id.table id (range_with_len 0 (length schema.tables)) (in_range (length schema.tables) id.table within)
    (contains_map numbered id.column (range_with_len 0 count) (in_range count id.column (rw (count_there schema one id.table is) column)))

-- each column of the schema is one of all columns
column_there : (schema : Schema) (id : ColumnId) → IsSome (column_at schema id) → Contains (needs_of_all schema).columns id
column_there schema id is =
    elim (slice_get_cases schema.tables id.table).1 [
      | inl there ↦ by_column there.0 there.1 there.2 (slice_get_cases there.0.columns id.column).1
      | inr past ↦ absurd (true≢false (sym is ∙ rw past.1 refl))
    ] where
      by_column : (one : TableDef) → id.table < length schema.tables → table_at schema id.table ≡ Some one
          → ((column : ColumnDef) × (id.column < length one.columns) × (slice_get one.columns id.column ≡ Some column) × (get_or one.columns id.column column ≡ column)) ⊎ ((length one.columns ≤ id.column) × (slice_get one.columns id.column ≡ None))
          → Contains (needs_of_all schema).columns id
      by_column one within table (inl column) = column_in schema one id table within column.1
      by_column one within table (inr past) = absurd (true≢false (sym is ∙ rw (table, past.1) refl))

-- ---- the tables and columns that a lawful binding names

nat_itself : (n : ℕ) → nat_eq n n ≡ true
nat_itself n = eq-eqb n n refl

column_itself : (id : ColumnId) → is_column id id ≡ true
column_itself id = and_from _ _ (nat_itself id.table) (nat_itself id.column)

column_same : (id other : ColumnId) → is_column id other ≡ true → id ≡ other
column_same id other is =
    let (table, column) = and_parts (id.table == other.table) (id.column == other.column) is in
    let tables = eqb-true id.table other.table table in
    let columns = eqb-true id.column other.column column in
    rw (tables, columns) refl

module _ (schema : Schema) (binding : Binding) (lawful : IsBinding schema binding) where
  fact_within : is_some (table_at schema binding.fact) ≡ true
  fact_within = there (table_at schema binding.fact) lawful.fact where
    there : (table : Option TableDef) → option_map_or (λ one. is_fact_role one.role) table false ≡ true → is_some table ≡ true
    there None is = is
    there (Some one) is = refl

  dimension_within : (table : ℕ) → IsTrue (is_dimension schema table) → table < length schema.tables
  dimension_within table is = table_within schema table (there (table_at schema table) is) where
    there : (found : Option TableDef) → option_map_or (λ one. not (is_fact_role one.role)) found false ≡ true → is_some found ≡ true
    there None is = is
    there (Some one) is = refl

  tables_within : AllByRecursion (λ table. table < length schema.tables) (from_tables binding)
  tables_within = (
    table_within schema binding.fact fact_within,
    all_weaker (λ table. IsTrue (is_dimension schema table)) (λ table. table < length schema.tables) dimension_within binding.dimensions lawful.dimensions,
  )

  columns_of_from : AllByRecursion (IsOfFrom schema binding) (named_columns binding)
  columns_of_from =
      let P = IsOfFrom schema binding in
      let joins = all_flat_map P join_columns binding.joins (all_weaker (IsJoin schema binding) (λ to. AllByRecursion P (join_columns to)) (λ to is. (is.fact_column, (is.key, tt))) binding.joins lawful.joins) in
      let tests = all_map P (λ (tested : Tested). tested.column) binding.tests (all_weaker (IsTested schema binding) (λ tested. P tested.column) (λ tested is. is.column) binding.tests lawful.tests) in
      let sums = all_flat_map P operands binding.sums (all_weaker (λ sum. AllByRecursion (IsOperand schema binding) (operands sum)) (λ sum. AllByRecursion P (operands sum))
      (λ sum all. all_weaker (IsOperand schema binding) P (λ id is. is.of_from) (operands sum) all) binding.sums lawful.sums) in
      let named = all_append P (flat_map join_columns binding.joins) (map (λ (tested : Tested). tested.column) binding.tests) joins tests in
      let grouped = all_append P (flat_map join_columns binding.joins ++ map (λ (tested : Tested). tested.column) binding.tests) binding.groups named lawful.groups in
      all_append P (flat_map join_columns binding.joins ++ map (λ (tested : Tested). tested.column) binding.tests ++ binding.groups) (flat_map operands binding.sums) grouped sums

  abbrev is_table : ℕ → Bool
  is_table table = list_any (nat_eq table) (from_tables binding)

  abbrev is_named : ColumnId → Bool
  is_named id = list_any (is_column id) (named_columns binding)

  all_tables : List ℕ
  all_tables = range_with_len 0 (length schema.tables)

  table_kept : (table : ℕ) → Contains (from_tables binding) table → Contains (needs_in schema binding).tables table
  table_kept table there =
      in_filter is_table table (needs_of_all schema).tables
      (in_range (length schema.tables) table (holds_of (λ one. one < length schema.tables) table (from_tables binding) tables_within there))
      (any_of_member nat_eq table (from_tables binding) (nat_itself table) there)

  table_named_there : (table : ℕ) → Contains (needs_in schema binding).tables table → Contains (from_tables binding) table
  table_named_there table there = Contains-from_any eqb-true table (from_tables binding) (passes_filter is_table table (needs_of_all schema).tables there)

  column_kept : (id : ColumnId) → Contains (named_columns binding) id → Contains (needs_in schema binding).columns id
  column_kept id there =
      in_filter is_named id (needs_of_all schema).columns
      (column_there schema id (holds_of (IsOfFrom schema binding) id (named_columns binding) columns_of_from there).column)
      (any_of_member is_column id (named_columns binding) (column_itself id) there)

  column_named_there : (id : ColumnId) → Contains (needs_in schema binding).columns id → Contains (named_columns binding) id
  column_named_there id there = Contains-from_any column_same id (named_columns binding) (passes_filter is_named id (needs_of_all schema).columns there)

  pub needs_lawful : IsNeeds schema (needs_in schema binding)
  needs_lawful =
      let all = all_tables_IsNeeds schema in
      record {
        tables = all_members (λ table. table < length schema.tables) (needs_in schema binding).tables
            (λ table there. holds_of (λ one. one < length schema.tables) table (from_tables binding) tables_within (table_named_there table there));
        tables_rise = AllPairs-filter (λ number other. number < other) is_table (needs_of_all schema).tables all.tables_rise;
        columns = all_members (λ id. IsSome (column_at schema id)) (needs_in schema binding).columns
            (λ id there. (holds_of (IsOfFrom schema binding) id (named_columns binding) columns_of_from (column_named_there id there)).column);
        columns_rise = AllPairs-filter (λ id other. IsTrue (comes_before id other)) is_named (needs_of_all schema).columns all.columns_rise;
        of_tables = all_members (λ id. Contains (needs_in schema binding).tables id.table) (needs_in schema binding).columns
            (λ id there. table_kept id.table (holds_of (IsOfFrom schema binding) id (named_columns binding) columns_of_from (column_named_there id there)).table);
      }

  pub needs_are : (tables : List ℕ) (columns : List ColumnId) → AreOnce nat_cmp (from_tables binding) tables → AreOnce column_cmp (named_columns binding) columns
      → ◌≡◌ {A = Needs} (record { tables = tables; columns = columns }) (needs_in schema binding)
  needs_are tables columns once_tables once_columns =
      let rise_tables = sorted_of nat_cmp (needs_in schema binding).tables (λ i j d before within. sym (nat_cmp_is _ _ Less (needs_lawful.tables_rise i j d before within))) in
      let rise_columns = sorted_of column_cmp (needs_in schema binding).columns (λ i j d before within. less_by (get_or (needs_in schema binding).columns i d) (get_or (needs_in schema binding).columns j d) (needs_lawful.columns_rise i j d before within)) in
      let same_tables = equal_once nat_cmp_total tables (needs_in schema binding).tables once_tables.rise rise_tables
      (λ table there. table_kept table (once_tables.only table there)) (λ table there. once_tables.all table (table_named_there table there)) in
      let same_columns = equal_once columns_total columns (needs_in schema binding).columns once_columns.rise rise_columns
      (λ id there. column_kept id (once_columns.only id there)) (λ id there. once_columns.all id (column_named_there id there)) in
      rw (same_tables, same_columns) refl

-- ---- what sorting and dropping leave

module _ {X : Type 0} {cmp : X → X → Ordering} (o : IsTotalOrder cmp) {eq : X → X → Bool} (ties : (x y : X) → eq x y ≡ eq_by_cmp cmp x y) (e : IsEquivalence eq) (same : (x y : X) → eq x y ≡ true → x ≡ y) where
  once_of : (given sorted once : List X) → IsPermutation given sorted → IsSorted cmp sorted → once ≡ dedup eq sorted → AreOnce cmp given once
  once_of given sorted once moved in_order dropped = record {
    rise = rw dropped (IsStrictlySortedBy-dedup o ties sorted in_order);
    all = λ x there. rw dropped (Contains-dedup e same sorted x (Contains-permutation given sorted x moved there));
    only = λ x there. Contains-permutation sorted given x (IsPermutation-sym given sorted moved) (Contains-from_dedup eq sorted x (rw dropped at there));
  }

pub tables_once : (given sorted once : List ℕ) → IsPermutation given sorted → IsSorted nat_cmp sorted → once ≡ dedup nat_eq sorted → AreOnce nat_cmp given once
tables_once = once_of nat_cmp_total unsigned_ties nat_eq_equiv eqb-true

column_ties : (id other : ColumnId) → is_column id other ≡ eq_by_cmp column_cmp id other
column_ties id other =
    both_tied (id.table == other.table) (id.column == other.column) (nat_cmp id.table other.table) (nat_cmp id.column other.column)
    (unsigned_ties id.table other.table) (unsigned_ties id.column other.column)

column_equivalence : IsEquivalence is_column
column_equivalence = and_equiv (on_equiv (λ (id : ColumnId). id.table) nat_eq_equiv) (on_equiv (λ (id : ColumnId). id.column) nat_eq_equiv)

pub columns_once : (given sorted once : List ColumnId) → IsPermutation given sorted → IsSorted column_cmp sorted → once ≡ dedup is_column sorted → AreOnce column_cmp given once
columns_once = once_of columns_total column_ties column_equivalence column_same

-- ---- the columns that the code adds up

columns_tested : (conditions : List Condition) → map (λ (condition : Condition). condition.column) conditions ≡ map (λ (tested : Tested). tested.column) (map tested_view conditions)
columns_tested [] = refl
columns_tested (condition ∷ more) = ap (λ columns. condition.column ∷ columns) (columns_tested more)

pub named_are : (bound : Bound) → flat_map join_columns bound.joins ++ map (λ (condition : Condition). condition.column) bound.conditions ++ bound.groups ++ flat_map operands bound.sums
    ≡ named_columns (bound_view bound)
named_are bound = rw (columns_tested bound.conditions) refl
