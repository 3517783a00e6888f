-- The tables and columns of a schema by number come in its order.
use Rattle.std.proofs.Common.{◌≡◌, ◌<◌, ◌≤◌, ◌+◌, ◌∙◌, ℕ, zero, suc, List, [], ◌∷◌, ◌++◌, length, map, Some, inl, inr, refl, sym, ap, add-one, arith}
use Rattle.std.specs.Prelude.{IsTrue, IsSome}
use Rattle.std.specs.List.{AllByRecursion, AllPairs, Contains, flat_map, range_with_len}
use Rattle.std.proofs.lemmas.Bool.{or_right, or_left, and_from, lt-ltb, eq-eqb}
use Rattle.std.proofs.lemmas.List.Elements.{All-from_recursion}
use Rattle.std.proofs.lemmas.List.Kept.{AllPairs-cons}
use Rattle.std.proofs.lemmas.List.FromFn.{length-range_with_len, get_or-range_with_len, map-range_with_len_more}
use Rattle.std.proofs.lemmas.List.Concat.{flat_map-append}
use Rattle.std.proofs.lemmas.List.{append_assoc, append-nil}
use Rattle.std.proofs.lemmas.Option.{slice_get_cases}
use Rattle.catalog_core.specs.Columns.{table_at, column_at, comes_before, IsNeeds, column_count, columns_in, needs_of_table, needs_of_all}
use Rattle.catalog_core.specs.CountedColumns.{counted_columns}
use Rattle.catalog_core.specs.declared.columns.ColumnId.{ColumnId}
use Rattle.catalog_core.specs.declared.schemas.TableDef.{TableDef}
use Rattle.catalog_core.specs.declared.schemas.Schema.{Schema}

-- ---- lists

all_append : {X : Type 0} (P : X → Type 0) (xs ys : List X) → AllByRecursion P xs → AllByRecursion P ys → AllByRecursion P (xs ++ ys)
all_append P [] ys a b = b
all_append P (x ∷ xs) ys a b = (a.0, all_append P xs ys a.1 b)

all_weaker : {X : Type 0} (P Q : X → Type 0) → ((x : X) → P x → Q x) → (xs : List X) → AllByRecursion P xs → AllByRecursion Q xs
all_weaker P Q weaker [] all = tt
all_weaker P Q weaker (x ∷ xs) all = (weaker x all.0, all_weaker P Q weaker xs all.1)

-- each item is related to each later one, item by item
abbrev Pairs : {X : Type 0} → (X → X → Type 0) → List X → Type 0
Pairs R [] = Unit {0}
Pairs R (x ∷ xs) = AllByRecursion (R x) xs × Pairs R xs

all_pairs : {X : Type 0} (R : X → X → Type 0) (xs : List X) → Pairs R xs → AllPairs R xs
all_pairs R [] pairs = λ i j d before within. absurd (omega arith)
all_pairs R (x ∷ xs) pairs = AllPairs-cons R x xs (All-from_recursion (R x) xs pairs.0) (all_pairs R xs pairs.1)

pairs_append : {X : Type 0} (R : X → X → Type 0) (xs ys : List X) → Pairs R xs → Pairs R ys → AllByRecursion (λ x. AllByRecursion (R x) ys) xs → Pairs R (xs ++ ys)
pairs_append R [] ys a b across = b
pairs_append R (x ∷ xs) ys a b across = (all_append (R x) xs ys a.0 across.0, pairs_append R xs ys a.1 b across.1)

-- ---- numbers in turn

above : (low from count : ℕ) → low < from → AllByRecursion (λ other. low < other) (range_with_len from count)
above low from zero before = tt
above low from (suc count) before = (before, above low (from + 1) count (omega arith))

below : (high from count : ℕ) → from + count ≤ high → AllByRecursion (λ number. number < high) (range_with_len from count)
below high from zero within = tt
below high from (suc count) within = (omega arith, below high (from + 1) count (omega arith))

numbers_rise : (from count : ℕ) → Pairs (λ number other. number < other) (range_with_len from count)
numbers_rise from zero = tt
numbers_rise from (suc count) = (above from (from + 1) count (omega arith), numbers_rise (from + 1) count)

-- ---- the columns of one table

abbrev Before : ColumnId → ColumnId → Type 0
Before id other = IsTrue (comes_before id other)

abbrev ids : ℕ → ℕ → ℕ → List ColumnId
ids table from count = map (λ column. record { table = table; column = column }) (range_with_len from count)

earlier_table : (id other : ColumnId) → id.table < other.table → Before id other
earlier_table id other before = or_left _ _ (lt-ltb id.table other.table before)

earlier_column : (id other : ColumnId) → id.table ≡ other.table → id.column < other.column → Before id other
earlier_column id other same before =
    or_right _ _ (and_from _ _ (eq-eqb id.table other.table same) (lt-ltb id.column other.column before))

later_columns : (table column from count : ℕ) → column < from → AllByRecursion (Before (record { table = table; column = column })) (ids table from count)
later_columns table column from zero before = tt
later_columns table column from (suc count) before =
    (earlier_column (record { table = table; column = column }) (record { table = table; column = from }) refl before, later_columns table column (from + 1) count (omega arith))

later_table : (id : ColumnId) (table from count : ℕ) → id.table < table → AllByRecursion (Before id) (ids table from count)
later_table id table from zero before = tt
later_table id table from (suc count) before = (earlier_table id (record { table = table; column = from }) before, later_table id table (from + 1) count before)

columns_rise : (table from count : ℕ) → Pairs Before (ids table from count)
columns_rise table from zero = tt
columns_rise table from (suc count) = (later_columns table from (from + 1) count (omega arith), columns_rise table (from + 1) count)

of_table : (table from count : ℕ) → AllByRecursion (λ id. id.table ≡ table) (ids table from count)
of_table table from zero = tt
of_table table from (suc count) = (refl, of_table table (from + 1) count)

column_there : (schema : Schema) (one : TableDef) (table column : ℕ) → table_at schema table ≡ Some one → column < length one.columns
    → IsSome (column_at schema (record { table = table; column = column }))
column_there schema one table column is within =
    elim (slice_get_cases one.columns column).1 [
      | inl there ↦ rw (is, there.2) refl
      | inr past ↦ absurd (omega (arith, past.0))
    ]

columns_there : (schema : Schema) (one : TableDef) (table from count : ℕ) → table_at schema table ≡ Some one → from + count ≤ length one.columns
    → AllByRecursion (λ id. IsSome (column_at schema id)) (ids table from count)
columns_there schema one table from zero is within = tt
columns_there schema one table from (suc count) is within =
    (column_there schema one table from is (omega arith), columns_there schema one table (from + 1) count is (omega arith))

table_there : (schema : Schema) (table : ℕ) → table < length schema.tables → (one : TableDef) × (table_at schema table ≡ Some one)
table_there schema table within =
    elim (slice_get_cases schema.tables table).1 [
      | inl there ↦ (there.0, there.2)
      | inr past ↦ absurd (omega (arith, past.0))
    ]

pub count_there : (schema : Schema) (one : TableDef) (table : ℕ) → table_at schema table ≡ Some one → column_count schema table ≡ length one.columns
count_there schema one table is = rw is refl

all_there : (schema : Schema) (table : ℕ) → table < length schema.tables → AllByRecursion (λ id. IsSome (column_at schema id)) (columns_in schema table)
all_there schema table within =
    let (one, is) = table_there schema table within in
    columns_there schema one table 0 (column_count schema table) is (omega (arith, count_there schema one table is))

-- ---- one table, and all tables

pub one_table_IsNeeds : (schema : Schema) (table : ℕ) → table < length schema.tables → IsNeeds schema (needs_of_table schema table)
one_table_IsNeeds schema table within = record {
  tables = (within, tt);
  tables_rise = all_pairs (λ number other. number < other) (table ∷ []) (tt, tt);
  columns = all_there schema table within;
  columns_rise = all_pairs Before (columns_in schema table) (columns_rise table 0 (column_count schema table));
  of_tables = all_weaker (λ id. id.table ≡ table) (λ id. Contains (table ∷ []) id.table) (λ id same. (0, omega arith, sym same))
      (columns_in schema table) (of_table table 0 (column_count schema table));
}

-- the columns of the tables from one on
abbrev from_table : Schema → ℕ → ℕ → List ColumnId
from_table schema from count = flat_map (columns_in schema) (range_with_len from count)

tables_after : (schema : Schema) (id : ColumnId) (from count : ℕ) → id.table < from → AllByRecursion (Before id) (from_table schema from count)
tables_after schema id from zero before = tt
tables_after schema id from (suc count) before =
    all_append (Before id) (columns_in schema from) (from_table schema (from + 1) count)
    (later_table id from 0 (column_count schema from) before) (tables_after schema id (from + 1) count (omega arith))

tables_rise : (schema : Schema) (from count : ℕ) → Pairs Before (from_table schema from count)
tables_rise schema from zero = tt
tables_rise schema from (suc count) =
    pairs_append Before (columns_in schema from) (from_table schema (from + 1) count)
    (columns_rise from 0 (column_count schema from)) (tables_rise schema (from + 1) count)
    (all_weaker (λ id. id.table ≡ from) (λ id. AllByRecursion (Before id) (from_table schema (from + 1) count))
    (λ id same. tables_after schema id (from + 1) count (omega arith)) (columns_in schema from) (of_table from 0 (column_count schema from)))

tables_there : (schema : Schema) (from count : ℕ) → from + count ≤ length schema.tables → AllByRecursion (λ id. IsSome (column_at schema id)) (from_table schema from count)
tables_there schema from zero within = tt
tables_there schema from (suc count) within =
    all_append (λ id. IsSome (column_at schema id)) (columns_in schema from) (from_table schema (from + 1) count)
    (all_there schema from (omega arith)) (tables_there schema (from + 1) count (omega arith))

tables_below : (schema : Schema) (high from count : ℕ) → from + count ≤ high → AllByRecursion (λ id. id.table < high) (from_table schema from count)
tables_below schema high from zero within = tt
tables_below schema high from (suc count) within =
    all_append (λ id. id.table < high) (columns_in schema from) (from_table schema (from + 1) count)
    (all_weaker (λ id. id.table ≡ from) (λ id. id.table < high) (λ id same. omega arith) (columns_in schema from) (of_table from 0 (column_count schema from)))
    (tables_below schema high (from + 1) count (omega arith))

among : (count table : ℕ) → table < count → Contains (range_with_len 0 count) table
among count table within =
    (table, rw (length-range_with_len 0 count) within, get_or-range_with_len 0 count table table within ∙ omega arith)

pub all_tables_IsNeeds : (schema : Schema) → IsNeeds schema (needs_of_all schema)
all_tables_IsNeeds schema =
    let count = length schema.tables in
    record {
      tables = below count 0 count (omega arith);
      tables_rise = all_pairs (λ number other. number < other) (range_with_len 0 count) (numbers_rise 0 count);
      columns = tables_there schema 0 count (omega arith);
      columns_rise = all_pairs Before (from_table schema 0 count) (tables_rise schema 0 count);
      of_tables = all_weaker (λ id. id.table < count) (λ id. Contains (range_with_len 0 count) id.table) (λ id within. among count id.table within)
          (from_table schema 0 count) (tables_below schema count 0 count (omega arith));
    }

-- ---- loops that push them

pub range_more : (from count : ℕ) → range_with_len from (suc count) ≡ range_with_len from count ++ (from + count) ∷ []
range_more from zero = let same : from ≡ from + 0 = omega arith in ap (λ number. number ∷ []) same
range_more from (suc count) =
    let same : from + 1 + count ≡ from + suc count = omega arith in
    ap (λ rest. from ∷ rest) (range_more (from + 1) count ∙ ap (λ number. range_with_len (from + 1) count ++ number ∷ []) same)

pub column_pushed : (before now after : List ColumnId) (table column : ℕ) → now ≡ before ++ counted_columns table column
    → after ≡ now ++ record { table = table; column = column } ∷ [] → after ≡ before ++ counted_columns table (column + 1)
column_pushed before now after table column so_far pushed =
    let id : ℕ → ColumnId = λ place. record { table = table; column = place } in
    pushed ∙ ap (λ ids. ids ++ id column ∷ []) so_far ∙ append_assoc before (counted_columns table column) (id column ∷ [])
    ∙ ap (λ ids. before ++ ids) (sym (map-range_with_len_more id 0 column column (omega arith)))

pub table_pushed : (now after : List ℕ) (table : ℕ) → now ≡ range_with_len 0 table → after ≡ now ++ table ∷ [] → after ≡ range_with_len 0 (table + 1)
table_pushed now after table so_far pushed =
    let same : 0 + table ≡ table = omega arith in
    pushed ∙ ap (λ numbers. numbers ++ table ∷ []) so_far ∙ rw (add-one, range_more 0 table, same) refl

pub columns_pushed : (schema : Schema) (one : TableDef) (now after : List ColumnId) (table count : ℕ) → table_at schema table ≡ Some one
    → count ≡ length one.columns → now ≡ flat_map (columns_in schema) (range_with_len 0 table) → after ≡ now ++ counted_columns table count
    → after ≡ flat_map (columns_in schema) (range_with_len 0 (table + 1))
columns_pushed schema one now after table count is counted so_far pushed =
    let same : 0 + table ≡ table = omega arith in
    let all : column_count schema table ≡ count = count_there schema one table is ∙ sym counted in
    let last : flat_map (columns_in schema) (table ∷ []) ≡ counted_columns table count =
    append-nil (columns_in schema table) ∙ ap (counted_columns table) all in
    pushed ∙ ap (λ ids. ids ++ counted_columns table count) so_far
    ∙ ap (λ ids. flat_map (columns_in schema) (range_with_len 0 table) ++ ids) (sym last)
    ∙ sym (flat_map-append (columns_in schema) (range_with_len 0 table) (table ∷ []))
    ∙ ap (flat_map (columns_in schema)) (sym (rw (add-one, range_more 0 table, same) refl))
