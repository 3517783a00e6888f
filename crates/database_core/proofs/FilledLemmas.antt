-- What tables hold once each needed table is filled.
use Rattle.std.proofs.Common.{◌≡◌, ◌≢◌, ◌<◌, ℕ, List, [], ◌∷◌, map, length, ◌⊎◌, inl, inr, Option, Some, None, Ok, refl, sym, ap, ◌∙◌, subst, arith, eqb-true, eq-eqb, true}
use Rattle.std.proofs.lemmas.Bool.{cases_eq}
use Rattle.std.proofs.lemmas.Option.{MatchOption-at_some}
use Rattle.std.specs.Prelude.{◌==◌, nat_eq, is_some, IsSome, IfSome, IsTrue}
use Rattle.std.specs.List.{AllByRecursion, Contains, IsDistinct}
use Rattle.definitions_outcomes.specs.Outcomes.{Each}
use Rattle.definitions_outcomes.proofs.OutcomeLaws.{same_value}
use Rattle.catalog_core.specs.Columns.{table_at, column_at, columns_of_table, comes_before, IsNeeds}
use Rattle.catalog_core.specs.declared.columns.ColumnId.{ColumnId}
use Rattle.catalog_core.specs.declared.columns.Needs.{Needs}
use Rattle.catalog_core.specs.declared.schemas.ColumnDef.{ColumnDef}
use Rattle.catalog_core.specs.declared.schemas.Schema.{Schema}
use Rattle.table_core.specs.Tables.{Stored, TableState, nothing_yet, started, placed, rows_of, stored_at, key_values, StartsOnly, PutsOnly}
use Rattle.table_core.specs.Held.{outline_of, outline_in, AreTablesOf, KeysDiffer, is_key_needed, is_text, HoldColumns, HoldNeeds}
use Rattle.database_core.specs.Filling.{Puts, Fills, AnyCount, FitsKind, FillsSome}
use Rattle.database_core.proofs.ListLemmas.{Among, Lacks, AreApart, among_or_lacks, all_among, all_from, all_weaker, contains_among, among_filter, filter_among, all_filter, apart_filter, rising_apart}
use Rattle.database_core.proofs.TableLemmas.{id_of, same_ids, started_only, started-outlines, placed_only, placed-outlines, has_slot, same_count, same_keys, same_key_values, stored_in, same_stored, no_column_yet, nothing_yet-outlines}

pub is_some_has : {A : Type 0} (found : Option A) → IsSome found → (value : A) × (found ≡ Some value)
is_some_has None some = absurd (cc some)
is_some_has (Some value) some = (value, refl)

pub one_id : (id other : ColumnId) → (id ≡ other) ⊎ (id ≢ other)
one_id id other = elim (cases_eq id.table other.table) [
  | inl tables ↦ elim (cases_eq id.column other.column) [
    | inl columns ↦ inl (same_ids id other tables columns)
    | inr differ ↦ inr (λ e. differ (ap (λ (i : ColumnId). i.column) e))
  ]
  | inr differ ↦ inr (λ e. differ (ap (λ (i : ColumnId). i.table) e))
]

-- a column is there, of which this holds
pub record HasStored (holds : ColumnId → Stored → Type 0) (tables : List TableState) (id : ColumnId) : Type 0 where
  pub stored : Stored
  pub there : stored_at tables id ≡ Some stored
  pub fits : holds id stored

-- these columns are there, and the others as before
pub record ColumnsFilled (holds : ColumnId → Stored → Type 0) (ids : List ColumnId) (before after : List TableState) : Type 0 where
  pub outlines : map outline_of after ≡ map outline_of before
  pub rows : (table : ℕ) → rows_of after table ≡ rows_of before table
  pub columns : AllByRecursion (HasStored holds after) ids
  pub others : (id : ColumnId) → Lacks id ids → stored_at after id ≡ stored_at before id

pub filled_columns : (holds : ColumnId → Stored → Type 0) (schema : Schema) (ids : List ColumnId) (before after : List TableState) → AreApart ids
    → AllByRecursion (λ id. IsSome (column_at schema id)) ids → map outline_of before ≡ map outline_in schema.tables → Each (Puts holds) before ids (Ok after) → ColumnsFilled holds ids before after
filled_columns holds schema [] before after apart known outlines is =
    let same : after ≡ before = same_value after before is in
    record {
      outlines = ap (λ (s : List TableState). map outline_of s) same;
      rows = λ table. ap (λ (s : List TableState). rows_of s table) same;
      columns = tt;
      others = λ id lacks. ap (λ (s : List TableState). stored_at s id) same;
    }
filled_columns holds schema (id ∷ ids) before after apart known outlines (inr (refusal, first, is)) = absurd (cc is)
filled_columns holds schema (id ∷ ids) before after apart known outlines (inl (next, puts, rest)) =
    let here : next ≡ placed before id puts.stored = same_value next (placed before id puts.stored) puts.done in
    let definition = is_some_has (column_at schema id) known.0 in
    let slot = has_slot schema before id definition.0 outlines definition.1 in
    let only : PutsOnly id (Some puts.stored) before next = subst (λ (s : List TableState). PutsOnly id (Some puts.stored) before s) (sym here) (placed_only before id puts.stored slot.0 slot.1) in
    let same : map outline_of next ≡ map outline_of before = ap (λ (s : List TableState). map outline_of s) here ∙ placed-outlines before id puts.stored in
    let left : ColumnsFilled holds ids next after = filled_columns holds schema ids next after apart.1 known.1 (same ∙ outlines) rest in
    let head : HasStored holds after id = record {
      stored = puts.stored;
      there = left.others id apart.0 ∙ stored_in next id (Some puts.stored) only.there;
      fits = puts.fits;
    } in
    record {
      outlines = left.outlines ∙ same;
      rows = λ table. left.rows table ∙ only.rows table;
      columns = (head, left.columns);
      others = λ other lacks. left.others other lacks.1 ∙ same_stored next before other (only.others other (λ e. lacks.0 (sym e)));
    }

-- a row count is known, of which this holds
pub record HasRows (counts : ℕ → ℕ → Type 0) (tables : List TableState) (table : ℕ) : Type 0 where
  pub rows : ℕ
  pub known : rows_of tables table ≡ Some rows
  pub counted : counts table rows

-- these tables are filled, and the others as before
pub record TablesFilled (counts : ℕ → ℕ → Type 0) (holds : ColumnId → Stored → Type 0) (schema : Schema) (needs : Needs) (items : List ℕ) (before after : List TableState) : Type 0 where
  pub outlines : map outline_of after ≡ map outline_of before
  pub rows : AllByRecursion (HasRows counts after) items
  pub columns : AllByRecursion (λ table. AllByRecursion (HasStored holds after) (columns_of_table needs table)) items
  pub keys : AllByRecursion (KeysDiffer schema needs after) items
  pub no_rows : (table : ℕ) → Lacks table items → rows_of after table ≡ rows_of before table
  pub no_column : (id : ColumnId) → Lacks id (columns_of_table needs id.table) ⊎ Lacks id.table items → stored_at after id ≡ stored_at before id

pub keys_along : (schema : Schema) (needs : Needs) (tables others : List TableState) (table : ℕ) → key_values tables table ≡ key_values others table → KeysDiffer schema needs others table → KeysDiffer schema needs tables table
keys_along schema needs tables others table same keys =
    subst (λ (values : Option (List ℕ)). IfSome (table_at schema table) (λ definition. IsTrue (is_key_needed definition needs table) → IfSome values (IsDistinct nat_eq))) (sym same) keys

-- the needed columns of a table are columns of it
pub of_table : (needs : Needs) (table : ℕ) → AllByRecursion (λ id. id.table ≡ table) (columns_of_table needs table)
of_table needs table =
    let known : AllByRecursion (λ (id : ColumnId). Unit {0}) needs.columns = all_from (λ id. Unit {0}) needs.columns (λ id among. tt) in
    all_weaker (λ id. Unit {0} × ((id.table == table) ≡ true)) (λ id. id.table ≡ table) (λ id p. eqb-true id.table table p.1) (columns_of_table needs table)
    (all_filter (λ id. Unit {0}) (λ id. id.table == table) needs.columns known)

pub other_table : (needs : Needs) (table : ℕ) (id : ColumnId) → table ≢ id.table → Lacks id (columns_of_table needs table)
other_table needs table id apart =
    all_weaker (λ other. other.table ≡ table) (λ other. other ≢ id) (λ other is same. apart (sym is ∙ ap (λ (i : ColumnId). i.table) same)) (columns_of_table needs table) (of_table needs table)

-- a needed column is among those of its table
pub among_table : (needs : Needs) (id : ColumnId) → Among id needs.columns → Among id (columns_of_table needs id.table)
among_table needs id among = among_filter (λ other. other.table == id.table) id needs.columns among (eq-eqb id.table id.table refl)

pub table_needed : (needs : Needs) (table : ℕ) (id : ColumnId) → Among id (columns_of_table needs table) → Among id needs.columns
table_needed needs table id among = filter_among (λ other. other.table == table) id needs.columns among

pub known_of : (schema : Schema) (needs : Needs) (table : ℕ) → AllByRecursion (λ id. IsSome (column_at schema id)) needs.columns → AllByRecursion (λ id. IsSome (column_at schema id)) (columns_of_table needs table)
known_of schema needs table known =
    all_weaker (λ id. IsSome (column_at schema id) × ((id.table == table) ≡ true)) (λ id. IsSome (column_at schema id)) (λ id p. p.0) (columns_of_table needs table)
    (all_filter (λ id. IsSome (column_at schema id)) (λ id. id.table == table) needs.columns known)

pub lacks_columns : (needs : Needs) (table : ℕ) (items : List ℕ) (id : ColumnId) → Lacks id (columns_of_table needs id.table) ⊎ Lacks id.table (table ∷ items) → Lacks id (columns_of_table needs table)
lacks_columns needs table items id (inl lacks) = elim (cases_eq table id.table) [
  | inl same ↦ subst (λ other. Lacks id (columns_of_table needs other)) (sym same) lacks
  | inr apart ↦ other_table needs table id apart
]
lacks_columns needs table items id (inr lacks) = other_table needs table id lacks.0

pub lacks_rest : (needs : Needs) (table : ℕ) (items : List ℕ) (id : ColumnId) → Lacks id (columns_of_table needs id.table) ⊎ Lacks id.table (table ∷ items)
    → Lacks id (columns_of_table needs id.table) ⊎ Lacks id.table items
lacks_rest needs table items id (inl lacks) = inl lacks
lacks_rest needs table items id (inr lacks) = inr lacks.1

module _ (counts : ℕ → ℕ → Type 0) (holds : ColumnId → Stored → Type 0) (schema : Schema) (needs : Needs) (known : AllByRecursion (λ id. IsSome (column_at schema id)) needs.columns)
    (columns_apart : AreApart needs.columns) where
  pub filled_tables : (items : List ℕ) (before after : List TableState) → AreApart items → AllByRecursion (λ table. table < length schema.tables) items
      → map outline_of before ≡ map outline_in schema.tables → Each (Fills counts holds schema needs) before items (Ok after) → TablesFilled counts holds schema needs items before after
  filled_tables [] before after apart within outlines is =
      let same : after ≡ before = same_value after before is in
      record {
        outlines = ap (λ (s : List TableState). map outline_of s) same;
        rows = tt;
        columns = tt;
        keys = tt;
        no_rows = λ table lacks. ap (λ (s : List TableState). rows_of s table) same;
        no_column = λ id lacks. ap (λ (s : List TableState). stored_at s id) same;
      }
  filled_tables (table ∷ items) before after apart within outlines (inr (refusal, first, is)) = absurd (cc is)
  filled_tables (table ∷ items) before after apart within outlines (inl (next, fills, rest)) =
      let ids = columns_of_table needs table in
      let here : next ≡ fills.filled = same_value next fills.filled fills.done in
      let start = started before table fills.rows in
      let starts : StartsOnly table fills.rows before start = started_only before table fills.rows (omega (arith, same_count schema before outlines, within.0)) in
      let begun : map outline_of start ≡ map outline_of before = started-outlines before table fills.rows in
      let one : ColumnsFilled holds ids start fills.filled =
      filled_columns holds schema ids start fills.filled (apart_filter (λ id. id.table == table) needs.columns columns_apart) (known_of schema needs table known) (begun ∙ outlines) fills.columns in
      let same : map outline_of next ≡ map outline_of before = ap (λ (s : List TableState). map outline_of s) here ∙ one.outlines ∙ begun in
      let left : TablesFilled counts holds schema needs items next after = filled_tables items next after apart.1 within.1 (same ∙ outlines) rest in
      let stays : (id : ColumnId) → id.table ≡ table → stored_at after id ≡ stored_at fills.filled id =
      λ id is. left.no_column id (inr (subst (λ other. Lacks other items) (sym is) apart.0)) ∙ ap (λ (s : List TableState). stored_at s id) here in
      let outlined : map outline_of after ≡ map outline_of fills.filled = left.outlines ∙ ap (λ (s : List TableState). map outline_of s) here in
      let rows : HasRows counts after table = record {
        rows = fills.rows;
        known = left.no_rows table apart.0 ∙ ap (λ (s : List TableState). rows_of s table) here ∙ one.rows table ∙ starts.known;
        counted = fills.counted;
      } in
      let columns : AllByRecursion (HasStored holds after) ids =
      all_from (HasStored holds after) ids (λ id among.
      let has : HasStored holds fills.filled id = all_among (HasStored holds fills.filled) id ids one.columns among in
      let is : id.table ≡ table = all_among (λ (i : ColumnId). i.table ≡ table) id ids (of_table needs table) among in
      record { stored = has.stored; there = stays id is ∙ has.there; fits = has.fits }) in
      record {
        outlines = left.outlines ∙ same;
        rows = (rows, left.rows);
        columns = (columns, left.columns);
        keys = (keys_along schema needs after fills.filled table (same_key_values after fills.filled table (same_keys after fills.filled outlined table) (λ column. stays (id_of table column) refl)) fills.keys, left.keys);
        no_rows = λ other lacks. left.no_rows other lacks.1 ∙ ap (λ (s : List TableState). rows_of s other) here ∙ one.rows other ∙ starts.other_rows other (λ e. lacks.0 (sym e));
        no_column = λ id lacks.
            left.no_column id (lacks_rest needs table items id lacks) ∙ ap (λ (s : List TableState). stored_at s id) here ∙ one.others id (lacks_columns needs table items id lacks)
            ∙ same_stored start before id (starts.slots id);
      }

-- needs stand apart
pub tables_apart : (schema : Schema) (needs : Needs) → IsNeeds schema needs → AreApart needs.tables
tables_apart schema needs is = rising_apart (λ table other. table < other) (λ table less. omega (arith, less)) needs.tables is.tables_rise

not_before : (id : ColumnId) → IsTrue (comes_before id id) → ⊥
not_before id before = grind (arith, before)

pub columns_apart : (schema : Schema) (needs : Needs) → IsNeeds schema needs → AreApart needs.columns
columns_apart schema needs is = rising_apart (λ id other. IsTrue (comes_before id other)) not_before needs.columns is.columns_rise

-- all that is needed, filled from nothing
module _ (counts : ℕ → ℕ → Type 0) (holds : ColumnId → Stored → Type 0) (schema : Schema) (needs : Needs) (is : IsNeeds schema needs) where
  pub filled_all : (tables : List TableState) → Each (Fills counts holds schema needs) (nothing_yet schema) needs.tables (Ok tables) → TablesFilled counts holds schema needs needs.tables (nothing_yet schema) tables
  filled_all tables run =
      filled_tables counts holds schema needs is.columns (columns_apart schema needs is) needs.tables (nothing_yet schema) tables (tables_apart schema needs is) is.tables (nothing_yet-outlines schema) run

  pub needed_columns : (before tables : List TableState) → TablesFilled counts holds schema needs needs.tables before tables → AllByRecursion (HasStored holds tables) needs.columns
  needed_columns before tables filled = all_from (HasStored holds tables) needs.columns (λ id among.
      let of : Contains needs.tables id.table = all_among (λ (i : ColumnId). Contains needs.tables i.table) id needs.columns is.of_tables among in
      let ids : AllByRecursion (HasStored holds tables) (columns_of_table needs id.table) =
      all_among (λ table. AllByRecursion (HasStored holds tables) (columns_of_table needs table)) id.table needs.tables filled.columns (contains_among id.table needs.tables of) in
      all_among (HasStored holds tables) id (columns_of_table needs id.table) ids (among_table needs id among))

  -- a column that is there is needed
  pub only_needed : (tables : List TableState) (id : ColumnId) (stored : Stored) → TablesFilled counts holds schema needs needs.tables (nothing_yet schema) tables → stored_at tables id ≡ Some stored
      → HasStored holds tables id
  only_needed tables id stored filled there = elim (among_or_lacks one_id id (columns_of_table needs id.table)) [
    | inr lacks ↦ absurd (cc (sym there ∙ filled.no_column id (inl lacks) ∙ no_column_yet schema id))
    | inl among ↦ elim (among_or_lacks cases_eq id.table needs.tables) [
      | inr lacks ↦ absurd (cc (sym there ∙ filled.no_column id (inr lacks) ∙ no_column_yet schema id))
      | inl table ↦ all_among (HasStored holds tables) id (columns_of_table needs id.table)
          (all_among (λ other. AllByRecursion (HasStored holds tables) (columns_of_table needs other)) id.table needs.tables filled.columns table) among
    ]
  ]

  pub tables_of_schema : (tables : List TableState) → ((id : ColumnId) (stored : Stored) → holds id stored → FitsKind schema id stored)
      → TablesFilled counts holds schema needs needs.tables (nothing_yet schema) tables → AreTablesOf schema tables
  tables_of_schema tables fit filled = record {
    outlines = filled.outlines ∙ nothing_yet-outlines schema;
    texts = λ id column stored known there.
        let has : HasStored holds tables id = only_needed tables id stored filled there in
        let same : has.stored ≡ stored = cc (sym has.there ∙ there) in
        MatchOption-at_some (Unit {0}) (λ (c : ColumnDef). is_some stored.texts ≡ is_text c.kind) column known (subst (λ (s : Stored). FitsKind schema id s) same (fit id has.stored has.fits));
  }

-- what is filled in any way holds all that is needed
pub hold_needs : (schema : Schema) (needs : Needs) (tables : List TableState) → IsNeeds schema needs → Each (FillsSome schema needs) (nothing_yet schema) needs.tables (Ok tables) → HoldNeeds schema needs tables
hold_needs schema needs tables is run =
    let filled : TablesFilled AnyCount (FitsKind schema) schema needs needs.tables (nothing_yet schema) tables = filled_all AnyCount (FitsKind schema) schema needs is tables run in
    let held : HoldColumns schema needs tables = record {
      of = tables_of_schema AnyCount (FitsKind schema) schema needs is tables (λ id stored fits. fits) filled;
      rows = all_weaker (HasRows AnyCount tables) (λ table. IsSome (rows_of tables table)) (λ table has. ap is_some has.known) needs.tables filled.rows;
      columns = all_weaker (HasStored (FitsKind schema) tables) (λ id. IsSome (stored_at tables id)) (λ id has. ap is_some has.there) needs.columns
          (needed_columns AnyCount (FitsKind schema) schema needs is (nothing_yet schema) tables filled);
    } in
    record { held = held; keys = filled.keys }
