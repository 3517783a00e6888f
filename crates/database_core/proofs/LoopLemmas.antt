-- A loop over items: what is left, begun from here, gives the whole.
use Rattle.std.proofs.Common.{◌≡◌, ◌≢◌, ◌<◌, ◌≤◌, ◌+◌, ℕ, zero, suc, Bool, true, List, [], ◌∷◌, ◌++◌, map, length, get_or, drop, inl, inr, Option, Some, None, Result, Ok, Err, refl, sym, ap, ◌∙◌, subst, drop_of_length-le, eqb-true, arith}
use Rattle.std.proofs.lemmas.Bool.{cases_Bool, or_cases, and_parts}
use Rattle.std.proofs.lemmas.List.{drop_more, get_or_default}
use Rattle.std.proofs.lemmas.List.Elements.{filter-append}
use Rattle.std.specs.Prelude.{◌==◌, ◌&&◌, not, filter, option_map, is_some, IsSome, IsTrue}
use Rattle.std.specs.List.{AllByRecursion, Contains}
use Rattle.definitions_outcomes.specs.Computed.{and_then}
use Rattle.definitions_outcomes.specs.Outcomes.{Outcomes, Each}
use Rattle.catalog_core.specs.Columns.{table_at, column_at, columns_of_table, IsNeeds}
use Rattle.catalog_core.specs.declared.columns.ColumnId.{ColumnId}
use Rattle.catalog_core.specs.declared.columns.Needs.{Needs}
use Rattle.catalog_core.specs.declared.schemas.TableDef.{TableDef}
use Rattle.catalog_core.specs.declared.schemas.Schema.{Schema}
use Rattle.table_core.specs.Tables.{Stored, TableState, IsAwaited, StartsOnly, nothing_yet, started, rows_of, stored_at, column_of, key_of, key_values}
use Rattle.table_core.specs.Held.{outline_of, outline_in, is_among, needs_key, is_key_needed}
use Rattle.database_core.specs.Filling.{Puts, FitsKind, FillsSome, AnyCount, IsFilling, IsEmpty, if_of}
use Rattle.database_core.specs.Opens.{Opens, Names}
use Rattle.database_core.specs.Steps.{NamesTable}
use Rattle.database_core.specs.declared.errors.OpenError.{OpenError}
use Rattle.database_core.specs.declared.errors.OpenError.TheVariants as error
use Rattle.database_core.proofs.ListLemmas.{Among, Lacks, AreApart, all_among, all_from, all_weaker, among_contains, filter_among, apart_filter}
use Rattle.database_core.proofs.TableLemmas.{id_of, same_ids, has_slot, stored_in, same_stored, same_count, schema_key, started_only, started-outlines, nothing_yet-outlines, no_rows_yet, no_column_yet}
use Rattle.database_core.proofs.FilledLemmas.{ColumnsFilled, filled_columns, TablesFilled, filled_tables, HasStored, is_some_has, tables_apart, columns_apart, of_table, among_table, known_of}
use Rattle.database_core.proofs.StepLemmas.{Opens-refused}
use Rattle.database_core.proofs.FillLemmas.{each_append, each_refused}

-- what ends so ends the whole so
abbrev pub Leads : {S : Type 0} → Outcomes S OpenError → Outcomes S OpenError → Type 0
Leads {S} from to = (end : Result S OpenError) → from end → to end

-- the items from here on
pub items_here : {A : Type 0} (items : List A) (place : ℕ) (item : A) → place < length items → item ≡ get_or items place item → drop place items ≡ item ∷ drop (place + 1) items
items_here items place item within is = drop_more items place item within ∙ ap (λ x. x ∷ drop (place + 1) items) (sym is)

module _ {S A : Type 0} (step : S → A → Outcomes S OpenError) (whole : Outcomes S OpenError) (test : A → Bool) (items : List A) (place : ℕ) (state : S) where
  filter_here : (item : A) → place < length items → item ≡ get_or items place item → filter test (drop place items) ≡ filter test (item ∷ []) ++ filter test (drop (place + 1) items)
  filter_here item within is = ap (filter test) (items_here items place item within is) ∙ filter-append test (item ∷ []) (drop (place + 1) items)

  pub turn_goes : (item : A) → place < length items → item ≡ get_or items place item → (next : S) → Each step state (filter test (item ∷ [])) (Ok next)
      → Leads (Each step state (filter test (drop place items))) whole → Leads (Each step next (filter test (drop (place + 1) items))) whole
  turn_goes item within is next gone leads = λ end left.
      leads end (subst (λ l. Each step state l end) (sym (filter_here item within is)) (each_append step (filter test (item ∷ [])) (filter test (drop (place + 1) items)) state next end gone left))

  pub turn_stops : {X Y : Type 0} (view : X → S) (see : Y → S) (item : A) → place < length items → item ≡ get_or items place item → (given : OpenError) → Opens view (Err given) (Each step state (filter test (item ∷ [])))
      → Leads (Each step state (filter test (drop place items))) whole → Opens see (Err given) whole
  turn_stops view see item within is given stopped leads =
      Opens-refused view (Each step state (filter test (item ∷ []))) see whole given
      (λ e. leads (Err given) (subst (λ l. Each step state l (Err given)) (sym (filter_here item within is)) (each_refused step (filter test (item ∷ [])) (filter test (drop (place + 1) items)) state given e))) stopped

  pub turns_end : length items ≤ place → Leads (Each step state (filter test (drop place items))) whole → whole (Ok state)
  turns_end past leads = leads (Ok state) (subst (λ l. Each step state (filter test l) (Ok state)) (sym (drop_of_length-le items {i = place} past)) refl)

module _ {S A : Type 0} (step : S → A → Outcomes S OpenError) (whole : Outcomes S OpenError) (items : List A) (place : ℕ) (state : S) where
  pub item_goes : (item : A) → place < length items → item ≡ get_or items place item → (next : S) → step state item (Ok next)
      → Leads (Each step state (drop place items)) whole → Leads (Each step next (drop (place + 1) items)) whole
  item_goes item within is next gone leads = λ end left. leads end (subst (λ l. Each step state l end) (sym (items_here items place item within is)) (inl (next, gone, left)))

  pub item_stops : {X Y : Type 0} (view : X → S) (see : Y → S) (item : A) → place < length items → item ≡ get_or items place item → (given : OpenError) → Opens view (Err given) (step state item)
      → Leads (Each step state (drop place items)) whole → Opens see (Err given) whole
  item_stops view see item within is given stopped leads =
      Opens-refused view (step state item) see whole given
      (λ e. leads (Err given) (subst (λ l. Each step state l (Err given)) (sym (items_here items place item within is)) (inr (given, e, refl)))) stopped

  pub items_end : length items ≤ place → Leads (Each step state (drop place items)) whole → whole (Ok state)
  items_end past leads = leads (Ok state) (subst (λ l. Each step state l (Ok state)) (sym (drop_of_length-le items {i = place} past)) refl)

-- what is left stands apart
pub apart_drop : {A : Type 0} (place : ℕ) (items : List A) → AreApart items → AreApart (drop place items)
apart_drop zero items apart = apart
apart_drop (suc place) [] apart = apart
apart_drop (suc place) (item ∷ items) apart = apart_drop place items apart.1

pub all_drop : {A : Type 0} (P : A → Type 0) (place : ℕ) (items : List A) → AllByRecursion P items → AllByRecursion P (drop place items)
all_drop P zero items all = all
all_drop P (suc place) [] all = all
all_drop P (suc place) (item ∷ items) all = all_drop P place items all.1

-- The columns that are left of a table are not there yet.

awaits : (schema : Schema) (tables : List TableState) (id : ColumnId) (table rows : ℕ) → map outline_of tables ≡ map outline_in schema.tables → IsSome (column_at schema id) → id.table ≡ table → rows_of tables table ≡ Some rows
    → stored_at tables id ≡ None → IsAwaited tables id
awaits schema tables id table rows outlines some same known free =
    let definition = is_some_has (column_at schema id) some in
    let slot = has_slot schema tables id definition.0 outlines definition.1 in
    let none : slot.0 ≡ None = sym (stored_in tables id slot.0 slot.1) ∙ free in
    record { started = ap is_some (ap (rows_of tables) same ∙ known); free = slot.1 ∙ ap (λ (s : Option Stored). Some s) none }

pub awaits_if_of : (schema : Schema) (tables : List TableState) (id : ColumnId) (rest : List ColumnId) (table rows : ℕ) → IsSome (column_at schema id) → IsFilling schema (id ∷ rest) table rows tables
    → AllByRecursion (IsAwaited tables) (if_of table id)
awaits_if_of schema tables id rest table rows some filling = elim (cases_Bool (id.table == table)) [
  | inl same ↦
      let free : AllByRecursion (λ (one : ColumnId). stored_at tables one ≡ None) (id ∷ filter (λ one. one.table == table) rest) = rw same at filling.free in
      rw same (awaits schema tables id table rows filling.outlines some (eqb-true id.table table same) filling.known free.0, tt)
  | inr other ↦ rw other tt
]

known_if_of : (schema : Schema) (table : ℕ) (id : ColumnId) → IsSome (column_at schema id) → AllByRecursion (λ one. IsSome (column_at schema one)) (if_of table id)
known_if_of schema table id some = elim (cases_Bool (id.table == table)) [
  | inl same ↦ rw same (some, tt)
  | inr other ↦ rw other tt
]

lacks_if_of : (table : ℕ) (id one : ColumnId) → one ≢ id → Lacks one (if_of table id)
lacks_if_of table id one apart = elim (cases_Bool (id.table == table)) [
  | inl same ↦ rw same ((λ e. apart (sym e)), tt)
  | inr other ↦ rw other tt
]

among_cons : (table : ℕ) (id one : ColumnId) (rest : List ColumnId) → Among one (filter (λ other. other.table == table) rest) → Among one (filter (λ other. other.table == table) (id ∷ rest))
among_cons table id one rest among = elim (cases_Bool (id.table == table)) [
  | inl same ↦ rw same (inr among)
  | inr other ↦ rw other among
]

pub filling_goes : (holds : ColumnId → Stored → Type 0) (schema : Schema) (before after : List TableState) (id : ColumnId) (rest : List ColumnId) (table rows : ℕ) → AreApart (id ∷ rest) → IsSome (column_at schema id)
    → IsFilling schema (id ∷ rest) table rows before → Each (Puts holds) before (if_of table id) (Ok after) → IsFilling schema rest table rows after
filling_goes holds schema before after id rest table rows apart some filling run =
    let test : ColumnId → Bool = λ one. one.table == table in
    let ids = if_of table id in
    let filled : ColumnsFilled holds ids before after =
    filled_columns holds schema ids before after (apart_filter test (id ∷ []) (tt, tt)) (known_if_of schema table id some) filling.outlines run in
    record {
      outlines = filled.outlines ∙ filling.outlines;
      known = filled.rows table ∙ filling.known;
      free = all_from (λ (one : ColumnId). stored_at after one ≡ None) (filter test rest) (λ one among.
          let differ : one ≢ id = all_among (λ other. other ≢ id) one rest apart.0 (filter_among test one rest among) in
          filled.others one (lacks_if_of table id one differ)
          ∙ all_among (λ (other : ColumnId). stored_at before other ≡ None) one (filter test (id ∷ rest)) filling.free (among_cons table id one rest among));
    }

-- The tables that are left are empty.

pub empty_first : (schema : Schema) (needs : Needs) (tables : List TableState) (table : ℕ) (items : List ℕ) → IsEmpty schema needs tables (table ∷ items) → IsEmpty schema needs tables (table ∷ [])
empty_first schema needs tables table items empty = record { outlines = empty.outlines; unset = (empty.unset.0, tt); free = (empty.free.0, tt) }

pub empty_goes : (schema : Schema) (needs : Needs) (before after : List TableState) (table : ℕ) (items : List ℕ) → IsNeeds schema needs → table < length schema.tables → AreApart (table ∷ items)
    → IsEmpty schema needs before (table ∷ items) → FillsSome schema needs before table (Ok after) → IsEmpty schema needs after items
empty_goes schema needs before after table items is within apart empty fills =
    let one : TablesFilled AnyCount (FitsKind schema) schema needs (table ∷ []) before after =
    filled_tables AnyCount (FitsKind schema) schema needs is.columns (columns_apart schema needs is) (table ∷ []) before after (tt, tt) (within, tt) empty.outlines (inl (after, fills, refl)) in
    let other : (t : ℕ) → Among t items → Lacks t (table ∷ []) = λ t among. ((λ e. all_among (λ (o : ℕ). o ≢ table) t items apart.0 among (sym e)), tt) in
    record {
      outlines = one.outlines ∙ empty.outlines;
      unset = all_from (λ t. rows_of after t ≡ None) items (λ t among. one.no_rows t (other t among) ∙ all_among (λ (o : ℕ). rows_of before o ≡ None) t items empty.unset.1 among);
      free = all_from (λ t. AllByRecursion (λ id. stored_at after id ≡ None) (columns_of_table needs t)) items (λ t among.
          all_from (λ (id : ColumnId). stored_at after id ≡ None) (columns_of_table needs t) (λ id stands.
          let of : id.table ≡ t = all_among (λ (i : ColumnId). i.table ≡ t) id (columns_of_table needs t) (of_table needs t) stands in
          one.no_column id (inr (subst (λ (o : ℕ). Lacks o (table ∷ [])) (sym of) (other t among)))
          ∙ all_among (λ (i : ColumnId). stored_at before i ≡ None) id (columns_of_table needs t)
          (all_among (λ (o : ℕ). AllByRecursion (λ (i : ColumnId). stored_at before i ≡ None) (columns_of_table needs o)) t items empty.free.1 among) stands));
    }

-- One turn of a loop over needed columns, and of one over needed tables.

all_get : {A : Type 0} (P : A → Type 0) (items : List A) (place : ℕ) (d : A) → AllByRecursion P items → place < length items → P (get_or items place d)
all_get P [] place d all within = absurd (omega (arith, within))
all_get P (item ∷ items) zero d all within = all.0
all_get P (item ∷ items) (suc place) d all within = all_get P items place d all.1 (omega (arith, within))

pub record Turn {A : Type 0} (P : A → Type 0) (items : List A) (place : ℕ) (item : A) : Type 0 where
  pub within : place < length items
  pub is : item ≡ get_or items place item
  pub here : drop place items ≡ item ∷ drop (place + 1) items
  pub holds : P item
  pub apart : AreApart (item ∷ drop (place + 1) items)

turn_at : {A : Type 0} (P : A → Type 0) (items : List A) (place : ℕ) (d : A) → AllByRecursion P items → AreApart items → place < length items → Turn P items place (get_or items place d)
turn_at P items place d all apart within =
    let is : get_or items place d ≡ get_or items place (get_or items place d) = get_or_default items place d (get_or items place d) within in
    let here : drop place items ≡ get_or items place d ∷ drop (place + 1) items = items_here items place (get_or items place d) within is in
    record { within = within; is = is; here = here; holds = all_get P items place d all within; apart = subst AreApart here (apart_drop place items apart) }

turn_in : {A : Type 0} (P : A → Type 0) (items seen : List A) (place : ℕ) (d : A) → seen ≡ items → AllByRecursion P items → AreApart items → place < length seen → Turn P items place (get_or seen place d)
turn_in P items seen place d same all apart within =
    subst (λ l. place < length l → Turn P items place (get_or l place d)) (sym same) (λ (w : place < length items). turn_at P items place d all apart w) within

pub column_turn : (schema : Schema) (needs : Needs) (seen : List ColumnId) (place : ℕ) (d : ColumnId) → IsNeeds schema needs → seen ≡ needs.columns → place < length seen
    → Turn (λ id. IsSome (column_at schema id)) needs.columns place (get_or seen place d)
column_turn schema needs seen place d is same within = turn_in (λ id. IsSome (column_at schema id)) needs.columns seen place d same is.columns (columns_apart schema needs is) within

-- a needed table stands in the schema
pub record IsNeeded (schema : Schema) (needs : Needs) (table : ℕ) : Type 0 where
  pub within : table < length schema.tables
  pub among : Among table needs.tables

pub table_turn : (schema : Schema) (needs : Needs) (seen : List ℕ) (place : ℕ) (d : ℕ) → IsNeeds schema needs → seen ≡ needs.tables → place < length seen
    → Turn (IsNeeded schema needs) needs.tables place (get_or seen place d)
table_turn schema needs seen place d is same within =
    turn_in (IsNeeded schema needs) needs.tables seen place d same
    (all_from (IsNeeded schema needs) needs.tables (λ table among. record { within = all_among (λ (t : ℕ). t < length schema.tables) table needs.tables is.tables among; among = among }))
    (tables_apart schema needs is) within

-- the loops begin
pub begin_filling : (schema : Schema) (needs : Needs) (tables after : List TableState) (table rows : ℕ) → table < length schema.tables → after ≡ started tables table rows → IsEmpty schema needs tables (table ∷ [])
    → IsFilling schema needs.columns table rows after
begin_filling schema needs tables after table rows within is empty =
    let starts : StartsOnly table rows tables (started tables table rows) = started_only tables table rows (omega (arith, same_count schema tables empty.outlines, within)) in
    subst (λ (s : List TableState). IsFilling schema needs.columns table rows s) (sym is) (record {
      outlines = started-outlines tables table rows ∙ empty.outlines;
      known = starts.known;
      free = all_weaker (λ id. stored_at tables id ≡ None) (λ id. stored_at (started tables table rows) id ≡ None) (λ id none. same_stored (started tables table rows) tables id (starts.slots id) ∙ none)
          (columns_of_table needs table) empty.free.0;
    })

pub empty_yet : (schema : Schema) (needs : Needs) (tables : List TableState) → tables ≡ nothing_yet schema → IsEmpty schema needs tables needs.tables
empty_yet schema needs tables is =
    subst (λ (s : List TableState). IsEmpty schema needs s needs.tables) (sym is) (record {
      outlines = nothing_yet-outlines schema;
      unset = all_from (λ table. rows_of (nothing_yet schema) table ≡ None) needs.tables (λ table among. no_rows_yet schema.tables table);
      free = all_from (λ table. AllByRecursion (λ id. stored_at (nothing_yet schema) id ≡ None) (columns_of_table needs table)) needs.tables (λ table among.
          all_from (λ id. stored_at (nothing_yet schema) id ≡ None) (columns_of_table needs table) (λ id in_table. no_column_yet schema id));
    })

-- A key that is needed is there.

among_any : (id : ColumnId) (ids : List ColumnId) → is_among id ids ≡ true → Among id ids
among_any id [] any = absurd (cc any)
among_any id (other ∷ ids) any = elim (or_cases (other.table == id.table && other.column == id.column) (is_among id ids) any) [
  | inl here ↦
      let both = and_parts (other.table == id.table) (other.column == id.column) here in
      inl (same_ids other id (eqb-true other.table id.table both.0) (eqb-true other.column id.column both.1))
  | inr rest ↦ inr (among_any id ids rest)
]

values_there : (found : Option Stored) (stored : Stored) → found ≡ Some stored → IsSome (option_map (λ column. column.values) (option_map (λ (one : Stored). one.column) found))
values_there found stored is = rw is refl

key_there_at : (definition : TableDef) (needs : Needs) (table : ℕ) (key : Option ℕ) (tables : List TableState) → key_of tables table ≡ key → AllByRecursion (HasStored (λ id stored. Unit {0}) tables) (columns_of_table needs table)
    → needs_key definition needs table key ≡ true → IsSome (key_values tables table)
key_there_at definition needs table None tables is columns needed = absurd (cc needed)
key_there_at definition needs table (Some key) tables is columns needed =
    let both = and_parts (not definition.repeats) (is_among (id_of table key) needs.columns) needed in
    let among : Among (id_of table key) (columns_of_table needs table) = among_table needs (id_of table key) (among_any (id_of table key) needs.columns both.1) in
    let has : HasStored (λ id stored. Unit {0}) tables (id_of table key) = all_among (HasStored (λ id stored. Unit {0}) tables) (id_of table key) (columns_of_table needs table) columns among in
    subst (λ (k : Option ℕ). IsSome (and_then k (λ place. option_map (λ column. column.values) (column_of tables (id_of table place))))) (sym is) (values_there (stored_at tables (id_of table key)) has.stored has.there)

pub key_there : (holds : ColumnId → Stored → Type 0) (schema : Schema) (needs : Needs) (definition : TableDef) (table rows : ℕ) (before after : List TableState) → IsNeeds schema needs → table_at schema table ≡ Some definition
    → IsFilling schema needs.columns table rows before → Each (Puts holds) before (columns_of_table needs table) (Ok after) → IsTrue (is_key_needed definition needs table) → IsSome (key_values after table)
key_there holds schema needs definition table rows before after is known filling run needed =
    let ids = columns_of_table needs table in
    let filled : ColumnsFilled holds ids before after =
    filled_columns holds schema ids before after (apart_filter (λ id. id.table == table) needs.columns (columns_apart schema needs is)) (known_of schema needs table is.columns) filling.outlines run in
    let key : key_of after table ≡ definition.key =
    schema_key schema after (filled.outlines ∙ filling.outlines) table ∙ ap (λ (t : Option TableDef). and_then t (λ one. one.key)) known in
    let there : AllByRecursion (HasStored (λ id stored. Unit {0}) after) ids =
    all_weaker (HasStored holds after) (HasStored (λ id stored. Unit {0}) after) (λ id has. record { stored = has.stored; there = has.there; fits = tt }) ids filled.columns in
    key_there_at definition needs table definition.key after key there needed

-- a refusal that names a needed table
pub names_needed : (needs : Needs) (table : ℕ) (given : OpenError) → Among table needs.tables → NamesTable table given → Names needs given
names_needed needs table error.Store among names = tt
names_needed needs table (error.TooLong file) among names = tt
names_needed needs table (error.NoFile file) among names = tt
names_needed needs table (error.BadNow named) among names = subst (Contains needs.tables) (sym names) (among_contains table needs.tables among)
names_needed needs table (error.Column file found) among names = names
names_needed needs table (error.Length file) among names = tt
names_needed needs table (error.Dict file found) among names = names
names_needed needs table (error.BadCode file) among names = tt
names_needed needs table (error.RepeatedKey named) among names = subst (Contains needs.tables) (sym names) (among_contains table needs.tables among)
names_needed needs table error.Memory among names = tt
