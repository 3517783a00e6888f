-- One more row, with its key.
use Rattle.std.proofs.Common.{◌≡◌, ◌∙◌, ◌<◌, ◌≤◌, ◌+◌, ◌==◌, ℕ, zero, suc, Bool, true, false, ◌||◌, ◌&&◌, nat_eq, nat_lt, List, [], ◌∷◌, ◌++◌, length, map, get_or, Option, Some, None, Result, Ok, Err, refl, sym, ap, arith, inl, inr}
use Rattle.std.specs.Prelude.{IfSome, slice_get}
use Rattle.std.specs.List.{list_any, zip}
use Rattle.std.proofs.lemmas.Bool.{eqb-true, lt-leb, le-leb, cases_Bool}
use Rattle.std.proofs.lemmas.List.{map-append, length-map}
use Rattle.std.proofs.lemmas.List.Folds.{list_any-append}
use Rattle.std.proofs.lemmas.Option.{same_Some, slice_get_within}
use Rattle.definitions_outcomes.specs.Computed.{walk}
use Rattle.catalog_core.specs.LawfulSchemas.{IsTableDef, KeepsRole, kind_at}
use Rattle.catalog_core.specs.declared.schemas.Kind.{Kind}
use Rattle.catalog_core.specs.declared.schemas.Kind.TheVariants as kind
use Rattle.catalog_core.specs.declared.schemas.Role.{Role}
use Rattle.catalog_core.specs.declared.schemas.Role.TheVariants.{Fact, Dimension}
use Rattle.catalog_core.specs.declared.schemas.ColumnDef.{ColumnDef}
use Rattle.catalog_core.specs.declared.schemas.TableDef.{TableDef}
use Rattle.table_import.specs.Records.{Record}
use Rattle.table_import.specs.Imports.{Row, number, number_at, keys_at, counts, has_count, value_of, row_of, key_place, repeats_at, is_repeated, row_after}
use Rattle.table_import.specs.TableData.{values_at}
use Rattle.table_import.specs.Growing.{kind_of, kinds_of, column_at, last_number, TakesRow, HaveRows, is_key_among, AddsKey, AreKeysOf}
use Rattle.table_import.specs.declared.errors.ImportError.{ImportError}
use Rattle.table_import.specs.declared.errors.ImportError.TheVariants as refusal
use Rattle.table_import.specs.declared.columns.GrowingColumn.{GrowingColumn}
use Rattle.table_import.proofs.ColumnLemmas.{last_number-append}

and_left : (a b : Bool) → (a && b) ≡ true → a ≡ true
and_left true b both = refl
and_left false b both = both

counts_more : (columns : ℕ) (trailing : Bool) (fields : Record) (last : Bool) → (trailing && (length fields == columns + 1) && last) ≡ true → columns ≤ length fields
counts_more columns true fields last has = omega (arith, eqb-true (length fields) (columns + 1) (and_left (length fields == columns + 1) last has))
counts_more columns false fields last has = absurd (cc has)

-- a record that has the right count has enough fields
pub counts_enough : (columns : ℕ) (trailing : Bool) (fields : Record) → counts columns trailing fields ≡ true → columns ≤ length fields
counts_enough columns trailing fields has = elim (cases_Bool (length fields == columns)) [
  | inl same ↦ omega (arith, eqb-true (length fields) columns same)
  | inr other ↦ counts_more columns trailing fields _ (rw other at has)
]

pub count_of_kinds : (table : TableDef) (columns : List GrowingColumn) → map kind_of columns ≡ kinds_of table → length columns ≡ length table.columns
count_of_kinds table columns same = sym (length-map columns kind_of) ∙ ap length same ∙ length-map table.columns _

module _ (table : TableDef) (row : ℕ) (fields : Record) where
  pub row_miscounted : has_count table fields ≡ false → row_of table row fields ≡ Err (refusal.FieldCount row (length fields))
  row_miscounted lacks = rw lacks refl

  pub row_counted : has_count table fields ≡ true → row_of table row fields ≡ walk (value_of row) 1 (zip (kinds_of table) fields)
  row_counted has = rw has refl

-- the keys with one more
or_swapped : (a b : Bool) → (a || (b || false)) ≡ (b || a)
or_swapped true true = refl
or_swapped true false = refl
or_swapped false true = refl
or_swapped false false = refl

pub keys_more : (key : ℕ) (place : ℕ) (done : List Row) (values : Row)
    → list_any (nat_eq key) (keys_at place (done ++ values ∷ [])) ≡ (nat_eq key (number_at place values) || list_any (nat_eq key) (keys_at place done))
keys_more key place done values =
    ap (list_any (nat_eq key)) (map-append (λ row. number_at place row) done (values ∷ []))
    ∙ list_any-append (nat_eq key) (keys_at place done) (number_at place values ∷ [])
    ∙ or_swapped (list_any (nat_eq key) (keys_at place done)) (nat_eq key (number_at place values))

module _ (table : TableDef) (done : List Row) (before after : List GrowingColumn) (given : Result Row ImportError) (have : HaveRows table done before) (takes : TakesRow given before after) where
  column_more : (place : ℕ) → place < length before → column_at after place ≡ values_at place done ++ get_or takes.values place (number 0) ∷ []
  column_more place within = takes.each place within ∙ ap (λ v. v ++ get_or takes.values place (number 0) ∷ []) (have.each place within)

  last_is : (place : ℕ) → place < length before → last_number (column_at after place) ≡ number_at place takes.values
  last_is place within = ap last_number (column_more place within) ∙ last_number-append (values_at place done) (get_or takes.values place (number 0))

  -- the columns have one more row
  pub rows_more : HaveRows table (done ++ takes.values ∷ []) after
  rows_more =
      let count : length after ≡ length before = sym (length-map after kind_of) ∙ ap length takes.kinds ∙ length-map before kind_of in
      record {
        kinds = takes.kinds ∙ have.kinds;
        each = λ place within. column_more place (omega (arith, within, count)) ∙ sym (map-append (λ row. get_or row place (number 0)) done (takes.values ∷ []));
      }

  -- whether its key is there, as the keys tell
  pub among : (key : Option ℕ) (keys : List ℕ) → IfSome key (λ place. place < length before) → AreKeysOf key done keys → is_key_among key after keys ≡ repeats_at key [] done takes.values
  among None keys within are = refl
  among (Some place) keys within are = rw (last_is place within) (are (number_at place takes.values))

  -- the keys with it
  pub known_more : (key : Option ℕ) (old new : List ℕ) → IfSome key (λ place. place < length before) → AreKeysOf key done old → AddsKey key after old new → AreKeysOf key (done ++ takes.values ∷ []) new
  known_more None old new within are adds = tt
  known_more (Some place) old new within are adds = λ key. adds key ∙ rw (last_is place within, are key) (sym (keys_more key place done takes.values))

module _ (table : TableDef) (limit row : ℕ) (done : List Row) (fields : Record) (few : row ≤ limit) where
  within_limit : nat_lt limit row ≡ false
  within_limit = lt-leb (suc limit) row (omega (arith, few))

  pub after_refused : (error : ImportError) → row_of table row fields ≡ Err error → row_after table limit [] row done fields ≡ Err error
  after_refused error refuses = rw (within_limit, refuses) refl

  pub after_repeated : (values : Row) → row_of table row fields ≡ Ok values → is_repeated table [] done values ≡ true → row_after table limit [] row done fields ≡ Err (refusal.RepeatedKey row)
  after_repeated values gives repeats = rw (within_limit, gives, repeats) refl

  pub after_new : (values : Row) → row_of table row fields ≡ Ok values → is_repeated table [] done values ≡ false → row_after table limit [] row done fields ≡ Ok values
  after_new values gives fresh = rw (within_limit, gives, fresh) refl

-- a row past the limit
pub after_limit : (table : TableDef) (limit : ℕ) (done : List Row) (fields : Record) → row_after table limit [] (limit + 1) done fields ≡ Err refusal.TooManyRows
after_limit table limit done fields = rw (le-leb (suc limit) (limit + 1) (omega arith)) refl

-- the place of a key is that of a column of numbers
key_in_role : (role : Role) (table : TableDef) → KeepsRole role table → IfSome (key_place table) (λ place. kind_at table.columns place ≡ Some kind.Number)
key_in_role Fact table (none, once) = rw (once, none) tt
key_in_role Dimension table (place, is, kind) = elim (cases_Bool table.repeats) [
  | inl repeats ↦ rw repeats tt
  | inr once ↦ rw (once, is) kind
]

pub key_kind : (table : TableDef) → IsTableDef table → IfSome (key_place table) (λ place. kind_at table.columns place ≡ Some kind.Number)
key_kind table lawful = key_in_role table.role table lawful.role

pub definition_of_kind : (columns : List ColumnDef) (place : ℕ) (kind : Kind) → kind_at columns place ≡ Some kind → (definition : ColumnDef) × (slice_get columns place ≡ Some definition) × (definition.kind ≡ kind)
definition_of_kind [] place kind is = absurd (cc is)
definition_of_kind (first ∷ columns) zero kind is = (first, refl, same_Some first.kind kind is)
definition_of_kind (first ∷ columns) (suc place) kind is = definition_of_kind columns place kind is

-- what holds of a value, if there is one, said of more
pub if_some_more : {A : Type 0} {P Q : A → Type 0} (one : Option A) → ((value : A) → P value → Q value) → IfSome one P → IfSome one Q
if_some_more None more holds = tt
if_some_more (Some value) more holds = more value holds

pub key_within : (table : TableDef) (count : ℕ) → IsTableDef table → count ≡ length table.columns → IfSome (key_place table) (λ place. place < count)
key_within table count lawful same = if_some_more (key_place table)
    (λ place is. let found = definition_of_kind table.columns place kind.Number is in rw same (slice_get_within table.columns place found.0 found.1))
    (key_kind table lawful)
