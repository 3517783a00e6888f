-- The fields of a record, one after the other, into the columns at their places.
use Rattle.std.proofs.Common.{◌≡◌, ◌≢◌, ◌∙◌, ◌<◌, ◌≤◌, ◌+◌, ℕ, zero, suc, List, [], ◌∷◌, ◌++◌, length, map, get_or, set, drop, Some, Result, Err, refl, sym, ap, arith, add-one, inl, inr, drop_of_length-le}
use Rattle.std.specs.Prelude.{slice_get}
use Rattle.std.specs.List.{zip}
use Rattle.std.proofs.lemmas.Bool.{cases_lt}
use Rattle.std.proofs.lemmas.List.{length-map, length-append, get_or-map}
use Rattle.std.proofs.lemmas.Option.{same_Some, slice_get-get_or}
use Rattle.std.proofs.Math.Seq.{get_or-append_seam}
use Rattle.std.proofs.Math.ListN.{get_or-append}
use Rattle.definitions_outcomes.specs.Computed.{walk}
use Rattle.definitions_outcomes.proofs.ComputedLaws.{after, walk_starts, walk_goes, walk_stops, walk_ends}
use Rattle.catalog_core.specs.declared.schemas.Kind.{Kind}
use Rattle.table_import.specs.Records.{Record}
use Rattle.table_import.specs.Imports.{Row, number, value_in, value_of}
use Rattle.table_import.specs.Growing.{kind_of, column_at, Takes, TakesRow}
use Rattle.table_import.specs.declared.errors.ImportError.{ImportError}
use Rattle.table_import.specs.declared.columns.GrowingColumn.{GrowingColumn}
use Rattle.table_import.proofs.ColumnLemmas.{at_same, at_other, at_old, kinds_same}

abbrev pub values_in : ℕ → Record → List GrowingColumn → Result Row ImportError
values_in row fields columns = walk (value_of row) 1 (zip (map kind_of columns) fields)

-- the columns below a place have the fields so far, and what the rest gives makes up the whole row
pub record Pushed (row : ℕ) (fields : Record) (initial columns : List GrowingColumn) (place : ℕ) : Type 0 where
  pub values : Row
  pub count : length values ≡ place
  pub so_far : values_in row fields initial ≡ after values (walk (value_of row) (place + 1) (drop place (zip (map kind_of initial) fields)))
  pub kinds : map kind_of columns ≡ map kind_of initial
  pub front : (other : ℕ) → other < place → column_at columns other ≡ column_at initial other ++ get_or values other (number 0) ∷ []
  pub back : (other : ℕ) → place ≤ other → column_at columns other ≡ column_at initial other

-- the pairs from a place on
zip_from : (kinds : List Kind) (fields : Record) (place : ℕ) (kind : Kind) (field : List ℕ) → slice_get kinds place ≡ Some kind → slice_get fields place ≡ Some field
    → drop place (zip kinds fields) ≡ (kind, field) ∷ drop (place + 1) (zip kinds fields)
zip_from [] fields place kind field here there = absurd (cc here)
zip_from (one ∷ kinds) [] place kind field here there = absurd (cc there)
zip_from (one ∷ kinds) (first ∷ fields) zero kind field here there = rw (same_Some one kind here, same_Some first field there) refl
zip_from (one ∷ kinds) (first ∷ fields) (suc place) kind field here there = rw add-one (rw add-one at (zip_from kinds fields place kind field here there))

zip_length : (kinds : List Kind) (fields : Record) → length kinds ≤ length fields → length (zip kinds fields) ≡ length kinds
zip_length [] fields enough = refl
zip_length (kind ∷ kinds) [] enough = absurd (omega (arith, enough))
zip_length (kind ∷ kinds) (field ∷ fields) enough = ap suc (zip_length kinds fields (omega (arith, enough)))

pub pushed_none : (row : ℕ) (fields : Record) (columns : List GrowingColumn) → Pushed row fields columns columns 0
pushed_none row fields columns = record {
  values = [];
  count = refl;
  so_far = walk_starts (values_in row fields columns);
  kinds = refl;
  front = λ other below. absurd (omega (arith, below));
  back = λ other above. refl;
}

module _ (row : ℕ) (fields : Record) (initial columns : List GrowingColumn) (place : ℕ) (pushed : Pushed row fields initial columns place)
    (within : place < length columns) (old : GrowingColumn) (is : old ≡ get_or columns place old) (field : List ℕ) (there : slice_get fields place ≡ Some field) where
  kind_here : slice_get (map kind_of initial) place ≡ Some (kind_of old)
  kind_here =
      let same : get_or (map kind_of columns) place (kind_of old) ≡ kind_of old = get_or-map kind_of columns place old (kind_of old) within ∙ ap kind_of (sym is) in
      let here : slice_get (map kind_of columns) place ≡ Some (get_or (map kind_of columns) place (kind_of old)) = slice_get-get_or (map kind_of columns) place (kind_of old) (rw (length-map columns kind_of) within) in
      (rw pushed.kinds at here) ∙ ap (λ k. Some k) ((rw pushed.kinds at same))

  from_here : values_in row fields initial ≡ after pushed.values (walk (value_of row) (place + 1) ((kind_of old, field) ∷ drop (place + 1) (zip (map kind_of initial) fields)))
  from_here = (rw (zip_from (map kind_of initial) fields place (kind_of old) field kind_here there) at pushed.so_far)

  pub push_stops : (error : ImportError) → value_in (kind_of old) row (place + 1) field ≡ Err error → values_in row fields initial ≡ Err error
  push_stops error refuses = walk_stops (value_of row) (values_in row fields initial) pushed.values (place + 1) (kind_of old, field) (drop (place + 1) (zip (map kind_of initial) fields)) error refuses from_here

  push_front : (new : GrowingColumn) → (takes : Takes row (place + 1) field old new) → (other : ℕ) → other < place + 1
      → column_at (set columns place new) other ≡ column_at initial other ++ get_or (pushed.values ++ takes.value ∷ []) other (number 0) ∷ []
  push_front new takes other below = elim (cases_lt other place) [
    | inl before ↦
        let differ : other ≢ place = omega (arith, before) in
        at_other columns place old new other differ ∙ pushed.front other before
        ∙ ap (λ v. column_at initial other ++ v ∷ []) (sym (get_or-append pushed.values (takes.value ∷ []) (number 0) other (omega (arith, pushed.count, before))))
    | inr here ↦
        let same : other ≡ place = omega (arith, here, below) in
        let last : get_or (pushed.values ++ takes.value ∷ []) place (number 0) ≡ takes.value = rw (← pushed.count) (get_or-append_seam pushed.values takes.value [] (number 0)) in
        rw (same, last) (at_same columns place old new within ∙ takes.values ∙ ap (λ v. v ++ takes.value ∷ []) (sym (at_old columns place old new within is) ∙ pushed.back place (omega arith)))
  ]

  pub push_more : (new : GrowingColumn) → Takes row (place + 1) field old new → Pushed row fields initial (set columns place new) (place + 1)
  push_more new takes = record {
    values = pushed.values ++ takes.value ∷ [];
    count = rw (length-append pushed.values (takes.value ∷ []), pushed.count) refl;
    so_far = walk_goes (value_of row) (values_in row fields initial) pushed.values (place + 1) (kind_of old, field) (drop (place + 1) (zip (map kind_of initial) fields)) takes.value takes.gives from_here;
    kinds = kinds_same columns place old new is takes.kind ∙ pushed.kinds;
    front = push_front new takes;
    back = λ other above. let differ : other ≢ place = omega (arith, above) in at_other columns place old new other differ ∙ pushed.back other (omega (arith, above));
  }

-- all fields are there
pub pushed_all : (row : ℕ) (fields : Record) (initial columns : List GrowingColumn) (place : ℕ) → Pushed row fields initial columns place → length initial ≤ place → place ≤ length initial → length initial ≤ length fields
    → TakesRow (values_in row fields initial) initial columns
pushed_all row fields initial columns place pushed past most enough =
    let count : length (zip (map kind_of initial) fields) ≡ length initial = zip_length (map kind_of initial) fields (rw (length-map initial kind_of) enough) ∙ length-map initial kind_of in
    let none : drop place (zip (map kind_of initial) fields) ≡ [] = drop_of_length-le (zip (map kind_of initial) fields) {i = place} (rw count past) in
    record {
      values = pushed.values;
      gives = walk_ends (value_of row) (values_in row fields initial) pushed.values (place + 1) (rw none at pushed.so_far);
      each = λ other below. pushed.front other (omega (arith, below, past));
      kinds = pushed.kinds;
    }
