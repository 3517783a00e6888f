-- Columns grouped one within the other give the groups of the tuples, and sums by their ids the operands of the groups.
use Rattle.std.proofs.Common.{◌≡◌, ℕ, ◌*◌, ◌<◌, true, List, [], ◌∷◌, length, map, get_or, refl, sym, ap, ap₂, ◌∙◌, subst}
use Rattle.std.specs.Prelude.{zip, nat_eq, slice_index, filter, sum}
use Rattle.std.specs.List.{range_with_len, fold, All}
use Rattle.std.specs.Cmp.{nat_eq_equiv}
use Rattle.std.proofs.lemmas.List.{get_or-map, length-map}
use Rattle.std.proofs.lemmas.List.FromFn.{fill_by_all}
use Rattle.definitions_operators.specs.Groups.{Grouping, group, refine, products_of, distinct, tuple_of, same_tuple, groups_of, operand_of, sums_of}
use Rattle.definitions_operators.proofs.GroupWords.{ids_of, extents_of, grouping, group_items, refine_items, refined_by, same_pair}
use Rattle.definitions_operators.proofs.GroupLaws.{group_all-is, same_rows, groups-are, sums-are, zip_maps, map_map}
use Rattle.definitions_operators.proofs.NumberingLaws.{length-zip, same_pair-equivalence}
use Rattle.definitions_operators.proofs.OccurrenceLaws.{length-ids_of, length-extents_of, ids-below}
use Rattle.definitions_operators.proofs.GroupPlaceLaws.{group-by_places, refine-by_places}

abbrev grouped : List ℕ → List ℕ → Grouping
grouped ids extents = record { ids = ids; extents = extents }

pub group-is : (values : List ℕ) → group values ≡ group_items values
group-is values = let both = group-by_places values in ap₂ grouped both.1 both.0

pub refine-is : (before values : List ℕ) → length before ≡ length values → refine before values ≡ refine_items before values
refine-is before values e = let both = refine-by_places before values e in ap₂ grouped both.1 both.0

-- each id of a group is below the number of groups
pub group-ids_below : (values : List ℕ) → All (λ id. id < length (group values).extents) (group values).ids
group-ids_below values =
    subst (λ (found : Grouping). All (λ id. id < length found.extents) found.ids) (sym (group-is values)) (ids-below nat_eq nat_eq_equiv values)

pub refine-ids_below : (before values : List ℕ) → length before ≡ length values → All (λ id. id < length (refine before values).extents) (refine before values).ids
refine-ids_below before values e =
    subst (λ (found : Grouping). All (λ id. id < length found.extents) found.ids) (sym (refine-is before values e)) (ids-below same_pair same_pair-equivalence (zip before values))

refined-length : (before : Grouping) (values : List ℕ) → length before.ids ≡ length values → length (refine_items before.ids values).ids ≡ length values
refined-length before values e = length-ids_of same_pair (zip before.ids values) ∙ length-zip before.ids values e

-- a grouping refined by further columns in turn
abbrev pub refined_all : Grouping → List (List ℕ) → Grouping
refined_all found [] = found
refined_all found (values ∷ later) = refined_all (refine found.ids values) later

module _ {R : Type 0} (rows : List R) where
  abbrev column_of : (R → ℕ) → List ℕ
  column_of column = map column rows

  all_later : (before : Grouping) (columns : List (R → ℕ)) → length before.ids ≡ length rows
      → refined_all before (map column_of columns) ≡ fold refined_by before (map column_of columns)
  all_later before [] e = refl
  all_later before (column ∷ columns) e =
      let values = column_of column in
      let long : length before.ids ≡ length values = e ∙ sym (length-map rows column) in
      ap (λ (next : Grouping). refined_all next (map column_of columns)) (refine-is before.ids values long)
      ∙ all_later (refine_items before.ids values) columns (refined-length before values long ∙ length-map rows column)

  -- The groups of the key columns are those of the tuples.
  pub grouped-are : (first : R → ℕ) (later : List (R → ℕ))
      → refined_all (group (column_of first)) (map column_of later) ≡ grouping same_tuple (map (tuple_of (first ∷ later)) rows)
  grouped-are first later =
      ap (λ (next : Grouping). refined_all next (map column_of later)) (group-is (column_of first))
      ∙ all_later (group_items (column_of first)) later (length-ids_of nat_eq (column_of first) ∙ length-map rows first)
      ∙ group_all-is first later rows

-- The sums by the ids of the groups are the operands of the groups.
pub totals-are : {R : Type 0} (columns : List (R → ℕ)) (summed : R → ℕ) (rows : List R)
    → sums_of (map summed rows) (ids_of same_tuple (map (tuple_of columns) rows)) (length (extents_of same_tuple (map (tuple_of columns) rows)))
    ≡ map (operand_of columns summed rows) (groups_of columns rows)
totals-are columns summed rows =
    ap (sums_of (map summed rows) (ids_of same_tuple (map (tuple_of columns) rows))) (length-extents_of same_tuple (map (tuple_of columns) rows))
    ∙ sums-are columns summed rows

-- products of two columns of rows
pub products-are : {R : Type 0} (rows : List R) (first second : R → ℕ) → products_of (map first rows) (map second rows) ≡ map (λ row. first row * second row) rows
products-are rows first second =
    ap (map (λ (pair : ℕ × ℕ). pair.0 * pair.1)) (zip_maps first second rows) ∙ map_map (λ (pair : ℕ × ℕ). pair.0 * pair.1) (λ row. (first row, second row)) rows

filter_all : {R : Type 0} (rows : List R) → filter (λ row. true) rows ≡ rows
filter_all [] = refl
filter_all {R} (row ∷ rows) = ap (λ (more : List R). row ∷ more) (filter_all rows)

-- without key columns an operand is the sum over all rows
pub operand-of_all : {R : Type 0} (column : R → ℕ) (rows : List R) → operand_of [] column rows [] ≡ sum (map column rows)
operand-of_all {R} column rows = ap (λ (kept : List R). sum (map column kept)) (filter_all rows)

-- the tuple at a place of columns
abbrev pub tuple_at : List (List ℕ) → ℕ → List ℕ
tuple_at columns place = map (λ column. slice_index column place) columns

key_places : {R : Type 0} (columns : List (R → ℕ)) (distinct_rows : List R) (place : ℕ) (row : R) → place < length distinct_rows
    → tuple_at (map (λ column. map column distinct_rows) columns) place ≡ tuple_of columns (get_or distinct_rows place row)
key_places [] distinct_rows place row h = refl
key_places (column ∷ columns) distinct_rows place row h =
    ap₂ (λ (x : ℕ) (xs : List ℕ). x ∷ xs) (get_or-map column distinct_rows place row 0 h) (key_places columns distinct_rows place row h)

side_by_side : {R : Type 0} (columns : List (R → ℕ)) (found : List R)
    → map (tuple_at (map (λ column. map column found) columns)) (range_with_len 0 (length found)) ≡ map (tuple_of columns) found
side_by_side columns [] = refl
side_by_side {R} columns (first ∷ found) =
    let all : List R = first ∷ found in
    sym (fill_by_all (tuple_at (map (λ column. map column all) columns)) (map (tuple_of columns) all) (length all) [] (length-map all (tuple_of columns))
    (λ (k : ℕ) (h : k < length all). get_or-map (tuple_of columns) all k first [] h ∙ sym (key_places columns all k first h)))

-- Read side by side, the key columns at the extents are the groups.
pub keys-side_by_side : {R : Type 0} (columns : List (R → ℕ)) (rows : List R)
    → map (tuple_at (map (λ column. map column (distinct (same_rows columns) rows)) columns)) (range_with_len 0 (length (distinct (same_rows columns) rows))) ≡ groups_of columns rows
keys-side_by_side columns rows = side_by_side columns (distinct (same_rows columns) rows) ∙ sym (groups-are columns rows)
