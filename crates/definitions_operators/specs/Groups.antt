-- Groups: which places of a column have one value, and the sums of each group.
use Rattle.std.specs.Prelude.{ℕ, ◌*◌, Bool, true, false, not, ◌&&◌, ◌==◌, nat_eq, List, [], ◌∷◌, ◌++◌, map, filter, zip, length, slice_index, sum, if◌then◌else◌}
use Rattle.std.specs.List.{list_any, position_or_len, fold}
use Rattle.definitions_operators.specs.Operators.{places, places_where}

-- # By places

-- the first of n places that are alike, `like` telling which are: rising
abbrev pub first_places : (ℕ → ℕ → Bool) → ℕ → List ℕ
first_places like n = places_where (λ place. not (list_any (λ earlier. like earlier place) (places place))) n

-- for each of n places the number of the first place that is like it
abbrev pub group_numbers : (ℕ → ℕ → Bool) → ℕ → List ℕ
group_numbers like n = map (λ place. position_or_len (λ first. like first place) (first_places like n)) (places n)

-- two places have one value; they have one earlier group and one value
abbrev pub one_value : List ℕ → ℕ → ℕ → Bool
one_value values a b = slice_index values a == slice_index values b

abbrev pub one_pair : List ℕ → List ℕ → ℕ → ℕ → Bool
one_pair before values a b = (slice_index before a == slice_index before b) && (slice_index values a == slice_index values b)

-- the group of each place, numbered by first occurrence, and the place at which each group occurs first
pub record Grouping : Type 0 where
  pub ids : List ℕ
  pub extents : List ℕ

-- the groups of a column, and those of a further column within earlier groups
abbrev pub group : List ℕ → Grouping
group values = record { ids = group_numbers (one_value values) (length values); extents = first_places (one_value values) (length values) }

abbrev pub refine : List ℕ → List ℕ → Grouping
refine before values = record { ids = group_numbers (one_pair before values) (length values); extents = first_places (one_pair before values) (length values) }

-- the sum of the values whose id is this one, and for each id below a number the sum of its values
abbrev pub sum_with : List ℕ → List ℕ → ℕ → ℕ
sum_with values ids id = sum (map (λ pair. pair.0) (filter (λ pair. nat_eq pair.1 id) (zip values ids)))

abbrev pub sums_of : List ℕ → List ℕ → ℕ → List ℕ
sums_of values ids groups = map (sum_with values ids) (places groups)

-- the products of two columns, row by row
abbrev pub products_of : List ℕ → List ℕ → List ℕ
products_of first second = map (λ pair. pair.0 * pair.1) (zip first second)

-- # Of rows of any kind, a column being a function of the row

module _ {A : Type 0} (same : A → A → Bool) where
  -- the items so far, and one more at the end, unless it is among them
  abbrev pub with_item : List A → A → List A
  with_item seen item = if list_any (same item) seen then seen else seen ++ item ∷ []

  -- the distinct items, in the order of first occurrence
  unfoldable pub distinct : List A → List A
  distinct items = fold with_item [] items

-- a row's values in the columns, and whether two such tuples are equal
abbrev pub tuple_of : {R : Type 0} → List (R → ℕ) → R → List ℕ
tuple_of columns row = map (λ column. column row) columns

abbrev pub same_tuple : List ℕ → List ℕ → Bool
same_tuple [] [] = true
same_tuple [] (y ∷ ys) = false
same_tuple (x ∷ xs) [] = false
same_tuple (x ∷ xs) (y ∷ ys) = nat_eq x y && same_tuple xs ys

-- the groups of rows by their key columns: the distinct tuples
abbrev pub groups_of : {R : Type 0} → List (R → ℕ) → List R → List (List ℕ)
groups_of columns rows = distinct same_tuple (map (tuple_of columns) rows)

-- what a query sums for a group: a column over the group's rows
abbrev pub operand_of : {R : Type 0} → List (R → ℕ) → (R → ℕ) → List R → List ℕ → ℕ
operand_of columns summed rows tuple = sum (map summed (filter (λ row. same_tuple tuple (tuple_of columns row)) rows))
