-- Groups by items in place of places: numbers and places of first occurrences, whole and as one pass finds them.
use Rattle.std.specs.Prelude.{ℕ, ◌+◌, Bool, false, not, take, drop, ◌&&◌, nat_eq, List, [], ◌∷◌, ◌++◌, map, zip, if◌then◌else◌}
use Rattle.std.specs.List.{list_any, position_or_len, fold}
use Rattle.definitions_operators.specs.Groups.{Grouping, with_item, distinct}

module _ {A : Type 0} (same : A → A → Bool) where
  -- the place in a list at which an item occurs first; its length if it does not
  abbrev pub place_in : List A → A → ℕ
  place_in items item = position_or_len (same item) items

  -- for each item the number of its first occurrence
  unfoldable pub ids_of : List A → List ℕ
  ids_of items = map (place_in (distinct same items)) items

  -- for each distinct item the place at which it occurs first
  unfoldable pub extents_of : List A → List ℕ
  extents_of items = map (place_in items) (distinct same items)

  -- whether the item that the rest begins with was not among those before
  abbrev pub is_new : List A → List A → Bool
  is_new before [] = false
  is_new before (item ∷ rest) = not (list_any (same item) before)

  -- whether the item at a place occurs there first
  abbrev pub occurs_first : List A → ℕ → Bool
  occurs_first items place = is_new (take place items) (drop place items)

  -- the numbers of the items, after those seen
  abbrev pub numbers_from : List A → List A → List ℕ
  numbers_from seen [] = []
  numbers_from seen (item ∷ items) = place_in seen item ∷ numbers_from (with_item same seen item) items

  -- the place of an item that was not seen
  abbrev pub new_place : List A → ℕ → A → List ℕ
  new_place seen place item = if list_any (same item) seen then [] else place ∷ []

  -- the places, from `place` on, of the items that were not seen before
  abbrev pub new_places : List A → ℕ → List A → List ℕ
  new_places seen place [] = []
  new_places seen place (item ∷ items) = new_place seen place item ++ new_places (with_item same seen item) (place + 1) items

abbrev pub grouping : {A : Type 0} → (A → A → Bool) → List A → Grouping
grouping same items = record { ids = ids_of same items; extents = extents_of same items }

-- the groups of a column, and of pairs of an earlier group and a value
abbrev pub group_items : List ℕ → Grouping
group_items values = grouping nat_eq values

abbrev pub same_pair : ℕ × ℕ → ℕ × ℕ → Bool
same_pair a b = nat_eq a.0 b.0 && nat_eq a.1 b.1

abbrev pub refine_items : List ℕ → List ℕ → Grouping
refine_items before values = grouping same_pair (zip before values)

-- a grouping refined by one column more, and by several in turn
abbrev pub refined_by : Grouping → List ℕ → Grouping
refined_by found values = refine_items found.ids values

abbrev pub group_all : List ℕ → List (List ℕ) → Grouping
group_all first later = fold refined_by (group_items first) later
