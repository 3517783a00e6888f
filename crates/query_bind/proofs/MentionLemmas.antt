-- The columns that a query names, one by one.
use Rattle.std.proofs.Common.{◌≡◌, ◌<◌, ◌≤◌, ℕ, ◌+◌, List, [], ◌∷◌, ◌++◌, length, get_or, drop, refl, map, drop_of_length-le}
use Rattle.std.specs.Prelude.{Result, Ok, Err}
use Rattle.std.specs.List.{flat_map}
use Rattle.std.proofs.lemmas.List.{length-map}
use Rattle.definitions_outcomes.specs.Computed.{bind}
use Rattle.definitions_outcomes.proofs.ComputedLaws.{items_from}
use Rattle.definitions_queries.specs.Queries.{Word, Query}
use Rattle.catalog_core.specs.declared.columns.ColumnId.{ColumnId}
use Rattle.catalog_core.specs.declared.schemas.Schema.{Schema}
use Rattle.query_bind.specs.Binding.{column_in, are_of_from, item_words, condition_words, mentioned}
use Rattle.query_bind.specs.declared.errors.BindError.{BindError}

module _ (schema : Schema) (tables : List ℕ) where
  -- first these names, and then those
  pub are_append : (words others : List Word) → are_of_from schema tables (words ++ others) ≡ bind (are_of_from schema tables words) (λ _. are_of_from schema tables others)
  are_append [] others = refl
  are_append (word ∷ more) others = by (column_in schema tables word) (are_append more others) where
    by : (found : Result ColumnId BindError) → are_of_from schema tables (more ++ others) ≡ bind (are_of_from schema tables more) (λ _. are_of_from schema tables others)
        → bind found (λ _. are_of_from schema tables (more ++ others)) ≡ bind (bind found (λ _. are_of_from schema tables more)) (λ _. are_of_from schema tables others)
    by (Ok id) rest = rest
    by (Err refusal) rest = refl

  module _ {X A : Type 0} (words_of : A → List Word) (see : X → A) (xs : List X) (whole : Result (Unit {0}) BindError) (i : ℕ) where
    pub all_go : (item : X) → i < length xs → item ≡ get_or xs i item → are_of_from schema tables (words_of (see item)) ≡ Ok tt
        → whole ≡ are_of_from schema tables (flat_map words_of (drop i (map see xs))) → whole ≡ are_of_from schema tables (flat_map words_of (drop (i + 1) (map see xs)))
    all_go item within is went so_far =
        rw (items_from see xs i item within is, are_append (words_of (see item)) (flat_map words_of (drop (i + 1) (map see xs))), went) at so_far

    pub all_stop : (item : X) → i < length xs → item ≡ get_or xs i item → (refusal : BindError) → are_of_from schema tables (words_of (see item)) ≡ Err refusal
        → whole ≡ are_of_from schema tables (flat_map words_of (drop i (map see xs))) → whole ≡ Err refusal
    all_stop item within is refusal refused so_far =
        rw (items_from see xs i item within is, are_append (words_of (see item)) (flat_map words_of (drop (i + 1) (map see xs))), refused) at so_far

    pub all_end : length xs ≤ i → whole ≡ are_of_from schema tables (flat_map words_of (drop i (map see xs))) → whole ≡ Ok tt
    all_end past so_far = rw (drop_of_length-le (map see xs) {i = i} (rw (length-map xs see) past)) at so_far

  module _ {X : Type 0} (see : X → Word) (xs : List X) (whole : Result (Unit {0}) BindError) (i : ℕ) where
    pub word_goes : (word : X) → i < length xs → word ≡ get_or xs i word → (id : ColumnId) → column_in schema tables (see word) ≡ Ok id
        → whole ≡ are_of_from schema tables (drop i (map see xs)) → whole ≡ are_of_from schema tables (drop (i + 1) (map see xs))
    word_goes word within is id went so_far = rw went at (rw (items_from see xs i word within is) at so_far)

    pub word_stops : (word : X) → i < length xs → word ≡ get_or xs i word → (refusal : BindError) → column_in schema tables (see word) ≡ Err refusal
        → whole ≡ are_of_from schema tables (drop i (map see xs)) → whole ≡ Err refusal
    word_stops word within is refusal refused so_far = rw refused at (rw (items_from see xs i word within is) at so_far)

  -- first the items, then the conditions, and then GROUP BY
  pub mentions_split : (query : Query) → are_of_from schema tables (mentioned query)
      ≡ bind (bind (are_of_from schema tables (flat_map item_words query.items)) (λ _. are_of_from schema tables (flat_map condition_words query.conditions))) (λ _. are_of_from schema tables query.groups)
  mentions_split query =
      rw (are_append (flat_map item_words query.items ++ flat_map condition_words query.conditions) query.groups, are_append (flat_map item_words query.items) (flat_map condition_words query.conditions)) refl
