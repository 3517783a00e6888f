-- What the tables and columns of a binding keep.
use Rattle.std.proofs.Common.{◌≡◌, ◌<◌, ◌≤◌, ℕ, zero, suc, ◌+◌, Bool, true, false, not, List, [], ◌∷◌, ◌++◌, length, map, filter, Some, None, inl, inr, refl, sym, ap, ◌∙◌, subst, cond, true≢false, arith, nat_eq, nat_lt}
use Rattle.std.specs.Prelude.{Ok, ok_or, IsTrue, IsSome, ◌==◌}
use Rattle.std.specs.List.{AllByRecursion, Contains, IsDistinct, list_any, position, position_or_len, prefix_len, zip}
use Rattle.std.specs.Str.{bytes_eq}
use Rattle.std.proofs.lemmas.Bool.{ltb-true, ltb-false, eqb-true, eq-eqb, not_from_true, not_from_false, false_from_ne_true}
use Rattle.std.proofs.lemmas.Cmp.{nat_eq_equiv}
use Rattle.std.proofs.lemmas.List.{length_push}
use Rattle.std.proofs.lemmas.Map.Keys.{IsDistinct-push}
use Rattle.std.proofs.lemmas.Map.Views.{Contains-from_any}
use Rattle.std.proofs.lemmas.Option.{slice_get_cases}
use Rattle.definitions_outcomes.proofs.OutcomeLaws.{same_value}
use Rattle.definitions_queries.specs.Queries.{Word}
use Rattle.catalog_core.specs.Columns.{column_at, table_named, needs_of_all}
use Rattle.catalog_core.proofs.ColumnLemmas.{all_tables_IsNeeds}
use Rattle.catalog_core.specs.declared.columns.ColumnId.{ColumnId}
use Rattle.catalog_core.specs.declared.schemas.Schema.{Schema}
use Rattle.catalog_core.specs.declared.schemas.TableDef.{TableDef}
use Rattle.query_bind.specs.Binding.{is_fact_role, is_fact, column_named, column_of, column_name, table_in, next_table, tables_of, only_fact, fact_of, column_in, are_of_from, dimensions_of}
use Rattle.query_bind.specs.LawfulBindings.{is_dimension}
use Rattle.query_bind.specs.declared.errors.BindError.TheVariants as refusal
use Rattle.query_bind.proofs.OnceLemmas.{all_append, all_members, holds_of, from_filter, passes_filter, in_filter, contains_later}
use Rattle.query_bind.proofs.StepLemmas.{bind_went_on, ok_or_is, passed_unless, passed_if, kept, grown, found_there, filter_map_both, zip_seconds, total_ones}

-- ---- first places

pub position_within : {X : Type 0} (p : X → Bool) (xs : List X) (i : ℕ) → position p xs ≡ Some i → i < length xs
position_within p xs i is = by (nat_lt (position_or_len p xs) (length xs)) refl is where
  by : (within : Bool) → nat_lt (position_or_len p xs) (length xs) ≡ within → cond within (Some (position_or_len p xs)) None ≡ Some i → i < length xs
  by true within found = let same : position_or_len p xs ≡ i = cc in omega (arith, same, ltb-true (position_or_len p xs) (length xs) within)
  by false past found = absurd (cc)

none_by : {X : Type 0} (p : X → Bool) (x : X) (xs : List X) → (length xs ≤ position_or_len p xs → AllByRecursion (λ one. p one ≡ false) xs) → (passes : Bool) → p x ≡ passes
    → suc (length xs) ≤ cond (not passes) (1 + prefix_len (λ one. not (p one)) xs) 0 → (p x ≡ false) × AllByRecursion (λ one. p one ≡ false) xs
none_by p x xs rest true e past = absurd (omega (arith, past))
none_by p x xs rest false e past = (e, rest (omega (arith, past)))

none_passes : {X : Type 0} (p : X → Bool) (xs : List X) → length xs ≤ position_or_len p xs → AllByRecursion (λ x. p x ≡ false) xs
none_passes p [] past = tt
none_passes p (x ∷ xs) past = none_by p x xs (none_passes p xs) (p x) refl past

pub position_none : {X : Type 0} (p : X → Bool) (xs : List X) → position p xs ≡ None → AllByRecursion (λ x. p x ≡ false) xs
position_none p xs is = by (nat_lt (position_or_len p xs) (length xs)) refl is where
  by : (within : Bool) → nat_lt (position_or_len p xs) (length xs) ≡ within → cond within (Some (position_or_len p xs)) None ≡ None → AllByRecursion (λ x. p x ≡ false) xs
  by true within found = absurd (cc)
  by false past found = none_passes p xs (ltb-false (position_or_len p xs) (length xs) past)

-- ---- a filter

pub distinct_filter : {X : Type 0} (eq : X → X → Bool) (p : X → Bool) (xs : List X) → IsDistinct eq xs → IsDistinct eq (filter p xs)
unfolding IsDistinct
distinct_filter eq p [] differ = tt
distinct_filter {X} eq p (x ∷ xs) differ = by (p x) (distinct_filter eq p xs differ.1) where
  by : (passes : Bool) → IsDistinct eq (filter p xs) → IsDistinct eq (cond passes (x ∷ filter p xs) (filter p xs))
  by true rest = (all_members (λ y. eq x y ≡ false) (filter p xs) (λ y there. holds_of (λ z. eq x z ≡ false) y xs differ.0 (from_filter p y xs there)), rest)
  by false rest = rest

cond_shorter : {X : Type 0} (passes : Bool) (x : X) (xs : List X) → length (cond passes (x ∷ xs) xs) ≤ length xs + 1
cond_shorter true x xs = omega arith
cond_shorter false x xs = omega arith

not_longer : {X : Type 0} (p : X → Bool) (xs : List X) → length (filter p xs) ≤ length xs
not_longer p [] = omega arith
not_longer p (x ∷ xs) = omega (arith, cond_shorter (p x) x (filter p xs), not_longer p xs)

pub filter_shorter : {X : Type 0} (p : X → Bool) (xs : List X) (x : X) → Contains xs x → p x ≡ false → length (filter p xs) + 1 ≤ length xs
filter_shorter p [] x (k, within, is) fails = absurd (omega (arith, within))
filter_shorter p (y ∷ ys) x (zero, within, is) fails = rw (is, fails) (omega (arith, not_longer p ys))
filter_shorter p (y ∷ ys) x (suc k, within, is) fails =
    omega (arith, cond_shorter (p y) y (filter p ys), filter_shorter p ys x (k, omega (arith, within), is) fails)

none_twice : IsDistinct nat_eq []
unfolding IsDistinct
none_twice = tt

-- ---- the tables of FROM

module _ (schema : Schema) where
  abbrev pub AreTables : List ℕ → Type 0
  AreTables tables = AllByRecursion (λ table. table < length schema.tables) tables × IsDistinct nat_eq tables

  table_kept : (earlier : List ℕ) (word : Word) (next : List ℕ) → Unit {0} → AreTables earlier → next_table schema earlier word ≡ Ok next → AreTables next
  table_kept earlier word next _ are is =
      let (table, found, added) = bind_went_on (table_in schema earlier word) (λ one. Ok (earlier ++ one ∷ [])) next is in
      let (number, named, fresh) = bind_went_on (ok_or (table_named schema word.text) (refusal.UnknownTable word.at)) _ table found in
      let (new, same) = passed_unless (list_any (nat_eq number) earlier) (refusal.NameTwice word.at) number table fresh in
      let within = position_within (λ (one : TableDef). bytes_eq word.text one.name) schema.tables number (ok_or_is (table_named schema word.text) (refusal.UnknownTable word.at) number named) in
      subst AreTables (ap (λ one. earlier ++ one ∷ []) same ∙ same_value (earlier ++ table ∷ []) next added)
      (all_append (λ one. one < length schema.tables) earlier (number ∷ []) are.0 (within, tt), IsDistinct-push nat_eq_equiv earlier number are.1 new)

  pub tables_kept : (words : List Word) (tables : List ℕ) → tables_of schema words ≡ Ok tables → AreTables tables
  tables_kept words tables is = kept (next_table schema) AreTables (λ word. Unit {0}) table_kept words (all_members (λ word. Unit {0}) words (λ word there. tt)) [] tables (tt, none_twice) is

  pub tables_count : (words : List Word) (tables : List ℕ) → tables_of schema words ≡ Ok tables → length tables ≡ length words
  tables_count words tables is =
      omega (
        arith,
        total_ones words,
        grown (next_table schema) (λ (earlier : List ℕ). length earlier) (λ (word : Word). 1) (λ word. Unit {0}) one_more words
            (all_members (λ word. Unit {0}) words (λ word there. tt)) [] tables is,
      ) where
        one_more : (earlier : List ℕ) (word : Word) (next : List ℕ) → Unit {0} → next_table schema earlier word ≡ Ok next → length next ≡ length earlier + 1
        one_more earlier word next _ is =
            let (table, found, added) = bind_went_on (table_in schema earlier word) (λ one. Ok (earlier ++ one ∷ [])) next is in
            sym (ap length (same_value (earlier ++ table ∷ []) next added)) ∙ length_push earlier table

  -- ---- the fact table

  alone : (words : List Word) (facts : List (Word × ℕ)) (fact : ℕ) → only_fact words facts ≡ Ok fact → map (λ (named : Word × ℕ). named.1) facts ≡ fact ∷ []
  alone words [] fact is = absurd (cc)
  alone words (one ∷ []) fact is = ap (λ table. table ∷ []) (same_value one.1 fact is)
  alone words (one ∷ second ∷ more) fact is = absurd (cc)

  pub fact_alone : (words : List Word) (tables : List ℕ) (fact : ℕ) → length words ≡ length tables → fact_of schema words tables ≡ Ok fact → filter (is_fact schema) tables ≡ fact ∷ []
  fact_alone words tables fact same is =
      ap (filter (is_fact schema)) (sym (zip_seconds words tables same))
      ∙ filter_map_both (is_fact schema) (λ (named : Word × ℕ). named.1) (zip words tables)
      ∙ alone words (filter (λ named. is_fact schema named.1) (zip words tables)) fact is

  module _ (tables : List ℕ) (fact : ℕ) (only : filter (is_fact schema) tables ≡ fact ∷ []) where
    in_facts : Contains (filter (is_fact schema) tables) fact
    in_facts = rw only (0, omega arith, refl)

    pub fact_there : Contains tables fact
    fact_there = from_filter (is_fact schema) fact tables in_facts

    pub fact_is : is_fact schema fact ≡ true
    fact_is = passes_filter (is_fact schema) fact tables in_facts

    no_other : (table : ℕ) → Contains tables table → is_fact schema table ≡ true → table ≡ fact
    no_other table there is = only_one (rw only at (in_filter (is_fact schema) table tables there is)) where
      only_one : Contains (fact ∷ []) table → table ≡ fact
      only_one (zero, within, at) = sym at
      only_one (suc k, within, at) = absurd (omega (arith, within))

    -- ---- the dimensions

    abbrev is_other : ℕ → Bool
    is_other table = not (table == fact)

    pub dimensions_are : AreTables tables → AllByRecursion (λ table. IsTrue (is_dimension schema table)) (dimensions_of fact tables) × IsDistinct nat_eq (dimensions_of fact tables)
    dimensions_are are = (all_members (λ table. IsTrue (is_dimension schema table)) (dimensions_of fact tables) each, distinct_filter nat_eq is_other tables are.1) where
      dimension : (table : ℕ) → table < length schema.tables → is_fact schema table ≡ false → IsTrue (is_dimension schema table)
      dimension table within not_fact =
          elim (slice_get_cases schema.tables table).1 [
            | inl there ↦ rw there.2 (not_from_false (is_fact_role there.0.role) (rw there.2 at not_fact))
            | inr past ↦ absurd (omega (arith, within, past.0))
          ]

      each : (table : ℕ) → Contains (dimensions_of fact tables) table → IsTrue (is_dimension schema table)
      each table there =
          let in_tables = from_filter is_other table tables there in
          let other = passes_filter is_other table tables there in
          dimension table (holds_of (λ one. one < length schema.tables) table tables are.0 in_tables)
          (false_from_ne_true (is_fact schema table) (λ is. true≢false (sym other ∙ not_from_true (table == fact) (eq-eqb table fact (no_other table in_tables is)))))

    pub dimensions_fewer : length (dimensions_of fact tables) + 1 ≤ length tables
    dimensions_fewer = filter_shorter is_other tables fact fact_there (not_from_true (fact == fact) (eq-eqb fact fact refl))

    -- each table of FROM is the fact table or a dimension
    pub in_from : (table : ℕ) → Contains tables table → Contains (fact ∷ dimensions_of fact tables) table
    in_from table there = by (table == fact) refl where
      by : (same : Bool) → (table == fact) ≡ same → Contains (fact ∷ dimensions_of fact tables) table
      by true same = (0, omega arith, sym (eqb-true table fact same))
      by false other = contains_later table fact (dimensions_of fact tables) (in_filter is_other table tables there (not_from_false (table == fact) other))

  -- ---- columns

  -- a column of the schema, of one of these tables
  abbrev pub IsOfTables : List ℕ → ColumnId → Type 0
  IsOfTables tables id = IsSome (column_at schema id) × Contains tables id.table

  column_kept : (tables : List ℕ) (word : Word) (id : ColumnId) → column_in schema tables word ≡ Ok id → IsOfTables tables (column_of schema word)
  column_kept tables word id is =
      let (found, named, within) = bind_went_on (ok_or (column_named schema word.text) (refusal.UnknownColumn word.at)) _ id is in
      let (of_from, same) = passed_if (list_any (nat_eq found.table) tables) (refusal.NotInFrom word.at) found id within in
      let column = ok_or_is (column_named schema word.text) (refusal.UnknownColumn word.at) found named in
      let (there, names) = found_there (λ one. bytes_eq word.text (column_name schema one)) (needs_of_all schema).columns found column in
      rw column (
        holds_of (λ one. IsSome (column_at schema one)) found (needs_of_all schema).columns (all_tables_IsNeeds schema).columns there,
        Contains-from_any eqb-true found.table tables of_from,
      )

  pub columns_kept : (tables : List ℕ) (words : List Word) → are_of_from schema tables words ≡ Ok tt → AllByRecursion (λ word. IsOfTables tables (column_of schema word)) words
  columns_kept tables [] is = tt
  columns_kept tables (word ∷ more) is =
      let (id, found, rest) = bind_went_on (column_in schema tables word) (λ _. are_of_from schema tables more) tt is in
      (column_kept tables word id found, columns_kept tables more rest)
