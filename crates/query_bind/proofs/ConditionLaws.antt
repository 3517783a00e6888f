-- What the joins and tests of a binding keep.
use Rattle.std.proofs.Common.{◌≡◌, ◌≤◌, ℕ, ◌+◌, Bool, true, false, not, List, [], ◌∷◌, ◌++◌, length, map, filter, Some, None, refl, sym, ap, ◌∙◌, subst, cond, arith}
use Rattle.std.specs.Prelude.{Option, Ok, ok_or, IsTrue, ◌==◌}
use Rattle.std.specs.List.{AllByRecursion, Contains, find, zip}
use Rattle.std.proofs.lemmas.Bool.{eqb-true}
use Rattle.std.proofs.lemmas.List.{length_push}
use Rattle.definitions_outcomes.proofs.OutcomeLaws.{same_value}
use Rattle.definitions_queries.specs.Queries.{Word, Test, QueryCondition, join, compare}
use Rattle.definitions_queries.specs.Entries.{total, condition_entries}
use Rattle.catalog_core.specs.declared.columns.ColumnId.{ColumnId}
use Rattle.catalog_core.specs.declared.schemas.Schema.{Schema}
use Rattle.query_bind.specs.Binding.{column_of, kind_of, can_join, join_of, is_joined, join_in, literals_of, fits, misfit, unless_misfit, test_in, Tested, Conditions, next_condition, conditions_of, condition_words, join_to, joins_of, dimensions_of}
use Rattle.query_bind.specs.LawfulBindings.{tested_entries}
use Rattle.query_bind.specs.declared.bounds.JoinTo.{JoinTo}
use Rattle.query_bind.specs.declared.errors.BindError.TheVariants as refusal
use Rattle.query_bind.proofs.OnceLemmas.{all_append, all_weaker, holds_of}
use Rattle.query_bind.proofs.SpelledLemmas.{HasLiterals}
use Rattle.query_bind.proofs.StepLemmas.{bind_went_on, ok_or_is, passed_unless, kept, grown, walked, walked_map, found_there, filter_map_both, zip_seconds}
use Rattle.query_bind.proofs.TableLaws.{IsOfTables, position_none}

total_push : {A : Type 0} (count : A → ℕ) (xs : List A) (x : A) → total count (xs ++ x ∷ []) ≡ total count xs + count x
total_push count [] x = omega arith
total_push count (y ∷ ys) x = omega (arith, total_push count ys x)

not_false : (b : Bool) → not b ≡ false → b ≡ true
not_false true e = refl
not_false false e = absurd (cc)

module _ (schema : Schema) (tables : List ℕ) (fact : ℕ) where
  -- a join and a test whose columns are of the tables
  pub record Joins (to : JoinTo) : Type 0 where
    pub fact_column : IsOfTables schema tables to.fact_column
    pub key : IsOfTables schema tables to.key
    pub can : IsTrue (can_join schema fact to.fact_column to.key)

  pub record Tests (tested : Tested) : Type 0 where
    pub column : IsOfTables schema tables tested.column
    pub some : 1 ≤ length (literals_of tested.test)
    pub fit : AllByRecursion (λ literal. IsTrue (fits (kind_of schema tested.column) literal)) (literals_of tested.test)

  pub record Keep (conditions : Conditions) : Type 0 where
    pub joins : AllByRecursion Joins conditions.joins
    pub tests : AllByRecursion Tests conditions.tests

  -- what is known of a condition
  abbrev pub Known : QueryCondition → Type 0
  Known condition = AllByRecursion (λ word. IsOfTables schema tables (column_of schema word)) (condition_words condition) × HasLiterals condition

  either_way : (left right : ColumnId) (to : JoinTo) → IsOfTables schema tables left → IsOfTables schema tables right → (one other : Bool)
      → can_join schema fact left right ≡ one → can_join schema fact right left ≡ other
      → cond one (Some (record { fact_column = left; key = right })) (cond other (Some (record { fact_column = right; key = left })) None) ≡ Some to → Joins to
  either_way left right to first second true other can too is =
      let same : ◌≡◌ {A = JoinTo} (record { fact_column = left; key = right }) to = cc in
      subst Joins same (record { fact_column = first; key = second; can = can })
  either_way left right to first second false true can too is =
      let same : ◌≡◌ {A = JoinTo} (record { fact_column = right; key = left }) to = cc in
      subst Joins same (record { fact_column = second; key = first; can = too })
  either_way left right to first second false false can too is = absurd (cc)

  join_kept : (earlier : List JoinTo) (left right : Word) (to : JoinTo) → Known (join left right) → join_in schema fact earlier left right ≡ Ok to → Joins to
  join_kept earlier left right to known is =
      let (one, found, fresh) = bind_went_on (ok_or (join_of schema fact (column_of schema left) (column_of schema right)) (refusal.JoinShape left.at)) _ to is in
      let (new, same) = passed_unless (is_joined earlier one.key.table) (refusal.JoinTwice left.at) one to fresh in
      subst Joins same (either_way (column_of schema left) (column_of schema right) one known.0.0 known.0.1.0
      (can_join schema fact (column_of schema left) (column_of schema right)) (can_join schema fact (column_of schema right) (column_of schema left)) refl refl
      (ok_or_is (join_of schema fact (column_of schema left) (column_of schema right)) (refusal.JoinShape left.at) one found))

  test_kept : (word : Word) (test : Test) (places : List ℕ) (tested : Tested) → Known (compare word test places) → test_in schema word test places ≡ Ok tested
      → Tests tested × (tested_entries tested ≡ condition_entries (compare word test places))
  test_kept word test places tested known is = by (misfit (kind_of schema (column_of schema word)) test) refl is where
    one : Tested
    one = record { column = column_of schema word; test = test }

    by : (found : Option ℕ) → misfit (kind_of schema (column_of schema word)) test ≡ found → unless_misfit one places found ≡ Ok tested
        → Tests tested × (tested_entries tested ≡ condition_entries (compare word test places))
    by (Some number) found went = absurd (cc)
    by None found went =
        let kind = kind_of schema (column_of schema word) in
        let same = same_value one tested went in
        let fit = all_weaker (λ literal. not (fits kind literal) ≡ false) (λ literal. IsTrue (fits kind literal)) (λ literal. not_false (fits kind literal)) (literals_of test)
        (position_none (λ literal. not (fits kind literal)) (literals_of test) found) in
        subst (λ given. Tests given × (tested_entries given ≡ condition_entries (compare word test places))) same
        (record { column = known.0.0; some = known.1.0; fit = fit }, omega (arith, known.1.1))

  condition_kept : (earlier : Conditions) (condition : QueryCondition) (next : Conditions) → Known condition → Keep earlier → next_condition schema fact earlier condition ≡ Ok next → Keep next
  condition_kept earlier (join left right) next known keep is =
      let (to, joined, added) = bind_went_on (join_in schema fact earlier.joins left right) _ next is in
      subst Keep (same_value (record { joins = earlier.joins ++ to ∷ []; tests = earlier.tests }) next added)
      (record { joins = all_append Joins earlier.joins (to ∷ []) keep.joins (join_kept earlier.joins left right to known joined, tt); tests = keep.tests })
  condition_kept earlier (compare word test places) next known keep is =
      let (tested, went, added) = bind_went_on (test_in schema word test places) _ next is in
      subst Keep (same_value (record { joins = earlier.joins; tests = earlier.tests ++ tested ∷ [] }) next added)
      (record { joins = keep.joins; tests = all_append Tests earlier.tests (tested ∷ []) keep.tests ((test_kept word test places tested known went).0, tt) })

  pub conditions_kept : (conditions : List QueryCondition) (end : Conditions) → AllByRecursion Known conditions → conditions_of schema fact conditions ≡ Ok end → Keep end
  conditions_kept conditions end known is =
      kept (next_condition schema fact) Keep Known condition_kept conditions known (record { joins = []; tests = [] }) end (record { joins = tt; tests = tt }) is

  abbrev entries_so_far : Conditions → ℕ
  entries_so_far conditions = length conditions.joins + total tested_entries conditions.tests

  condition_counts : (earlier : Conditions) (condition : QueryCondition) (next : Conditions) → Known condition → next_condition schema fact earlier condition ≡ Ok next
      → entries_so_far next ≡ entries_so_far earlier + condition_entries condition
  condition_counts earlier (join left right) next known is =
      let (to, joined, added) = bind_went_on (join_in schema fact earlier.joins left right) _ next is in
      let same = ap entries_so_far (same_value (record { joins = earlier.joins ++ to ∷ []; tests = earlier.tests }) next added) in
      omega (arith, same, length_push earlier.joins to)
  condition_counts earlier (compare word test places) next known is =
      let (tested, went, added) = bind_went_on (test_in schema word test places) _ next is in
      let same = ap entries_so_far (same_value (record { joins = earlier.joins; tests = earlier.tests ++ tested ∷ [] }) next added) in
      omega (arith, same, total_push tested_entries earlier.tests tested, (test_kept word test places tested known went).1)

  pub conditions_count : (conditions : List QueryCondition) (end : Conditions) → AllByRecursion Known conditions → conditions_of schema fact conditions ≡ Ok end
      → total tested_entries end.tests ≤ total condition_entries conditions
  conditions_count conditions end known is =
      omega (arith, grown (next_condition schema fact) entries_so_far condition_entries Known condition_counts conditions known (record { joins = []; tests = [] }) end is)

  -- ---- the joins in the order of FROM

  abbrev key_table : JoinTo → ℕ
  key_table to = to.key.table

  joined_to : (joins : List JoinTo) (named : Word × ℕ) (to : JoinTo) → join_to joins named ≡ Ok to → Contains joins to × (to.key.table == named.1 ≡ true)
  joined_to joins named to is =
      found_there (λ one. one.key.table == named.1) joins to (ok_or_is (find (λ one. one.key.table == named.1) joins) (refusal.JoinMissing named.0.at) to is)

  pub joins_kept : (joins : List JoinTo) (words : List Word) (ordered : List JoinTo) → length words ≡ length tables → AllByRecursion Joins joins → joins_of fact joins words tables ≡ Ok ordered
      → AllByRecursion Joins ordered × (map (λ (to : JoinTo). to.key.table) ordered ≡ dimensions_of fact tables)
  joins_kept joins words ordered same all is =
      let named = filter (λ (one : Word × ℕ). not (one.1 == fact)) (zip words tables) in
      let each = walked (join_to joins) Joins (λ one to found. holds_of Joins to joins all (joined_to joins one to found).0) named 0 ordered is in
      let tables_are = walked_map (join_to joins) (λ (one : Word × ℕ). one.1) (λ (to : JoinTo). to.key.table) (λ one to found. eqb-true to.key.table one.1 (joined_to joins one to found).1) named 0 ordered is in (
        each.0,
        tables_are ∙ sym (filter_map_both (λ table. not (table == fact)) (λ (one : Word × ℕ). one.1) (zip words tables))
            ∙ ap (filter (λ table. not (table == fact))) (zip_seconds words tables same),
      )
