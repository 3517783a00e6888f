-- How many columns a plan has at most.
use Rattle.std.proofs.Common.{◌≡◌, ◌∙◌, ℕ, ◌+◌, ◌*◌, ◌^◌, ◌≤◌, ◌<◌, List, [], ◌∷◌, length, map, inl, inr, refl, sym, ap, subst, arith, true, true≢false, nat_eq}
use Rattle.std.specs.Prelude.{sum_by, IsTrue}
use Rattle.std.specs.List.{AllByRecursion, list_any}
use Rattle.std.proofs.Math.Nat.{mul-le-mul_right}
use Rattle.std.proofs.lemmas.Bool.{eqb-true}
use Rattle.std.proofs.lemmas.List.{length-map}
use Rattle.std.proofs.lemmas.List.Elements.{All-contains, All-from_recursion}
use Rattle.std.proofs.lemmas.List.Sums.{sum_by-le, sum_by-cons}
use Rattle.std.proofs.lemmas.Map.Steps.{length-le_from_distinct_below}
use Rattle.std.proofs.lemmas.Map.Views.{Contains-from_any}
use Rattle.std.proofs.lemmas.Option.{slice_get_cases}
use Rattle.definitions_queries.specs.Entries.{total}
use Rattle.catalog_core.specs.LawfulSchemas.{IsSchema}
use Rattle.catalog_core.specs.declared.schemas.Schema.{Schema}
use Rattle.query_bind.specs.Binding.{Binding}
use Rattle.query_bind.specs.LawfulBindings.{IsBinding, is_dimension, tested_entries}
use Rattle.query_bind.specs.Views.{tested_view, bound_view}
use Rattle.query_bind.specs.declared.bounds.Bound.{Bound}
use Rattle.query_bind.specs.declared.bounds.Condition.{Condition}
use Rattle.query_bind.specs.declared.bounds.JoinTo.{JoinTo}
use Rattle.plan_core.specs.Sizes.{size_of, sizes_of, plan_size}

pub twos : {X : Type 0} (xs : List X) (n : ℕ) → length xs ≡ n → sum_by (λ x. 2) xs ≤ 2 * n
twos xs n long =
    let most : sum_by (λ x. 2) xs ≤ length xs * 2 = sum_by-le (λ x. 2) 2 xs (λ k d within. omega arith) in
    omega arith

pub joins_size : {X : Type 0} (xs : List X) (n : ℕ) → length xs ≡ n → sum_by (λ x. 5 + length xs) xs ≤ n * (5 + n)
joins_size xs n long =
    let most : sum_by (λ x. 5 + length xs) xs ≤ length xs * (5 + length xs) = sum_by-le (λ x. 5 + length xs) (5 + length xs) xs (λ k d within. omega arith) in
    subst (λ m. sum_by (λ x. 5 + length xs) xs ≤ m * (5 + m)) long most

pub each_size : {X : Type 0} (k : ℕ) (xs : List X) → sum_by (λ x. k) xs ≤ length xs * k
each_size k xs = sum_by-le (λ x. k) k xs (λ j d within. omega arith)

-- ---- the plan of a lawful binding is not too large

conditions_size : (conditions : List Condition) → sizes_of conditions ≡ 2 * total tested_entries (map tested_view conditions)
conditions_size [] = refl
conditions_size (condition ∷ more) = omega (arith, sum_by-cons size_of condition more, conditions_size more)

table_within : (schema : Schema) (table : ℕ) → IsTrue (is_dimension schema table) → table < length schema.tables
table_within schema table is =
    elim (slice_get_cases schema.tables table).1 [
      | inl there ↦ there.1
      | inr past ↦ absurd (true≢false (sym is ∙ rw past.1 refl))
    ]

few_dimensions : (schema : Schema) (binding : Binding) → IsSchema schema → IsBinding schema binding → length binding.dimensions ≤ 64
few_dimensions schema binding lawful is =
    let below = length-le_from_distinct_below binding.dimensions (length schema.tables) is.dimensions_differ
    (λ table among. table_within schema table (among_all table binding.dimensions is.dimensions among)) in
    omega (arith, below, lawful.few) where
      among_all : (table : ℕ) (tables : List ℕ) → AllByRecursion (λ one. IsTrue (is_dimension schema one)) tables → list_any (nat_eq table) tables ≡ true → IsTrue (is_dimension schema table)
      among_all table tables all among = All-contains (λ one. IsTrue (is_dimension schema one)) tables table (All-from_recursion (λ one. IsTrue (is_dimension schema one)) tables all) (Contains-from_any eqb-true table tables among)

pub plan_fits : (schema : Schema) (bound : Bound) → IsSchema schema → IsBinding schema (bound_view bound) → plan_size bound.joins bound.conditions bound.groups bound.sums < 2 ^ 32
plan_fits schema bound lawful is =
    let sizes = sizes_of bound.conditions in
    let joins = length bound.joins in
    let entries : sizes ≤ 131072 = omega (arith, conditions_size bound.conditions, is.few) in
    let dimensions : joins ≤ 64 = omega (arith, sym (length-map bound.joins (λ (to : JoinTo). to.key.table)), ap length is.joined, few_dimensions schema (bound_view bound) lawful is) in
    let each = each_size (sizes + 1) bound.joins in
    let first : joins * (sizes + 1) ≤ 64 * (sizes + 1) = mul-le-mul_right (sizes + 1) dimensions in
    let second : joins * (5 + joins) ≤ 64 * (5 + joins) = mul-le-mul_right (5 + joins) dimensions in
    omega (arith, entries, dimensions, each, first, second, is.few, is.few_sums)
