-- What a lawful binding has: its dimensions differ, its columns are of its tables, and its tests have literals.
use Rattle.std.proofs.Common.{◌≡◌, ℕ, ◌≤◌, Bool, true, false, List, [], ◌∷◌, map, length, refl, sym, ap, subst, All, arith, inl, inr}
use Rattle.std.specs.Prelude.{◌&&◌, ◌==◌, not, nat_eq, Option, Some, None, Contains}
use Rattle.std.specs.List.{list_any, AllByRecursion, IsDistinct}
use Rattle.std.specs.Option.{option_map_or}
use Rattle.std.proofs.lemmas.Bool.{cases_eq, or_left, or_right}
use Rattle.std.proofs.lemmas.Bool.Decides.{nat_tests, Decides-eqb}
use Rattle.std.proofs.lemmas.List.Elements.{All-nil, All-cons, All-weaker}
use Rattle.definitions_operators.proofs.ListLaws.{Contains-cons_cases, Contains-nil}
use Rattle.definitions_operators.proofs.OccurrenceLaws.{All-from_each}
use Rattle.definitions_queries.specs.Queries.{Test, Literal, equal, below, at_most, above, at_least, between, one_of}
use Rattle.catalog_core.specs.Columns.{table_at}
use Rattle.catalog_core.specs.declared.columns.ColumnId.{ColumnId}
use Rattle.catalog_core.specs.declared.schemas.Schema.{Schema}
use Rattle.catalog_core.specs.declared.schemas.TableDef.{TableDef}
use Rattle.query_bind.specs.Binding.{Binding, literals_of, is_fact_role, is_fact, kind_of, is_key}
use Rattle.catalog_core.specs.Schemas.{is_number}
use Rattle.query_bind.specs.LawfulBindings.{IsBinding, IsOfFrom, IsOperand, IsJoin, IsTested, is_dimension, operands}
use Rattle.query_bind.specs.declared.bounds.JoinTo.{JoinTo}
use Rattle.plan_core.specs.Planner.{choices_of}
use Rattle.plan_meaning.proofs.Matched.{AreApart, IsOfTables, HasChoices, IsLawful}

-- the key tables of joins
abbrev tables_of : List JoinTo → List ℕ
tables_of joins = map (λ to. to.key.table) joins

among_joins : (table : ℕ) (joins : List JoinTo) → Contains (tables_of joins) table → list_any (λ to. to.key.table == table) joins ≡ true
among_joins table [] among = absurd (Contains-nil table among)
among_joins table (to ∷ joins) among =
    elim (Contains-cons_cases to.key.table (tables_of joins) table among) [
      | inl here ↦ or_left (to.key.table == table) (list_any (λ to. to.key.table == table) joins) ((Decides-eqb to.key.table table).1 here)
      | inr later ↦ or_right (to.key.table == table) (list_any (λ to. to.key.table == table) joins) (among_joins table joins later)
    ]

of_tables : (schema : Schema) (binding : Binding) → IsBinding schema binding → (id : ColumnId) → IsOfFrom schema binding id → IsOfTables binding id
of_tables schema binding is id from =
    elim (cases_eq binding.fact id.table) [
      | inl here ↦ inl ((Decides-eqb binding.fact id.table).1 here)
      | inr other ↦
          let t : (binding.fact == id.table) ≡ false = grind (arith, nat_tests) in
          elim (Contains-cons_cases binding.fact binding.dimensions id.table from.table) [
            | inl here ↦ absurd (other here)
            | inr later ↦ inr (t, among_joins id.table binding.joins (subst (λ tables. Contains tables id.table) (sym is.joined) later))
          ]
    ]

each_unmap : {A B : Type 0} (P : B → Type 0) (f : A → B) (xs : List A) → AllByRecursion P (map f xs) → All (λ x. P (f x)) xs
each_unmap P f [] each = All-nil (λ x. P (f x))
each_unmap P f (x ∷ xs) each = All-cons (λ x. P (f x)) x xs each.0 (each_unmap P f xs each.1)

apart_of : (joins : List JoinTo) → IsDistinct nat_eq (tables_of joins) → AreApart joins
unfolding IsDistinct
apart_of [] distinct = _
apart_of (to ∷ joins) distinct =
    (each_unmap (λ table. nat_eq to.key.table table ≡ false) (λ (other : JoinTo). other.key.table) joins distinct.0, apart_of joins distinct.1)

fact_or_dimension : (table : Option TableDef) → option_map_or (λ one. is_fact_role one.role) table false ≡ true → option_map_or (λ one. not (is_fact_role one.role)) table false ≡ true → ⊥
fact_or_dimension None fact dimension = absurd (cc)
fact_or_dimension (Some one) fact dimension = let no : not (is_fact_role one.role) ≡ false = ap not fact in absurd (cc)

not_both : (schema : Schema) (fact table : ℕ) → is_fact schema fact ≡ true → is_dimension schema table ≡ true → (fact == table) ≡ false
not_both schema fact table is_one is_other =
    elim (cases_eq fact table) [
      | inl same ↦ absurd (fact_or_dimension (table_at schema table) (subst (λ t. is_fact schema t ≡ true) same is_one) is_other)
      | inr other ↦ (let t : (fact == table) ≡ false = grind (arith, nat_tests) in t)
    ]

and_first : (a b : Bool) → (a && b) ≡ true → a ≡ true
and_first true b h = refl
and_first false b h = absurd (cc)

chosen_of : (test : Test) → 1 ≤ length (literals_of test) → (first : Test) × (more : List Test) × (choices_of test ≡ first ∷ more)
chosen_of (equal literal) some = (equal literal, [], refl)
chosen_of (below literal) some = (below literal, [], refl)
chosen_of (at_most literal) some = (at_most literal, [], refl)
chosen_of (above literal) some = (above literal, [], refl)
chosen_of (at_least literal) some = (at_least literal, [], refl)
chosen_of (between low high) some = (between low high, [], refl)
chosen_of (one_of []) some = absurd (omega arith)
chosen_of (one_of (literal ∷ literals)) some = (equal literal, map (λ (one : Literal). equal one) literals, refl)

pub lawful_of : (schema : Schema) (binding : Binding) → IsBinding schema binding → IsLawful binding
lawful_of schema binding is = record {
  groups = All-weaker (IsOfFrom schema binding) (IsOfTables binding) (λ id from. of_tables schema binding is id from) binding.groups
      (All-from_each (IsOfFrom schema binding) binding.groups is.groups);
  sums = All-weaker (λ sum. AllByRecursion (IsOperand schema binding) (operands sum)) (λ sum. All (IsOfTables binding) (operands sum))
      (λ sum each. All-weaker (IsOperand schema binding) (IsOfTables binding) (λ id one. of_tables schema binding is id one.of_from) (operands sum) (All-from_each (IsOperand schema binding) (operands sum) each))
      binding.sums (All-from_each (λ sum. AllByRecursion (IsOperand schema binding) (operands sum)) binding.sums is.sums);
  apart = apart_of binding.joins (subst (IsDistinct nat_eq) (sym is.joined) is.dimensions_differ);
  dimensions = each_unmap (λ table. (binding.fact == table) ≡ false) (λ (to : JoinTo). to.key.table) binding.joins
      (subst (AllByRecursion (λ table. (binding.fact == table) ≡ false)) (sym is.joined) (others binding.dimensions is.dimensions));
  facts = All-weaker (IsJoin schema binding) (λ to. to.fact_column.table ≡ binding.fact)
      (λ to one. (Decides-eqb to.fact_column.table binding.fact).0 (and_first (to.fact_column.table == binding.fact) (is_number (kind_of schema to.fact_column))
      (and_first ((to.fact_column.table == binding.fact) && is_number (kind_of schema to.fact_column)) (is_key schema to.key) one.joins))) binding.joins
      (All-from_each (IsJoin schema binding) binding.joins is.joins);
  tests = All-weaker (IsTested schema binding) (λ tested. IsOfTables binding tested.column) (λ tested one. of_tables schema binding is tested.column one.column) binding.tests
      (All-from_each (IsTested schema binding) binding.tests is.tests);
  chosen = All-weaker (IsTested schema binding) HasChoices (λ tested one. chosen_of tested.test one.some) binding.tests
      (All-from_each (IsTested schema binding) binding.tests is.tests);
}
  where
    others : (tables : List ℕ) → AllByRecursion (λ table. is_dimension schema table ≡ true) tables → AllByRecursion (λ table. (binding.fact == table) ≡ false) tables
    others [] each = tt
    others (table ∷ tables) each = (not_both schema binding.fact table is.fact each.0, others tables each.1)
