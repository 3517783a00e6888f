-- The joined rows: one dimension after the other, and cut down to the joined dimensions.
use Rattle.std.proofs.Common.{◌≡◌, ℕ, ◌≤◌, Bool, true, false, cond, List, [], ◌∷◌, map, length, refl, sym, ap, ◌∙◌, subst, All, arith, inl, inr, append-nil}
use Rattle.std.specs.Prelude.{◌&&◌, ◌==◌, not, flat_map, filter, ⊤}
use Rattle.std.specs.List.{list_all}
use Rattle.std.proofs.lemmas.Bool.{cases_eq}
use Rattle.std.proofs.lemmas.Bool.Decides.{nat_tests, Decides-eqb}
use Rattle.std.proofs.lemmas.List.{map-id}
use Rattle.std.proofs.lemmas.List.Elements.{All-head, All-tail, All-weaker}
use Rattle.std.proofs.lemmas.List.Concat.{flat_map_single}
use Rattle.std.proofs.lemmas.List.Folds.{flat_map-map}
use Rattle.query_bind.specs.Binding.{Binding}
use Rattle.query_bind.specs.declared.bounds.JoinTo.{JoinTo}
use Rattle.plan_meaning.specs.StoredLists.{StoredLists}
use Rattle.plan_meaning.specs.JoinedRows.{Combination, one_of_each, row_among}
use Rattle.plan_meaning.proofs.Matched.{AreApart, matched, matches_of, partners, passing_rows}
use Rattle.definitions_operators.proofs.MapLaws.{flat_map-each, flat_map-filter, flat_map-flat_map, flat_map-none, map-flat_map, map-map, map-same}

-- a row of the fact table, and the rows found so far, by table
pub record Found : Type 0 where
  pub fact : ℕ
  pub row : ℕ → ℕ

abbrev pub start : ℕ → Found
start fact = record { fact = fact; row = λ table. 0 }

abbrev pub with_row : JoinTo → Found → ℕ → Found
with_row to found row = record { fact = found.fact; row = λ table. cond (to.key.table == table) row (found.row table) }

-- one dimension more: each with each of its partners
abbrev pub extended : (JoinTo → ℕ → List ℕ) → JoinTo → List Found → List Found
extended partners to found = flat_map (λ each. map (with_row to each) (partners to each.fact)) found

unfoldable pub found_from : (JoinTo → ℕ → List ℕ) → List JoinTo → List Found → List Found
found_from partners [] found = found
found_from partners (to ∷ joins) found = found_from partners joins (extended partners to found)

unfoldable pub with_rows : List JoinTo → List ℕ → Found → Found
with_rows [] rows found = found
with_rows (to ∷ joins) [] found = found
with_rows (to ∷ joins) (row ∷ rows) found = with_rows joins rows (with_row to found row)

pub with_rows-fact : (joins : List JoinTo) (rows : List ℕ) (found : Found) → (with_rows joins rows found).fact ≡ found.fact
unfolding with_rows
with_rows-fact [] rows found = refl
with_rows-fact (to ∷ joins) [] found = refl
with_rows-fact (to ∷ joins) (row ∷ rows) found = with_rows-fact joins rows (with_row to found row)

with_rows-other : (table : ℕ) (joins : List JoinTo) (rows : List ℕ) (found : Found) → All (λ to. (to.key.table == table) ≡ false) joins
    → (with_rows joins rows found).row table ≡ found.row table
unfolding with_rows
with_rows-other table [] rows found none = refl
with_rows-other table (to ∷ joins) [] found none = refl
with_rows-other table (to ∷ joins) (row ∷ rows) found none =
    with_rows-other table joins rows (with_row to found row) (All-tail (λ to. (to.key.table == table) ≡ false) to joins none)
    ∙ ap (λ b. cond b row (found.row table)) (All-head (λ to. (to.key.table == table) ≡ false) to joins none)

-- of tables that stand once, the row found is the one among the rows
pub with_rows-row : (table : ℕ) (joins : List JoinTo) (rows : List ℕ) (found : Found) → AreApart joins → found.row table ≡ 0
    → (with_rows joins rows found).row table ≡ row_among table joins rows
unfolding with_rows
with_rows-row table [] rows found apart none = none
with_rows-row table (to ∷ joins) [] found apart none = none
with_rows-row table (to ∷ joins) (row ∷ rows) found apart none =
    let later : Found = with_row to found row in
    elim (cases_eq to.key.table table) [
      | inl here ↦
          let t : (to.key.table == table) ≡ true = (Decides-eqb to.key.table table).1 here in
          with_rows-other table joins rows later
          (subst (λ n. All (λ other. (other.key.table == n) ≡ false) joins) here
          (All-weaker (λ other. (to.key.table == other.key.table) ≡ false) (λ other. (other.key.table == to.key.table) ≡ false) (λ other h. grind (arith, nat_tests)) joins apart.0))
          ∙ ap (λ b. cond b row (found.row table)) t ∙ ap (λ b. cond b row (row_among table joins rows)) (sym t)
      | inr other ↦
          let t : (to.key.table == table) ≡ false = grind (arith, nat_tests) in
          with_rows-row table joins rows later apart.1 (ap (λ b. cond b row (found.row table)) t ∙ none)
          ∙ ap (λ b. cond b row (row_among table joins rows)) (sym t)
    ]

-- one dimension after the other gives all one_of_each
pub found_from-one_of_each : (partners : JoinTo → ℕ → List ℕ) (joins : List JoinTo) (found : List Found) →
    found_from partners joins found ≡ flat_map (λ each. map (λ rows. with_rows joins rows each) (one_of_each (map (λ to. partners to each.fact) joins))) found
unfolding found_from with_rows
found_from-one_of_each partners [] found = sym (flat_map_single (λ each. each) found ∙ map-id found)
found_from-one_of_each partners (to ∷ joins) found =
    let all : List JoinTo → Found → List (List ℕ) = λ joins each. one_of_each (map (λ to. partners to each.fact) joins) in
    found_from-one_of_each partners joins (extended partners to found)
    ∙ flat_map-flat_map (λ each. map (λ rows. with_rows joins rows each) (all joins each)) (λ each. map (with_row to each) (partners to each.fact)) found
    ∙ flat_map-each (λ each. flat_map (λ next. map (λ rows. with_rows joins rows next) (all joins next)) (map (with_row to each) (partners to each.fact)))
    (λ each. map (λ rows. with_rows (to ∷ joins) rows each) (all (to ∷ joins) each))
    (λ each.
    flat_map-map (λ next. map (λ rows. with_rows joins rows next) (all joins next)) (with_row to each) (partners to each.fact)
    ∙ sym (map-flat_map (λ rows. with_rows (to ∷ joins) rows each) (λ row. map (λ others. row ∷ others) (all joins each)) (partners to each.fact)
    ∙ flat_map-each (λ row. map (λ rows. with_rows (to ∷ joins) rows each) (map (λ others. row ∷ others) (all joins each)))
    (λ row. map (λ others. with_rows joins others (with_row to each row)) (all joins each))
    (λ row. map-map (λ rows. with_rows (to ∷ joins) rows each) (λ others. row ∷ others) (all joins each))
    (partners to each.fact)))
    found

-- the rows of the joined dimensions alone
unfoldable pub cut : (JoinTo → Bool) → List JoinTo → List ℕ → List ℕ
cut wanted [] rows = []
cut wanted (to ∷ joins) [] = []
cut wanted (to ∷ joins) (row ∷ rows) = cond (wanted to) (row ∷ cut wanted joins rows) (cut wanted joins rows)

row_among-none : (table : ℕ) (joins : List JoinTo) → row_among table joins [] ≡ 0
row_among-none table [] = refl
row_among-none table (to ∷ joins) = refl

-- a cut keeps the row of a joined table
pub row_among-cut : (wanted : JoinTo → Bool) (table : ℕ) (joins : List JoinTo) (rows : List ℕ)
    → All (λ to. (to.key.table == table) ≡ true → wanted to ≡ true) joins
    → row_among table (filter wanted joins) (cut wanted joins rows) ≡ row_among table joins rows
unfolding cut
row_among-cut wanted table [] rows here = refl
row_among-cut wanted table (to ∷ joins) [] here = row_among-none table (filter wanted (to ∷ joins))
row_among-cut wanted table (to ∷ joins) (row ∷ rows) here =
    let P : JoinTo → Type 0 = λ to. (to.key.table == table) ≡ true → wanted to ≡ true in
    let found : (to.key.table == table) ≡ true → wanted to ≡ true = All-head P to joins here in
    let later = row_among-cut wanted table joins rows (All-tail P to joins here) in
    let js = filter wanted joins in
    let rs = cut wanted joins rows in
    (elim (wanted to) as (λ b. ((to.key.table == table) ≡ true → b ≡ true) → row_among table (cond b (to ∷ js) js) (cond b (row ∷ rs) rs) ≡ cond (to.key.table == table) row (row_among table joins rows)) [
      | true ↦ λ h. ap (cond (to.key.table == table) row) later
      | false ↦ λ h.
          (elim (to.key.table == table) as (λ c. (c ≡ true → false ≡ true) → row_among table js rs ≡ cond c row (row_among table joins rows)) [
            | true ↦ λ k. absurd (let e : false ≡ true = k refl in cc)
            | false ↦ λ k. later
          ]) h
    ]) found

abbrev pub is_some_row : List ℕ → Bool
is_some_row [] = false
is_some_row (row ∷ rows) = true

-- at most one row
abbrev pub IsAlone : List ℕ → Type 0
IsAlone rows = length rows ≤ 1

alone_flat : {B : Type 0} (rows : List ℕ) (rest : List B) → IsAlone rows → flat_map (λ row. rest) rows ≡ cond (is_some_row rows) rest []
alone_flat [] rest alone = refl
alone_flat (row ∷ []) rest alone = append-nil rest
alone_flat (row ∷ other ∷ rows) rest alone = absurd (omega arith)

flat_none : (rows : List ℕ) → flat_map (λ row. let none : List (List ℕ) = [] in map (λ others. row ∷ others) none) rows ≡ []
flat_none rows = flat_map-none rows

and_cond : {A : Type 0} (a b : Bool) (x y : A) → cond a (cond b x y) y ≡ cond (a && b) x y
and_cond true b x y = refl
and_cond false b x y = refl

-- All one_of_each, cut down: the one_of_each of the joined dimensions, where each other one has its only row.
pub choices-cut : (wanted : JoinTo → Bool) (rows_of : JoinTo → List ℕ) (joins : List JoinTo)
    → All (λ to. wanted to ≡ false → IsAlone (rows_of to)) joins
    → map (cut wanted joins) (one_of_each (map rows_of joins))
    ≡ cond (list_all (λ to. is_some_row (rows_of to)) (filter (λ to. not (wanted to)) joins)) (one_of_each (map rows_of (filter wanted joins))) []
unfolding cut
choices-cut wanted rows_of [] alone = refl
choices-cut wanted rows_of (to ∷ joins) alone =
    let P : JoinTo → Type 0 = λ to. wanted to ≡ false → IsAlone (rows_of to) in
    let all = one_of_each (map rows_of joins) in
    let some = list_all (λ to. is_some_row (rows_of to)) (filter (λ to. not (wanted to)) joins) in
    let few = one_of_each (map rows_of (filter wanted joins)) in
    let rest : map (cut wanted joins) all ≡ cond some few [] = choices-cut wanted rows_of joins (All-tail P to joins alone) in
    let here : wanted to ≡ false → IsAlone (rows_of to) = All-head P to joins alone in
    let pulled : map (cut wanted (to ∷ joins)) (one_of_each (map rows_of (to ∷ joins)))
    ≡ flat_map (λ row. map (λ others. cond (wanted to) (row ∷ cut wanted joins others) (cut wanted joins others)) all) (rows_of to) =
    map-flat_map (cut wanted (to ∷ joins)) (λ row. map (λ others. row ∷ others) all) (rows_of to)
    ∙ flat_map-each (λ row. map (cut wanted (to ∷ joins)) (map (λ others. row ∷ others) all))
    (λ row. map (λ others. cond (wanted to) (row ∷ cut wanted joins others) (cut wanted joins others)) all)
    (λ row. map-map (cut wanted (to ∷ joins)) (λ others. row ∷ others) all) (rows_of to) in
    pulled
    ∙ (elim (wanted to) as (λ b. (b ≡ false → IsAlone (rows_of to))
    → flat_map (λ row. map (λ others. cond b (row ∷ cut wanted joins others) (cut wanted joins others)) all) (rows_of to)
    ≡ cond (list_all (λ to. is_some_row (rows_of to)) (cond (not b) (to ∷ filter (λ to. not (wanted to)) joins) (filter (λ to. not (wanted to)) joins)))
    (one_of_each (map rows_of (cond b (to ∷ filter wanted joins) (filter wanted joins)))) []) [
      | true ↦ λ h.
          flat_map-each (λ row. map (λ others. row ∷ cut wanted joins others) all) (λ row. map (λ others. row ∷ others) (cond some few []))
          (λ row. sym (map-map (λ others. row ∷ others) (cut wanted joins) all) ∙ ap (map (λ others. row ∷ others)) rest) (rows_of to)
          ∙ (elim some as (λ b. flat_map (λ row. map (λ others. row ∷ others) (cond b few [])) (rows_of to) ≡ cond b (flat_map (λ row. map (λ others. row ∷ others) few) (rows_of to)) []) [
            | true ↦ refl
            | false ↦ flat_none (rows_of to)
          ])
      | false ↦ λ h.
          ap (λ l. flat_map (λ row. l) (rows_of to)) rest
          ∙ alone_flat (rows_of to) (cond some few []) (h refl)
          ∙ and_cond (is_some_row (rows_of to)) some few []
    ]) here

abbrev pub have_rows : Binding → StoredLists → (JoinTo → Bool) → ℕ → Bool
have_rows binding stored wanted fact = list_all (λ to. is_some_row (partners binding stored fact to)) (filter (λ to. not (wanted to)) binding.joins)

-- The rows found from the fact rows that have a row in each dimension not wanted, read at a wanted table, are the joined rows read there.
pub joined-found : (binding : Binding) (stored : StoredLists) (wanted : JoinTo → Bool) (u : Found → ℕ) (w : Combination → ℕ)
    → ((fact : ℕ) (rows : List ℕ) → u (with_rows (filter wanted binding.joins) (cut wanted binding.joins rows) (start fact)) ≡ w (record { fact = fact; rows = rows }))
    → ((fact : ℕ) → All (λ to. wanted to ≡ false → IsAlone (partners binding stored fact to)) binding.joins)
    → map u (found_from (λ to fact. partners binding stored fact to) (filter wanted binding.joins) (map start (filter (have_rows binding stored wanted) (passing_rows binding stored binding.fact))))
    ≡ map w (matched binding stored)
joined-found binding stored wanted u w same alone =
    let joins = binding.joins in
    let js = filter wanted joins in
    let facts = passing_rows binding stored binding.fact in
    let all : List JoinTo → ℕ → List (List ℕ) = λ joins fact. one_of_each (map (partners binding stored fact) joins) in
    let found : ℕ → List Found = λ fact. map (λ rows. with_rows js rows (start fact)) (all js fact) in
    let read : ℕ → List ℕ → ℕ = λ fact rows. u (with_rows js rows (start fact)) in
    let one : (fact : ℕ) → cond (have_rows binding stored wanted fact) (map u (found fact)) [] ≡ map w (matches_of binding stored joins fact) =
    λ fact.
    sym (map-map w (λ others. record { fact = fact; rows = others }) (all joins fact)
    ∙ map-same (λ rows. ⊤) (λ rows. w (record { fact = fact; rows = rows })) (λ rows. read fact (cut wanted joins rows)) (λ rows h. sym (same fact rows)) (all joins fact) (λ k d h. _)
    ∙ sym (map-map (read fact) (cut wanted joins) (all joins fact))
    ∙ ap (map (read fact)) (choices-cut wanted (partners binding stored fact) joins (alone fact))
    ∙ (elim (have_rows binding stored wanted fact) as (λ b. map (read fact) (cond b (all js fact) []) ≡ cond b (map u (found fact)) []) [
      | true ↦ sym (map-map u (λ rows. with_rows js rows (start fact)) (all js fact))
      | false ↦ refl
    ])) in
    ap (map u) (found_from-one_of_each (λ to fact. partners binding stored fact to) js (map start (filter (have_rows binding stored wanted) facts))
    ∙ flat_map-map (λ each. map (λ rows. with_rows js rows each) (one_of_each (map (λ to. partners binding stored each.fact to) js))) start (filter (have_rows binding stored wanted) facts))
    ∙ map-flat_map u found (filter (have_rows binding stored wanted) facts)
    ∙ flat_map-filter (λ fact. map u (found fact)) (have_rows binding stored wanted) facts
    ∙ flat_map-each (λ fact. cond (have_rows binding stored wanted fact) (map u (found fact)) []) (λ fact. map w (matches_of binding stored joins fact)) one facts
    ∙ sym (map-flat_map w (matches_of binding stored joins) facts)
