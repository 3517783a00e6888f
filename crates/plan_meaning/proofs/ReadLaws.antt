-- A column read at its table's list is the column in the joined rows.
use Rattle.std.proofs.Common.{◌≡◌, ℕ, ◌<◌, Bool, true, false, cond, List, [], ◌∷◌, map, refl, sym, ap, ◌∙◌, subst, All}
use Rattle.std.specs.Prelude.{Some, ◌⊎◌, ◌&&◌, ◌||◌, ◌==◌, filter}
use Rattle.std.proofs.Common.{inl, inr}
use Rattle.std.specs.List.{list_any}
use Rattle.std.proofs.lemmas.Bool.Decides.{Decides-eqb}
use Rattle.std.proofs.lemmas.List.Elements.{All-head, All-tail, All-weaker, All-map}
use Rattle.catalog_core.specs.declared.columns.ColumnId.{ColumnId}
use Rattle.catalog_core.specs.declared.schemas.Schema.{Schema}
use Rattle.query_bind.specs.Binding.{Binding}
use Rattle.query_bind.specs.declared.bounds.JoinTo.{JoinTo}
use Rattle.plan_core.specs.Plans.{Steps}
use Rattle.plan_core.specs.Planner.{RowList, Rows, add_column, add_values, is_wanted, number_of, repeats}
use Rattle.plan_meaning.specs.StoredLists.{StoredLists, value_at}
use Rattle.plan_meaning.specs.JoinedRows.{Combination, one_of_each, row_among, row_of, value_in}
use Rattle.plan_meaning.proofs.Matched.{AreJoined, HasLengths, Holds, Lists, Reads, matched, matches_of, partners, passes, passing_rows}
use Rattle.definitions_operators.proofs.PlaceLaws.{places_where-below}
use Rattle.definitions_operators.proofs.MapLaws.{map-map}
use Rattle.plan_meaning.proofs.PartnerLaws.{All-flat_map, matches}
use Rattle.plan_meaning.proofs.RunLaws.{GoesOn, IsRun, Lists-later}
use Rattle.plan_meaning.proofs.ListStepLaws.{add_values-reads, passing-positions}

-- the table stands among the joins
abbrev pub is_among : ℕ → List JoinTo → Bool
is_among table joins = list_any (λ to. to.key.table == table) joins

choices-within : (stored : StoredLists) (table : ℕ) (rows_of : JoinTo → List ℕ) (joins : List JoinTo)
    → ((to : JoinTo) → All (λ row. row < stored.rows to.key.table) (rows_of to))
    → is_among table joins ≡ true
    → All (λ rows. row_among table joins rows < stored.rows table) (one_of_each (map rows_of joins))
choices-within stored table rows_of [] within among = absurd (cc)
choices-within stored table rows_of (to ∷ joins) within among =
    let all = one_of_each (map rows_of joins) in
    let P : List ℕ → Type 0 = λ rows. row_among table (to ∷ joins) rows < stored.rows table in
    All-flat_map (λ row. row < stored.rows to.key.table) P (λ row. map (λ others. row ∷ others) all)
    (λ row inside.
    All-map P (λ others. row ∷ others) all
    ((elim (to.key.table == table) as (λ b. (b ≡ true → to.key.table ≡ table) → (b || is_among table joins) ≡ true → All (λ others. cond b row (row_among table joins others) < stored.rows table) all) [
      | true ↦ λ same found. (λ k d h. subst (λ t. row < stored.rows t) (same refl) inside)
      | false ↦ λ same found. choices-within stored table rows_of joins within found
    ]) (λ e. (Decides-eqb to.key.table table).0 e) among))
    (rows_of to) (within to)

-- the rows of a combination are rows of their tables
joined-within : (binding : Binding) (stored : StoredLists) (table : ℕ) → (binding.fact == table) ≡ false → is_among table binding.joins ≡ true
    → All (λ combination. row_of binding table combination < stored.rows table) (matched binding stored)
joined-within binding stored table other among =
    let P : Combination → Type 0 = λ combination. row_of binding table combination < stored.rows table in
    All-flat_map (λ fact. fact < stored.rows binding.fact) P (matches_of binding stored binding.joins)
    (λ fact inside.
    All-map P (λ others. record { fact = fact; rows = others }) (one_of_each (map (partners binding stored fact) binding.joins))
    (All-weaker (λ rows. row_among table binding.joins rows < stored.rows table) (λ rows. row_of binding table (record { fact = fact; rows = rows }) < stored.rows table)
    (λ rows below. subst (λ b. cond b fact (row_among table binding.joins rows) < stored.rows table) (sym other) below)
    (one_of_each (map (partners binding stored fact) binding.joins))
    (choices-within stored table (partners binding stored fact) binding.joins
    (λ to. places_where-below (λ row. passes binding stored to.key.table row && matches stored to fact row) (stored.rows to.key.table)) among)))
    (passing_rows binding stored binding.fact) (passing-positions binding stored binding.fact).below

facts-within : (binding : Binding) (stored : StoredLists) → All (λ combination. combination.fact < stored.rows binding.fact) (matched binding stored)
facts-within binding stored =
    All-flat_map (λ fact. fact < stored.rows binding.fact) (λ (combination : Combination). combination.fact < stored.rows binding.fact) (matches_of binding stored binding.joins)
    (λ fact inside. All-map (λ (combination : Combination). combination.fact < stored.rows binding.fact) (λ others. record { fact = fact; rows = others }) (one_of_each (map (partners binding stored fact) binding.joins)) (λ k d h. inside))
    (passing_rows binding stored binding.fact) (passing-positions binding stored binding.fact).below

-- a table among the joins, of a joined dimension, has a row list
among-tables : (wanted : ℕ → Bool) (table : ℕ) (joins : List JoinTo) → wanted table ≡ true → is_among table joins ≡ true
    → list_any (λ other. other == table) (map (λ to. to.key.table) (filter (λ to. wanted to.key.table) joins)) ≡ true
among-tables wanted table [] is among = among
among-tables wanted table (to ∷ joins) is among =
    let rest = filter (λ to. wanted to.key.table) joins in
    (elim (wanted to.key.table) as (λ w. ((to.key.table == table) ≡ true → w ≡ true) → list_any (λ other. other == table) (map (λ to. to.key.table) (cond w (to ∷ rest) rest)) ≡ true) [
      | true ↦ λ h.
          (elim (to.key.table == table) as (λ b. (b || is_among table joins) ≡ true → (b || list_any (λ other. other == table) (map (λ to. to.key.table) rest)) ≡ true) [
            | true ↦ λ e. refl
            | false ↦ λ e. among-tables wanted table joins is e
          ]) among
      | false ↦ λ h.
          (elim (to.key.table == table) as (λ b. (b ≡ true → false ≡ true) → (b || is_among table joins) ≡ true → list_any (λ other. other == table) (map (λ to. to.key.table) rest) ≡ true) [
            | true ↦ λ k e. absurd (let f : false ≡ true = k refl in cc)
            | false ↦ λ k e. among-tables wanted table joins is e
          ]) h among
    ]) (λ e. ap wanted ((Decides-eqb to.key.table table).0 e) ∙ is)

number_of-lists : (stored : StoredLists) (steps : Steps) (list_of : ℕ → List ℕ) (table n : ℕ) (lists : List RowList)
    → All (λ rows. Holds stored steps rows.number (list_of rows.table)) lists
    → list_any (λ other. other == table) (map (λ rows. rows.table) lists) ≡ true
    → Lists stored steps (number_of table lists) n (list_of table)
number_of-lists stored steps list_of table n [] all among = absurd (cc)
number_of-lists stored steps list_of table n (rows ∷ lists) all among =
    let P : RowList → Type 0 = λ rows. Holds stored steps rows.number (list_of rows.table) in
    (elim (rows.table == table) as (λ b. (b ≡ true → rows.table ≡ table) → (b || list_any (λ other. other == table) (map (λ rows. rows.table) lists)) ≡ true
    → Lists stored steps (cond b (Some rows.number) (number_of table lists)) n (list_of table)) [
      | true ↦ λ same found. subst (λ t. Holds stored steps rows.number (list_of t)) (same refl) (All-head P rows lists all)
      | false ↦ λ same found. number_of-lists stored steps list_of table n lists (All-tail P rows lists all) found
    ]) (λ e. (Decides-eqb rows.table table).0 e) among

-- a column of the fact table or of a joined dimension of the query
abbrev pub IsReadTable : Binding → Schema → ℕ → Type 0
IsReadTable binding schema table =
    ((binding.fact == table) ≡ true)
    ⊎ (((binding.fact == table) ≡ false) × (is_among table binding.joins ≡ true) × ((is_wanted binding table || repeats schema table) ≡ true))

-- Step 5: what a Group, Refine or Sum reads has one value for each joined row, the column's value in it.
pub add_column-reads : (binding : Binding) (schema : Schema) (count : ℕ) (stored : StoredLists) → HasLengths stored → (steps : Steps) (rows : Rows) (id : ColumnId)
    → IsRun count stored steps → GoesOn count stored rows.steps steps → AreJoined binding schema stored rows → IsReadTable binding schema id.table
    → GoesOn count stored steps (add_column steps binding rows id).steps
    × Reads stored (add_column steps binding rows id).steps (add_column steps binding rows id).input (map (value_in binding stored id) (matched binding stored))
add_column-reads binding schema count stored given steps rows id run on are (inl fact) =
    let matches_of = matched binding stored in
    let facts : List ℕ = map (λ combination. combination.fact) matches_of in
    let table : binding.fact ≡ id.table = (Decides-eqb binding.fact id.table).0 fact in
    let read = add_values-reads count stored given steps id rows.facts facts run
    (Lists-later count stored rows.steps steps rows.facts (stored.rows id.table) facts on (subst (λ t. Lists stored rows.steps rows.facts (stored.rows t) facts) table are.facts))
    (All-map (λ place. place < stored.rows id.table) (λ (combination : Combination). combination.fact) matches_of (subst (λ t. All (λ combination. combination.fact < stored.rows t) matches_of) table (facts-within binding stored))) in
    subst (λ b. GoesOn count stored steps (add_values steps id (cond b rows.facts (number_of id.table rows.lists))).steps
    × Reads stored (add_values steps id (cond b rows.facts (number_of id.table rows.lists))).steps (add_values steps id (cond b rows.facts (number_of id.table rows.lists))).input
    (map (λ combination. value_at stored id (cond b combination.fact (row_among id.table binding.joins combination.rows))) matches_of))
    (sym fact)
    (read.0, subst (Reads stored (add_values steps id rows.facts).steps (add_values steps id rows.facts).input) (map-map (value_at stored id) (λ combination. combination.fact) matches_of) read.1)
add_column-reads binding schema count stored given steps rows id run on are (inr other) =
    let matches_of = matched binding stored in
    let places : List ℕ = map (row_of binding id.table) matches_of in
    let which = number_of id.table rows.lists in
    let among : list_any (λ table. table == id.table) (map (λ list. list.table) rows.lists) ≡ true =
    ap (list_any (λ table. table == id.table)) are.tables ∙ among-tables (λ table. is_wanted binding table || repeats schema table) id.table binding.joins other.2 other.1 in
    let read = add_values-reads count stored given steps id which places run
    (Lists-later count stored rows.steps steps which (stored.rows id.table) places on
    (number_of-lists stored rows.steps (λ table. map (row_of binding table) matches_of) id.table (stored.rows id.table) rows.lists are.lists among))
    (All-map (λ place. place < stored.rows id.table) (row_of binding id.table) matches_of (joined-within binding stored id.table other.0 other.1)) in
    let read_is : Reads stored (add_values steps id which).steps (add_values steps id which).input (map (value_in binding stored id) matches_of) =
    subst (Reads stored (add_values steps id which).steps (add_values steps id which).input) (map-map (value_at stored id) (row_of binding id.table) matches_of) read.1 in
    subst (λ b. GoesOn count stored steps (add_values steps id (cond b rows.facts which)).steps
    × Reads stored (add_values steps id (cond b rows.facts which)).steps (add_values steps id (cond b rows.facts which)).input (map (value_in binding stored id) matches_of))
    (sym other.0) (read.0, read_is)
