-- After steps 1 to 4 the fact list and the row lists, side by side, are the joined rows cut down to these tables.
use Rattle.std.proofs.Common.{◌≡◌, ℕ, ◌+◌, ◌<◌, ◌≤◌, Bool, true, false, cond, List, [], ◌∷◌, ◌++◌, map, length, refl, sym, ap, ap₂, ◌∙◌, subst, All, arith, append_assoc, append-nil}
use Rattle.std.specs.Prelude.{◌&&◌, ◌||◌, ◌==◌, not, filter}
use Rattle.std.specs.List.{list_all}
use Rattle.std.proofs.lemmas.Bool.Decides.{nat_tests, Decides-eqb}
use Rattle.std.proofs.lemmas.List.{map-id}
use Rattle.std.proofs.lemmas.List.Elements.{All-cons, All-nil, All-head, All-tail, All-filter, All-weaker, All-map, filter_passes, filter_agree}
use Rattle.std.proofs.lemmas.List.Folds.{list_all-map}
use Rattle.catalog_core.specs.declared.schemas.Schema.{Schema}
use Rattle.query_bind.specs.Binding.{Binding}
use Rattle.query_bind.specs.declared.bounds.JoinTo.{JoinTo}
use Rattle.plan_core.specs.Planner.{Dimension, RowList, Rows, add_dimensions, add_join, add_joins, add_list, add_semi_joins, is_joined, is_wanted, no_steps, plan_rows, repeats}
use Rattle.plan_meaning.specs.StoredLists.{StoredLists}
use Rattle.plan_meaning.specs.JoinedRows.{row_among, row_of}
use Rattle.plan_meaning.proofs.Matched.{HasApart, AreApart, AreJoined, HasLengths, Holds, IsLawful, Lists, StandsWhole, matched, partners, passing_rows}
use Rattle.definitions_operators.proofs.ListLaws.{filter-map}
use Rattle.definitions_operators.proofs.MapLaws.{kept, kept-filter, map-map}
use Rattle.plan_meaning.proofs.JoinedLaws.{Found, IsAlone, cut, extended, found_from, have_rows, is_some_row, joined-found, row_among-cut, start, with_rows-fact, with_rows-row}
use Rattle.plan_meaning.proofs.PartnerLaws.{has-partners, partners-alone}
use Rattle.plan_meaning.proofs.RunLaws.{GoesOn, GoesOn-refl, GoesOn-then, IsRun, IsRun-none}
use Rattle.plan_meaning.proofs.ListStepLaws.{add_list-lists, passing-positions}
use Rattle.plan_meaning.proofs.FitLaws.{Fits, Fits-dimensions, Fits-list, Fits-semi_joins}
use Rattle.plan_meaning.proofs.JoinStepLaws.{All-unmap, AreDimensions-later, AreFound, IsDimension, IsFrom, add_dimensions-are, add_join-found, add_semi_joins-lists, has_key, tables_of}

abbrev pub tables_joined : List JoinTo → List ℕ
tables_joined joins = map (λ to. to.key.table) joins

All-push-table : (to : JoinTo) (tables : List ℕ) (joins : List JoinTo)
    → All (λ other. All (λ table. (other.key.table == table) ≡ false) tables) joins
    → All (λ other. (to.key.table == other.key.table) ≡ false) joins
    → All (λ other. All (λ table. (other.key.table == table) ≡ false) (tables ++ to.key.table ∷ [])) joins
All-push-table to tables joins before now =
    λ k d within.
    let other = Rattle.std.proofs.Common.get_or joins k d in
    Rattle.std.proofs.lemmas.List.Elements.All-push (λ table. (other.key.table == table) ≡ false) tables to.key.table (before k d within)
    (let h : (to.key.table == other.key.table) ≡ false = now k d within in grind (arith, nat_tests))

-- Step 4: one dimension after the other.
add_joins-found : (binding : Binding) (count : ℕ) (stored : StoredLists) → HasLengths stored → (rows : Rows) (dimensions : List Dimension) (found : List Found)
    → IsRun count stored rows.steps → AreFound binding stored rows found
    → All (IsDimension binding stored rows.steps) dimensions → All (IsFrom binding) dimensions
    → AreApart (map (λ dimension. dimension.to) dimensions)
    → All (λ to. All (λ table. (to.key.table == table) ≡ false) (tables_of rows.lists)) (map (λ dimension. dimension.to) dimensions)
    → GoesOn count stored rows.steps (add_joins rows dimensions).steps
    × AreFound binding stored (add_joins rows dimensions) (found_from (λ to fact. partners binding stored fact to) (map (λ dimension. dimension.to) dimensions) found)
    × (tables_of (add_joins rows dimensions).lists ≡ tables_of rows.lists ++ tables_joined (map (λ dimension. dimension.to) dimensions))
    × (All (λ to. HasApart stored to.key) (map (λ dimension. dimension.to) dimensions) → Fits stored rows.steps → Fits stored (add_joins rows dimensions).steps)
unfolding found_from
add_joins-found binding count stored given rows [] found run are is from apart new = (GoesOn-refl count stored rows.steps run, are, sym (append-nil (tables_of rows.lists)), λ distinct fits. fits)
add_joins-found binding count stored given rows (dimension ∷ dimensions) found run are is from apart new =
    let to = dimension.to in
    let next = add_join rows dimension in
    let all = add_joins next dimensions in
    let joins = map (λ (dimension : Dimension). dimension.to) dimensions in
    let Apart : JoinTo → Type 0 = λ to. All (λ table. (to.key.table == table) ≡ false) (tables_of rows.lists) in
    let first = add_join-found binding count stored given rows dimension found run are
    (All-head (IsDimension binding stored rows.steps) dimension dimensions is) (All-head (IsFrom binding) dimension dimensions from) (All-head Apart to joins new) in
    let rest = add_joins-found binding count stored given next dimensions (extended (λ to fact. partners binding stored fact to) to found) first.0.run first.1
    (AreDimensions-later binding count stored rows.steps next.steps dimensions first.0 (All-tail (IsDimension binding stored rows.steps) dimension dimensions is))
    (All-tail (IsFrom binding) dimension dimensions from) apart.1
    (subst (λ tables. All (λ other. All (λ table. (other.key.table == table) ≡ false) tables) joins) (sym first.2)
    (All-push-table to (tables_of rows.lists) joins (All-tail Apart to joins new) apart.0)) in (
      GoesOn-then count stored rows.steps next.steps all.steps first.0 rest.0,
      rest.1,
      rest.2 ∙ ap (λ l. l ++ tables_joined joins) first.2 ∙ append_assoc (tables_of rows.lists) (to.key.table ∷ []) (tables_joined joins),
      λ distinct fits. rest.3 (All-tail (λ to. HasApart stored to.key) to joins distinct) (first.3 (All-head (λ to. HasApart stored to.key) to joins distinct) fits),
    )

AreApart-filter : (test : JoinTo → Bool) (joins : List JoinTo) → AreApart joins → AreApart (filter test joins)
AreApart-filter test [] apart = _
AreApart-filter test (to ∷ joins) apart =
    let rest = AreApart-filter test joins apart.1 in
    elim (test to) as (λ b. AreApart (cond b (to ∷ filter test joins) (filter test joins))) [
      | true ↦ (All-filter test (λ other. (to.key.table == other.key.table) ≡ false) joins apart.0, rest)
      | false ↦ rest
    ]

list_all-same : {X : Type 0} (p q : X → Bool) → ((x : X) → p x ≡ q x) → (xs : List X) → list_all p xs ≡ list_all q xs
list_all-same p q same [] = refl
list_all-same p q same (x ∷ xs) = ap₂ (λ a b. a && b) (same x) (list_all-same p q same xs)

or_false_right : (a b : Bool) → (a || b) ≡ false → b ≡ false
or_false_right true b h = absurd (cc)
or_false_right false b h = h

-- what is known of the table of a joined dimension
pub record IsJoinedTable (binding : Binding) (schema : Schema) (table : ℕ) : Type 0 where
  pub other : (binding.fact == table) ≡ false
  pub joined : (is_wanted binding table || repeats schema table) ≡ true

-- the rows found, read at the fact table and at a joined dimension, are the joined rows
abbrev pub rows_found : Binding → Schema → StoredLists → List Found
rows_found binding schema stored =
    found_from (λ to fact. partners binding stored fact to) (filter (is_joined binding schema) binding.joins)
    (map start (filter (have_rows binding stored (is_joined binding schema)) (passing_rows binding stored binding.fact)))

others-alone : (binding : Binding) (schema : Schema) (stored : StoredLists) → StandsWhole binding schema stored → (fact : ℕ)
    → All (λ to. is_joined binding schema to ≡ false → IsAlone (partners binding stored fact to)) binding.joins
others-alone binding schema stored stands fact =
    All-weaker (λ to. repeats schema to.key.table ≡ false → HasApart stored to.key) (λ to. is_joined binding schema to ≡ false → IsAlone (partners binding stored fact to))
    (λ to distinct none. partners-alone binding stored fact to (distinct (or_false_right (is_wanted binding to.key.table) (repeats schema to.key.table) none))) binding.joins stands.keys

facts-found : (binding : Binding) (schema : Schema) (stored : StoredLists) → StandsWhole binding schema stored
    → map (λ each. each.fact) (rows_found binding schema stored) ≡ map (λ combination. combination.fact) (matched binding stored)
facts-found binding schema stored stands =
    joined-found binding stored (is_joined binding schema) (λ each. each.fact) (λ combination. combination.fact)
    (λ fact rows. with_rows-fact (filter (is_joined binding schema) binding.joins) (cut (is_joined binding schema) binding.joins rows) (start fact))
    (others-alone binding schema stored stands)

rows-found : (binding : Binding) (schema : Schema) (stored : StoredLists) → IsLawful binding → StandsWhole binding schema stored → (table : ℕ) → IsJoinedTable binding schema table
    → map (λ each. each.row table) (rows_found binding schema stored) ≡ map (row_of binding table) (matched binding stored)
rows-found binding schema stored lawful stands table is =
    let wanted = is_joined binding schema in
    let js = filter wanted binding.joins in
    joined-found binding stored wanted (λ each. each.row table) (row_of binding table)
    (λ fact rows.
    with_rows-row table js (cut wanted binding.joins rows) (start fact) (AreApart-filter wanted binding.joins lawful.apart) refl
    ∙ row_among-cut wanted table binding.joins rows
    (λ k d within here.
    let to = Rattle.std.proofs.Common.get_or binding.joins k d in
    ap (λ table. is_wanted binding table || repeats schema table) ((Decides-eqb to.key.table table).0 here) ∙ is.joined)
    ∙ sym (ap (λ b. cond b fact (row_among table binding.joins rows)) is.other))
    (others-alone binding schema stored stands)

-- Steps 1 to 4.
pub plan_rows-found : (binding : Binding) (schema : Schema) (count : ℕ) (stored : StoredLists) → IsLawful binding → StandsWhole binding schema stored
    → IsRun count stored (plan_rows binding schema).steps
    × AreFound binding stored (plan_rows binding schema) (rows_found binding schema stored)
    × (tables_of (plan_rows binding schema).lists ≡ tables_joined (filter (is_joined binding schema) binding.joins))
    × (All (λ to. HasApart stored to.key) binding.joins → Fits stored (plan_rows binding schema).steps)
plan_rows-found binding schema count stored lawful stands =
    let given = stands.tables in
    let wanted = is_joined binding schema in
    let to_of : Dimension → JoinTo = λ dimension. dimension.to in
    let n = stored.rows binding.fact in
    let passing = passing_rows binding stored binding.fact in
    let first = add_dimensions no_steps binding binding.joins [] in
    let facts = add_list first.steps binding binding.fact in
    let others = filter (λ (dimension : Dimension). not (wanted dimension.to)) first.dimensions in
    let ours = filter (λ (dimension : Dimension). wanted dimension.to) first.dimensions in
    let semi_joined = add_semi_joins facts others in
    let start_rows : Rows = record { steps = semi_joined.steps; facts = semi_joined.list; lists = [] } in
    let step1 = add_dimensions-are binding count stored given lawful.chosen no_steps binding.joins [] (IsRun-none count stored) (All-nil (IsDimension binding stored no_steps)) in
    let step2 = add_list-lists binding count stored given lawful.chosen first.steps binding.fact step1.0.run in
    let all_from : All (IsFrom binding) first.dimensions =
    All-unmap (λ to. to.fact_column.table ≡ binding.fact) to_of first.dimensions (subst (All (λ to. to.fact_column.table ≡ binding.fact)) (sym step1.2) lawful.facts) in
    let after2 : All (IsDimension binding stored facts.steps) first.dimensions = AreDimensions-later binding count stored first.steps facts.steps first.dimensions step2.0 step1.1 in
    let step3 = add_semi_joins-lists binding count stored given facts others passing step2.0.run
    (All-filter (λ dimension. not (wanted dimension.to)) (IsDimension binding stored facts.steps) first.dimensions after2)
    (All-filter (λ dimension. not (wanted dimension.to)) (IsFrom binding) first.dimensions all_from)
    (passing-positions binding stored binding.fact) step2.1 in
    let have = have_rows binding stored wanted in
    let list = filter have passing in
    let start_found = map start list in
    let kept_is : kept (λ (dimension : Dimension). has_key binding stored dimension.to) others passing ≡ list =
    kept-filter (λ (dimension : Dimension). has_key binding stored dimension.to) others passing
    ∙ filter_agree (λ fact. list_all (λ (dimension : Dimension). has_key binding stored dimension.to fact) others) have
    (λ fact.
    sym (list_all-map (λ to. has_key binding stored to fact) to_of others)
    ∙ ap (list_all (λ to. has_key binding stored to fact)) (sym (filter-map (λ to. not (wanted to)) to_of first.dimensions) ∙ ap (filter (λ to. not (wanted to))) step1.2)
    ∙ list_all-same (λ to. has_key binding stored to fact) (λ to. is_some_row (partners binding stored fact to)) (λ to. has-partners binding stored fact to) (filter (λ to. not (wanted to)) binding.joins))
    passing in
    let facts_is : map (λ each. each.fact) start_found ≡ list = map-map (λ each. each.fact) start list ∙ map-id list in
    let list_below : All (λ fact. fact < n) list = All-filter have (λ fact. fact < n) passing (passing-positions binding stored binding.fact).below in
    let start_is : AreFound binding stored start_rows start_found = record {
      facts = subst (Lists stored semi_joined.steps semi_joined.list n) (kept_is ∙ sym facts_is) step3.1;
      below = All-map (λ each. each.fact < n) start list list_below;
      lists = All-nil (λ rows. Holds stored semi_joined.steps rows.number (map (λ each. each.row rows.table) start_found));
    } in
    let on : GoesOn count stored first.steps semi_joined.steps = GoesOn-then count stored first.steps facts.steps semi_joined.steps step2.0 step3.0 in
    let joins_are : map to_of ours ≡ filter wanted binding.joins = sym (filter-map wanted to_of first.dimensions) ∙ ap (filter wanted) step1.2 in
    let step4 = add_joins-found binding count stored given start_rows ours start_found step3.0.run start_is
    (All-filter (λ dimension. wanted dimension.to) (IsDimension binding stored semi_joined.steps) first.dimensions (AreDimensions-later binding count stored first.steps semi_joined.steps first.dimensions on step1.1))
    (All-filter (λ dimension. wanted dimension.to) (IsFrom binding) first.dimensions all_from)
    (subst AreApart (sym joins_are) (AreApart-filter wanted binding.joins lawful.apart))
    (λ k d within. All-nil (λ table. ((Rattle.std.proofs.Common.get_or (map to_of ours) k d).key.table == table) ≡ false)) in (
      step4.0.run,
      subst (λ joins. AreFound binding stored (plan_rows binding schema) (found_from (λ to fact. partners binding stored fact to) joins start_found)) joins_are step4.1,
      step4.2 ∙ ap tables_joined joins_are,
      λ distinct.
          step4.3 (subst (All (λ to. HasApart stored to.key)) (sym joins_are) (All-filter wanted (λ to. HasApart stored to.key) binding.joins distinct))
          (Fits-semi_joins stored facts others (Fits-list stored first.steps binding binding.fact (Fits-dimensions stored no_steps binding binding.joins [] _))),
    )

-- The law of steps 1 to 4.
pub plan_rows-joined : (binding : Binding) (schema : Schema) (stored : StoredLists) → IsLawful binding → StandsWhole binding schema stored → AreJoined binding schema stored (plan_rows binding schema)
plan_rows-joined binding schema stored lawful stands =
    let rows = plan_rows binding schema in
    let wanted = is_joined binding schema in
    let all = plan_rows-found binding schema (length (matched binding stored)) stored lawful stands in
    let js = filter wanted binding.joins in
    let tables : All (IsJoinedTable binding schema) (tables_of rows.lists) =
    subst (All (IsJoinedTable binding schema)) (sym all.2)
    (All-map (IsJoinedTable binding schema) (λ (to : JoinTo). to.key.table) js
    (λ k d within. record {
      other = All-filter wanted (λ to. (binding.fact == to.key.table) ≡ false) binding.joins lawful.dimensions k d within;
      joined = filter_passes wanted binding.joins k d within;
    })) in
    let known : All (λ rows. IsJoinedTable binding schema rows.table) rows.lists = All-unmap (IsJoinedTable binding schema) (λ (rows : RowList). rows.table) rows.lists tables in
    let found = rows_found binding schema stored in
    record {
      tables = all.2;
      facts = subst (Lists stored rows.steps rows.facts (stored.rows binding.fact)) (facts-found binding schema stored stands) all.1.facts;
      lists =
          All-weaker (λ rows. Holds stored (plan_rows binding schema).steps rows.number (map (λ each. each.row rows.table) found) × IsJoinedTable binding schema rows.table)
          (λ rows. Holds stored (plan_rows binding schema).steps rows.number (map (row_of binding rows.table) (matched binding stored)))
          (λ rows both. subst (Holds stored (plan_rows binding schema).steps rows.number) (rows-found binding schema stored lawful stands rows.table both.1) both.0)
          rows.lists (λ k d within. (all.1.lists k d within, known k d within));
    }
