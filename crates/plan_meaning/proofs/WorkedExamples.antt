-- The definitions at worked queries, computed: the joined rows, the columns of plans, and the groups and sums.
use Rattle.std.proofs.Common.{◌≡◌, ℕ, true, false, List, [], ◌∷◌, length, get_or, Option, Some, None, refl}
use Rattle.std.specs.Prelude.{codes, ◌==◌, if◌then◌else◌, map}
use Rattle.catalog_core.specs.Texts.{Text}
use Rattle.definitions_operators.specs.Groups.{distinct}
use Rattle.plan_core.specs.WholePlan.{plan_of}
use Rattle.plan_core.proofs.PlanExamples.{schema_with, first, profit}
use Rattle.plan_meaning.specs.StoredLists.{StoredLists}
use Rattle.plan_meaning.specs.JoinedRows.{Combination, joined_rows}
use Rattle.plan_meaning.specs.Columns.{columns_after}
use Rattle.plan_meaning.specs.Law.{query_groups, query_sums}

-- tables from their columns, with the texts of the columns that have texts
abbrev stored_lists : List (List (List ℕ)) → (ℕ → ℕ → Option (List Text)) → StoredLists
stored_lists tables texts = record {
  rows = λ table. length (get_or (get_or tables table []) 0 []);
  values = λ id. get_or (get_or tables id.table []) id.column [];
  texts = λ id. texts id.table id.column;
}

abbrev no_texts : ℕ → ℕ → Option (List Text)
no_texts table column = None

abbrev row_with : ℕ → List ℕ → Combination
row_with fact rows = record { fact = fact; rows = rows }

-- ---- select sum(lo_extendedprice * lo_discount) from lineorder, date where lo_orderdate = d_datekey and d_year = 1993 and lo_discount between 1 and 3
-- and lo_quantity < 25

abbrev orders : List (List ℕ)
orders =
    (19930101 ∷ 19930101 ∷ 19930101 ∷ 19940101 ∷ [])
    ∷ (10 ∷ 24 ∷ 25 ∷ 5 ∷ [])
    ∷ (2 ∷ 3 ∷ 1 ∷ 2 ∷ [])
    ∷ (1000 ∷ 500 ∷ 700 ∷ 900 ∷ [])
    ∷ []

abbrev days : StoredLists
days = stored_lists (orders ∷ ((19930101 ∷ 19940101 ∷ []) ∷ (1993 ∷ 1994 ∷ []) ∷ []) ∷ []) no_texts

days_joined : joined_rows first days ≡ row_with 0 (0 ∷ []) ∷ row_with 1 (0 ∷ []) ∷ []
days_joined = refl

days_columns : columns_after days [] (plan_of first (schema_with false)).operators
    ≡ (0 ∷ []) ∷ (19930101 ∷ []) ∷ (0 ∷ 1 ∷ 2 ∷ 3 ∷ []) ∷ (0 ∷ 1 ∷ 3 ∷ []) ∷ (0 ∷ 1 ∷ 3 ∷ []) ∷ (0 ∷ 1 ∷ 2 ∷ []) ∷ (0 ∷ 1 ∷ [])
    ∷ (1000 ∷ 500 ∷ []) ∷ (2 ∷ 3 ∷ []) ∷ (3500 ∷ []) ∷ []
days_columns = refl

days_groups : query_groups first days ≡ [] ∷ []
days_groups = refl

days_sums : map (query_sums first days) first.sums ≡ record { first = 3500 ∷ []; second = None } ∷ []
days_sums = refl

-- the same with a key that repeats: the dimension is joined, and each of its rows counts
abbrev days_twice : StoredLists
days_twice = stored_lists (orders ∷ ((19930101 ∷ 19930101 ∷ 19940101 ∷ []) ∷ (1993 ∷ 1993 ∷ 1994 ∷ []) ∷ []) ∷ []) no_texts

twice_joined : joined_rows first days_twice ≡ row_with 0 (0 ∷ []) ∷ row_with 0 (1 ∷ []) ∷ row_with 1 (0 ∷ []) ∷ row_with 1 (1 ∷ []) ∷ []
twice_joined = refl

twice_columns : columns_after days_twice [] (plan_of first (schema_with true)).operators
    ≡ (0 ∷ 1 ∷ []) ∷ (19930101 ∷ 19930101 ∷ []) ∷ (0 ∷ 1 ∷ 2 ∷ 3 ∷ []) ∷ (0 ∷ 1 ∷ 3 ∷ []) ∷ (0 ∷ 1 ∷ 3 ∷ []) ∷ (19930101 ∷ 19930101 ∷ 19940101 ∷ [])
    ∷ (0 ∷ 0 ∷ 1 ∷ 1 ∷ []) ∷ (0 ∷ 1 ∷ 0 ∷ 1 ∷ []) ∷ (0 ∷ 0 ∷ 1 ∷ 1 ∷ []) ∷ (0 ∷ 1 ∷ 0 ∷ 1 ∷ [])
    ∷ (1000 ∷ 1000 ∷ 500 ∷ 500 ∷ []) ∷ (2 ∷ 2 ∷ 3 ∷ 3 ∷ []) ∷ (7000 ∷ []) ∷ []
twice_columns = refl

twice_sums : map (query_sums first days_twice) first.sums ≡ record { first = 7000 ∷ []; second = None } ∷ []
twice_sums = refl

-- over no rows a sum is 0
abbrev no_days : StoredLists
no_days = stored_lists (orders ∷ ([] ∷ [] ∷ []) ∷ []) no_texts

no_days_sums : map (query_sums first no_days) first.sums ≡ record { first = 0 ∷ []; second = None } ∷ []
no_days_sums = refl

-- ---- select d_year, c_nation, sum(lo_revenue - lo_supplycost) as profit from lineorder, date, customer, supplier, part where ..

abbrev regions : List Text
regions = codes "AMERICA" ∷ codes "EUROPE" ∷ []

abbrev profit_texts : ℕ → ℕ → Option (List Text)
profit_texts table column =
    if table == 2 then (if column == 1 then Some (codes "BRAZIL" ∷ codes "CANADA" ∷ codes "CHINA" ∷ []) else (if column == 2 then Some (codes "AMERICA" ∷ codes "ASIA" ∷ []) else None))
    else (if table == 3 then (if column == 1 then Some regions else None)
    else (if table == 4 then (if column == 1 then Some (codes "MFGR#1" ∷ codes "MFGR#2" ∷ codes "MFGR#3" ∷ []) else None) else None))

abbrev profits : StoredLists
profits = stored_lists
    (((19980101 ∷ 19970101 ∷ 19970101 ∷ 19970101 ∷ 19980101 ∷ 19970101 ∷ 19980101 ∷ [])
    ∷ (1 ∷ 3 ∷ 2 ∷ 1 ∷ 1 ∷ 1 ∷ 3 ∷ [])
    ∷ (1 ∷ 1 ∷ 1 ∷ 2 ∷ 1 ∷ 1 ∷ 1 ∷ [])
    ∷ (1 ∷ 3 ∷ 1 ∷ 1 ∷ 3 ∷ 2 ∷ 1 ∷ [])
    ∷ (100 ∷ 50 ∷ 500 ∷ 500 ∷ 20 ∷ 7 ∷ 10 ∷ [])
    ∷ (30 ∷ 80 ∷ 1 ∷ 1 ∷ 5 ∷ 7 ∷ 10 ∷ [])
    ∷ [])
    ∷ ((19970101 ∷ 19980101 ∷ []) ∷ (1997 ∷ 1998 ∷ []) ∷ [])
    ∷ ((1 ∷ 2 ∷ 3 ∷ []) ∷ (0 ∷ 2 ∷ 1 ∷ []) ∷ (0 ∷ 1 ∷ 0 ∷ []) ∷ [])
    ∷ ((1 ∷ 2 ∷ []) ∷ (0 ∷ 1 ∷ []) ∷ [])
    ∷ ((1 ∷ 2 ∷ 3 ∷ []) ∷ (0 ∷ 2 ∷ 1 ∷ []) ∷ [])
    ∷ [])
    profit_texts

profits_joined : joined_rows profit profits
    ≡ row_with 0 (1 ∷ 0 ∷ 0 ∷ 0 ∷ []) ∷ row_with 1 (0 ∷ 2 ∷ 0 ∷ 2 ∷ []) ∷ row_with 4 (1 ∷ 0 ∷ 0 ∷ 2 ∷ []) ∷ row_with 6 (1 ∷ 2 ∷ 0 ∷ 0 ∷ []) ∷ []
profits_joined = refl

profits_columns : columns_after profits [] (plan_of profit (schema_with false)).operators
    ≡ (0 ∷ 2 ∷ []) ∷ (1 ∷ 3 ∷ []) ∷ (0 ∷ []) ∷ (1 ∷ []) ∷ (0 ∷ []) ∷ (2 ∷ []) ∷ (0 ∷ 2 ∷ []) ∷ (1 ∷ 3 ∷ [])
    ∷ (0 ∷ 1 ∷ 2 ∷ 4 ∷ 5 ∷ 6 ∷ []) ∷ (0 ∷ 1 ∷ 2 ∷ 3 ∷ 4 ∷ 6 ∷ []) ∷ (0 ∷ 1 ∷ 2 ∷ 4 ∷ 6 ∷ [])
    ∷ (19980101 ∷ 19970101 ∷ 19970101 ∷ 19980101 ∷ 19980101 ∷ []) ∷ (0 ∷ 1 ∷ 2 ∷ 3 ∷ 4 ∷ []) ∷ (1 ∷ 0 ∷ 0 ∷ 1 ∷ 1 ∷ []) ∷ (0 ∷ 1 ∷ 2 ∷ 4 ∷ 6 ∷ [])
    ∷ (1 ∷ 3 ∷ 2 ∷ 1 ∷ 3 ∷ []) ∷ (0 ∷ 1 ∷ 3 ∷ 4 ∷ []) ∷ (0 ∷ 1 ∷ 0 ∷ 1 ∷ []) ∷ (0 ∷ 1 ∷ 4 ∷ 6 ∷ []) ∷ (1 ∷ 0 ∷ 1 ∷ 1 ∷ []) ∷ (0 ∷ 2 ∷ 0 ∷ 2 ∷ [])
    ∷ (1998 ∷ 1997 ∷ 1998 ∷ 1998 ∷ []) ∷ (0 ∷ 1 ∷ 0 ∷ 0 ∷ []) ∷ (0 ∷ 1 ∷ []) ∷ (0 ∷ 1 ∷ 0 ∷ 1 ∷ []) ∷ (0 ∷ 1 ∷ 0 ∷ 2 ∷ []) ∷ (0 ∷ 1 ∷ 3 ∷ [])
    ∷ (100 ∷ 50 ∷ 20 ∷ 10 ∷ []) ∷ (30 ∷ 80 ∷ 5 ∷ 10 ∷ []) ∷ (120 ∷ 50 ∷ 10 ∷ []) ∷ (35 ∷ 80 ∷ 10 ∷ []) ∷ (1998 ∷ 1997 ∷ 1998 ∷ []) ∷ (0 ∷ 1 ∷ 1 ∷ []) ∷ []
profits_columns = refl

profits_groups : query_groups profit profits ≡ (1998 ∷ 0 ∷ []) ∷ (1997 ∷ 1 ∷ []) ∷ (1998 ∷ 1 ∷ []) ∷ []
unfolding distinct
profits_groups = refl

profits_sums : map (query_sums profit profits) profit.sums ≡ record { first = 120 ∷ 50 ∷ 10 ∷ []; second = Some (35 ∷ 80 ∷ 10 ∷ []) } ∷ []
unfolding distinct
profits_sums = refl
