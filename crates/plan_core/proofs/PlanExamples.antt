-- Plans at worked queries, computed.
use Rattle.std.proofs.Common.{◌≡◌, ℕ, Bool, true, false, List, [], ◌∷◌, ◌++◌, Some, None, refl}
use Rattle.std.specs.Prelude.{codes}
use Rattle.std.specs.Fmt.{digits}
use Rattle.definitions_queries.specs.Queries.{Test, of_number, of_text, equal, below, between, one_of}
use Rattle.catalog_core.specs.declared.columns.ColumnId.{ColumnId}
use Rattle.catalog_core.specs.declared.schemas.Role.TheVariants.{Dimension}
use Rattle.block_core.specs.declared.formats.FormatChoice.TheVariants.{Auto}
use Rattle.catalog_core.specs.declared.schemas.Kind.TheVariants as kind
use Rattle.catalog_core.specs.declared.schemas.ColumnDef.{ColumnDef}
use Rattle.catalog_core.specs.declared.schemas.TableDef.{TableDef}
use Rattle.catalog_core.specs.declared.schemas.Schema.{Schema}
use Rattle.query_bind.specs.Binding.{Binding, Tested}
use Rattle.query_bind.specs.declared.bounds.JoinTo.{JoinTo}
use Rattle.query_bind.specs.declared.bounds.SumOf.{SumOf}
use Rattle.query_bind.specs.declared.bounds.SumOf.TheVariants as operand
use Rattle.plan_core.specs.declared.plans.Input.TheVariants as input
use Rattle.plan_core.specs.Plans.{Operator, select, union, intersect, project, semi_join, join, group, refine, sum, sum_product}
use Rattle.plan_core.specs.WholePlan.{plan_of}
use Rattle.plan_core.specs.Explained.{literal_text, operator_text, plan_text}

abbrev pub at : ℕ → ℕ → ColumnId
at table place = record { table = table; column = place }

abbrev pub tested : ColumnId → Test → Tested
tested id test = record { column = id; test = test }

abbrev pub to : ColumnId → ColumnId → JoinTo
to fact_column key = record { fact_column = fact_column; key = key }

abbrev pub binding_of : List ℕ → List JoinTo → List Tested → List ColumnId → List SumOf → Binding
binding_of dimensions joins tests groups sums = record { fact = 0; dimensions = dimensions; joins = joins; tests = tests; groups = groups; sums = sums; items = []; order = [] }

-- two tables, of which the second is a dimension whose keys may repeat, or differ
abbrev pub table_with : Bool → TableDef
table_with repeats = record { name = codes "t"; role = Dimension; key = Some 0; repeats = repeats; separator = 44; header = false; trailing = false; columns = [] }

abbrev pub schema_with : Bool → Schema
schema_with repeats = record { tables = table_with false ∷ table_with repeats ∷ [] }

-- ---- select sum(lo_extendedprice * lo_discount) from lineorder, date where lo_orderdate = d_datekey and d_year = 1993 and lo_discount between 1 and 3
-- and lo_quantity < 25, with the columns of lineorder being date, quantity, discount and price

abbrev pub first : Binding
first = binding_of (1 ∷ []) (to (at 0 0) (at 1 0) ∷ [])
    (tested (at 1 1) (equal (of_number 1993)) ∷ tested (at 0 2) (between (of_number 1) (of_number 3)) ∷ tested (at 0 1) (below (of_number 25)) ∷ [])
    [] (operand.Product (at 0 3) (at 0 2) ∷ [])

abbrev lists : List Operator
lists =
    select (at 1 1) (equal (of_number 1993)) 1
    ∷ project (input.Base (at 1 0)) 1 2
    ∷ select (at 0 2) (between (of_number 1) (of_number 3)) 3
    ∷ select (at 0 1) (below (of_number 25)) 4
    ∷ intersect 3 4 5
    ∷ []

keys_that_differ : plan_of first (schema_with false) ≡ record {
  operators = lists
      ++ semi_join (at 0 0) (input.Made 2) 6
      ∷ intersect 5 6 7
      ∷ project (input.Base (at 0 3)) 7 8
      ∷ project (input.Base (at 0 2)) 7 9
      ∷ sum_product (input.Made 8) (input.Made 9) None 10 1
      ∷ [];
  columns = 10;
  keys = [];
  sums = record { first = 10; second = None } ∷ [];
}
keys_that_differ = refl

-- if the keys may repeat, the dimension is joined
keys_that_repeat : plan_of first (schema_with true) ≡ record {
  operators = lists
      ++ project (input.Base (at 0 0)) 5 6
      ∷ join (input.Made 6) (input.Made 2) 7 8
      ∷ project (input.Made 5) 7 9
      ∷ project (input.Made 1) 8 10
      ∷ project (input.Base (at 0 3)) 9 11
      ∷ project (input.Base (at 0 2)) 9 12
      ∷ sum_product (input.Made 11) (input.Made 12) None 13 1
      ∷ [];
  columns = 13;
  keys = [];
  sums = record { first = 13; second = None } ∷ [];
}
keys_that_repeat = refl

-- ---- select d_year, c_nation, sum(lo_revenue - lo_supplycost) as profit from lineorder, date, customer, supplier, part where lo_orderdate = d_datekey
-- and lo_custkey = c_custkey and lo_suppkey = s_suppkey and lo_partkey = p_partkey and c_region = 'AMERICA' and s_region = 'AMERICA'
-- and (p_mfgr = 'MFGR#1' or p_mfgr = 'MFGR#2') group by d_year, c_nation

abbrev pub america : Test
america = equal (of_text (codes "AMERICA"))

abbrev pub profit : Binding
profit = binding_of (1 ∷ 2 ∷ 3 ∷ 4 ∷ [])
    (to (at 0 0) (at 1 0) ∷ to (at 0 1) (at 2 0) ∷ to (at 0 2) (at 3 0) ∷ to (at 0 3) (at 4 0) ∷ [])
    (tested (at 2 2) america ∷ tested (at 3 1) america ∷ tested (at 4 1) (one_of (of_text (codes "MFGR#1") ∷ of_text (codes "MFGR#2") ∷ [])) ∷ [])
    (at 1 1 ∷ at 2 1 ∷ []) (operand.Difference (at 0 4) (at 0 5) ∷ [])

profit_by_year_and_nation : plan_of profit (schema_with false) ≡ record {
  operators =
      select (at 2 2) america 1
      ∷ project (input.Base (at 2 0)) 1 2
      ∷ select (at 3 1) america 3
      ∷ project (input.Base (at 3 0)) 3 4
      ∷ select (at 4 1) (equal (of_text (codes "MFGR#1"))) 5
      ∷ select (at 4 1) (equal (of_text (codes "MFGR#2"))) 6
      ∷ union 5 6 7
      ∷ project (input.Base (at 4 0)) 7 8
      ∷ semi_join (at 0 2) (input.Made 4) 9
      ∷ semi_join (at 0 3) (input.Made 8) 10
      ∷ intersect 9 10 11
      ∷ project (input.Base (at 0 0)) 11 12
      ∷ join (input.Made 12) (input.Base (at 1 0)) 13 14
      ∷ project (input.Made 11) 13 15
      ∷ project (input.Base (at 0 1)) 15 16
      ∷ join (input.Made 16) (input.Made 2) 17 18
      ∷ project (input.Made 15) 17 19
      ∷ project (input.Made 14) 17 20
      ∷ project (input.Made 1) 18 21
      ∷ project (input.Base (at 1 1)) 20 22
      ∷ group (input.Made 22) 23 24
      ∷ project (input.Base (at 2 1)) 21 25
      ∷ refine 23 (input.Made 25) 26 27
      ∷ project (input.Base (at 0 4)) 19 28
      ∷ project (input.Base (at 0 5)) 19 29
      ∷ sum (input.Made 28) (Some 26) 30 1 1
      ∷ sum (input.Made 29) (Some 26) 31 1 2
      ∷ project (input.Made 22) 27 32
      ∷ project (input.Made 25) 27 33
      ∷ [];
  columns = 33;
  keys = 32 ∷ 33 ∷ [];
  sums = record { first = 30; second = Some 31 } ∷ [];
}
profit_by_year_and_nation = refl

-- ---- the lines of the first plan

abbrev column_with : List ℕ → ColumnDef
column_with name = record { name = name; kind = kind.Number; format = Auto }

abbrev named : List ℕ → List ColumnDef → TableDef
named name columns = record { name = name; role = Dimension; key = Some 0; repeats = false; separator = 44; header = false; trailing = false; columns = columns }

abbrev named_schema : Schema
named_schema = record {
  tables = named (codes "lineorder") (column_with (codes "lo_orderdate") ∷ column_with (codes "lo_quantity") ∷ column_with (codes "lo_discount") ∷ column_with (codes "lo_extendedprice") ∷ [])
      ∷ named (codes "date") (column_with (codes "d_datekey") ∷ column_with (codes "d_year") ∷ []) ∷ [];
}

lines_of_the_first : plan_text named_schema (plan_of first named_schema) ≡
    codes "o1 c1 = select d_year = 1993\n" ++ codes "o2 c2 = project d_datekey c1\n" ++ codes "o3 c3 = select lo_discount between 1 and 3\n"
    ++ codes "o4 c4 = select lo_quantity < 25\n" ++ codes "o5 c5 = intersect c3 c4\n" ++ codes "o6 c6 = semijoin lo_orderdate c2\n" ++ codes "o7 c7 = intersect c5 c6\n"
    ++ codes "o8 c8 = project lo_extendedprice c7\n" ++ codes "o9 c9 = project lo_discount c7\n" ++ codes "o10 c10 = sumproduct c8 c9\n"
unfolding digits
lines_of_the_first = refl

quotes_are_doubled : literal_text (of_text (codes "it's")) ≡ codes "'it''s'"
quotes_are_doubled = refl

sum_by_ids : operator_text named_schema (sum (input.Made 28) (Some 26) 30 1 1) ≡ codes "c30 = sum c28 by c26"
unfolding digits
sum_by_ids = refl
