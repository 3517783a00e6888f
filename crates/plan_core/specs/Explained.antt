-- The lines in which a plan is explained.
use Rattle.std.specs.Prelude.{ℕ, ◌+◌, ◌==◌, List, [], ◌∷◌, ◌++◌, Option, Some, None, codes, decimal, if◌then◌else◌}
use Rattle.definitions_queries.specs.Queries.{Literal, of_number, of_text, Test, equal, below, at_most, above, at_least, between, one_of}
use Rattle.catalog_core.specs.declared.schemas.Schema.{Schema}
use Rattle.query_bind.specs.Binding.{column_name}
use Rattle.plan_core.specs.declared.plans.Input.{Input}
use Rattle.plan_core.specs.declared.plans.Input.TheVariants as input
use Rattle.plan_core.specs.Plans.{Operator, select, union, intersect, project, semi_join, join, group, refine, sum, sum_product, Plan}

-- the column that an operator makes, as `c7`
abbrev pub made : ℕ → List ℕ
made number = codes "c" ++ decimal number

-- a base column is written by its name
abbrev pub input_text : Schema → Input → List ℕ
input_text schema (input.Base id) = column_name schema id
input_text schema (input.Made number) = made number

-- each quote twice
abbrev pub doubled : List ℕ → List ℕ
doubled [] = []
doubled (byte ∷ rest) = (if byte == 39 then 39 ∷ 39 ∷ [] else byte ∷ []) ++ doubled rest

abbrev pub literal_text : Literal → List ℕ
literal_text (of_number value) = decimal value
literal_text (of_text bytes) = codes "'" ++ doubled bytes ++ codes "'"

-- a test of one literal, or `between`: a plan has no others
abbrev pub test_text : Test → List ℕ
test_text (equal literal) = codes " = " ++ literal_text literal
test_text (below literal) = codes " < " ++ literal_text literal
test_text (at_most literal) = codes " <= " ++ literal_text literal
test_text (above literal) = codes " > " ++ literal_text literal
test_text (at_least literal) = codes " >= " ++ literal_text literal
test_text (between low high) = codes " between " ++ literal_text low ++ codes " and " ++ literal_text high
test_text (one_of literals) = []

-- the ids that a sum goes by
abbrev pub ids_text : Option ℕ → List ℕ
ids_text None = []
ids_text (Some ids) = codes " by " ++ made ids

abbrev pub operator_text : Schema → Operator → List ℕ
operator_text schema (select id test out) = made out ++ codes " = select " ++ column_name schema id ++ test_text test
operator_text schema (union left right out) = made out ++ codes " = union " ++ made left ++ codes " " ++ made right
operator_text schema (intersect left right out) = made out ++ codes " = intersect " ++ made left ++ codes " " ++ made right
operator_text schema (project values places out) = made out ++ codes " = project " ++ input_text schema values ++ codes " " ++ made places
operator_text schema (semi_join probe keys out) = made out ++ codes " = semijoin " ++ column_name schema probe ++ codes " " ++ input_text schema keys
operator_text schema (join probe keys left right) =
    made left ++ codes " " ++ made right ++ codes " = join " ++ input_text schema probe ++ codes " " ++ input_text schema keys
operator_text schema (group values ids extents) = made ids ++ codes " " ++ made extents ++ codes " = group " ++ input_text schema values
operator_text schema (refine before values ids extents) =
    made ids ++ codes " " ++ made extents ++ codes " = refine " ++ made before ++ codes " " ++ input_text schema values
operator_text schema (sum values ids out number operand) = made out ++ codes " = sum " ++ input_text schema values ++ ids_text ids
operator_text schema (sum_product first second ids out number) =
    made out ++ codes " = sumproduct " ++ input_text schema first ++ codes " " ++ input_text schema second ++ ids_text ids

-- `oN`, the outputs, `=`, and what makes them
abbrev pub operator_line : Schema → ℕ → Operator → List ℕ
operator_line schema number operator = codes "o" ++ decimal number ++ codes " " ++ operator_text schema operator ++ codes "\n"

-- the lines of operators that are numbered on
abbrev pub lines_from : Schema → ℕ → List Operator → List ℕ
lines_from schema number [] = []
lines_from schema number (operator ∷ more) = operator_line schema number operator ++ lines_from schema (number + 1) more

abbrev pub plan_text : Schema → Plan → List ℕ
plan_text schema plan = lines_from schema 1 plan.operators
