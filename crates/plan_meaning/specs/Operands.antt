-- What operators may count on when a plan runs: their operands.
use Rattle.std.specs.Prelude.{ℕ, ◌+◌, ◌≡◌, ◌≤◌, ◌<◌, ◌++◌, false, List, [], ◌∷◌, length, Option, Some, None, ⊤}
use Rattle.std.specs.List.{All}
use Rattle.definitions_operators.specs.Positions.{Rises}
use Rattle.plan_core.specs.declared.plans.Input.{Input}
use Rattle.plan_core.specs.declared.plans.Input.TheVariants as input
use Rattle.plan_core.specs.Plans.{Operator, select, union, intersect, project, semi_join, join, group, refine, sum, sum_product}
use Rattle.definitions_blocks.specs.Columns.{max_rows}
use Rattle.plan_meaning.specs.StoredLists.{StoredLists}
use Rattle.plan_meaning.specs.Columns.{made_column, input_of, outputs, is_too_large}

-- a list that a column can hold
abbrev pub IsShortList : List ℕ → Type 0
IsShortList list = length list ≤ max_rows

-- # Inputs and outputs by number

-- one of the columns made so far
abbrev pub IsMade : ℕ → ℕ → Type 0
IsMade count number = (1 ≤ number) × (number ≤ count)

-- a base column, or one of the columns made so far
abbrev pub IsReadable : ℕ → Input → Type 0
IsReadable count (input.Base id) = ⊤
IsReadable count (input.Made number) = IsMade count number

-- ids, and the extents that follow them
abbrev pub AreIds : ℕ → Option ℕ → Type 0
AreIds count None = ⊤
AreIds count (Some ids) = IsMade count ids × IsMade count (ids + 1)

-- the next number
abbrev pub IsNext : ℕ → ℕ → Type 0
IsNext count number = number ≡ count + 1

-- an operator reads columns that were made before it, and its outputs have the next numbers
abbrev pub IsNumbered : ℕ → Operator → Type 0
IsNumbered count (select id test out) = IsNext count out
IsNumbered count (union left right out) = IsMade count left × IsMade count right × IsNext count out
IsNumbered count (intersect left right out) = IsMade count left × IsMade count right × IsNext count out
IsNumbered count (project values places out) = IsReadable count values × IsMade count places × IsNext count out
IsNumbered count (semi_join probe keys out) = IsReadable count keys × IsNext count out
IsNumbered count (join probe keys left right) = IsReadable count probe × IsReadable count keys × IsNext count left × (right ≡ count + 2)
IsNumbered count (group values ids extents) = IsReadable count values × IsNext count ids × (extents ≡ count + 2)
IsNumbered count (refine before values ids extents) = IsMade count before × IsReadable count values × IsNext count ids × (extents ≡ count + 2)
IsNumbered count (sum values ids out number operand) = IsReadable count values × AreIds count ids × IsNext count out
IsNumbered count (sum_product first second ids out number) = IsReadable count first × IsReadable count second × AreIds count ids × IsNext count out

-- # Operands

-- each id is that of one of the groups
abbrev pub HasIds : ℕ → List (List ℕ) → Option ℕ → Type 0
HasIds rows columns None = ⊤
HasIds rows columns (Some ids) =
    (length (made_column columns ids) ≡ rows) × All (λ id. id < length (made_column columns (ids + 1))) (made_column columns ids)

-- Places are in range, set operands rise, and what is grouped or summed has a value for each of the joined rows.
abbrev pub HasOperands : ℕ → StoredLists → List (List ℕ) → Operator → Type 0
HasOperands rows stored columns (select id test out) = ⊤
HasOperands rows stored columns (union left right out) = Rises (made_column columns left) × Rises (made_column columns right)
HasOperands rows stored columns (intersect left right out) = Rises (made_column columns left) × Rises (made_column columns right)
HasOperands rows stored columns (project values places out) = All (λ place. place < length (input_of stored columns values)) (made_column columns places)
HasOperands rows stored columns (semi_join probe keys out) = ⊤
HasOperands rows stored columns (join probe keys left right) = ⊤
HasOperands rows stored columns (group values ids extents) = length (input_of stored columns values) ≡ rows
HasOperands rows stored columns (refine before values ids extents) =
    (length (input_of stored columns values) ≡ rows) × (length (made_column columns before) ≡ rows)
HasOperands rows stored columns (sum values ids out number operand) = (length (input_of stored columns values) ≡ rows) × HasIds rows columns ids
HasOperands rows stored columns (sum_product first second ids out number) =
    (length (input_of stored columns first) ≡ rows) × (length (input_of stored columns second) ≡ rows) × HasIds rows columns ids

-- an operator can run: its inputs are there, and it has its operands
pub record CanRun (rows : ℕ) (stored : StoredLists) (columns : List (List ℕ)) (operator : Operator) : Type 0 where
  pub numbered : IsNumbered (length columns) operator
  pub operands : HasOperands rows stored columns operator

-- Each operator can run, up to and including the first Join that is too large, and the lists before that Join's own are not too long.
abbrev pub MetSoFar : ℕ → StoredLists → List (List ℕ) → List Operator → Type 0
MetSoFar rows stored columns [] = ⊤
MetSoFar rows stored columns (operator ∷ operators) =
    CanRun rows stored columns operator
    × (is_too_large stored columns operator ≡ false →
    All IsShortList (outputs stored columns operator) × MetSoFar rows stored (columns ++ outputs stored columns operator) operators)
