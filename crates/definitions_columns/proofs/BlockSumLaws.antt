-- Sums over the whole blocks of a list, and how they grow.
use Rattle.std.proofs.Common.{◌≡◌, ℕ, zero, suc, ◌+◌, ◌-◌, ◌*◌, ◌%◌, ◌<◌, ◌≤◌, List, ◌++◌, length, take, drop, refl, ap, ap₂, ◌∙◌, arith, length-append}
use Rattle.std.proofs.Math.Seq.{drop-append-add}
use Rattle.std.proofs.lemmas.List.{take_at, take_all, take-append-le, drop-append-le, length-drop}
use Rattle.definitions_blocks.specs.Blocks.{block_values, block_at}
use Rattle.definitions_columns.specs.Sizes.{sum_blocks, whole_count}

-- a block that lies in the front of a list is the front's
pub block_at-front : (values rest : List ℕ) (n : ℕ) → (n + 1) * block_values ≤ length values → block_at (values ++ rest) n ≡ block_at values n
block_at-front values rest n within =
    ap (take block_values) (drop-append-le (n * block_values) values rest (omega arith))
    ∙ take-append-le block_values (drop (n * block_values) values) rest (omega (arith, length-drop (n * block_values) values))

-- the blocks behind the first one
pub block_at-behind : (block rest : List ℕ) (n : ℕ) → length block ≡ block_values → block_at (block ++ rest) (n + 1) ≡ block_at rest n
block_at-behind block rest n long =
    let place : (n + 1) * block_values ≡ length block + n * block_values = omega (arith, long) in
    ap (take block_values) (ap (λ m. drop m (block ++ rest)) place ∙ drop-append-add block rest (n * block_values))

-- the sum over the blocks in the front of a list is the front's
pub sum_blocks-front : (number_of : List ℕ → ℕ) (values rest : List ℕ) (n : ℕ) → n * block_values ≤ length values → sum_blocks number_of (values ++ rest) n ≡ sum_blocks number_of values n
sum_blocks-front number_of values rest zero within = refl
sum_blocks-front number_of values rest (suc n) within =
    ap₂ (λ (a b : ℕ). a + b) (sum_blocks-front number_of values rest n (omega arith)) (ap number_of (block_at-front values rest n (omega arith)))

-- the sum over a block and those behind it
pub sum_blocks-first : (number_of : List ℕ → ℕ) (block rest : List ℕ) (n : ℕ) → length block ≡ block_values → sum_blocks number_of (block ++ rest) (suc n) ≡ number_of block + sum_blocks number_of rest n
sum_blocks-first number_of block rest zero long =
    let first : block_at (block ++ rest) 0 ≡ block = take_at block rest block_values long in
    omega (arith, ap number_of first)
sum_blocks-first number_of block rest (suc n) long =
    let place : suc n ≡ n + 1 = omega arith in
    let behind : block_at (block ++ rest) (suc n) ≡ block_at rest n = ap (block_at (block ++ rest)) place ∙ block_at-behind block rest n long in
    omega (arith, sum_blocks-first number_of block rest n long, ap number_of behind)

-- a sum over fewer blocks is no greater
pub sum_blocks-fewer : (number_of : List ℕ → ℕ) (values : List ℕ) (n m : ℕ) → sum_blocks number_of values n ≤ sum_blocks number_of values (m + n)
sum_blocks-fewer number_of values n zero = omega (arith, ap (sum_blocks number_of values) (let e : 0 + n ≡ n = omega arith in e))
sum_blocks-fewer number_of values n (suc m) =
    let more : suc m + n ≡ suc (m + n) = omega arith in
    omega (arith, sum_blocks-fewer number_of values n m, ap (sum_blocks number_of values) more)

-- one block more
pub sum_blocks-push : (number_of : List ℕ → ℕ) (values block : List ℕ) → length values % block_values ≡ 0 → length block ≡ block_values
    → sum_blocks number_of (values ++ block) (whole_count (values ++ block)) ≡ sum_blocks number_of values (whole_count values) + number_of block
sum_blocks-push number_of values block whole full =
    let n = whole_count values in
    let count : whole_count (values ++ block) ≡ suc n = omega (arith, length-append values block) in
    let place : n * block_values ≡ length values + 0 = omega arith in
    let last : block_at (values ++ block) n ≡ block =
    ap (take block_values) (ap (λ m. drop m (values ++ block)) place ∙ drop-append-add values block 0) ∙ take_all block_values block (omega (arith, full)) in
    omega (arith, ap (sum_blocks number_of (values ++ block)) count, sum_blocks-front number_of values block n (omega arith), ap number_of last)

-- some values more, but no whole block
pub sum_blocks-tail : (number_of : List ℕ → ℕ) (values tail : List ℕ) → length values % block_values + length tail < block_values
    → sum_blocks number_of (values ++ tail) (whole_count (values ++ tail)) ≡ sum_blocks number_of values (whole_count values)
sum_blocks-tail number_of values tail short =
    let count : whole_count (values ++ tail) ≡ whole_count values = omega (arith, length-append values tail) in
    ap (sum_blocks number_of (values ++ tail)) count ∙ sum_blocks-front number_of values tail (whole_count values) (omega arith)

-- a sum over the whole blocks of a list is no less than that of its front
pub sum_blocks-rise : (number_of : List ℕ → ℕ) (values rest : List ℕ)
    → sum_blocks number_of values (whole_count values) ≤ sum_blocks number_of (values ++ rest) (whole_count (values ++ rest))
sum_blocks-rise number_of values rest =
    let n = whole_count values in
    let more = whole_count (values ++ rest) in
    let rises : n ≤ more = omega (arith, length-append values rest) in
    let sum : more - n + n ≡ more = omega arith in
    omega (arith, sum_blocks-front number_of values rest n (omega arith), sum_blocks-fewer number_of (values ++ rest) n (more - n), ap (sum_blocks number_of (values ++ rest)) sum)
