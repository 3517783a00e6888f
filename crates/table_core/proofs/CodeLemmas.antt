-- A test of all values, block by block.
use Rattle.std.proofs.Common.{◌≡◌, ◌∙◌, ◌+◌, ◌*◌, ◌≤◌, ℕ, Bool, true, false, ◌&&◌, List, length, take, drop, sym, ap, arith}
use Rattle.std.proofs.Math.Seq.{take-add}
use Rattle.std.proofs.lemmas.Bool.{and_from, and_left, and_right}
use Rattle.std.proofs.lemmas.List.{take-append-drop, take_all}
use Rattle.std.proofs.lemmas.List.Folds.{list_all-append}
use Rattle.std.specs.List.{list_all}
use Rattle.definitions_blocks.specs.Blocks.{block_values, block_at}

split_at : (test : ℕ → Bool) (values : List ℕ) (place count : ℕ) → list_all test (take (place + count) values) ≡ (list_all test (take place values) && list_all test (take count (drop place values)))
split_at test values place count = ap (list_all test) (take-add place count values) ∙ list_all-append test (take place values) (take count (drop place values))

-- the values up to the end of a block pass if those before it and its own do
pub passed_more : (test : ℕ → Bool) (values : List ℕ) (number : ℕ) → list_all test (take (number * block_values) values) ≡ true → list_all test (block_at values number) ≡ true
    → list_all test (take ((number + 1) * block_values) values) ≡ true
passed_more test values number before here =
    let next : (number + 1) * block_values ≡ number * block_values + block_values = omega arith in
    ap (λ n. list_all test (take n values)) next ∙ split_at test values (number * block_values) block_values
    ∙ and_from (list_all test (take (number * block_values) values)) (list_all test (block_at values number)) before here

-- not all values pass if those of a block do not
pub failed_at : (test : ℕ → Bool) (values : List ℕ) (number : ℕ) → list_all test (block_at values number) ≡ false → list_all test values ≡ false
failed_at test values number here =
    let end = number * block_values + block_values in
    let upto : list_all test (take end values) ≡ false =
    split_at test values (number * block_values) block_values ∙ and_right (list_all test (take (number * block_values) values)) (list_all test (block_at values number)) here in
    ap (list_all test) (sym (take-append-drop end values)) ∙ list_all-append test (take end values) (drop end values) ∙ and_left (list_all test (take end values)) (list_all test (drop end values)) upto

-- all pass if those of all blocks do
pub passed_all : (test : ℕ → Bool) (values : List ℕ) (number : ℕ) → length values ≤ number * block_values → list_all test (take (number * block_values) values) ≡ true → list_all test values ≡ true
passed_all test values number whole passed = ap (list_all test) (sym (take_all (number * block_values) values whole)) ∙ passed
