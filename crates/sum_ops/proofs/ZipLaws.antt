-- Two lists side by side, and products row by row.
use Rattle.std.proofs.Common.{◌≡◌, ℕ, zero, suc, ◌+◌, ◌*◌, ◌<◌, List, [], ◌∷◌, ◌++◌, length, map, take, drop, get_or, refl, sym, ap, ◌∙◌, arith}
use Rattle.std.specs.Prelude.{zip, sum, min, ◌-◌}
use Rattle.std.specs.List.{drop-map}
use Rattle.std.proofs.lemmas.List.{take-map, length-map, length-take, length-drop}
use Rattle.std.proofs.lemmas.List.Sums.{sum_by_more}
use Rattle.definitions_blocks.specs.Blocks.{block_values, block_at}
use Rattle.definitions_operators.specs.Groups.{products_of}
use Rattle.definitions_operators.proofs.NumberingLaws.{length-zip}

pub zip-append : {X Y : Type 0} (xs : List X) (us : List Y) (ys : List X) (vs : List Y) → length xs ≡ length us → zip (xs ++ ys) (us ++ vs) ≡ zip xs us ++ zip ys vs
zip-append [] [] ys vs e = refl
zip-append [] (u ∷ us) ys vs e = absurd (omega arith)
zip-append (x ∷ xs) [] ys vs e = absurd (omega arith)
zip-append {X} {Y} (x ∷ xs) (u ∷ us) ys vs e = ap (λ (rest : List (X × Y)). (x, u) ∷ rest) (zip-append xs us ys vs (omega arith))

zip-none : (xs : List ℕ) → (let none : List ℕ = [] in zip xs none) ≡ []
zip-none [] = refl
zip-none (x ∷ xs) = refl

take-zip : (n : ℕ) (xs ys : List ℕ) → take n (zip xs ys) ≡ zip (take n xs) (take n ys)
take-zip zero xs ys = refl
take-zip (suc n) [] ys = refl
take-zip (suc n) (x ∷ xs) [] = refl
take-zip (suc n) (x ∷ xs) (y ∷ ys) = ap (λ (ps : List (ℕ × ℕ)). (x, y) ∷ ps) (take-zip n xs ys)

drop-zip : (n : ℕ) (xs ys : List ℕ) → drop n (zip xs ys) ≡ zip (drop n xs) (drop n ys)
drop-zip zero xs ys = refl
drop-zip (suc n) [] ys = refl
drop-zip (suc n) (x ∷ xs) [] = sym (zip-none (drop n xs))
drop-zip (suc n) (x ∷ xs) (y ∷ ys) = drop-zip n xs ys

abbrev product : ℕ × ℕ → ℕ
product pair = pair.0 * pair.1

take-products_of : (n : ℕ) (xs ys : List ℕ) → take n (products_of xs ys) ≡ products_of (take n xs) (take n ys)
take-products_of n xs ys = take-map product n (zip xs ys) ∙ ap (map product) (take-zip n xs ys)

drop-products_of : (n : ℕ) (xs ys : List ℕ) → drop n (products_of xs ys) ≡ products_of (drop n xs) (drop n ys)
drop-products_of n xs ys = drop-map product n (zip xs ys) ∙ ap (map product) (drop-zip n xs ys)

-- the products of two blocks are the block of the products
pub products_of-block : (xs ys : List ℕ) (number : ℕ) → products_of (block_at xs number) (block_at ys number) ≡ block_at (products_of xs ys) number
products_of-block xs ys number =
    sym (take-products_of block_values (drop (number * block_values) xs) (drop (number * block_values) ys)) ∙ ap (take block_values) (sym (drop-products_of (number * block_values) xs ys))

pub length-products_of : (xs ys : List ℕ) → length xs ≡ length ys → length (products_of xs ys) ≡ length ys
length-products_of xs ys e = length-map (zip xs ys) product ∙ length-zip xs ys e

pub products_of-at : (xs ys : List ℕ) (k : ℕ) → length xs ≡ length ys → k < length ys → get_or (products_of xs ys) k 0 ≡ get_or xs k 0 * get_or ys k 0
products_of-at [] [] k e h = absurd (omega arith)
products_of-at [] (y ∷ ys) k e h = absurd (omega arith)
products_of-at (x ∷ xs) [] k e h = absurd (omega arith)
products_of-at (x ∷ xs) (y ∷ ys) zero e h = refl
products_of-at (x ∷ xs) (y ∷ ys) (suc k) e h = products_of-at xs ys k (omega arith) (omega arith)

-- the sum of the products so far, and of one row more
pub sum-products_of : (xs ys : List ℕ) (k : ℕ) → length xs ≡ length ys → k < length ys
    → sum (take (k + 1) (products_of xs ys)) ≡ sum (take k (products_of xs ys)) + get_or xs k 0 * get_or ys k 0
sum-products_of xs ys k e within =
    let long : length (products_of xs ys) ≡ length ys = length-products_of xs ys e in
    sum_by_more (λ (x : ℕ). x) (products_of xs ys) k 0 (omega arith) ∙ ap (λ (n : ℕ). sum (take k (products_of xs ys)) + n) (products_of-at xs ys k e within)

pub same_block : (xs ys : List ℕ) (number : ℕ) → length xs ≡ length ys → length (block_at xs number) ≡ length (block_at ys number)
same_block xs ys number e =
    length-take block_values (drop (number * block_values) xs)
    ∙ ap (λ (n : ℕ). min block_values n) (length-drop (number * block_values) xs ∙ ap (λ (n : ℕ). n - number * block_values) e ∙ sym (length-drop (number * block_values) ys))
    ∙ sym (length-take block_values (drop (number * block_values) ys))
