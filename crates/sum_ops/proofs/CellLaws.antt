-- Cells and what is added to them.
use Rattle.std.proofs.Common.{◌≡◌, ℕ, ◌+◌, ◌*◌, ◌<◌, ◌≤◌, Bool, true, false, cond, List, [], ◌∷◌, ◌++◌, length, map, get_or, set, replicate, All, take, drop, refl, add_assoc, sym, ap, ◌∙◌, subst, inl, inr, arith}
use Rattle.std.specs.Prelude.{filter, zip, nat_eq, sum, min, ◌-◌}
use Rattle.std.proofs.lemmas.Bool.{eqb-true, eqb-false, cases_lt}
use Rattle.std.proofs.lemmas.List.{same_lists, map-append, length-set, get_or-set_same, get_or-set_other, get_or_default, get_or-replicate, length-replicate, get_or-map, length-map, length-take, length-drop, take-take, take_all, drop-take, take-append-drop}
use Rattle.std.proofs.lemmas.List.Elements.{filter-append, All-same, All-take, All-drop}
use Rattle.std.proofs.lemmas.List.FromFn.{length-map-range_with_len, get_or-map-range_with_len}
use Rattle.std.proofs.lemmas.List.Sums.{sum_by-append}
use Rattle.definitions_blocks.specs.Blocks.{block_values, block_at}
use Rattle.definitions_operators.specs.Groups.{sum_with, sums_of}
use Rattle.sum_ops.specs.Cells.{limit, cell_of, AreCells, cells_after}
use Rattle.sum_ops.proofs.ZipLaws.{zip-append}

-- the cell of a sum that is added to a cell
cell_more : (a b : ℕ) → cell_of (cell_of a + b) ≡ cell_of (a + b)
cell_more a b = omega arith

pub sum_with-append : (values ids more others : List ℕ) (id : ℕ) → length values ≡ length ids
    → sum_with (values ++ more) (ids ++ others) id ≡ sum_with values ids id + sum_with more others id
sum_with-append values ids more others id same =
    let test : ℕ × ℕ → Bool = λ pair. nat_eq pair.1 id in
    let value : ℕ × ℕ → ℕ = λ pair. pair.0 in
    ap (λ (pairs : List (ℕ × ℕ)). sum (map value (filter test pairs))) (zip-append values ids more others same)
    ∙ ap (λ (pairs : List (ℕ × ℕ)). sum (map value pairs)) (filter-append test (zip values ids) (zip more others))
    ∙ ap sum (map-append value (filter test (zip values ids)) (filter test (zip more others)))
    ∙ sum_by-append (λ (x : ℕ). x) (map value (filter test (zip values ids))) (map value (filter test (zip more others)))

pub length-cells_after : (cells values ids : List ℕ) → length (cells_after cells values ids) ≡ length cells
length-cells_after cells values ids = length-map-range_with_len (λ (id : ℕ). cell_of (get_or cells id 0 + sum_with values ids id)) 0 (length cells)

pub cells_after-at : (cells values ids : List ℕ) (id d : ℕ) → id < length cells → get_or (cells_after cells values ids) id d ≡ cell_of (get_or cells id 0 + sum_with values ids id)
cells_after-at cells values ids id d within =
    get_or-map-range_with_len (λ (k : ℕ). cell_of (get_or cells k 0 + sum_with values ids k)) 0 (length cells) id id d within (omega arith)

cells_append_at : (cells values ids more others : List ℕ) → length values ≡ length ids → (id d : ℕ) → id < length cells
    → get_or (cells_after (cells_after cells values ids) more others) id d ≡ get_or (cells_after cells (values ++ more) (ids ++ others)) id d
cells_append_at cells values ids more others same id d within =
    let once = cells_after cells values ids in
    let long : length once ≡ length cells = length-cells_after cells values ids in
    let first : get_or once id 0 ≡ cell_of (get_or cells id 0 + sum_with values ids id) = cells_after-at cells values ids id 0 within in
    cells_after-at once more others id d (omega arith)
    ∙ ap (λ (n : ℕ). cell_of (n + sum_with more others id)) first
    ∙ cell_more (get_or cells id 0 + sum_with values ids id) (sum_with more others id)
    ∙ ap cell_of (add_assoc (get_or cells id 0) (sum_with values ids id) (sum_with more others id) ∙ ap (λ (n : ℕ). get_or cells id 0 + n) (sym (sum_with-append values ids more others id same)))
    ∙ sym (cells_after-at cells (values ++ more) (ids ++ others) id d within)

-- values that are added in two goes
pub cells_after-append : (cells values ids more others : List ℕ) → length values ≡ length ids
    → cells_after (cells_after cells values ids) more others ≡ cells_after cells (values ++ more) (ids ++ others)
cells_after-append cells values ids more others same =
    let once = cells_after cells values ids in
    let left : length (cells_after once more others) ≡ length cells = length-cells_after once more others ∙ length-cells_after cells values ids in
    same_lists (cells_after once more others) (cells_after cells (values ++ more) (ids ++ others)) (left ∙ sym (length-cells_after cells (values ++ more) (ids ++ others)))
    (λ (k d : ℕ) (h : k < length (cells_after once more others)). cells_append_at cells values ids more others same k d (omega arith))

pub cells_after-none : (cells : List ℕ) → AreCells cells → cells_after cells [] [] ≡ cells
cells_after-none cells small =
    same_lists (cells_after cells [] []) cells (length-cells_after cells [] [])
    (λ (k d : ℕ) (h : k < length (cells_after cells [] [])).
    let within : k < length cells = omega (arith, length-cells_after cells [] []) in
    let here : get_or cells k 0 ≤ limit = small k in
    let capped : cell_of (get_or cells k 0 + 0) ≡ get_or cells k 0 = omega arith in
    cells_after-at cells [] [] k d within ∙ capped ∙ get_or_default cells k 0 d within)

sum_with-one : (value id k : ℕ) → sum_with (value ∷ []) (id ∷ []) k ≡ cond (nat_eq id k) value 0
sum_with-one value id k = by (nat_eq id k)
  where
    by : (b : Bool) → sum (map (λ pair. pair.0) (cond b ((value, id) ∷ []) (let none : List (ℕ × ℕ) = [] in none))) ≡ cond b value 0
    by true = omega arith
    by false = refl

pub cells_after-one : (cells : List ℕ) (value id : ℕ) → AreCells cells → id < length cells
    → cells_after cells (value ∷ []) (id ∷ []) ≡ set cells id (cell_of (get_or cells id 0 + value))
cells_after-one cells value id small within =
    let new = cell_of (get_or cells id 0 + value) in
    same_lists (cells_after cells (value ∷ []) (id ∷ [])) (set cells id new) (length-cells_after cells (value ∷ []) (id ∷ []) ∙ sym (length-set cells id new))
    (λ (k d : ℕ) (h : k < length (cells_after cells (value ∷ []) (id ∷ []))).
    let inside : k < length cells = omega (arith, length-cells_after cells (value ∷ []) (id ∷ [])) in
    let here : get_or cells k 0 ≤ limit = small k in
    cells_after-at cells (value ∷ []) (id ∷ []) k d inside
    ∙ ap (λ (n : ℕ). cell_of (get_or cells k 0 + n)) (sum_with-one value id k)
    ∙ one_cell cells value id k d small within inside (nat_eq id k) refl)
  where
    one_cell : (cells : List ℕ) (value id k d : ℕ) → AreCells cells → id < length cells → k < length cells → (b : Bool) → nat_eq id k ≡ b
        → cell_of (get_or cells k 0 + cond b value 0) ≡ get_or (set cells id (cell_of (get_or cells id 0 + value))) k d
    one_cell cells value id k d small within inside true e =
        let same : id ≡ k = eqb-true id k e in
        ap (λ (n : ℕ). cell_of (get_or cells n 0 + value)) (sym same)
        ∙ sym (ap (λ (n : ℕ). get_or (set cells id (cell_of (get_or cells id 0 + value))) n d) (sym same) ∙ get_or-set_same cells id (cell_of (get_or cells id 0 + value)) d within)
    one_cell cells value id k d small within inside false e =
        let other : k ≡ id → ⊥ = λ (h : k ≡ id). eqb-false id k e (sym h) in
        let here : get_or cells k 0 ≤ limit = small k in
        let capped : cell_of (get_or cells k 0 + 0) ≡ get_or cells k 0 = omega arith in
        capped ∙ get_or_default cells k 0 d inside ∙ sym (get_or-set_other cells id k (cell_of (get_or cells id 0 + value)) d other)

cells_zero_at : (n : ℕ) (values ids : List ℕ) (k d : ℕ) → k < n → get_or (cells_after (replicate n 0) values ids) k d ≡ get_or (map cell_of (sums_of values ids n)) k d
cells_zero_at n values ids k d within =
    let zeros : List ℕ = replicate n 0 in
    let long : length zeros ≡ n = length-replicate n 0 in
    let sums : length (sums_of values ids n) ≡ n = length-map-range_with_len (sum_with values ids) 0 n in
    cells_after-at zeros values ids k d (omega arith)
    ∙ ap (λ (z : ℕ). cell_of (z + sum_with values ids k)) (get_or-replicate n k 0 0 within)
    ∙ ap cell_of (omega arith ∙ sym (get_or-map-range_with_len (sum_with values ids) 0 n k k 0 within (omega arith)))
    ∙ sym (get_or-map cell_of (sums_of values ids n) k 0 d (omega arith))

-- from zeros on, the cells are those of the sums
pub cells_after-start : (n : ℕ) (values ids : List ℕ) → cells_after (replicate n 0) values ids ≡ map cell_of (sums_of values ids n)
cells_after-start n values ids =
    let left : length (cells_after (replicate n 0) values ids) ≡ n = length-cells_after (replicate n 0) values ids ∙ length-replicate n 0 in
    let right : length (map cell_of (sums_of values ids n)) ≡ n = length-map (sums_of values ids n) cell_of ∙ length-map-range_with_len (sum_with values ids) 0 n in
    same_lists (cells_after (replicate n 0) values ids) (map cell_of (sums_of values ids n)) (left ∙ sym right)
    (λ (k d : ℕ) (h : k < length (cells_after (replicate n 0) values ids)). cells_zero_at n values ids k d (omega arith))

-- ---- a block at a time

pub same_take : (n : ℕ) (xs ys : List ℕ) → length xs ≡ length ys → length (take n xs) ≡ length (take n ys)
same_take n xs ys e = length-take n xs ∙ ap (λ (m : ℕ). min n m) e ∙ sym (length-take n ys)

take_add : (m n : ℕ) (xs : List ℕ) → take m xs ++ take n (drop m xs) ≡ take (m + n) xs
take_add m n xs =
    ap (λ (front : List ℕ). front ++ take n (drop m xs)) (sym (take-take m (m + n) xs (omega arith)))
    ∙ ap (λ (back : List ℕ). take m (take (m + n) xs) ++ back) (sym (drop-take m n xs))
    ∙ take-append-drop m (take (m + n) xs)

pub take_block : (values : List ℕ) (number : ℕ) → take (number * block_values) values ++ block_at values number ≡ take ((number + 1) * block_values) values
take_block values number = take_add (number * block_values) block_values values ∙ ap (λ (n : ℕ). take n values) (omega arith)

pub block_ids : (ids block : List ℕ) (number groups cells : ℕ) → block ≡ block_at ids number → groups ≡ cells → All (λ id. id < groups) ids → All (λ id. id < cells) block
block_ids ids block number groups cells is same all =
    subst (λ (n : ℕ). All (λ id. id < n) block) same
    (All-same (λ id. id < groups) block (block_at ids number) is (All-take (λ id. id < groups) block_values (drop (number * block_values) ids) (All-drop (λ id. id < groups) (number * block_values) ids all)))

-- ---- totals

-- numbers that have one cell add the same to a cell
pub cell_add : (start total other : ℕ) → cell_of total ≡ cell_of other → cell_of (start + total) ≡ cell_of (start + other)
cell_add start total other same = omega arith

-- a total and a number more, of which each may be the lesser of itself and 2^64
pub cell_step : (total other more : ℕ) → cell_of total ≡ cell_of other → cell_of (total + cell_of more) ≡ cell_of (other + more)
cell_step total other more same = omega arith

-- a total that is added to a cell in two goes
pub cell_go_on : (start before more total : ℕ) → cell_of total ≡ cell_of more → cell_of (cell_of (start + before) + total) ≡ cell_of (start + (before + more))
cell_go_on start before more total same = omega arith

pub sum-block : (number : ℕ) (values : List ℕ) → sum (take (number * block_values) values) + sum (block_at values number) ≡ sum (take ((number + 1) * block_values) values)
sum-block number values =
    sym (sum_by-append (λ (x : ℕ). x) (take (number * block_values) values) (block_at values number)) ∙ ap sum (take_block values number)

-- the values of a slice that ends with the block, or with the list
pub block-slice : (number count : ℕ) (values : List ℕ) → count ≡ min block_values (length values - number * block_values)
    → take count (drop (number * block_values) values) ≡ block_at values number
block-slice number count values is =
    let rest = drop (number * block_values) values in
    let left : length rest ≡ length values - number * block_values = length-drop (number * block_values) values in
    elim (cases_lt (length rest) block_values) [
      | inl short ↦ take_all count rest (omega arith) ∙ sym (take_all block_values rest (omega arith))
      | inr long ↦ let whole : count ≡ block_values = omega arith in ap (λ (n : ℕ). take n rest) whole
    ]

-- the one cell with a block's total more, or with a number that has the same cell
pub cell-block : (sums values : List ℕ) (start number total : ℕ) → sums ≡ cell_of (start + sum (take (number * block_values) values)) ∷ []
    → cell_of total ≡ cell_of (sum (block_at values number)) → cell_of (get_or sums 0 0 + total) ∷ [] ≡ cell_of (start + sum (take ((number + 1) * block_values) values)) ∷ []
cell-block sums values start number total is same =
    ap (λ (cell : ℕ). cell ∷ [])
    (ap (λ (l : List ℕ). cell_of (get_or l 0 0 + total)) is
    ∙ cell_go_on start (sum (take (number * block_values) values)) (sum (block_at values number)) total same
    ∙ ap (λ (n : ℕ). cell_of (start + n)) (sum-block number values))

-- the one cell once all values are read
pub cell-all : (sums values : List ℕ) (start count : ℕ) → length values ≤ count → sums ≡ cell_of (start + sum (take count values)) ∷ [] → sums ≡ cell_of (start + sum values) ∷ []
cell-all sums values start count all is = is ∙ ap (λ (l : List ℕ). cell_of (start + sum l) ∷ []) (take_all count values all)
