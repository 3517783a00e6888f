-- Running sums, rows of sums, and what the lanes are at one place.
use Rattle.std.proofs.Common.{◌≡◌, ℕ, ◌+◌, ◌-◌, ◌<◌, ◌≤◌, List, [], ◌∷◌, ◌++◌, set, take, drop, length, get_or, sym, ap, ap₂, ◌∙◌, inl, inr, arith, append_assoc}
use borrow.Rule.Slice.PartMut.{put_mid, post_of}
use Rattle.std.proofs.lemmas.Bool.{cases_lt}
use Rattle.std.proofs.lemmas.List.{get_or-take, get_or-drop, get_or_append_left, get_or-append-add, length-take-le, length-take, length-drop, take_more_set, drop-set-lt, drop_more, take_all, drop_all, append-nil}
use Rattle.definitions_blocks.proofs.LaggedSumLaws.{sums_of}
use Rattle.definitions_blocks.specs.Differences.{wrapped_sum}

-- one step of a running sum
pub running : (s : List ℕ) (i sum : ℕ) → i < length s
    → take (i + 1) (set s i (wrapped_sum (get_or s i 0) sum)) ++ sums_of (drop (i + 1) (set s i (wrapped_sum (get_or s i 0) sum))) (wrapped_sum (get_or s i 0) sum ∷ []) ≡ take i s ++ sums_of (drop i s) (sum ∷ [])
running s i sum within =
    let y = wrapped_sum (get_or s i 0) sum in
    ap₂ (λ a b. a ++ sums_of b (y ∷ [])) (take_more_set s i y within) (drop-set-lt (i + 1) s i y (omega arith))
    ∙ append_assoc (take i s) (y ∷ []) (sums_of (drop (i + 1) s) (y ∷ []))
    ∙ ap (λ l. take i s ++ sums_of l (sum ∷ [])) (sym (drop_more s i 0 within))

pub running_done : (s : List ℕ) (i sum : ℕ) → length s ≤ i → take i s ++ sums_of (drop i s) (sum ∷ []) ≡ s
running_done s i sum past = ap₂ (λ a b. a ++ sums_of b (sum ∷ [])) (take_all i s past) (drop_all i s past) ∙ append-nil s

-- a group of lanes more is summed
pub more_rows : (old new differences : List ℕ) (first lanes : ℕ) → lanes ≤ 16
    → ((lane : ℕ) → lane < lanes → get_or new (first + 16 + lane) 0 ≡ wrapped_sum (get_or old (first + 16 + lane) 0) (get_or old (first + lane) 0))
    → ((place : ℕ) → place < first + 16 → get_or new place 0 ≡ get_or old place 0)
    → ((k : ℕ) → k < first → get_or old (16 + k) 0 ≡ wrapped_sum (get_or differences (16 + k) 0) (get_or old k 0))
    → ((k : ℕ) → 16 + first ≤ k → get_or old k 0 ≡ get_or differences k 0)
    → (k : ℕ) → k < first + lanes → get_or new (16 + k) 0 ≡ wrapped_sum (get_or differences (16 + k) 0) (get_or new k 0)
more_rows old new differences first lanes few added below late rest k within =
    let same : get_or new k 0 ≡ get_or old k 0 = below k (omega arith) in
    elim (cases_lt k first) [
      | inl early ↦ below (16 + k) (omega arith) ∙ late k early ∙ ap (wrapped_sum (get_or differences (16 + k) 0)) (sym same)
      | inr past ↦
          let place : first + 16 + (k - first) ≡ 16 + k = omega arith in
          let earlier : first + (k - first) ≡ k = omega arith in
          ap (λ n. get_or new n 0) (sym place) ∙ added (k - first) (omega arith)
          ∙ ap₂ (λ n m. wrapped_sum (get_or old n 0) (get_or old m 0)) place earlier
          ∙ ap₂ wrapped_sum (rest (16 + k) (omega arith)) (sym same)
    ]

-- a lane of a load from a place on
pub loaded_at : (loaded values : List ℕ) (n m first lane : ℕ) → loaded ≡ take n (take m (drop first values)) → lane < n → lane < m → get_or loaded lane 0 ≡ get_or values (first + lane) 0
loaded_at loaded values n m first lane made within inside =
    ap (λ l. get_or l lane 0) made ∙ get_or-take n (take m (drop first values)) lane 0 within ∙ get_or-take m (drop first values) lane 0 inside ∙ get_or-drop first values lane 0

-- a place in the part of a list that was written
pub part_at : (whole part : List ℕ) (first n lane : ℕ) → first + n ≤ length whole → lane < length part → get_or (put_mid first n whole part) (first + lane) 0 ≡ get_or part lane 0
part_at whole part first n lane inside within =
    let front : length (take first whole) ≡ first = length-take-le first whole (omega arith) in
    ap (λ m. get_or (take first whole ++ (part ++ post_of first n whole)) (m + lane) 0) (sym front)
    ∙ get_or-append-add (take first whole) (part ++ post_of first n whole) lane 0 ∙ get_or_append_left part (post_of first n whole) 0 lane within

pub lanes_of : (loaded values : List ℕ) (n m first : ℕ) → loaded ≡ take n (take m (drop first values)) → n ≤ m → first + m ≤ length values → length loaded ≡ n
lanes_of loaded values n m first made few inside =
    ap length made ∙ length-take-le n (take m (drop first values)) (omega (arith, length-take m (drop first values), length-drop first values))
