-- What the lanes of a row are at one place, and a list of which a part was written.
use Rattle.std.proofs.Common.{◌≡◌, ℕ, ◌+◌, ◌-◌, ◌*◌, ◌/◌, ◌%◌, ◌^◌, ◌<◌, ◌≤◌, List, ◌++◌, map, take, drop, replicate, length, get_or, bit_and, bit_or, sym, ap, ap₂, ◌∙◌, inl, inr, arith}
use lib.Lanes.{zip2}
use borrow.Rule.Slice.PartMut.{put_mid, post_of}
use Rattle.std.proofs.lemmas.Bool.{cases_lt}
use Rattle.std.proofs.lemmas.List.{get_or-take, get_or-drop, get_or_append_left, get_or-append_right, get_or-map, length-map, length-take-le}
use Rattle.std.proofs.lemmas.Simd.{get_or-zip2, length-zip2, zip2_splat}

shifted_at : (low words : List ℕ) (n offset lane : ℕ) → length words ≡ n → low ≡ map (λ a. a / 2 ^ offset) words → lane < n → get_or low lane 0 ≡ get_or words lane 0 / 2 ^ offset
shifted_at low words n offset lane long made within = ap (λ l. get_or l lane 0) made ∙ get_or-map (λ a. a / 2 ^ offset) words lane 0 0 (omega arith)

length_made : (f : ℕ → ℕ) (made words : List ℕ) (n : ℕ) → length words ≡ n → made ≡ map f words → length made ≡ n
length_made f made words n long e = ap length e ∙ length-map words f ∙ long

masked_at : (into both low masks rest : List ℕ) (n mask lane : ℕ) → length low ≡ n → masks ≡ replicate n mask → both ≡ zip2 bit_and low masks → into ≡ both ++ rest → lane < n
    → get_or into lane 0 ≡ bit_and (get_or low lane 0) mask
masked_at into both low masks rest n mask lane long splat joined stored within =
    let each : both ≡ map (λ a. bit_and a mask) low = joined ∙ ap (zip2 bit_and low) splat ∙ zip2_splat bit_and low n mask long in
    let many : length both ≡ n = length_made (λ a. bit_and a mask) both low n long each in
    ap (λ l. get_or l lane 0) stored ∙ get_or_append_left both rest 0 lane (omega arith) ∙ ap (λ l. get_or l lane 0) each ∙ get_or-map (λ a. bit_and a mask) low lane 0 0 (omega arith)

-- a lane of a row that is read from one line of words
pub one_at : (into both low masks words rest : List ℕ) (n offset mask lane : ℕ) → length words ≡ n → low ≡ map (λ a. a / 2 ^ offset) words → masks ≡ replicate n mask → both ≡ zip2 bit_and low masks
    → into ≡ both ++ rest → lane < n → get_or into lane 0 ≡ bit_and (get_or words lane 0 / 2 ^ offset) mask
one_at into both low masks words rest n offset mask lane long shifted splat joined stored within =
    masked_at into both low masks rest n mask lane (length_made (λ a. a / 2 ^ offset) low words n long shifted) splat joined stored within
    ∙ ap (λ a. bit_and a mask) (shifted_at low words n offset lane long shifted within)

-- a lane of a row that is read from two
pub two_at : (into both joined low high masks words next rest : List ℕ) (n offset up mask lane : ℕ) → length words ≡ n → length next ≡ n
    → low ≡ map (λ a. a / 2 ^ offset) words → high ≡ map (λ a. a * 2 ^ up % 2 ^ 64) next → joined ≡ zip2 bit_or low high → masks ≡ replicate n mask → both ≡ zip2 bit_and joined masks
    → into ≡ both ++ rest → lane < n → get_or into lane 0 ≡ bit_and (bit_or (get_or words lane 0 / 2 ^ offset) (get_or next lane 0 * 2 ^ up % 2 ^ 64)) mask
two_at into both joined low high masks words next rest n offset up mask lane long other down raised or splat and stored within =
    let lows : length low ≡ n = length_made (λ a. a / 2 ^ offset) low words n long down in
    let highs : length high ≡ n = length_made (λ a. a * 2 ^ up % 2 ^ 64) high next n other raised in
    let many : length joined ≡ n = ap length or ∙ length-zip2 bit_or low high (lows ∙ sym highs) ∙ lows in
    masked_at into both joined masks rest n mask lane many splat and stored within
    ∙ ap (λ a. bit_and a mask)
    (ap (λ l. get_or l lane 0) or ∙ get_or-zip2 bit_or low high lane 0 0 0 (omega arith) (omega arith)
    ∙ ap₂ bit_or (shifted_at low words n offset lane long down within) (ap (λ l. get_or l lane 0) raised ∙ get_or-map (λ a. a * 2 ^ up % 2 ^ 64) next lane 0 0 (omega arith)))

-- a lane of a row that is put above other bits
pub above_at : (made words up values : List ℕ) (n bits lane : ℕ) → length words ≡ n → length values ≡ n → up ≡ map (λ a. a * 2 ^ bits % 2 ^ 64) values → made ≡ zip2 bit_or words up → lane < n
    → get_or made lane 0 ≡ bit_or (get_or words lane 0) (get_or values lane 0 * 2 ^ bits % 2 ^ 64)
above_at made words up values n bits lane long other raised or within =
    let ups : length up ≡ n = length_made (λ a. a * 2 ^ bits % 2 ^ 64) up values n other raised in
    ap (λ l. get_or l lane 0) or ∙ get_or-zip2 bit_or words up lane 0 0 0 (omega arith) (omega arith)
    ∙ ap (bit_or (get_or words lane 0)) (ap (λ l. get_or l lane 0) raised ∙ get_or-map (λ a. a * 2 ^ bits % 2 ^ 64) values lane 0 0 (omega arith))

-- a lane of a load from a place on
pub loaded_at : (loaded values : List ℕ) (n m first lane : ℕ) → loaded ≡ take n (take m (drop first values)) → lane < n → lane < m → get_or loaded lane 0 ≡ get_or values (first + lane) 0
loaded_at loaded values n m first lane made within inside =
    ap (λ l. get_or l lane 0) made ∙ get_or-take n (take m (drop first values)) lane 0 within ∙ get_or-take m (drop first values) lane 0 inside ∙ get_or-drop first values lane 0

-- a list that is right up to a part, and in the part
pub more_done : (value : ℕ → ℕ) (whole part : List ℕ) (first n : ℕ) → first + n ≤ length whole → length part ≡ n
    → ((k : ℕ) → k < first → get_or whole k 0 ≡ value k) → ((k : ℕ) → k < n → get_or part k 0 ≡ value (first + k))
    → (k : ℕ) → k < first + n → get_or (put_mid first n whole part) k 0 ≡ value k
more_done value whole part first n inside long before here k within =
    let front : length (take first whole) ≡ first = length-take-le first whole (omega arith) in
    elim (cases_lt k first) [
      | inl early ↦ get_or_append_left (take first whole) (part ++ post_of first n whole) 0 k (omega arith) ∙ get_or-take first whole k 0 early ∙ before k early
      | inr late ↦
          let place : first + (k - first) ≡ k = omega arith in
          get_or-append_right (take first whole) (part ++ post_of first n whole) first k 0 front late
          ∙ get_or_append_left part (post_of first n whole) 0 (k - first) (omega arith) ∙ here (k - first) (omega arith) ∙ ap value place
    ]
