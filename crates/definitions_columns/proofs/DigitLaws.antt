-- The bytes of words, and numbers that are made of parts: their first parts, and numbers cut into parts.
use Rattle.std.proofs.Common.{◌≡◌, ℕ, zero, suc, ◌+◌, ◌*◌, ◌/◌, ◌%◌, ◌^◌, ◌<◌, List, [], ◌∷◌, ◌++◌, length, get_or, refl, sym, ap, ap₂, ◌∙◌, arith}
use Rattle.std.proofs.Math.Nat.{mod-eq_of_lt}
use Rattle.std.proofs.lemmas.List.{get_or_append_left, get_or-append-add}
use Rattle.std.proofs.lemmas.Nat.{pow-add, mod-pow-add}
use Rattle.definitions_blocks.specs.Words.{word_bytes, words_of}
use Rattle.definitions_blocks.proofs.BitLaws.{total}
use Rattle.definitions_blocks.proofs.WordLaws.{length-word_bytes}

-- Words.

-- byte c of a word
pub get_or-word_bytes : (value c : ℕ) → c < 8 → get_or (word_bytes value) c 0 ≡ value / 2 ^ (8 * c) % 2 ^ 8
unfolding word_bytes
get_or-word_bytes value zero within = omega arith
get_or-word_bytes value (suc zero) within = refl
get_or-word_bytes value (suc (suc zero)) within = refl
get_or-word_bytes value (suc (suc (suc zero))) within = refl
get_or-word_bytes value (suc (suc (suc (suc zero)))) within = refl
get_or-word_bytes value (suc (suc (suc (suc (suc zero))))) within = refl
get_or-word_bytes value (suc (suc (suc (suc (suc (suc zero)))))) within = refl
get_or-word_bytes value (suc (suc (suc (suc (suc (suc (suc zero))))))) within = refl
get_or-word_bytes value (suc (suc (suc (suc (suc (suc (suc (suc c)))))))) within = absurd (omega arith)

-- byte c of word i of a list
pub get_or-words_of : (values : List ℕ) (i c : ℕ) → i < length values → c < 8 → get_or (words_of values) (8 * i + c) 0 ≡ get_or values i 0 / 2 ^ (8 * c) % 2 ^ 8
get_or-words_of [] i c within low = absurd (omega arith)
get_or-words_of (value ∷ values) zero c within low =
    let place : 8 * 0 + c ≡ c = omega arith in
    ap (λ k. get_or (word_bytes value ++ words_of values) k 0) place
    ∙ get_or_append_left (word_bytes value) (words_of values) 0 c (omega (arith, length-word_bytes value)) ∙ get_or-word_bytes value c low
get_or-words_of (value ∷ values) (suc i) c within low =
    let place : 8 * suc i + c ≡ length (word_bytes value) + (8 * i + c) = omega (arith, length-word_bytes value) in
    ap (λ k. get_or (word_bytes value ++ words_of values) k 0) place
    ∙ get_or-append-add (word_bytes value) (words_of values) (8 * i + c) 0 ∙ get_or-words_of values i c (omega arith) low

-- Parts.

-- the first parts, and the ones after them
pub total-add : (p : ℕ) (f : ℕ → ℕ) (n m : ℕ) → total p f (n + m) ≡ total p (λ k. f (n + k)) m * 2 ^ (n * p) + total p f n
unfolding total
total-add p f n zero = let none : n + 0 ≡ n = omega arith in ap (total p f) none ∙ omega arith
total-add p f n (suc m) =
    let next : n + suc m ≡ suc (n + m) = omega arith in
    let rest : total p f (n + m) ≡ total p (λ k. f (n + k)) m * 2 ^ (n * p) + total p f n = total-add p f n m in
    let places : (n + m) * p ≡ m * p + n * p = omega arith in
    let power : 2 ^ ((n + m) * p) ≡ 2 ^ (m * p) * 2 ^ (n * p) = ap (λ k. 2 ^ k) places ∙ pow-add 2 (m * p) (n * p) in
    let high : f (n + m) * 2 ^ ((n + m) * p) ≡ f (n + m) * (2 ^ (m * p) * 2 ^ (n * p)) = ap (λ k. f (n + m) * k) power in
    ap (total p f) next ∙ omega arith

-- a number of so many bits, cut into parts
pub total_parts : (p n m : ℕ) → total p (λ k. n / 2 ^ (p * k) % 2 ^ p) m ≡ n % 2 ^ (m * p)
unfolding total
total_parts p n zero =
    let none : 0 * p ≡ 0 = omega arith in
    let all : n % 2 ^ 0 ≡ 0 = omega arith in
    sym (ap (λ k. n % 2 ^ k) none ∙ all)
total_parts p n (suc m) =
    let place : suc m * p ≡ p + m * p = omega arith in
    let turned : p * m ≡ m * p = omega arith in
    ap₂ (λ a b. n / 2 ^ a % 2 ^ p * 2 ^ (m * p) + b) turned (total_parts p n m) ∙ sym (mod-pow-add n p (m * p)) ∙ ap (λ k. n % 2 ^ k) (sym place)

pub total_parts_below : (p n m : ℕ) → n < 2 ^ (m * p) → total p (λ k. n / 2 ^ (p * k) % 2 ^ p) m ≡ n
total_parts_below p n m below = total_parts p n m ∙ mod-eq_of_lt below
