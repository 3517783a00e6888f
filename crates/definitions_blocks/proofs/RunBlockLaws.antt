-- A block has one encoding by its runs, bytes begin with one such block at most, and each block has an encoding.
use Rattle.std.proofs.Common.{◌≡◌, ℕ, zero, suc, ◌+◌, ◌*◌, ◌^◌, ◌<◌, ◌≤◌, List, [], ◌∷◌, ◌++◌, length, take, flat_map, replicate, refl, sym, ap, ◌∙◌, subst, arith, length-append, append_assoc}
use Rattle.std.specs.List.{AllByRecursion}
use Rattle.std.specs.Int.{from_le_bytes, w16, w64}
use Rattle.std.proofs.lemmas.List.{take_at}
use Rattle.std.proofs.lemmas.Nat.{le_bytes_2, from_le_bytes-to_le_bytes_2}
use Rattle.definitions_blocks.specs.Words.{IsWord, AreOctets, word_bytes}
use Rattle.definitions_blocks.specs.Blocks.{IsFull}
use Rattle.definitions_blocks.specs.Runs.{Run, run_values, AreRunsOf, two_bytes, run_bytes, run_count, IsRunsBlock}
use Rattle.definitions_blocks.proofs.WordLaws.{AreOctets-append, length-word_bytes, from_le_bytes-word_bytes, word_bytes-octets}
use Rattle.definitions_blocks.proofs.WordListLaws.{AreWords-rest}
use Rattle.definitions_blocks.proofs.PrefixLaws.{same_front, same_rest}
use Rattle.definitions_blocks.proofs.RunListLaws.{runs_of, AreRunsOf-runs_of, AreRunsOf-one, AreRunsOf-count, length-run_values, IsRunCount, IsFull-run_count}

-- The two bytes of a number.

pub length-two_bytes : (number : ℕ) → length (two_bytes number) ≡ 2
unfolding two_bytes
length-two_bytes number = refl

-- the number is read back
pub from_le_bytes-two_bytes : (number : ℕ) → number < 2 ^ 16 → from_le_bytes w16 (two_bytes number) ≡ number
unfolding two_bytes
from_le_bytes-two_bytes number below = from_le_bytes-to_le_bytes_2 number below

-- the bytes are those of the number that is read from them
pub two_bytes-from_le_bytes : (pair : List ℕ) → length pair ≡ 2 → AreOctets pair → two_bytes (from_le_bytes w16 pair) ≡ pair
unfolding two_bytes
two_bytes-from_le_bytes pair whole octets = le_bytes_2 pair (from_le_bytes w16 pair) whole octets refl

pub two_bytes-octets : (number : ℕ) → AreOctets (two_bytes number)
unfolding two_bytes
two_bytes-octets number zero = omega arith
two_bytes-octets number (suc zero) = omega arith
two_bytes-octets number (suc (suc i)) = omega arith

-- The bytes of runs.

-- what two numbers of a run in a file can hold
pub record RunFits (run : Run) : Type 0 where
  pub value : run.value < 2 ^ 64
  pub length : run.length ≤ 1024

word_first : (count value : ℕ) (values : List ℕ) → 0 < count → AllByRecursion IsWord (replicate count value ++ values) → IsWord value
word_first zero value values some words = absurd (omega arith)
word_first (suc count) value values some words = words.0

runs_fit : (runs : List Run) → AllByRecursion (λ run. 0 < run.length) runs → AllByRecursion IsWord (run_values runs) → length (run_values runs) ≤ 1024 → AllByRecursion RunFits runs
runs_fit [] some words short = tt
runs_fit (run ∷ runs) some words short =
    let long = length-run_values run runs in (
      record { value = word_first run.length run.value (run_values runs) some.0 words; length = omega arith },
      runs_fit runs some.1 (AreWords-rest (replicate run.length run.value) (run_values runs) words) (omega arith),
    )

-- each run of a full block is within it
pub AreRunsOf-fit : (runs : List Run) (values : List ℕ) → AreRunsOf runs values → IsFull values → AllByRecursion RunFits runs
AreRunsOf-fit runs values are full =
    runs_fit runs are.nonempty (subst (AllByRecursion IsWord) (sym are.cover) full.words) (omega (arith, ap length are.cover, full.whole))

pub length-run_bytes : (run : Run) → length (run_bytes run) ≡ 10
length-run_bytes run = omega (arith, length-append (word_bytes run.value) (two_bytes run.length), length-word_bytes run.value, length-two_bytes run.length)

pub length-runs_bytes : (runs : List Run) → length (flat_map run_bytes runs) ≡ 10 * length runs
length-runs_bytes [] = refl
length-runs_bytes (run ∷ runs) = omega (arith, length-append (run_bytes run) (flat_map run_bytes runs), length-run_bytes run, length-runs_bytes runs)

runs_bytes-octets : (runs : List Run) → AreOctets (flat_map run_bytes runs)
runs_bytes-octets [] i = omega arith
runs_bytes-octets (run ∷ runs) i =
    AreOctets-append (run_bytes run) (flat_map run_bytes runs) (AreOctets-append (word_bytes run.value) (two_bytes run.length) (word_bytes-octets run.value) (two_bytes-octets run.length)) (runs_bytes-octets runs) i

-- a run is read back from its bytes
run_bytes-one : (run other : Run) → RunFits run → RunFits other → run_bytes run ≡ run_bytes other → run ≡ other
run_bytes-one run other fits fit e =
    let same : length (word_bytes run.value) ≡ length (word_bytes other.value) = length-word_bytes run.value ∙ sym (length-word_bytes other.value) in
    let value : run.value ≡ other.value =
    sym (from_le_bytes-word_bytes run.value fits.value) ∙ ap (from_le_bytes w64) (same_front (word_bytes run.value) (word_bytes other.value) (two_bytes run.length) (two_bytes other.length) same e)
    ∙ from_le_bytes-word_bytes other.value fit.value in
    let lengths : run.length ≡ other.length =
    sym (from_le_bytes-two_bytes run.length (omega (arith, fits.length))) ∙ ap (from_le_bytes w16) (same_rest (word_bytes run.value) (word_bytes other.value) (two_bytes run.length) (two_bytes other.length) same e)
    ∙ from_le_bytes-two_bytes other.length (omega (arith, fit.length)) in
    λ i. record { value = value i; length = lengths i }

-- bytes are those of one list of runs
pub runs_bytes-one : (runs others : List Run) → AllByRecursion RunFits runs → AllByRecursion RunFits others → flat_map run_bytes runs ≡ flat_map run_bytes others → runs ≡ others
runs_bytes-one [] [] fits fit e = refl
runs_bytes-one [] (other ∷ others) fits fit e = absurd (omega (arith, ap length e, length-runs_bytes (other ∷ others)))
runs_bytes-one (run ∷ runs) [] fits fit e = absurd (omega (arith, ap length e, length-runs_bytes (run ∷ runs)))
runs_bytes-one (run ∷ runs) (other ∷ others) fits fit e =
    let same : length (run_bytes run) ≡ length (run_bytes other) = length-run_bytes run ∙ sym (length-run_bytes other) in
    let first : run ≡ other = run_bytes-one run other fits.0 fit.0 (same_front (run_bytes run) (run_bytes other) (flat_map run_bytes runs) (flat_map run_bytes others) same e) in
    let rest : runs ≡ others = runs_bytes-one runs others fits.1 fit.1 (same_rest (run_bytes run) (run_bytes other) (flat_map run_bytes runs) (flat_map run_bytes others) same e) in
    λ i. first i ∷ rest i

-- the encoding of a block by its runs
abbrev pub runs_encoding : List Run → List ℕ
runs_encoding runs = two_bytes (length runs) ++ flat_map run_bytes runs

pub length-runs_encoding : (runs : List Run) → length (runs_encoding runs) ≡ 2 + 10 * length runs
length-runs_encoding runs = omega (arith, length-append (two_bytes (length runs)) (flat_map run_bytes runs), length-two_bytes (length runs), length-runs_bytes runs)

-- how long a block's encoding is, by the number of its runs
pub IsRunsBlock-length : (values bytes : List ℕ) → IsRunsBlock values bytes → length bytes ≡ 2 + 10 * run_count values
IsRunsBlock-length values bytes is =
    ap length is.encoded ∙ length-runs_encoding is.runs ∙ ap (λ (n : ℕ). 2 + 10 * n) (AreRunsOf-count is.runs values is.are)

pub IsRunsBlock-sized : (values others a b : List ℕ) → IsRunsBlock values a → IsRunsBlock others b → run_count values ≡ run_count others → length a ≡ length b
IsRunsBlock-sized values others a b is be same = omega (arith, IsRunsBlock-length values a is, IsRunsBlock-length others b be)

pub IsRunsBlock-octets : (values bytes : List ℕ) → IsRunsBlock values bytes → AreOctets bytes
IsRunsBlock-octets values bytes is =
    subst AreOctets (sym is.encoded) (AreOctets-append (two_bytes (length is.runs)) (flat_map run_bytes is.runs) (two_bytes-octets (length is.runs)) (runs_bytes-octets is.runs))

-- a block has one encoding
pub IsRunsBlock-one : (values a b : List ℕ) → IsRunsBlock values a → IsRunsBlock values b → a ≡ b
IsRunsBlock-one values a b is be = is.encoded ∙ ap runs_encoding (AreRunsOf-one is.runs be.runs values is.are be.are) ∙ sym be.encoded

-- no encoding is a proper prefix of another, and bytes are the encoding of one block
pub IsRunsBlock-front : (values others a b x y : List ℕ) → IsRunsBlock values a → IsRunsBlock others b → a ++ x ≡ b ++ y → (a ≡ b) × (values ≡ others)
IsRunsBlock-front values others a b x y is be e =
    let heads : length (two_bytes (length is.runs)) ≡ length (two_bytes (length be.runs)) = length-two_bytes (length is.runs) ∙ sym (length-two_bytes (length be.runs)) in
    let all : two_bytes (length is.runs) ++ (flat_map run_bytes is.runs ++ x) ≡ two_bytes (length be.runs) ++ (flat_map run_bytes be.runs ++ y) =
    sym (append_assoc (two_bytes (length is.runs)) (flat_map run_bytes is.runs) x) ∙ ap (λ (s : List ℕ). s ++ x) (sym is.encoded) ∙ e ∙ ap (λ (s : List ℕ). s ++ y) be.encoded
    ∙ append_assoc (two_bytes (length be.runs)) (flat_map run_bytes be.runs) y in
    let few : IsRunCount (run_count values) = IsFull-run_count values is.full in
    let short : IsRunCount (run_count others) = IsFull-run_count others be.full in
    let count : length is.runs ≡ length be.runs =
    sym (from_le_bytes-two_bytes (length is.runs) (omega (arith, AreRunsOf-count is.runs values is.are, few.most)))
    ∙ ap (from_le_bytes w16) (same_front (two_bytes (length is.runs)) (two_bytes (length be.runs)) _ _ heads all)
    ∙ from_le_bytes-two_bytes (length be.runs) (omega (arith, AreRunsOf-count be.runs others be.are, short.most)) in
    let bodies : flat_map run_bytes is.runs ≡ flat_map run_bytes be.runs =
    same_front (flat_map run_bytes is.runs) (flat_map run_bytes be.runs) x y (omega (arith, length-runs_bytes is.runs, length-runs_bytes be.runs))
    (same_rest (two_bytes (length is.runs)) (two_bytes (length be.runs)) _ _ heads all) in
    let runs : is.runs ≡ be.runs = runs_bytes-one is.runs be.runs (AreRunsOf-fit is.runs values is.are is.full) (AreRunsOf-fit be.runs others be.are be.full) bodies in
    (is.encoded ∙ ap runs_encoding runs ∙ sym be.encoded, sym is.are.cover ∙ ap run_values runs ∙ be.are.cover)

-- each full block has an encoding
pub IsRunsBlock-encoding : (values : List ℕ) → IsFull values → IsRunsBlock values (runs_encoding (runs_of values))
IsRunsBlock-encoding values full = record { full = full; runs = runs_of values; are = AreRunsOf-runs_of values; encoded = refl }

-- the two bytes at the front
pub IsRunsBlock-head : (values bytes : List ℕ) → IsRunsBlock values bytes → from_le_bytes w16 (take 2 bytes) ≡ run_count values
IsRunsBlock-head values bytes is =
    let count : length is.runs ≡ run_count values = AreRunsOf-count is.runs values is.are in
    let few : IsRunCount (run_count values) = IsFull-run_count values is.full in
    ap (λ l. from_le_bytes w16 (take 2 l)) is.encoded
    ∙ ap (from_le_bytes w16) (take_at (two_bytes (length is.runs)) _ 2 (length-two_bytes (length is.runs)))
    ∙ from_le_bytes-two_bytes (length is.runs) (omega (arith, few.most)) ∙ count
