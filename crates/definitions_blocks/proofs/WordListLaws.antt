-- Lists of 64-bit numbers: their places, their parts, and the words that bytes are.
use Rattle.std.proofs.Common.{◌≡◌, ℕ, zero, suc, ◌+◌, ◌*◌, ◌^◌, ◌<◌, List, [], ◌∷◌, ◌++◌, length, take, drop, get_or, replicate, sym, ap, ◌∙◌, subst, arith}
use Rattle.std.specs.Int.{from_le_bytes, w64}
use Rattle.std.specs.List.{AllByRecursion}
use Rattle.std.proofs.lemmas.List.{length-take, length-drop, take-append-drop, drop-drop, nil_from_length}
use Rattle.definitions_blocks.specs.Words.{IsWord, AreOctets, word_bytes, words_of, word_of}
use Rattle.definitions_blocks.specs.Blocks.{IsFull, block_values}
use Rattle.definitions_blocks.proofs.BitLaws.{table, length-table, get_or-table}
use Rattle.definitions_blocks.proofs.WordLaws.{AreOctets-take, AreOctets-drop, word_bytes-from_le_bytes, from_le_bytes-word}

-- Words by their places.

pub words_at : (values : List ℕ) → AllByRecursion IsWord values → (i : ℕ) → get_or values i 0 < 2 ^ 64
words_at [] words i = omega arith
words_at (value ∷ values) words zero = words.0
words_at (value ∷ values) words (suc i) = words_at values words.1 i

pub words_from : (values : List ℕ) → ((i : ℕ) → i < length values → get_or values i 0 < 2 ^ 64) → AllByRecursion IsWord values
words_from [] small = tt
words_from (value ∷ values) small = (small 0 (omega arith), words_from values (λ i within. small (suc i) (omega arith)))

-- a slice's values are a full block, if they are as many
pub full_from : (slice values : List ℕ) → slice ≡ values → ((i : ℕ) → get_or slice i 0 < 2 ^ 64) → length values ≡ block_values → IsFull values
full_from slice values same small whole = record { whole = whole; words = subst (AllByRecursion IsWord) same (words_from slice (λ i within. small i)) }

-- Words of parts.

pub AreWords-append : (values others : List ℕ) → AllByRecursion IsWord values → AllByRecursion IsWord others → AllByRecursion IsWord (values ++ others)
AreWords-append [] others p q = q
AreWords-append (value ∷ values) others p q = (p.0, AreWords-append values others p.1 q)

pub AreWords-rest : (values others : List ℕ) → AllByRecursion IsWord (values ++ others) → AllByRecursion IsWord others
AreWords-rest [] others words = words
AreWords-rest (value ∷ values) others words = AreWords-rest values others words.1

pub AreWords-replicate : (n value : ℕ) → value < 2 ^ 64 → AllByRecursion IsWord (replicate n value)
AreWords-replicate zero value small = tt
AreWords-replicate (suc n) value small = (small, AreWords-replicate n value small)

-- The words that bytes are.

pub word_of-lt : (bytes : List ℕ) (j : ℕ) → AreOctets bytes → word_of bytes j < 2 ^ 64
unfolding word_of
word_of-lt bytes j octets = from_le_bytes-word (take 8 (drop (8 * j) bytes)) (AreOctets-take 8 (drop (8 * j) bytes) (AreOctets-drop (8 * j) bytes octets))

-- the numbers of a list's words encode the list
pub words_of-from_words : (values bytes : List ℕ) → length bytes ≡ 8 * length values → AreOctets bytes
    → ((i : ℕ) → i < length values → word_of bytes i ≡ get_or values i 0) → words_of values ≡ bytes
unfolding word_of
words_of-from_words [] bytes size octets each = sym (nil_from_length bytes size)
words_of-from_words (value ∷ values) bytes size octets each =
    let here : from_le_bytes w64 (take 8 bytes) ≡ value = each 0 (omega arith) in
    let first : word_bytes value ≡ take 8 bytes =
    ap word_bytes (sym here) ∙ word_bytes-from_le_bytes (take 8 bytes) (omega (arith, length-take 8 bytes)) (AreOctets-take 8 bytes octets) in
    let rest : words_of values ≡ drop 8 bytes =
    words_of-from_words values (drop 8 bytes) (omega (arith, length-drop 8 bytes)) (AreOctets-drop 8 bytes octets)
    (λ i within.
    let place : 8 + 8 * i ≡ 8 * suc i = omega arith in
    ap (λ l. from_le_bytes w64 (take 8 l)) (drop-drop (8 * i) 8 bytes ∙ ap (λ n. drop n bytes) place) ∙ each (suc i) (omega arith)) in
    ap (λ (front : List ℕ). front ++ words_of values) first ∙ ap (λ (back : List ℕ). take 8 bytes ++ back) rest ∙ take-append-drop 8 bytes

-- the numbers of a list's words are words
pub words_by_words : (values bytes : List ℕ) → AreOctets bytes → ((i : ℕ) → i < length values → word_of bytes i ≡ get_or values i 0) → AllByRecursion IsWord values
words_by_words values bytes octets each = words_from values (λ i within. subst (λ v. v < 2 ^ 64) (each i within) (word_of-lt bytes i octets))

-- so many words at the front of bytes
unfoldable pub words_in : ℕ → List ℕ → List ℕ
words_in count bytes = table (word_of bytes) count

pub length-words_in : (count : ℕ) (bytes : List ℕ) → length (words_in count bytes) ≡ count
unfolding words_in
length-words_in count bytes = length-table (word_of bytes) count

words_in-each : (count : ℕ) (bytes : List ℕ) (i : ℕ) → i < length (words_in count bytes) → word_of bytes i ≡ get_or (words_in count bytes) i 0
unfolding words_in
words_in-each count bytes i within = sym (get_or-table (word_of bytes) count i (omega (arith, length-words_in count bytes)))

pub words_of-words_in : (count : ℕ) (bytes : List ℕ) → length bytes ≡ 8 * count → AreOctets bytes → words_of (words_in count bytes) ≡ bytes
words_of-words_in count bytes size octets = words_of-from_words (words_in count bytes) bytes (omega (arith, length-words_in count bytes)) octets (words_in-each count bytes)

pub words_in-words : (count : ℕ) (bytes : List ℕ) → AreOctets bytes → AllByRecursion IsWord (words_in count bytes)
words_in-words count bytes octets = words_by_words (words_in count bytes) bytes octets (words_in-each count bytes)
