-- Laws of bytes and of the eight bytes of a number, so that no proof has to open them.
use Rattle.std.proofs.Common.{◌≡◌, ℕ, zero, suc, ◌+◌, ◌-◌, ◌*◌, ◌^◌, ◌<◌, List, [], ◌∷◌, ◌++◌, length, take, drop, refl, sym, subst, inl, inr, arith, length-append}
use Rattle.std.specs.Int.{from_le_bytes, w64}
use Rattle.std.proofs.lemmas.Bool.{cases_lt}
use Rattle.std.proofs.lemmas.List.{length-take, get_or-take, get_or-drop, get_or_past, get_or_append_left, get_or-append_right}
use Rattle.std.proofs.lemmas.Nat.{le_bytes_8, from_le_bytes-to_le_bytes_8}
use Rattle.definitions_blocks.specs.Words.{AreOctets, word_bytes, words_of}

-- Bytes.

pub AreOctets-cons : (byte : ℕ) (bytes : List ℕ) → byte < 256 → AreOctets bytes → AreOctets (byte ∷ bytes)
AreOctets-cons byte bytes here rest zero = here
AreOctets-cons byte bytes here rest (suc i) = rest i

pub AreOctets-append : (bytes others : List ℕ) → AreOctets bytes → AreOctets others → AreOctets (bytes ++ others)
AreOctets-append bytes others are be i =
    elim (cases_lt i (length bytes)) [
      | inl early ↦ subst (λ n. n < 256) (sym (get_or_append_left bytes others 0 i early)) (are i)
      | inr late ↦ subst (λ n. n < 256) (sym (get_or-append_right bytes others (length bytes) i 0 refl late)) (be (i - length bytes))
    ]

pub AreOctets-take : (n : ℕ) (bytes : List ℕ) → AreOctets bytes → AreOctets (take n bytes)
AreOctets-take n bytes are i =
    elim (cases_lt i n) [
      | inl within ↦ subst (λ v. v < 256) (sym (get_or-take n bytes i 0 within)) (are i)
      | inr past ↦ subst (λ v. v < 256) (sym (get_or_past (take n bytes) i 0 (omega (arith, length-take n bytes)))) (omega arith)
    ]

pub AreOctets-drop : (n : ℕ) (bytes : List ℕ) → AreOctets bytes → AreOctets (drop n bytes)
AreOctets-drop n bytes are i = subst (λ v. v < 256) (sym (get_or-drop n bytes i 0)) (are (n + i))

-- The bytes of a number.

pub length-word_bytes : (value : ℕ) → length (word_bytes value) ≡ 8
unfolding word_bytes
length-word_bytes value = refl

-- the number is read back
pub from_le_bytes-word_bytes : (value : ℕ) → value < 2 ^ 64 → from_le_bytes w64 (word_bytes value) ≡ value
unfolding word_bytes
from_le_bytes-word_bytes value below = from_le_bytes-to_le_bytes_8 value below

-- the bytes are those of the number that is read from them
pub word_bytes-from_le_bytes : (word : List ℕ) → length word ≡ 8 → AreOctets word → word_bytes (from_le_bytes w64 word) ≡ word
unfolding word_bytes
word_bytes-from_le_bytes word whole octets = le_bytes_8 word (from_le_bytes w64 word) whole octets refl

-- a number that is read from bytes is one of 64 bits
pub from_le_bytes-word : (word : List ℕ) → AreOctets word → from_le_bytes w64 word < 2 ^ 64
from_le_bytes-word word octets = omega (arith, octets 0, octets 1, octets 2, octets 3, octets 4, octets 5, octets 6, octets 7)

pub word_bytes-octets : (value : ℕ) → AreOctets (word_bytes value)
unfolding word_bytes
word_bytes-octets value zero = omega arith
word_bytes-octets value (suc zero) = omega arith
word_bytes-octets value (suc (suc zero)) = omega arith
word_bytes-octets value (suc (suc (suc zero))) = omega arith
word_bytes-octets value (suc (suc (suc (suc zero)))) = omega arith
word_bytes-octets value (suc (suc (suc (suc (suc zero))))) = omega arith
word_bytes-octets value (suc (suc (suc (suc (suc (suc zero)))))) = omega arith
word_bytes-octets value (suc (suc (suc (suc (suc (suc (suc zero))))))) = omega arith
word_bytes-octets value (suc (suc (suc (suc (suc (suc (suc (suc i)))))))) = omega arith

-- The words of a list.

pub length-words_of : (values : List ℕ) → length (words_of values) ≡ 8 * length values
length-words_of [] = refl
length-words_of (value ∷ values) = omega (arith, length-append (word_bytes value) (words_of values), length-word_bytes value, length-words_of values)

pub words_of-octets : (values : List ℕ) → AreOctets (words_of values)
words_of-octets [] i = omega arith
words_of-octets (value ∷ values) i = AreOctets-append (word_bytes value) (words_of values) (word_bytes-octets value) (words_of-octets values) i
