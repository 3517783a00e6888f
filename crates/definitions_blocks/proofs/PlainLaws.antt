-- A full block has one encoding as words, and bytes begin with one block of words at most.
use Rattle.std.proofs.Common.{◌≡◌, ℕ, List, ◌++◌, length, refl, sym, ap, ◌∙◌, subst, arith}
use Rattle.definitions_blocks.specs.Words.{AreOctets, words_of}
use Rattle.definitions_blocks.specs.Blocks.{block_values, IsFull}
use Rattle.definitions_blocks.specs.Encodings.{IsPlainBlock}
use Rattle.definitions_blocks.proofs.WordLaws.{length-words_of, words_of-octets}
use Rattle.definitions_blocks.proofs.WordListLaws.{words_in, length-words_in, words_of-words_in, words_in-words}
use Rattle.definitions_blocks.proofs.PrefixLaws.{same_front, words_of-one}

pub IsPlainBlock-encoding : (values : List ℕ) → IsFull values → IsPlainBlock values (words_of values)
IsPlainBlock-encoding values full = record { full = full; encoded = refl }

pub IsPlainBlock-one : (values a b : List ℕ) → IsPlainBlock values a → IsPlainBlock values b → a ≡ b
IsPlainBlock-one values a b p q = p.encoded ∙ sym q.encoded

pub IsPlainBlock-size : (values bytes : List ℕ) → IsPlainBlock values bytes → length bytes ≡ 8192
IsPlainBlock-size values bytes p = omega (arith, ap length p.encoded, length-words_of values, p.full.whole)

pub IsPlainBlock-octets : (values bytes : List ℕ) → IsPlainBlock values bytes → AreOctets bytes
IsPlainBlock-octets values bytes p = subst AreOctets (sym p.encoded) (words_of-octets values)

-- where two encodings begin the same bytes, they are one, and of one block
pub IsPlainBlock-front : (values others a b x y : List ℕ) → IsPlainBlock values a → IsPlainBlock others b → a ++ x ≡ b ++ y → (a ≡ b) × (values ≡ others)
IsPlainBlock-front values others a b x y p q e =
    let front : a ≡ b = same_front a b x y (IsPlainBlock-size values a p ∙ sym (IsPlainBlock-size others b q)) e in
    (front, words_of-one values others p.full.words q.full.words (sym p.encoded ∙ front ∙ q.encoded))

pub IsPlainBlock-sized : (values others a b : List ℕ) → IsPlainBlock values a → IsPlainBlock others b → length a ≡ length b
IsPlainBlock-sized values others a b p q = IsPlainBlock-size values a p ∙ sym (IsPlainBlock-size others b q)

-- any bytes of the right size are a block
pub IsPlainBlock-words_in : (bytes : List ℕ) → length bytes ≡ 8192 → AreOctets bytes → IsPlainBlock (words_in block_values bytes) bytes
IsPlainBlock-words_in bytes size octets =
    record {
      full = record { whole = length-words_in block_values bytes; words = words_in-words block_values bytes octets };
      encoded = sym (words_of-words_in block_values bytes size octets);
    }
