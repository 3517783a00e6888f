-- A word is the number of its eight bytes, and bit m of it is bit m mod 8 of byte m div 8.
use Rattle.std.proofs.Common.{◌≡◌, ℕ, zero, suc, ◌+◌, ◌*◌, ◌/◌, ◌%◌, ◌^◌, ◌<◌, ◌≤◌, ◌-◌, List, take, drop, length, get_or, refl, sym, ap, ◌∙◌, arith}
use borrow.Rule.Slice.PartMut.{put_mid}
use Rattle.std.specs.Int.{bit_at, from_le_bytes, to_le_bytes, w64}
use Rattle.std.specs.Simd.{first_chunks}
use Rattle.std.proofs.lemmas.List.{get_or-take, get_or-drop, drop-drop}
use Rattle.std.proofs.lemmas.Nat.{from_le_bytes-to_le_bytes_8}
use Rattle.std.proofs.lemmas.Slice.{between-put_mid}
use Rattle.definitions_blocks.specs.Packed.{word_bit}
use Rattle.definitions_blocks.proofs.BitLaws.{total, total_bit, total_same}
use Rattle.definitions_blocks.specs.Words.{word_of}

-- byte k of word j
unfoldable pub byte_of : List ℕ → ℕ → ℕ → ℕ
byte_of bytes j k = get_or bytes (8 * j + k) 0

-- the bytes of a word, put together
eight_parts : (f : ℕ → ℕ) → total 8 f 8 ≡ f 0 + f 1 * 256 + f 2 * 65536 + f 3 * 16777216 + f 4 * 4294967296 + f 5 * 1099511627776 + f 6 * 281474976710656 + f 7 * 72057594037927936
unfolding total
eight_parts f = omega arith

eight_bytes : (l : List ℕ) → from_le_bytes w64 l ≡ total 8 (λ k. get_or l k 0) 8
eight_bytes l = sym (eight_parts (λ k. get_or l k 0))

pub word_total : (bytes : List ℕ) (j : ℕ) → word_of bytes j ≡ total 8 (byte_of bytes j) 8
unfolding word_of byte_of
word_total bytes j =
    eight_bytes (take 8 (drop (8 * j) bytes))
    ∙ total_same 8 (λ k. get_or (take 8 (drop (8 * j) bytes)) k 0) (λ k. get_or bytes (8 * j + k) 0) 8 (λ k below. get_or-take 8 (drop (8 * j) bytes) k 0 below ∙ get_or-drop (8 * j) bytes k 0)

bytes_below : (bytes : List ℕ) (j : ℕ) → ((k : ℕ) → get_or bytes k 0 < 2 ^ 8) → (r : ℕ) → r < 8 → byte_of bytes j r < 2 ^ 8
unfolding byte_of
bytes_below bytes j octets r below = octets (8 * j + r)

bit_of_byte : (bytes : List ℕ) (j m : ℕ) → bit_at (byte_of bytes j (m / 8)) (m % 8) ≡ word_bit bytes j m
unfolding byte_of
bit_of_byte bytes j m = refl

pub word_of-bit : (bytes : List ℕ) (j m : ℕ) → ((k : ℕ) → get_or bytes k 0 < 2 ^ 8) → m < 64 → bit_at (word_of bytes j) m ≡ word_bit bytes j m
word_of-bit bytes j m octets within =
    let place : m / 8 * 8 + m % 8 ≡ m = omega arith in
    ap (λ n. bit_at n m) (word_total bytes j)
    ∙ ap (λ b. bit_at (total 8 (byte_of bytes j) 8) b) (sym place)
    ∙ total_bit 8 (byte_of bytes j) 8 (m / 8) (m % 8) (bytes_below bytes j octets) (omega arith) (omega arith)
    ∙ bit_of_byte bytes j m

-- chunk j of a slice that is cut into chunks
get_or-first_chunks : (n k : ℕ) (xs : List ℕ) (j : ℕ) (d : List ℕ) → j < k → get_or (first_chunks n k xs) j d ≡ take n (drop (n * j) xs)
get_or-first_chunks n zero xs j d within = absurd (omega arith)
get_or-first_chunks n (suc k) xs zero d within = let none : 0 ≡ n * zero = omega arith in ap (λ m. take n (drop m xs)) none
get_or-first_chunks n (suc k) xs (suc j) d within =
    let more : n + n * j ≡ n * suc j = omega arith in
    get_or-first_chunks n k (drop n xs) j d (omega arith) ∙ ap (take n) (drop-drop (n * j) n xs) ∙ ap (λ m. take n (drop m xs)) more

-- chunk j of the chunks of eight bytes is word j
pub word_read : (bytes : List ℕ) (k j : ℕ) (d : List ℕ) (words : List (List ℕ)) → words ≡ first_chunks 8 k bytes → j < k → from_le_bytes w64 (get_or words j d) ≡ word_of bytes j
unfolding word_of
word_read bytes k j d words cut within = ap (λ l. from_le_bytes w64 (get_or l j d)) cut ∙ ap (from_le_bytes w64) (get_or-first_chunks 8 k bytes j d within)

-- a word depends only on its bytes
pub word_of-same : (a b : List ℕ) (j : ℕ) → ((k : ℕ) → k < 8 → get_or a (8 * j + k) 0 ≡ get_or b (8 * j + k) 0) → word_of a j ≡ word_of b j
unfolding byte_of
word_of-same a b j same = word_total a j ∙ total_same 8 (byte_of a j) (byte_of b j) 8 same ∙ sym (word_total b j)

-- a word that was written is read back
pub word_written : (bytes part : List ℕ) (word place e : ℕ) → word < 2 ^ 64 → e ≡ 8 * place + 8 → e ≤ length bytes → part ≡ to_le_bytes w64 word
    → word_of (put_mid (8 * place) (e - 8 * place) bytes part) place ≡ word
unfolding word_of
word_written bytes part word place e fits ends inside encoded =
    let long : length part ≡ 8 = ap length encoded in
    let count : e - 8 * place ≡ 8 = omega arith in
    let cut : take (e - 8 * place) (drop (8 * place) (put_mid (8 * place) (e - 8 * place) bytes part)) ≡ part = between-put_mid (8 * place) (e - 8 * place) bytes part e (omega arith) (long ∙ sym count) in
    ap (λ n. from_le_bytes w64 (take n (drop (8 * place) (put_mid (8 * place) (e - 8 * place) bytes part)))) (sym count)
    ∙ ap (from_le_bytes w64) (cut ∙ encoded) ∙ from_le_bytes-to_le_bytes_8 word fits
