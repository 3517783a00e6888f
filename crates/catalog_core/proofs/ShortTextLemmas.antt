-- The numbers of texts order them, and what a reader finds of a short text.
use Rattle.std.proofs.Common.{◌≡◌, ◌∙◌, ◌<◌, ◌≤◌, ◌+◌, ◌-◌, ◌*◌, ◌/◌, ◌%◌, ◌^◌, ℕ, zero, suc, List, [], ◌∷◌, ◌++◌, Some, Ordering, Less, Equal, refl, sym, ap, subst, inl, inr, length, take, drop, get_or, IsUtf8, arith}
use Rattle.std.specs.Int.{from_be_bytes, from_le_bytes, sum_through, byte_worth, w32, w128}
use Rattle.std.specs.Str.{IsAscii}
use Rattle.std.specs.Ordering.{nat_cmp, ordering_then}
use Rattle.std.specs.Cmp.{nat_cmp_is}
use Rattle.std.proofs.Math.Nat.{pow-suc, one-le-pow, mul-add-div_right, mul-le-mul_right, zero-div, div-eq_of_lt, mod-eq_of_lt}
use Rattle.std.proofs.lemmas.Nat.{pow-add}
use Rattle.std.proofs.lemmas.Bool.{cases_order}
use Rattle.std.proofs.lemmas.List.{take-take, length-take-le, length-drop}
use Rattle.std.proofs.lemmas.Str.{IsUtf8-from_ascii, IsAscii-take}
use Rattle.definitions_blocks.specs.Columns.{max_rows}
use Rattle.definitions_blocks.specs.Words.{AreOctets}
use Rattle.catalog_core.specs.Texts.{Text}
use Rattle.catalog_core.specs.DictionaryReading.{BeginsWithEntry, ReadSo}
use Rattle.catalog_core.specs.ShortTexts.{number_of, BeginsWithShort, ReadUpTo}
use Rattle.catalog_core.proofs.TextLemmas.{order, below_of_less}
use Rattle.catalog_core.proofs.DictionaryFileLemmas.{entry_one}
use Rattle.catalog_core.proofs.DictionaryReadLemmas.{shows_text, begins_with_entry, read_more}
use Rattle.definitions_blocks.proofs.WordLaws.{AreOctets-take, AreOctets-drop}

tail_octets : (first : ℕ) (rest : List ℕ) → AreOctets (first ∷ rest) → AreOctets rest
tail_octets first rest octets i = octets (suc i)

-- The order of numbers is that of texts.

pub number_below : (n : ℕ) (text : Text) → AreOctets text → number_of n text < 256 ^ n
number_below zero text octets = omega arith
number_below (suc n) [] octets = omega (arith, one-le-pow (suc n) 256 (omega arith))
number_below (suc n) (first ∷ rest) octets =
    omega (arith, pow-suc 256 n, number_below n rest (tail_octets first rest octets), mul-le-mul_right (256 ^ n) (let below : first ≤ 255 = omega (arith, octets 0) in below))

numbers_apart : (x y n p q : ℕ) → x < y → p < n → x * n + p < y * n + q
numbers_apart x y n p q below within = omega (arith, within, mul-le-mul_right n (let next : x + 1 ≤ y = omega (arith, below) in next))

then_less : (o rest : Ordering) → o ≡ Less → ordering_then o rest ≡ Less
then_less o rest less = ap (λ first. ordering_then first rest) less

then_equal : (o rest : Ordering) → o ≡ Equal → ordering_then o rest ≡ rest
then_equal o rest equal = ap (λ first. ordering_then first rest) equal

pub less_by_number : (n : ℕ) (text other : Text) → AreOctets text → AreOctets other → number_of n text < number_of n other → order text other ≡ Less
less_by_number zero text other octets octets' below = absurd (omega (arith, below))
less_by_number (suc n) [] [] octets octets' below = absurd (omega (arith, below))
less_by_number (suc n) [] (next ∷ more) octets octets' below = refl
less_by_number (suc n) (first ∷ rest) [] octets octets' below = absurd (omega (arith, below))
less_by_number (suc n) (first ∷ rest) (next ∷ more) octets octets' below =
    elim (cases_order first next) [
      | inl same ↦
          let level : nat_cmp first next ≡ Equal = sym (nat_cmp_is first next Equal same) in
          let less : number_of n rest < number_of n more = omega (arith, below, ap (λ b. b * 256 ^ n) same) in
          then_equal (nat_cmp first next) (order rest more) level ∙ less_by_number n rest more (tail_octets first rest octets) (tail_octets next more octets') less
      | inr apart ↦ elim apart [
        | inl lower ↦ then_less (nat_cmp first next) (order rest more) (sym (nat_cmp_is first next Less lower))
        | inr upper ↦
            absurd (omega (arith, below, numbers_apart next first (256 ^ n) (number_of n more) (number_of n rest) upper (number_below n more (tail_octets next more octets'))))
      ]
    ]

-- The number of 16 bytes is what they say, the big end first.

sum_first : (f : ℕ → ℕ) (k : ℕ) → sum_through f (suc k) ≡ f 0 + sum_through (λ i. f (suc i)) k
sum_first f zero = refl
sum_first f (suc k) = omega (arith, sum_first f k)

sum_same : (f g : ℕ → ℕ) (k : ℕ) → ((i : ℕ) → f i ≡ g i) → sum_through f k ≡ sum_through g k
sum_same f g zero same = same 0
sum_same f g (suc k) same = omega (arith, sum_same f g k same, same (suc k))

sum_is_number : (n : ℕ) (bytes : List ℕ) → length bytes ≡ suc n → sum_through (λ i. byte_worth (n - i) (get_or bytes i 0)) n ≡ number_of (suc n) bytes
sum_is_number n [] long = absurd (omega (arith, long))
sum_is_number zero (first ∷ rest) long = omega arith
sum_is_number (suc n) (first ∷ rest) long =
    let later : sum_through (λ i. byte_worth (suc n - suc i) (get_or rest i 0)) n ≡ sum_through (λ i. byte_worth (n - i) (get_or rest i 0)) n =
    sum_same (λ i. byte_worth (suc n - suc i) (get_or rest i 0)) (λ i. byte_worth (n - i) (get_or rest i 0)) n (λ i. ap (λ m. byte_worth m (get_or rest i 0)) (omega arith)) in
    let highest : byte_worth (suc n - 0) first ≡ first * 256 ^ suc n = ap (λ m. byte_worth m first) (let all : suc n - 0 ≡ suc n = omega arith in all) in
    omega (arith, sum_first (λ i. byte_worth (suc n - i) (get_or (first ∷ rest) i 0)) n, highest, later, sum_is_number n rest (omega (arith, long)))

pub big_endian : (bytes : List ℕ) → length bytes ≡ 16 → from_be_bytes w128 bytes ≡ number_of 16 bytes
big_endian bytes long = sum_is_number 15 bytes long

-- What is shifted out and in again is the bytes that follow.

number_of-nil : (n : ℕ) → number_of n [] ≡ 0
number_of-nil zero = refl
number_of-nil (suc n) = refl

kept_more : (byte power low kept : ℕ) (whole : ℕ) → 0 < power → kept ≡ low / power * power → whole ≡ byte * power → whole + kept ≡ (whole + low) / power * power
kept_more byte power low kept whole some is so =
    let quotient : (byte * power + low) / power ≡ byte + low / power = mul-add-div_right some byte low in
    let sum : (whole + low) / power ≡ byte + low / power = ap (λ n. (n + low) / power) so ∙ quotient in
    ap (λ n. n + kept) so ∙ ap (λ n. byte * power + n) is ∙ (omega (arith, mul_add byte (low / power) power)) ∙ ap (λ n. n * power) (sym sum)
  where
    mul_add : (a b c : ℕ) → (a + b) * c ≡ a * c + b * c
    mul_add a b c = omega arith

pub kept : (count n after : ℕ) (bytes : List ℕ) → AreOctets bytes → n ≡ count + after → number_of n (take count bytes) ≡ number_of n bytes / 256 ^ after * 256 ^ after
kept zero n after bytes octets is =
    let below : number_of n bytes < 256 ^ after = subst (λ m. number_of n bytes < 256 ^ m) (omega (arith, is)) (number_below n bytes octets) in
    let none : number_of n bytes / 256 ^ after ≡ 0 = div-eq_of_lt below in
    omega (arith, number_of-nil n, ap (λ q. q * 256 ^ after) none)
kept (suc count) zero after bytes octets is = absurd (omega (arith, is))
kept (suc count) (suc n) after [] octets is = omega (arith, ap (λ q. q * 256 ^ after) (zero-div (256 ^ after)))
kept (suc count) (suc n) after (first ∷ rest) octets is =
    let split : n ≡ count + after = omega (arith, is) in
    let power : 256 ^ n ≡ 256 ^ count * 256 ^ after = ap (λ m. 256 ^ m) split ∙ pow-add 256 count after in
    let whole : first * 256 ^ n ≡ (first * 256 ^ count) * 256 ^ after = ap (λ m. first * m) power ∙ omega arith in
    kept_more (first * 256 ^ count) (256 ^ after) (number_of n rest) (number_of n (take count rest)) (first * 256 ^ n) (omega (arith, one-le-pow after 256 (omega arith)))
    (kept count n after rest (tail_octets first rest octets) split) whole

powers : (k : ℕ) → 2 ^ (8 * k) ≡ 256 ^ k
powers zero = refl
powers (suc k) = ap (λ n. 2 ^ n) (let more : 8 * suc k ≡ 8 * k + 8 = omega arith in more) ∙ pow-add 2 (8 * k) 8 ∙ ap (λ n. n * 256) (powers k) ∙ sym (pow-suc 256 k)

pub shifted : (count number : ℕ) (bytes : List ℕ) → length bytes ≡ 16 → AreOctets bytes → count ≤ 16 → number ≡ from_be_bytes w128 bytes
    → number / 2 ^ (8 * (16 - count)) * 2 ^ (8 * (16 - count)) % 340282366920938463463374607431768211456 ≡ number_of 16 (take count bytes)
shifted count number bytes long octets few is =
    let after = 16 - count in
    let same : number / 256 ^ after * 256 ^ after ≡ number_of 16 (take count bytes) =
    ap (λ n. n / 256 ^ after * 256 ^ after) (is ∙ big_endian bytes long) ∙ sym (kept count 16 after bytes octets (omega (arith, few))) in
    let below : number_of 16 (take count bytes) < 340282366920938463463374607431768211456 = number_below 16 (take count bytes) (AreOctets-take count bytes octets) in
    ap (λ p. number / p * p % 340282366920938463463374607431768211456) (powers after) ∙ ap (λ n. n % 340282366920938463463374607431768211456) same ∙ mod-eq_of_lt below

-- A short text that begins the bytes.

pub begins_short : (bytes front : List ℕ) (len number : ℕ) → AreOctets bytes → len ≡ from_le_bytes w32 (take 4 bytes) → 20 ≤ length bytes → len ≤ 16 → front ≡ take 16 (drop 4 bytes) → IsAscii front
    → number ≡ number_of 16 (take len front) → BeginsWithShort bytes len number
begins_short bytes front len number octets said long short is ascii number_is =
    let text = take len (drop 4 bytes) in
    let same : take len front ≡ text = ap (take len) is ∙ take-take len 16 (drop 4 bytes) short in
    record {
      text = text;
      begins = begins_with_entry bytes len text octets said (omega (arith, short)) (omega (arith, long, short)) refl (subst IsUtf8 same (IsUtf8-from_ascii (take len front) (IsAscii-take front len ascii)));
      len_is = sym (length-take-le len (drop 4 bytes) (omega (arith, long, short, length-drop 4 bytes)));
      number_is = number_is ∙ ap (number_of 16) same;
    }

pub octets_of : (text : Text) (bytes : List ℕ) → AreOctets bytes → BeginsWithEntry text bytes → AreOctets text
octets_of text bytes octets begins =
    subst AreOctets (shows_text text bytes (drop (4 + length text) bytes) begins.lawful begins.bytes_are).body (AreOctets-take (length text) (drop 4 bytes) (AreOctets-drop 4 bytes octets))

pub same_entry : (text other : Text) (bytes : List ℕ) → BeginsWithEntry text bytes → BeginsWithEntry other bytes → text ≡ other
same_entry text other bytes begins begins' = (entry_one text other (drop (4 + length text) bytes) (drop (4 + length other) bytes) begins.lawful begins'.lawful (sym begins.bytes_are ∙ begins'.bytes_are)).0

pub number_here : (text : Text) (bytes : List ℕ) (len number : ℕ) → BeginsWithEntry text bytes → BeginsWithShort bytes len number → number ≡ number_of 16 text
number_here text bytes len number begins short = short.number_is ∙ ap (number_of 16) (same_entry short.text text bytes short.begins begins)

-- one more short text was read, whose number is above the last one's
pub read_short : (count number start end len last value : ℕ) (bytes starts : List ℕ) → count ≤ max_rows → number < count → AreOctets bytes → (read : ReadUpTo bytes number start end starts) → last ≡ number_of 16 read.text
    → BeginsWithShort (drop end bytes) len value → last < value → (more : ReadUpTo bytes (number + 1) end (end + (4 + len)) (starts ++ end ∷ [])) × (value ≡ number_of 16 more.text)
read_short count number start end len last value bytes starts few below octets read last_is short above =
    let numbers : number_of 16 read.text < number_of 16 short.text = omega (arith, above, last_is, short.number_is) in
    let less = less_by_number 16 read.text short.text (octets_of read.text (drop start bytes) (AreOctets-drop start bytes octets) read.begins) (octets_of short.text (drop end bytes) (AreOctets-drop end bytes octets) short.begins) numbers in
    let so = read_more count number end bytes starts (Some read.text) short.text few below read.so short.begins (below_of_less read.text short.text less) in (
      record {
        text = short.text;
        so = subst (λ n. ReadSo bytes (number + 1) (end + (4 + n)) (starts ++ end ∷ []) (Some short.text)) (sym short.len_is) so;
        within = read.so.within;
        begins = short.begins;
      },
      short.number_is,
    )
