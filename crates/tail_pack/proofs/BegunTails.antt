-- A tail while it is packed: the bytes that are written and the bits that wait above them are the number that the values so far make.
use Rattle.std.proofs.Common.{◌≡◌, ℕ, ◌+◌, ◌-◌, ◌*◌, ◌/◌, ◌%◌, ◌^◌, ◌<◌, ◌≤◌, List, length, get_or, bit_or, sym, ap, ap₂, ◌∙◌, subst, arith}
use Rattle.std.proofs.Math.Nat.{pow-le-pow_right, mod-eq_of_lt}
use Rattle.std.proofs.lemmas.Nat.{pow-add, shr_below}
use Rattle.definitions_blocks.specs.Words.{AreOctets}
use Rattle.definitions_blocks.specs.Packed.{AreBelow}
use Rattle.definitions_blocks.proofs.BitLaws.{total, total-zero, total_more, total_same}
use Rattle.definitions_columns.specs.Tails.{packed_len, IsPackedTail}
use Rattle.definitions_columns.proofs.DigitLaws.{total-add, total_parts_below}
use Rattle.definitions_columns.proofs.TailTotals.{number_of, IsPackedTail-from_number}
use Rattle.tail_pack.proofs.WordTotals.{or_added, joined_lt, word_and_rest}

-- the number that the first of a list make, with so many bits each
abbrev pub first_of : ℕ → List ℕ → ℕ → ℕ
first_of bits list n = total bits (λ k. get_or list k 0) n

-- so many values are packed: so many bytes are written, and the other bits wait
pub record IsBegun (width count written bits waiting : ℕ) (values into : List ℕ) : Type 0 where
  pub room : bits < 64
  pub place : written * 8 + bits ≡ count * width
  pub low : waiting < 2 ^ bits
  pub same : waiting * 2 ^ (written * 8) + first_of 8 into written ≡ first_of width values count

pub IsBegun-none : (width : ℕ) (values into : List ℕ) → IsBegun width 0 0 0 0 values into
IsBegun-none width values into =
    let bytes : first_of 8 into 0 ≡ 0 = total-zero 8 (λ k. get_or into k 0) in
    let none : first_of width values 0 ≡ 0 = total-zero width (λ k. get_or values k 0) in
    record { room = omega arith; place = omega arith; low = omega arith; same = omega arith }

pub IsBegun-at : (width count written bits waiting written' bits' waiting' : ℕ) (values into into' : List ℕ) → IsBegun width count written bits waiting values into → written' ≡ written → bits' ≡ bits → waiting' ≡ waiting → into' ≡ into
    → IsBegun width count written' bits' waiting' values into'
IsBegun-at width count written bits waiting written' bits' waiting' values into into' begun w b m i =
    subst (λ n. IsBegun width count n bits' waiting' values into') (sym w)
    (subst (λ n. IsBegun width count written n waiting' values into') (sym b)
    (subst (λ n. IsBegun width count written bits n values into') (sym m) (subst (λ l. IsBegun width count written bits waiting values l) (sym i) begun)))

-- a word's lowest bytes behind what is written
pub more_written : (into after : List ℕ) (word written n : ℕ) → word < 2 ^ (n * 8) → ((k : ℕ) → k < n → get_or after (written + k) 0 ≡ word / 2 ^ (8 * k) % 2 ^ 8)
    → ((k : ℕ) → k < written → get_or after k 0 ≡ get_or into k 0) → first_of 8 after (written + n) ≡ word * 2 ^ (written * 8) + first_of 8 into written
more_written into after word written n small new old =
    let byte : ℕ → ℕ = λ k. get_or after k 0 in
    total-add 8 byte written n
    ∙ ap₂ (λ a b. a * 2 ^ (written * 8) + b)
    (total_same 8 (λ k. byte (written + k)) (λ k. word / 2 ^ (8 * k) % 2 ^ 8) n new ∙ total_parts_below 8 word n small)
    (total_same 8 byte (λ k. get_or into k 0) written old)

-- a value more, above what waits
one_more : (width count written bits waiting v made : ℕ) (values into : List ℕ) → IsBegun width count written bits waiting values into → v ≡ get_or values count 0 → made ≡ v * 2 ^ bits + waiting
    → made * 2 ^ (written * 8) + first_of 8 into written ≡ first_of width values (count + 1)
one_more width count written bits waiting v made values into begun read is =
    let power : 2 ^ (count * width) ≡ 2 ^ (written * 8) * 2 ^ bits = ap (λ n. 2 ^ n) (sym begun.place) ∙ pow-add 2 (written * 8) bits in
    let above : get_or values count 0 * 2 ^ (count * width) ≡ v * (2 ^ (written * 8) * 2 ^ bits) = ap₂ (λ a b. a * b) (sym read) power in
    let whole : made * 2 ^ (written * 8) ≡ (v * 2 ^ bits + waiting) * 2 ^ (written * 8) = ap (λ n. n * 2 ^ (written * 8)) is in
    let same : waiting * 2 ^ (written * 8) + first_of 8 into written ≡ first_of width values count = begun.same in
    let next : first_of width values (count + 1) ≡ get_or values count 0 * 2 ^ (count * width) + first_of width values count = total_more width (λ k. get_or values k 0) count in
    omega arith

-- .. if it fits in the word
pub IsBegun-inside : (width count written bits waiting v made : ℕ) (values into : List ℕ) → IsBegun width count written bits waiting values into → v ≡ get_or values count 0 → v < 2 ^ width → width < 64 - bits
    → made ≡ bit_or waiting (v * 2 ^ bits % 2 ^ 64) → IsBegun width (count + 1) written (bits + width) made values into
IsBegun-inside width count written bits waiting v made values into begun read small fits is =
    let room : bits < 64 = begun.room in
    let place : written * 8 + bits ≡ count * width = begun.place in
    let joined : v * 2 ^ bits + waiting < 2 ^ (bits + width) = joined_lt v bits waiting width begun.low small in
    let enough : bits + width ≤ 64 = omega arith in
    let most : 2 ^ (bits + width) ≤ 2 ^ 64 = pow-le-pow_right (omega arith) enough in
    let whole : v * 2 ^ bits + waiting < 2 ^ 64 = omega arith in
    let sum : made ≡ v * 2 ^ bits + waiting = is ∙ or_added v bits waiting room begun.low ∙ mod-eq_of_lt whole in
    record {
      room = omega arith;
      place = omega arith;
      low = subst (λ n. n < 2 ^ (bits + width)) (sym sum) joined;
      same = one_more width count written bits waiting v made values into begun read sum;
    }

-- .. and if the word is full, which is written
pub IsBegun-full : (width count written bits waiting v word left : ℕ) (values into after : List ℕ) → IsBegun width count written bits waiting values into → v ≡ get_or values count 0 → v < 2 ^ width → width ≤ 64 → 64 - bits ≤ width
    → word ≡ bit_or waiting (v * 2 ^ bits % 2 ^ 64) → left ≡ v / 2 ^ (64 - bits)
    → ((k : ℕ) → k < 8 → get_or after (written + k) 0 ≡ word / 2 ^ (8 * k) % 2 ^ 8) → ((k : ℕ) → k < written → get_or after k 0 ≡ get_or into k 0)
    → IsBegun width (count + 1) (written + 8) (width - (64 - bits)) left values after
IsBegun-full width count written bits waiting v word left values into after begun read small narrow fills is rest new old =
    let room : bits < 64 = begun.room in
    let place : written * 8 + bits ≡ count * width = begun.place in
    let low_bits : word ≡ (v * 2 ^ bits + waiting) % 2 ^ 64 = is ∙ or_added v bits waiting room begun.low in
    let short : word < 2 ^ 64 = omega arith in
    let parts : left * 2 ^ 64 + word ≡ v * 2 ^ bits + waiting = word_and_rest v bits waiting word left room begun.low low_bits rest in
    let sum : (left * 2 ^ 64 + word) * 2 ^ (written * 8) + first_of 8 into written ≡ first_of width values (count + 1) = one_more width count written bits waiting v (left * 2 ^ 64 + word) values into begun read parts in
    let put : first_of 8 after (written + 8) ≡ word * 2 ^ (written * 8) + first_of 8 into written = more_written into after word written 8 short new old in
    let next : (written + 8) * 8 ≡ written * 8 + 64 = omega arith in
    let power : 2 ^ ((written + 8) * 8) ≡ 2 ^ (written * 8) * 2 ^ 64 = ap (λ n. 2 ^ n) next ∙ pow-add 2 (written * 8) 64 in
    let lifted : left * 2 ^ ((written + 8) * 8) ≡ left * (2 ^ (written * 8) * 2 ^ 64) = ap (λ n. left * n) power in
    let bound : width ≡ (width - (64 - bits)) + (64 - bits) = omega arith in
    let high : v / 2 ^ (64 - bits) < 2 ^ (width - (64 - bits)) = shr_below v (width - (64 - bits)) (64 - bits) (subst (λ n. v < 2 ^ n) bound small) in
    record { room = omega arith; place = omega arith; low = subst (λ n. n < 2 ^ (width - (64 - bits))) (sym rest) high; same = omega arith }

-- the last bytes of a tail are those of what waits
pub IsPackedTail-from_begun : (width count written bits waiting n : ℕ) (values into after : List ℕ) → IsBegun width count written bits waiting values into → count ≡ length values → AreBelow width values → AreOctets after
    → length after ≡ packed_len (length values) width → written + n ≡ length after → ((k : ℕ) → k < n → get_or after (written + k) 0 ≡ waiting / 2 ^ (8 * k) % 2 ^ 8)
    → ((k : ℕ) → k < written → get_or after k 0 ≡ get_or into k 0) → IsPackedTail width values after
unfolding number_of
IsPackedTail-from_begun width count written bits waiting n values into after begun all small octets size long new old =
    let place : written * 8 + bits ≡ count * width = begun.place in
    let counted : count * width ≡ length values * width = ap (λ m. m * width) all in
    let enough : bits ≤ n * 8 = omega arith in
    let most : 2 ^ bits ≤ 2 ^ (n * 8) = pow-le-pow_right (omega arith) enough in
    let low : waiting < 2 ^ bits = begun.low in
    let fits : waiting < 2 ^ (n * 8) = omega arith in
    let put : first_of 8 after (written + n) ≡ waiting * 2 ^ (written * 8) + first_of 8 into written = more_written into after waiting written n fits new old in
    let same : number_of 8 after ≡ number_of width values = ap (first_of 8 after) (sym long) ∙ put ∙ begun.same ∙ ap (first_of width values) all in
    IsPackedTail-from_number width values after small octets size same
