-- Strands while they are packed: the words that are written and the bits above them are the number that the rows so far make.
use Rattle.std.proofs.Common.{◌≡◌, ℕ, ◌+◌, ◌-◌, ◌*◌, ◌/◌, ◌%◌, ◌^◌, ◌<◌, ◌≤◌, List, length, get_or, bit_or, refl, sym, ap, ap₂, ◌∙◌, subst, inl, inr, arith}
use Rattle.std.proofs.Math.Nat.{pow-le-pow_right}
use Rattle.std.proofs.lemmas.Bool.{cases_lt}
use Rattle.std.proofs.lemmas.Nat.{shr_below}
use Rattle.definitions_blocks.specs.Packed.{AreBelow}
use Rattle.definitions_blocks.proofs.BitLaws.{total, total-zero, total_more, total_same}
use Rattle.definitions_blocks.specs.Words.{word_of}
use Rattle.strand_pack.specs.Words.{AreEncoded}
use Rattle.strand_pack.proofs.WordBits.{word_of-same}
use Rattle.strand_pack.proofs.StrandTotals.{or_added, joined_lt, row_inside, row_full}
use Rattle.strand_pack.proofs.EncodedStrands.{word_in, value_of, IsBeside, one_strand}

-- so many rows of n strands are packed: so many lines of words are written, and the other bits stand in a word for each strand
pub record AreBegun (width first n row line bits : ℕ) (full into words start : List ℕ) : Type 0 where
  pub lanes : length words ≡ n
  pub room : bits < 64
  pub place : line * 64 + bits ≡ row * width
  pub low : (lane : ℕ) → lane < n → get_or words lane 0 < 2 ^ bits
  pub same : (lane : ℕ) → lane < n → get_or words lane 0 * 2 ^ (line * 64) + total 64 (word_in into (first + lane)) line ≡ total width (value_of full (first + lane)) row
  pub beside : (k : ℕ) → IsBeside first n k → get_or into k 0 ≡ get_or start k 0

-- what a row adds: its values, and the words with the values above
pub record IsRow (width first n row bits : ℕ) (full words values made : List ℕ) : Type 0 where
  pub read : (lane : ℕ) → lane < n → get_or values lane 0 ≡ value_of full (first + lane) row
  pub small : (lane : ℕ) → lane < n → get_or values lane 0 < 2 ^ width
  pub lanes : length made ≡ n
  pub each : (lane : ℕ) → lane < n → get_or made lane 0 ≡ bit_or (get_or words lane 0) (get_or values lane 0 * 2 ^ bits % 2 ^ 64)

pub AreBegun-none : (width first n : ℕ) (full into words : List ℕ) → length words ≡ n → ((lane : ℕ) → lane < n → get_or words lane 0 ≡ 0) → AreBegun width first n 0 0 0 full into words into
AreBegun-none width first n full into words many zeros = record {
  lanes = many;
  room = omega arith;
  place = omega arith;
  low = λ lane within. let none = zeros lane within in omega arith;
  same = λ lane within.
      let none = zeros lane within in
      let left : get_or words lane 0 * 2 ^ (0 * 64) ≡ 0 = ap (λ n. n * 2 ^ (0 * 64)) none in
      ap₂ (λ a b. a + b) left (total-zero 64 (word_in into (first + lane))) ∙ sym (total-zero width (value_of full (first + lane)));
  beside = λ k apart. refl;
}

after : (width first row : ℕ) (full values : List ℕ) (lane : ℕ) → get_or values lane 0 ≡ value_of full (first + lane) row
    → total width (value_of full (first + lane)) (row + 1) ≡ get_or values lane 0 * 2 ^ (row * width) + total width (value_of full (first + lane)) row
after width first row full values lane is =
    total_more width (value_of full (first + lane)) row ∙ ap (λ v. v * 2 ^ (row * width) + total width (value_of full (first + lane)) row) (sym is)

-- a row whose words are not full yet
pub AreBegun-inside : (width first n row line bits : ℕ) (full into words start values made : List ℕ) → AreBegun width first n row line bits full into words start → IsRow width first n row bits full words values made
    → bits + width < 64 → AreBegun width first n (row + 1) line (bits + width) full into made start
AreBegun-inside width first n row line bits full into words start values made begun new short =
    let small : (lane : ℕ) → lane < n → get_or values lane 0 * 2 ^ bits + get_or words lane 0 < 2 ^ (bits + width) = λ lane within.
    joined_lt (get_or values lane 0) bits (get_or words lane 0) width (begun.low lane within) (new.small lane within) in
    let made_is : (lane : ℕ) → lane < n → get_or made lane 0 ≡ get_or values lane 0 * 2 ^ bits + get_or words lane 0 = λ lane within.
    let below = small lane within in
    let fewer : bits + width ≤ 64 = omega arith in
    let most : 2 ^ (bits + width) ≤ 2 ^ 64 = pow-le-pow_right (omega arith) fewer in
    new.each lane within ∙ or_added (get_or values lane 0) bits (get_or words lane 0) begun.room (begun.low lane within) ∙ omega arith in
    record {
      lanes = new.lanes;
      room = short;
      place = omega (arith, begun.place);
      low = λ lane within. subst (λ v. v < 2 ^ (bits + width)) (sym (made_is lane within)) (small lane within);
      same = λ lane within.
          row_inside width bits line row (get_or values lane 0) (get_or words lane 0) (get_or made lane 0) (total 64 (word_in into (first + lane)) line) (total width (value_of full (first + lane)) row) (total width (value_of full (first + lane)) (row + 1))
          begun.place (begun.same lane within) (after width first row full values lane (new.read lane within)) (made_is lane within);
      beside = begun.beside;
    }

-- the words are written over one line
pub record AreWritten (first n line : ℕ) (into made put : List ℕ) : Type 0 where
  pub written : (lane : ℕ) → lane < n → word_of put (line * 16 + first + lane) ≡ get_or made lane 0
  pub below : (k : ℕ) → k < 8 * (line * 16 + first) → get_or put k 0 ≡ get_or into k 0
  pub above : (k : ℕ) → 8 * (line * 16 + first + n) ≤ k → get_or put k 0 ≡ get_or into k 0

earlier_same : (first n line : ℕ) (into made put : List ℕ) → AreWritten first n line into made put → first + n ≤ 16 → (lane : ℕ) → lane < n → (l : ℕ) → l < line
    → word_in put (first + lane) l ≡ word_in into (first + lane) l
earlier_same first n line into made put wrote fits lane within l before =
    word_of-same put into (l * 16 + (first + lane)) (λ k byte. wrote.below (8 * (l * 16 + (first + lane)) + k) (omega arith))

one_more_word : (first n line : ℕ) (into made put : List ℕ) → AreWritten first n line into made put → first + n ≤ 16 → (lane : ℕ) → lane < n
    → total 64 (word_in put (first + lane)) (line + 1) ≡ get_or made lane 0 * 2 ^ (line * 64) + total 64 (word_in into (first + lane)) line
one_more_word first n line into made put wrote fits lane within =
    let place : line * 16 + (first + lane) ≡ line * 16 + first + lane = omega arith in
    total_more 64 (word_in put (first + lane)) line
    ∙ ap₂ (λ a b. a * 2 ^ (line * 64) + b) (ap (word_of put) place ∙ wrote.written lane within) (total_same 64 (word_in put (first + lane)) (word_in into (first + lane)) line (earlier_same first n line into made put wrote fits lane within))

beside_same : (first n line : ℕ) (into made put : List ℕ) → AreWritten first n line into made put → first + n ≤ 16 → (k : ℕ) → IsBeside first n k → get_or put k 0 ≡ get_or into k 0
beside_same first n line into made put wrote fits k apart =
    elim (cases_lt k (8 * (line * 16 + first))) [
      | inl low ↦ wrote.below k low
      | inr high ↦
          elim (cases_lt k (8 * (line * 16 + first + n))) [
            | inl inside ↦ elim apart [ inl under ↦ absurd (omega arith) | inr over ↦ absurd (omega arith) ]
            | inr past ↦ wrote.above k past
          ]
    ]

-- a row that fills its words
pub AreBegun-full : (width first n row line bits : ℕ) (full into words start values made put left : List ℕ) → AreBegun width first n row line bits full into words start
    → IsRow width first n row bits full words values made → AreWritten first n line into made put → first + n ≤ 16 → 64 ≤ bits + width → width ≤ 64
    → length left ≡ n → ((lane : ℕ) → lane < n → get_or left lane 0 ≡ get_or values lane 0 / 2 ^ (64 - bits))
    → AreBegun width first n (row + 1) (line + 1) (width - (64 - bits)) full put left start
AreBegun-full width first n row line bits full into words start values made put left begun new wrote fits long narrow many rest =
    record {
      lanes = many;
      room = omega (arith, begun.room);
      place = omega (arith, begun.place, begun.room);
      low = λ lane within.
          let parts : width ≡ (width - (64 - bits)) + (64 - bits) = omega (arith, begun.room) in
          let small : get_or values lane 0 < 2 ^ ((width - (64 - bits)) + (64 - bits)) = subst (λ w. get_or values lane 0 < 2 ^ w) parts (new.small lane within) in
          subst (λ v. v < 2 ^ (width - (64 - bits))) (sym (rest lane within)) (shr_below (get_or values lane 0) (width - (64 - bits)) (64 - bits) small);
      same = λ lane within.
          row_full width bits line row (get_or values lane 0) (get_or words lane 0) (get_or left lane 0) (get_or made lane 0) (total 64 (word_in into (first + lane)) line) (total 64 (word_in put (first + lane)) (line + 1))
          (total width (value_of full (first + lane)) row) (total width (value_of full (first + lane)) (row + 1))
          (omega (arith, begun.room)) (begun.low lane within) begun.place (begun.same lane within) (after width first row full values lane (new.read lane within))
          (new.each lane within ∙ or_added (get_or values lane 0) bits (get_or words lane 0) begun.room (begun.low lane within)) (rest lane within) (one_more_word first n line into made put wrote fits lane within);
      beside = λ k apart. beside_same first n line into made put wrote fits k apart ∙ begun.beside k apart;
    }

-- the same at names for what a row leaves
pub AreBegun-at : (width first n row line bits line' bits' : ℕ) (full into words start into' words' : List ℕ) → AreBegun width first n row line bits full into words start
    → line' ≡ line → bits' ≡ bits → into' ≡ into → words' ≡ words → AreBegun width first n row line' bits' full into' words' start
AreBegun-at width first n row line bits line' bits' full into words start into' words' begun lines places bytes lanes =
    subst (λ l. AreBegun width first n row l bits' full into' words' start) (sym lines)
    (subst (λ b. AreBegun width first n row line b full into' words' start) (sym places)
    (subst (λ i. AreBegun width first n row line bits full i words' start) (sym bytes)
    (subst (λ w. AreBegun width first n row line bits full into w start) (sym lanes) begun)))

-- strands of which all rows are packed encode their values
pub AreEncoded-from_begun : (width first n row line bits : ℕ) (full into words start : List ℕ) → AreBegun width first n row line bits full into words start → row ≡ 64 → first + n ≤ 16
    → length full ≡ 1024 → AreBelow width full → ((k : ℕ) → get_or into k 0 < 2 ^ 8) → AreEncoded width first (first + n) full into
AreEncoded-from_begun width first n row line bits full into words start begun all fits whole small octets = record {
  bits = λ strand r b from below rows low.
      let lane = strand - first in
      let within : lane < n = omega arith in
      let here : first + lane ≡ strand = omega arith in
      let rows_done : row * width ≡ 64 * width = ap (λ m. m * width) all in
      let place : line * 64 + bits ≡ 64 * width = begun.place ∙ rows_done in
      let room : bits < 64 = begun.room in
      let lines : line ≡ width = omega arith in
      let none : bits ≡ 0 = omega arith in
      let left : get_or words lane 0 < 2 ^ 0 = subst (λ m. get_or words lane 0 < 2 ^ m) none (begun.low lane within) in
      let no_bits : get_or words lane 0 ≡ 0 = omega arith in
      let nothing : get_or words lane 0 * 2 ^ (line * 64) ≡ 0 = ap (λ v. v * 2 ^ (line * 64)) no_bits ∙ omega arith in
      let same : total 64 (word_in into (first + lane)) line ≡ total width (value_of full (first + lane)) row = omega (arith, begun.same lane within) in
      let encoded : total 64 (word_in into strand) width ≡ total width (value_of full strand) row =
      ap (λ w. total 64 (word_in into strand) w) (sym lines) ∙ ap (λ s. total 64 (word_in into s) line) (sym here) ∙ same ∙ ap (λ s. total width (value_of full s) row) here in
      one_strand width row strand r b full into octets (λ q before. small (q * 16 + strand) (omega arith)) encoded all (omega arith) low;
}
