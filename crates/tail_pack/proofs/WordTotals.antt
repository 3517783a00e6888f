-- A value put above the bits that wait in a word: what the word has then, and what does not fit in it.
use Rattle.std.proofs.Common.{◌≡◌, ℕ, ◌+◌, ◌-◌, ◌*◌, ◌/◌, ◌%◌, ◌^◌, ◌<◌, ◌≤◌, bit_or, sym, ap, ap₂, ◌∙◌, subst, arith}
use Rattle.std.proofs.lemmas.Nat.{pow-add, shr-shr, shr_split, shr_high, mod_low, mod-pow-add, mul-add-lt, or_comm, or_shifted}

-- the low bits of a number and of what is shifted up beside it
joined_mod : (v bits low : ℕ) → bits ≤ 64 → low < 2 ^ bits → (v * 2 ^ bits + low) % 2 ^ 64 ≡ (v % 2 ^ (64 - bits)) * 2 ^ bits + low
joined_mod v bits low fits small =
    let all : (64 - bits) + bits ≡ 64 = omega arith in
    ap (λ n. (v * 2 ^ bits + low) % 2 ^ n) (sym all) ∙ mod-pow-add (v * 2 ^ bits + low) (64 - bits) bits
    ∙ ap₂ (λ a b. a % 2 ^ (64 - bits) * 2 ^ bits + b) (shr_high v bits low small) (mod_low v bits low small)

-- the word
pub or_added : (v bits low : ℕ) → bits < 64 → low < 2 ^ bits → bit_or low (v * 2 ^ bits % 2 ^ 64) ≡ (v * 2 ^ bits + low) % 2 ^ 64
or_added v bits low fits small =
    let none : 0 < 2 ^ bits = omega arith in
    let alone : v * 2 ^ bits % 2 ^ 64 ≡ (v % 2 ^ (64 - bits)) * 2 ^ bits = ap (λ n. n % 2 ^ 64) (omega arith) ∙ joined_mod v bits 0 (omega arith) none ∙ omega arith in
    ap (bit_or low) alone ∙ or_comm low ((v % 2 ^ (64 - bits)) * 2 ^ bits) ∙ or_shifted (v % 2 ^ (64 - bits)) bits low small ∙ sym (joined_mod v bits low (omega arith) small)

pub joined_lt : (v bits low width : ℕ) → low < 2 ^ bits → v < 2 ^ width → v * 2 ^ bits + low < 2 ^ (bits + width)
joined_lt v bits low width small narrow =
    let P : ℕ → Type 0 = λ n. v * 2 ^ bits + low < n in
    subst P (sym (pow-add 2 bits width)) (mul-add-lt v (2 ^ bits) low (2 ^ width) narrow small)

-- what does not fit in the word any more
carried : (v bits low : ℕ) → bits ≤ 64 → low < 2 ^ bits → (v * 2 ^ bits + low) / 2 ^ 64 ≡ v / 2 ^ (64 - bits)
carried v bits low fits small =
    let all : bits + (64 - bits) ≡ 64 = omega arith in
    ap (λ n. (v * 2 ^ bits + low) / 2 ^ n) (sym all) ∙ sym (shr-shr (v * 2 ^ bits + low) bits (64 - bits)) ∙ ap (λ n. n / 2 ^ (64 - bits)) (shr_high v bits low small)

pub word_and_rest : (v bits low word left : ℕ) → bits < 64 → low < 2 ^ bits → word ≡ (v * 2 ^ bits + low) % 2 ^ 64 → left ≡ v / 2 ^ (64 - bits) → left * 2 ^ 64 + word ≡ v * 2 ^ bits + low
word_and_rest v bits low word left fits small is rest =
    let all = v * 2 ^ bits + low in
    let high : left ≡ all / 2 ^ 64 = rest ∙ sym (carried v bits low (omega arith) small) in
    ap₂ (λ a b. a * 2 ^ 64 + b) high is ∙ shr_split all 64
