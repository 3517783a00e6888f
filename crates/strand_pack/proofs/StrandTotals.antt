-- A strand as one number: a row of bits put above the bits so far, within a word or over its end.
use Rattle.std.proofs.Common.{◌≡◌, ℕ, ◌+◌, ◌-◌, ◌*◌, ◌/◌, ◌%◌, ◌^◌, ◌<◌, ◌≤◌, bit_or, sym, ap, ap₂, ◌∙◌, subst, arith}
use Rattle.std.proofs.lemmas.Nat.{pow-add, shr-shr, shr_split, shr_high, mod_low, mod-pow-add, mul-add-lt, or_comm, or_shifted}

-- the low bits of a number and of what is shifted up beside it
pub joined_mod : (v off low : ℕ) → off ≤ 64 → low < 2 ^ off → (v * 2 ^ off + low) % 2 ^ 64 ≡ (v % 2 ^ (64 - off)) * 2 ^ off + low
joined_mod v off low fits small =
    let all : (64 - off) + off ≡ 64 = omega arith in
    ap (λ n. (v * 2 ^ off + low) % 2 ^ n) (sym all) ∙ mod-pow-add (v * 2 ^ off + low) (64 - off) off
    ∙ ap₂ (λ a b. a % 2 ^ (64 - off) * 2 ^ off + b) (shr_high v off low small) (mod_low v off low small)

pub or_added : (v off low : ℕ) → off < 64 → low < 2 ^ off → bit_or low (v * 2 ^ off % 2 ^ 64) ≡ (v * 2 ^ off + low) % 2 ^ 64
or_added v off low fits small =
    let none : 0 < 2 ^ off = omega arith in
    let alone : v * 2 ^ off % 2 ^ 64 ≡ (v % 2 ^ (64 - off)) * 2 ^ off = ap (λ n. n % 2 ^ 64) (omega arith) ∙ joined_mod v off 0 (omega arith) none ∙ omega arith in
    ap (bit_or low) alone ∙ or_comm low ((v % 2 ^ (64 - off)) * 2 ^ off) ∙ or_shifted (v % 2 ^ (64 - off)) off low small ∙ sym (joined_mod v off low (omega arith) small)

pub joined_lt : (v off low width : ℕ) → low < 2 ^ off → v < 2 ^ width → v * 2 ^ off + low < 2 ^ (off + width)
joined_lt v off low width small narrow =
    let P : ℕ → Type 0 = λ n. v * 2 ^ off + low < n in
    subst P (sym (pow-add 2 off width)) (mul-add-lt v (2 ^ off) low (2 ^ width) narrow small)

-- what does not fit in the word any more
pub carried : (v off low : ℕ) → off ≤ 64 → low < 2 ^ off → (v * 2 ^ off + low) / 2 ^ 64 ≡ v / 2 ^ (64 - off)
carried v off low fits small =
    let all : off + (64 - off) ≡ 64 = omega arith in
    ap (λ n. (v * 2 ^ off + low) / 2 ^ n) (sym all) ∙ sym (shr-shr (v * 2 ^ off + low) off (64 - off)) ∙ ap (λ n. n / 2 ^ (64 - off)) (shr_high v off low small)

-- one row more, within the word
pub row_inside : (width off line row v low made written before after : ℕ) → line * 64 + off ≡ row * width → low * 2 ^ (line * 64) + written ≡ before
    → after ≡ v * 2 ^ (row * width) + before → made ≡ v * 2 ^ off + low → made * 2 ^ (line * 64) + written ≡ after
row_inside width off line row v low made written before after place same more is =
    let power : 2 ^ (row * width) ≡ 2 ^ (line * 64) * 2 ^ off = ap (λ n. 2 ^ n) (sym place) ∙ pow-add 2 (line * 64) off in
    let above : v * 2 ^ (row * width) ≡ v * (2 ^ (line * 64) * 2 ^ off) = ap (λ n. v * n) power in
    let whole : made * 2 ^ (line * 64) ≡ (v * 2 ^ off + low) * 2 ^ (line * 64) = ap (λ n. n * 2 ^ (line * 64)) is in
    omega arith

-- one row more, over the end of the word
pub row_full : (width off line row v low left word written more before after : ℕ) → off ≤ 64 → low < 2 ^ off → line * 64 + off ≡ row * width → low * 2 ^ (line * 64) + written ≡ before
    → after ≡ v * 2 ^ (row * width) + before → word ≡ (v * 2 ^ off + low) % 2 ^ 64 → left ≡ v / 2 ^ (64 - off) → more ≡ word * 2 ^ (line * 64) + written
    → left * 2 ^ ((line + 1) * 64) + more ≡ after
row_full width off line row v low left word written more before after fits small place same above is rest put =
    let all = v * 2 ^ off + low in
    let high : left ≡ all / 2 ^ 64 = rest ∙ sym (carried v off low fits small) in
    let parts : left * 2 ^ 64 + word ≡ all = ap₂ (λ a b. a * 2 ^ 64 + b) high is ∙ shr_split all 64 in
    let sum : (left * 2 ^ 64 + word) * 2 ^ (line * 64) + written ≡ after = row_inside width off line row v low (left * 2 ^ 64 + word) written before after place same above parts in
    let next : (line + 1) * 64 ≡ line * 64 + 64 = omega arith in
    let power : 2 ^ ((line + 1) * 64) ≡ 2 ^ (line * 64) * 2 ^ 64 = ap (λ n. 2 ^ n) next ∙ pow-add 2 (line * 64) 64 in
    let lifted : left * 2 ^ ((line + 1) * 64) ≡ left * (2 ^ (line * 64) * 2 ^ 64) = ap (λ n. left * n) power in
    omega arith
