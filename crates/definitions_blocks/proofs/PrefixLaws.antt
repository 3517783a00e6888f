-- Parts of lists that are one, and the list that words encode.
use Rattle.std.proofs.Common.{◌≡◌, ℕ, ◌^◌, ◌<◌, List, [], ◌∷◌, ◌++◌, length, take, drop, refl, sym, ap, ◌∙◌, arith, length-append}
use Rattle.std.proofs.Math.Seq.{take-append_seam, drop-append_seam}
use Rattle.std.specs.Int.{from_le_bytes, w64}
use Rattle.std.specs.List.{AllByRecursion}
use Rattle.definitions_blocks.specs.Words.{IsWord, word_bytes, words_of}
use Rattle.definitions_blocks.proofs.WordLaws.{length-word_bytes, from_le_bytes-word_bytes}

-- fronts of one length are one, and so are the rests
pub same_front : (a b x y : List ℕ) → length a ≡ length b → a ++ x ≡ b ++ y → a ≡ b
same_front a b x y same e = sym (take-append_seam a x) ∙ ap (take (length a)) e ∙ ap (λ n. take n (b ++ y)) same ∙ take-append_seam b y

pub same_rest : (a b x y : List ℕ) → length a ≡ length b → a ++ x ≡ b ++ y → x ≡ y
same_rest a b x y same e = sym (drop-append_seam a x) ∙ ap (drop (length a)) e ∙ ap (λ n. drop n (b ++ y)) same ∙ drop-append_seam b y

-- bytes that begin with two words begin with one, and what follows is one
pub same_word : (n m : ℕ) (a b : List ℕ) → n < 2 ^ 64 → m < 2 ^ 64 → word_bytes n ++ a ≡ word_bytes m ++ b → n ≡ m
same_word n m a b p q e =
    let front : word_bytes n ≡ word_bytes m = same_front (word_bytes n) (word_bytes m) a b (length-word_bytes n ∙ sym (length-word_bytes m)) e in
    sym (from_le_bytes-word_bytes n p) ∙ ap (from_le_bytes w64) front ∙ from_le_bytes-word_bytes m q

pub same_after_word : (n m : ℕ) (a b : List ℕ) → word_bytes n ++ a ≡ word_bytes m ++ b → a ≡ b
same_after_word n m a b e = same_rest (word_bytes n) (word_bytes m) a b (length-word_bytes n ∙ sym (length-word_bytes m)) e

-- words are those of one list
pub words_of-one : (values others : List ℕ) → AllByRecursion IsWord values → AllByRecursion IsWord others → words_of values ≡ words_of others → values ≡ others
words_of-one [] [] p q e = refl
words_of-one [] (w ∷ others) p q e = absurd (omega (arith, ap length e, length-append (word_bytes w) (words_of others), length-word_bytes w))
words_of-one (v ∷ values) [] p q e = absurd (omega (arith, ap length e, length-append (word_bytes v) (words_of values), length-word_bytes v))
words_of-one (v ∷ values) (w ∷ others) p q e =
    let word : v ≡ w = same_word v w (words_of values) (words_of others) p.0 q.0 e in
    let rest : values ≡ others = words_of-one values others p.1 q.1 (same_after_word v w (words_of values) (words_of others) e) in
    λ i. word i ∷ rest i
