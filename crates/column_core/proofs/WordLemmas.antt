-- The words of a list's bytes are its values.
use Rattle.std.proofs.Common.{◌≡◌, ℕ, zero, suc, ◌+◌, ◌*◌, ◌<◌, List, [], ◌∷◌, length, take, drop, get_or, sym, ap, ◌∙◌, arith}
use Rattle.std.specs.Int.{from_le_bytes, w64}
use Rattle.std.specs.List.{AllByRecursion}
use Rattle.std.proofs.lemmas.List.{take_at, drop_at, drop-drop}
use Rattle.definitions_blocks.specs.Words.{IsWord, word_bytes, word_of, words_of}
use Rattle.definitions_blocks.proofs.WordLaws.{length-word_bytes, from_le_bytes-word_bytes}

pub word_of-words_of : (values : List ℕ) (place : ℕ) → AllByRecursion IsWord values → place < length values → word_of (words_of values) place ≡ get_or values place 0
unfolding word_of
word_of-words_of [] place words within = absurd (omega arith)
word_of-words_of (value ∷ values) zero words within =
    ap (from_le_bytes w64) (take_at (word_bytes value) (words_of values) 8 (length-word_bytes value)) ∙ from_le_bytes-word_bytes value words.0
word_of-words_of (value ∷ values) (suc place) words within =
    let at : 8 * suc place ≡ 8 + 8 * place = omega arith in
    let rest : drop (8 * suc place) (words_of (value ∷ values)) ≡ drop (8 * place) (words_of values) =
    ap (λ n. drop n (words_of (value ∷ values))) at ∙ sym (drop-drop (8 * place) 8 (words_of (value ∷ values)))
    ∙ ap (drop (8 * place)) (drop_at (word_bytes value) (words_of values) 8 (length-word_bytes value)) in
    ap (λ l. from_le_bytes w64 (take 8 l)) rest ∙ word_of-words_of values place words.1 (omega arith)
