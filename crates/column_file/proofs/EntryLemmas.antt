-- Entries of the directory, and the width of a tail, as they are read.
use Rattle.std.proofs.Common.{◌≡◌, ℕ, ◌+◌, ◌*◌, ◌^◌, ◌<◌, ◌≤◌, Bool, true, false, List, length, take, drop, if◌then◌else◌, refl, sym, ap, ◌∙◌, arith}
use Rattle.std.specs.Int.{from_le_bytes, w64}
use Rattle.std.proofs.lemmas.List.{length-take, length-drop}
use Rattle.definitions_blocks.specs.Words.{AreOctets, word_bytes, word_of}
use Rattle.definitions_blocks.specs.Encodings.{width_of}
use Rattle.definitions_columns.specs.FileFaults.{HasEntry}
use Rattle.definitions_blocks.proofs.WordLaws.{AreOctets-take, AreOctets-drop, length-word_bytes, from_le_bytes-word_bytes, word_bytes-from_le_bytes}

-- a directory that ends before an entry has none there
pub entry_cut : (bytes : List ℕ) (block place : ℕ) → length bytes < 8 * (2 + block) + 8 → HasEntry bytes block place → ⊥
entry_cut bytes block place short is =
    omega (arith, ap length is, length-word_bytes place, length-take 8 (drop (16 + 8 * block) bytes), length-drop (16 + 8 * block) bytes)

-- the word there
entry_word : (bytes : List ℕ) (block : ℕ) → word_of bytes (2 + block) ≡ from_le_bytes w64 (take 8 (drop (16 + 8 * block) bytes))
unfolding word_of
entry_word bytes block = ap (λ n. from_le_bytes w64 (take 8 (drop n bytes))) (let e : 8 * (2 + block) ≡ 16 + 8 * block = omega arith in e)

pub entry_from : (bytes : List ℕ) (block place : ℕ) → AreOctets bytes → 8 * (2 + block) + 8 ≤ length bytes → word_of bytes (2 + block) ≡ place → HasEntry bytes block place
entry_from bytes block place octets long is =
    let word = take 8 (drop (16 + 8 * block) bytes) in
    let whole : length word ≡ 8 = omega (arith, length-take 8 (drop (16 + 8 * block) bytes), length-drop (16 + 8 * block) bytes) in
    sym (word_bytes-from_le_bytes word whole (AreOctets-take 8 (drop (16 + 8 * block) bytes) (AreOctets-drop (16 + 8 * block) bytes octets)))
    ∙ ap word_bytes (sym (entry_word bytes block) ∙ is)

pub entry_is : (bytes : List ℕ) (block place : ℕ) → place < 2 ^ 64 → HasEntry bytes block place → word_of bytes (2 + block) ≡ place
entry_is bytes block place fits is = entry_word bytes block ∙ ap (from_le_bytes w64) is ∙ from_le_bytes-word_bytes place fits

-- the width of a tail that is packed
pub packed_width : (words : Bool) (tail : List ℕ) → words ≡ false → (if words then 64 else width_of tail) ≡ width_of tail
packed_width true tail is = absurd cc
packed_width false tail is = refl
