-- Blocks that move up behind a directory, and the entries that are written before them.
use Rattle.std.proofs.Common.{◌≡◌, ℕ, ◌+◌, ◌-◌, ◌*◌, ◌/◌, ◌%◌, ◌<◌, ◌≤◌, Bool, true, false, if◌then◌else◌, List, [], ◌∷◌, ◌++◌, length, take, drop, get_or, map, replicate, refl, sym, ap, ap₂, ◌∙◌, subst, arith, length-append, append_assoc}
use Rattle.std.proofs.Math.Seq.{paste}
use Rattle.std.proofs.lemmas.Grind.{flat_map-append}
use Rattle.std.proofs.lemmas.List.{take_all, take_at, drop_at, take-take, drop-take, drop-drop, take-append-drop, take-append-le, drop-append-le, length-take, length-drop, take_more, map-append, append-nil}
use Rattle.std.proofs.lemmas.List.Edits.{take-paste}
use Rattle.definitions_blocks.specs.Words.{word_bytes, words_of}
use Rattle.definitions_blocks.proofs.WordLaws.{length-word_bytes, length-words_of}
use Rattle.definitions_columns.specs.ColumnFiles.{head_len}
use Rattle.definitions_columns.specs.UnderWay.{moved_up}

-- what bytes become that move up
pub after_the_move : (before after : List ℕ) (end shift : ℕ) → head_len ≤ end → length before ≡ end + shift → length after ≡ length before → after ≡ paste before (head_len + shift) (drop head_len before) (end - head_len)
    → after ≡ take (head_len + shift) before ++ drop head_len (take end before)
after_the_move before after end shift head room size is =
    let part = drop head_len before in
    let n = end - head_len in
    let to : head_len + shift ≤ length before = omega (arith, room) in
    let few : n ≤ length part = omega (arith, room, length-drop head_len before) in
    let all : length after ≤ head_len + shift + n = omega (arith, room, size) in
    let sum : head_len + n ≡ end = omega arith in
    sym (take_all (head_len + shift + n) after all) ∙ ap (take (head_len + shift + n)) is ∙ take-paste before (head_len + shift) part n to few
    ∙ ap (λ (l : List ℕ). take (head_len + shift) before ++ l) (sym (drop-take head_len n before) ∙ ap (λ m. drop head_len (take m before)) sum)

pub moved_front : (before after : List ℕ) (end shift : ℕ) → head_len ≤ end → length before ≡ end + shift → after ≡ take (head_len + shift) before ++ drop head_len (take end before) → take head_len after ≡ take head_len before
moved_front before after end shift head room is =
    let front = take (head_len + shift) before in
    let long : head_len ≤ length front = omega (arith, length-take (head_len + shift) before, room) in
    ap (take head_len) is ∙ take-append-le head_len front (drop head_len (take end before)) long ∙ take-take head_len (head_len + shift) before (omega arith)

pub moved_rest : (before after : List ℕ) (end shift : ℕ) → head_len ≤ end → length before ≡ end + shift → after ≡ take (head_len + shift) before ++ drop head_len (take end before) → drop (head_len + shift) after ≡ drop head_len (take end before)
moved_rest before after end shift head room is =
    let front = take (head_len + shift) before in
    ap (drop (head_len + shift)) is ∙ drop_at front (drop head_len (take end before)) (head_len + shift) (omega (arith, length-take (head_len + shift) before, room))

-- bytes with so many entries written behind the head
abbrev pub with_entries : ℕ → List ℕ → List ℕ → ℕ → List ℕ
with_entries shift starts bytes n = take head_len bytes ++ (words_of (moved_up shift (take n starts)) ++ drop (head_len + 8 * n) bytes)

pub entries_none : (shift : ℕ) (starts bytes : List ℕ) → bytes ≡ with_entries shift starts bytes 0
entries_none shift starts bytes = sym (take-append-drop head_len bytes)

pub length-moved_up : (shift : ℕ) (places : List ℕ) → length (moved_up shift places) ≡ length places
length-moved_up shift [] = refl
length-moved_up shift (place ∷ places) = let rest = length-moved_up shift places in omega (arith, rest)

length-entries : (shift : ℕ) (starts bytes : List ℕ) (n : ℕ) → n ≤ length starts → head_len ≤ length bytes → length (take head_len bytes ++ words_of (moved_up shift (take n starts))) ≡ head_len + 8 * n
length-entries shift starts bytes n few head =
    omega (arith, length-append (take head_len bytes) (words_of (moved_up shift (take n starts))), length-take head_len bytes, length-words_of (moved_up shift (take n starts)), length-moved_up shift (take n starts), length-take n starts)

-- one entry more
pub entries_more : (shift : ℕ) (starts bytes before after : List ℕ) (n : ℕ) → n < length starts → head_len + 8 * length starts ≤ length bytes → before ≡ with_entries shift starts bytes n
    → after ≡ take (head_len + 8 * n) before ++ (word_bytes (get_or starts n 0 + shift) ++ drop (head_len + 8 * n + 8) before) → after ≡ with_entries shift starts bytes (n + 1)
entries_more shift starts bytes before after n less room was is =
    let head = take head_len bytes in
    let done = words_of (moved_up shift (take n starts)) in
    let front = head ++ done in
    let rest = drop (head_len + 8 * n) bytes in
    let word = word_bytes (get_or starts n 0 + shift) in
    let long : length front ≡ head_len + 8 * n = length-entries shift starts bytes n (omega arith) (omega arith) in
    let whole : before ≡ front ++ rest = was ∙ sym (append_assoc head done rest) in
    let kept : take (head_len + 8 * n) before ≡ front = ap (take (head_len + 8 * n)) whole ∙ take_at front rest (head_len + 8 * n) long in
    let next : drop (head_len + 8 * n + 8) before ≡ drop (head_len + 8 * (n + 1)) bytes =
    sym (drop-drop 8 (head_len + 8 * n) before) ∙ ap (drop 8) (ap (drop (head_len + 8 * n)) whole ∙ drop_at front rest (head_len + 8 * n) long)
    ∙ drop-drop 8 (head_len + 8 * n) bytes ∙ ap (λ m. drop m bytes) (let e : head_len + 8 * n + 8 ≡ head_len + 8 * (n + 1) = omega arith in e) in
    let grown : done ++ word ≡ words_of (moved_up shift (take (n + 1) starts)) =
    sym (ap (λ l. words_of (moved_up shift l)) (take_more starts n 0 less) ∙ ap words_of (map-append (λ s. s + shift) (take n starts) (get_or starts n 0 ∷ []))
    ∙ flat_map-append word_bytes (moved_up shift (take n starts)) ((get_or starts n 0 + shift) ∷ []) ∙ ap (λ (l : List ℕ). done ++ l) (append-nil word)) in
    is ∙ ap₂ (λ (a b : List ℕ). a ++ (word ++ b)) kept next ∙ append_assoc head done (word ++ drop (head_len + 8 * (n + 1)) bytes)
    ∙ ap (λ (l : List ℕ). head ++ l) (sym (append_assoc done word (drop (head_len + 8 * (n + 1)) bytes)) ∙ ap (λ (l : List ℕ). l ++ drop (head_len + 8 * (n + 1)) bytes) grown)
