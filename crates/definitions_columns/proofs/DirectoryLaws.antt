-- The entries of a directory are its words.
use Rattle.std.proofs.Common.{◌≡◌, ℕ, zero, suc, ◌+◌, ◌*◌, ◌<◌, Bool, true, false, if◌then◌else◌, List, [], ◌∷◌, ◌++◌, length, get_or, take, drop, refl, sym, ap, ◌∙◌, arith, append_assoc}
use Rattle.std.proofs.lemmas.List.{take_at, drop_at, drop-drop, take-append-drop}
use Rattle.definitions_blocks.specs.Words.{word_bytes, words_of}
use Rattle.definitions_blocks.specs.Formats.{Format}
use Rattle.definitions_columns.specs.ColumnFiles.{Version, Piece, head_len, starts_from, has_directory, first_start, directory_of}
use Rattle.definitions_columns.specs.FileFaults.{StartsAt}
use Rattle.definitions_blocks.proofs.WordLaws.{length-word_bytes}
use Rattle.definitions_columns.proofs.ColumnFileLaws.{length-starts_from}

-- a word of some
pub word_there : (values rest : List ℕ) (i : ℕ) → i < length values → take 8 (drop (8 * i) (words_of values ++ rest)) ≡ word_bytes (get_or values i 0)
word_there [] rest i less = absurd (omega (arith, less))
word_there (value ∷ values) rest zero less =
    ap (take 8) (append_assoc (word_bytes value) (words_of values) rest) ∙ take_at (word_bytes value) (words_of values ++ rest) 8 (length-word_bytes value)
word_there (value ∷ values) rest (suc i) less =
    let place : 8 * suc i ≡ 8 + 8 * i = omega arith in
    let behind : drop 8 (words_of (value ∷ values) ++ rest) ≡ words_of values ++ rest =
    ap (drop 8) (append_assoc (word_bytes value) (words_of values) rest) ∙ drop_at (word_bytes value) (words_of values ++ rest) 8 (length-word_bytes value) in
    ap (λ n. take 8 (drop n (words_of (value ∷ values) ++ rest))) place ∙ ap (take 8) (sym (drop-drop (8 * i) 8 (words_of (value ∷ values) ++ rest)))
    ∙ ap (λ l. take 8 (drop (8 * i) l)) behind ∙ word_there values rest i (omega (arith, less))

-- words that stand one after the other
pub words_there : (bytes values : List ℕ) (place : ℕ) → ((i : ℕ) → i < length values → take 8 (drop (place + 8 * i) bytes) ≡ word_bytes (get_or values i 0))
    → drop place bytes ≡ words_of values ++ drop (place + 8 * length values) bytes
words_there bytes [] place each = ap (λ n. drop n bytes) (let e : place ≡ place + 0 = omega arith in e)
words_there bytes (value ∷ values) place each =
    let first : take 8 (drop place bytes) ≡ word_bytes value = ap (λ n. take 8 (drop n bytes)) (let e : place ≡ place + 8 * 0 = omega arith in e) ∙ each 0 (omega arith) in
    let rest : drop (place + 8) bytes ≡ words_of values ++ drop (place + 8 + 8 * length values) bytes =
    words_there bytes values (place + 8) (λ i less. ap (λ n. take 8 (drop n bytes)) (let e : place + 8 + 8 * i ≡ place + 8 * suc i = omega arith in e) ∙ each (suc i) (omega (arith, less))) in
    let end : place + 8 + 8 * length values ≡ place + 8 * suc (length values) = omega arith in
    sym (take-append-drop 8 (drop place bytes)) ∙ ap (λ (l : List ℕ). l ++ drop 8 (drop place bytes)) first
    ∙ ap (λ (l : List ℕ). word_bytes value ++ l) (drop-drop 8 place bytes ∙ rest ∙ ap (λ n. words_of values ++ drop n bytes) end)
    ∙ sym (append_assoc (word_bytes value) (words_of values) (drop (place + 8 * suc (length values)) bytes))

entries_where : (listed : Bool) (bytes starts rest : List ℕ) → drop head_len bytes ≡ (if listed then words_of starts else []) ++ rest → (block : ℕ) → block < length starts
    → listed ≡ true → take 8 (drop (head_len + 8 * block) bytes) ≡ word_bytes (get_or starts block 0)
entries_where true bytes starts rest behind block less listed =
    ap (take 8) (sym (drop-drop (8 * block) head_len bytes)) ∙ ap (λ l. take 8 (drop (8 * block) l)) behind ∙ word_there starts rest block less
entries_where false bytes starts rest behind block less listed = absurd cc

-- behind a head with a directory stands an entry for each block
pub directory_of-entries : (version : Version) (format : Format) (bytes : List ℕ) (pieces : List Piece) (rest : List ℕ) → drop head_len bytes ≡ directory_of version format pieces ++ rest
    → (block : ℕ) → block < length pieces → StartsAt version format bytes block (get_or (starts_from (first_start version format (length pieces)) pieces) block 0)
directory_of-entries version format bytes pieces rest behind block less =
    let starts = starts_from (first_start version format (length pieces)) pieces in
    entries_where (has_directory version format) bytes starts rest behind block (omega (arith, less, length-starts_from (first_start version format (length pieces)) pieces))

directory_where : (listed : Bool) (bytes starts : List ℕ) (blocks : ℕ) → length starts ≡ blocks
    → ((block : ℕ) → block < blocks → listed ≡ true → take 8 (drop (head_len + 8 * block) bytes) ≡ word_bytes (get_or starts block 0))
    → drop head_len bytes ≡ (if listed then words_of starts else []) ++ drop (head_len + (if listed then 8 * blocks else 0)) bytes
directory_where true bytes starts blocks many each =
    words_there bytes starts head_len (λ block less. each block (omega (arith, less, many)) refl) ∙ ap (λ n. words_of starts ++ drop (head_len + 8 * n) bytes) many
directory_where false bytes starts blocks many each = refl

-- entries for all blocks are the directory
pub directory_of-from : (version : Version) (format : Format) (bytes : List ℕ) (pieces : List Piece)
    → ((block : ℕ) → block < length pieces → StartsAt version format bytes block (get_or (starts_from (first_start version format (length pieces)) pieces) block 0))
    → drop head_len bytes ≡ directory_of version format pieces ++ drop (first_start version format (length pieces)) bytes
directory_of-from version format bytes pieces each =
    let starts = starts_from (first_start version format (length pieces)) pieces in
    directory_where (has_directory version format) bytes starts (length pieces) (length-starts_from (first_start version format (length pieces)) pieces) each
