-- The cells of a block encode its runs.
use Rattle.std.proofs.Common.{◌≡◌, ℕ, zero, suc, ◌+◌, ◌*◌, ◌/◌, ◌^◌, ◌<◌, ◌≤◌, List, [], ◌∷◌, ◌++◌, length, map, take, drop, get_or, flat_map, replicate, refl, sym, ap, ap₂, ◌∙◌, arith, append_assoc}
use Rattle.std.specs.Int.{from_le_bytes, w16, w64}
use Rattle.std.specs.List.{AllByRecursion}
use Rattle.std.specs.Simd.{first_chunks}
use Rattle.std.proofs.Math.Seq.{take-add}
use Rattle.std.proofs.lemmas.List.{length-take, length-drop, get_or-drop, take-append-drop, take_at, drop_at}
use Rattle.definitions_blocks.specs.Words.{IsWord, AreOctets, word_bytes}
use Rattle.definitions_blocks.specs.Runs.{Run, run_values, two_bytes, run_bytes}
use Rattle.definitions_blocks.proofs.WordLaws.{AreOctets-take, AreOctets-drop, length-word_bytes, from_le_bytes-word_bytes, word_bytes-from_le_bytes, from_le_bytes-word}
use Rattle.definitions_blocks.proofs.WordListLaws.{AreWords-append, AreWords-replicate}
use Rattle.definitions_blocks.proofs.RunBlockLaws.{RunFits, length-two_bytes, from_le_bytes-two_bytes, two_bytes-from_le_bytes, length-run_bytes}
use Rattle.run_formats.specs.Cells.{count_in, value_in, length_in, run_in, cells_in}

-- the first chunks of more chunks
pub take-first_chunks : (size count more : ℕ) (bytes : List ℕ) → count ≤ more → take count (first_chunks size more bytes) ≡ first_chunks size count bytes
take-first_chunks size zero more bytes within = refl
take-first_chunks size (suc count) zero bytes within = absurd (omega arith)
take-first_chunks size (suc count) (suc more) bytes within = ap (λ (rest : List (List ℕ)). take size bytes ∷ rest) (take-first_chunks size count more (drop size bytes) (omega arith))

pub value_in-below : (cell : List ℕ) → AreOctets cell → value_in cell < 2 ^ 64
unfolding value_in
value_in-below cell are = from_le_bytes-word (take 8 cell) (AreOctets-take 8 cell are)

-- a cell is the bytes of the run in it
pub run_bytes-run_in : (cell : List ℕ) → length cell ≡ 10 → AreOctets cell → run_bytes (run_in cell) ≡ cell
unfolding value_in length_in
run_bytes-run_in cell whole are =
    let value : word_bytes (from_le_bytes w64 (take 8 cell)) ≡ take 8 cell = word_bytes-from_le_bytes (take 8 cell) (omega (arith, length-take 8 cell)) (AreOctets-take 8 cell are) in
    let lengths : two_bytes (from_le_bytes w16 (drop 8 cell)) ≡ drop 8 cell = two_bytes-from_le_bytes (drop 8 cell) (omega (arith, length-drop 8 cell)) (AreOctets-drop 8 cell are) in
    ap (λ (bytes : List ℕ). bytes ++ two_bytes (from_le_bytes w16 (drop 8 cell))) value ∙ ap (λ (bytes : List ℕ). take 8 cell ++ bytes) lengths ∙ take-append-drop 8 cell

-- a run is read back from its bytes
pub run_in-run_bytes : (run : Run) → RunFits run → run_in (run_bytes run) ≡ run
unfolding value_in length_in
run_in-run_bytes run fits =
    let value : value_in (run_bytes run) ≡ run.value =
    ap (from_le_bytes w64) (take_at (word_bytes run.value) (two_bytes run.length) 8 (length-word_bytes run.value)) ∙ from_le_bytes-word_bytes run.value fits.value in
    let lengths : length_in (run_bytes run) ≡ run.length =
    ap (from_le_bytes w16) (drop_at (word_bytes run.value) (two_bytes run.length) 8 (length-word_bytes run.value)) ∙ from_le_bytes-two_bytes run.length (omega (arith, fits.length)) in
    λ i. record { value = value i; length = lengths i }

pub length-runs_in : (count : ℕ) (bytes : List ℕ) → length (map run_in (first_chunks 10 count bytes)) ≡ count
length-runs_in zero bytes = refl
length-runs_in (suc count) bytes = ap (λ (n : ℕ). suc n) (length-runs_in count (drop 10 bytes))

-- the runs in cells encode the cells
pub runs_bytes-runs_in : (count : ℕ) (bytes : List ℕ) → 10 * count ≤ length bytes → AreOctets bytes → flat_map run_bytes (map run_in (first_chunks 10 count bytes)) ≡ take (10 * count) bytes
runs_bytes-runs_in zero bytes within are = refl
runs_bytes-runs_in (suc count) bytes within are =
    let first : run_bytes (run_in (take 10 bytes)) ≡ take 10 bytes = run_bytes-run_in (take 10 bytes) (omega (arith, length-take 10 bytes)) (AreOctets-take 10 bytes are) in
    let rest : flat_map run_bytes (map run_in (first_chunks 10 count (drop 10 bytes))) ≡ take (10 * count) (drop 10 bytes) =
    runs_bytes-runs_in count (drop 10 bytes) (omega (arith, length-drop 10 bytes)) (AreOctets-drop 10 bytes are) in
    let more : 10 + 10 * count ≡ 10 * suc count = omega arith in
    ap (λ (cell : List ℕ). cell ++ flat_map run_bytes (map run_in (first_chunks 10 count (drop 10 bytes)))) first
    ∙ ap (λ (cells : List ℕ). take 10 bytes ++ cells) rest ∙ sym (take-add 10 (10 * count) bytes) ∙ ap (λ (n : ℕ). take n bytes) more

-- runs are read back from their cells
pub runs_in-runs_bytes : (runs : List Run) (rest : List ℕ) → AllByRecursion RunFits runs → map run_in (first_chunks 10 (length runs) (flat_map run_bytes runs ++ rest)) ≡ runs
runs_in-runs_bytes [] rest fits = refl
runs_in-runs_bytes (run ∷ runs) rest fits =
    let later = flat_map run_bytes runs ++ rest in
    let split : (run_bytes run ++ flat_map run_bytes runs) ++ rest ≡ run_bytes run ++ later = append_assoc (run_bytes run) (flat_map run_bytes runs) rest in
    let first : run_in (take 10 (run_bytes run ++ later)) ≡ run = ap run_in (take_at (run_bytes run) later 10 (length-run_bytes run)) ∙ run_in-run_bytes run fits.0 in
    let others : map run_in (first_chunks 10 (length runs) (drop 10 (run_bytes run ++ later))) ≡ runs =
    ap (λ (bytes : List ℕ). map run_in (first_chunks 10 (length runs) bytes)) (drop_at (run_bytes run) later 10 (length-run_bytes run)) ∙ runs_in-runs_bytes runs rest fits.1 in
    ap (λ (bytes : List ℕ). map run_in (first_chunks 10 (suc (length runs)) bytes)) split ∙ (λ i. first i ∷ others i)

-- the values of the runs in cells are words
pub run_values-words : (count : ℕ) (bytes : List ℕ) → AreOctets bytes → AllByRecursion IsWord (run_values (map run_in (first_chunks 10 count bytes)))
run_values-words zero bytes are = tt
run_values-words (suc count) bytes are =
    AreWords-append (replicate (length_in (take 10 bytes)) (value_in (take 10 bytes))) (run_values (map run_in (first_chunks 10 count (drop 10 bytes))))
    (AreWords-replicate (length_in (take 10 bytes)) (value_in (take 10 bytes)) (value_in-below (take 10 bytes) (AreOctets-take 10 bytes are))) (run_values-words count (drop 10 bytes) (AreOctets-drop 10 bytes are))

pub two_bytes-count_in : (bytes : List ℕ) → 2 ≤ length bytes → AreOctets bytes → two_bytes (count_in bytes) ≡ take 2 bytes
unfolding count_in
two_bytes-count_in bytes within are = two_bytes-from_le_bytes (take 2 bytes) (omega (arith, length-take 2 bytes)) (AreOctets-take 2 bytes are)

pub count_in-two_bytes : (count : ℕ) (rest : List ℕ) → count < 2 ^ 16 → count_in (two_bytes count ++ rest) ≡ count
unfolding count_in
count_in-two_bytes count rest below = ap (from_le_bytes w16) (take_at (two_bytes count) rest 2 (length-two_bytes count)) ∙ from_le_bytes-two_bytes count below

-- the cells that are read from the chunks behind the head
pub cells_read : (bytes part : List ℕ) (count : ℕ) (chunks : List (List ℕ)) → chunks ≡ first_chunks 10 (length part / 10) part → part ≡ drop 2 bytes → 2 + 10 * count ≤ length bytes → take count chunks ≡ cells_in count bytes
cells_read bytes part count chunks e is within =
    ap (take count) e ∙ ap (λ (rest : List ℕ). take count (first_chunks 10 (length rest / 10) rest)) is
    ∙ take-first_chunks 10 count (length (drop 2 bytes) / 10) (drop 2 bytes) (omega (arith, length-drop 2 bytes))

-- the value is read from the first eight bytes of a cell
pub value_read : (cell : List ℕ) (words : List (List ℕ)) → words ≡ first_chunks 8 (length cell / 8) cell → length cell ≡ 10 → from_le_bytes w64 (get_or words 0 []) ≡ value_in cell
unfolding value_in
value_read cell words e whole =
    let one : length cell / 8 ≡ 1 = omega arith in
    ap (λ (list : List (List ℕ)). from_le_bytes w64 (get_or list 0 [])) e ∙ ap (λ (n : ℕ). from_le_bytes w64 (get_or (first_chunks 8 n cell) 0 [])) one

-- its length is read from the last two
pub length_read : (cell : List ℕ) → get_or cell 8 0 + get_or cell 9 0 * 256 ≡ length_in cell
unfolding length_in
length_read cell = sym (ap₂ (λ (low high : ℕ). low + high * 256) (get_or-drop 8 cell 0 0) (get_or-drop 8 cell 1 0))
