-- The block that bytes begin with.
use Rattle.std.proofs.Common.{◌≡◌, ℕ, ◌+◌, ◌*◌, ◌≤◌, None, List, [], ◌∷◌, ◌++◌, length, map, take, drop, flat_map, refl, sym, ap, ◌∙◌, subst, arith, length-append, append_assoc}
use Rattle.std.specs.Simd.{first_chunks}
use Rattle.std.proofs.Math.Seq.{take-add}
use Rattle.std.proofs.lemmas.List.{length-drop, drop_at, append-nil}
use Rattle.definitions_blocks.specs.Words.{AreOctets}
use Rattle.definitions_blocks.specs.Blocks.{block_values}
use Rattle.definitions_blocks.specs.Runs.{Run, run_values, AreRunsOf, two_bytes, run_bytes, run_count, IsRunsBlock}
use Rattle.definitions_blocks.proofs.WordLaws.{AreOctets-drop}
use Rattle.definitions_blocks.proofs.RunListLaws.{IsRunCount, AreRunsOf-count, IsFull-run_count}
use Rattle.definitions_blocks.proofs.RunBlockLaws.{AreRunsOf-fit, length-two_bytes, IsRunsBlock-length}
use Rattle.run_formats.specs.Cells.{count_in, run_in, cells_in, BeginsWithRuns}
use Rattle.run_formats.proofs.CellLaws.{length-runs_in, runs_bytes-runs_in, runs_in-runs_bytes, run_values-words, two_bytes-count_in, count_in-two_bytes}
use Rattle.run_formats.proofs.PassesLaws.{Follows, Passed, Passes-from, Passes-gives}

-- the block that bytes begin with
pub record FrontBlock (bytes values : List ℕ) : Type 0 where
  pub block : IsRunsBlock values (take (2 + 10 * count_in bytes) bytes)
  pub headed : count_in bytes ≡ run_count values

pub block_in_front : (bytes : List ℕ) → AreOctets bytes → BeginsWithRuns bytes → FrontBlock bytes (run_values (map run_in (cells_in (count_in bytes) bytes)))
block_in_front bytes are begins =
    let count = count_in bytes in
    let runs = map run_in (cells_in count bytes) in
    let long : length runs ≡ count = length-runs_in count (drop 2 bytes) in
    let passed : Passed None block_values runs = Passes-gives None block_values runs begins.passes in
    let are_runs : AreRunsOf runs (run_values runs) = record { cover = refl; nonempty = passed.nonempty; maximal = passed.maximal } in
    let head : two_bytes (length runs) ≡ take 2 bytes = ap two_bytes long ∙ two_bytes-count_in bytes begins.headed are in
    let body : flat_map run_bytes runs ≡ take (10 * count) (drop 2 bytes) =
    runs_bytes-runs_in count (drop 2 bytes) (omega (arith, length-drop 2 bytes, begins.whole)) (AreOctets-drop 2 bytes are) in
    record {
      block = record {
        full = record { whole = passed.covers; words = run_values-words count (drop 2 bytes) (AreOctets-drop 2 bytes are) };
        runs = runs;
        are = are_runs;
        encoded = take-add 2 (10 * count) bytes ∙ ap (λ (front : List ℕ). front ++ take (10 * count) (drop 2 bytes)) (sym head)
            ∙ ap (λ (back : List ℕ). two_bytes (length runs) ++ back) (sym body);
      };
      headed = sym long ∙ AreRunsOf-count runs (run_values runs) are_runs;
    }

-- what bytes are that begin with a block of these values
pub record FrontRuns (values bytes : List ℕ) : Type 0 where
  pub headed : count_in bytes ≡ run_count values
  pub size : 2 + 10 * count_in bytes ≤ length bytes
  pub few : IsRunCount (run_count values)
  pub are : AreRunsOf (map run_in (cells_in (count_in bytes) bytes)) values

pub front_runs : (values encoding rest bytes : List ℕ) → IsRunsBlock values encoding → bytes ≡ encoding ++ rest → FrontRuns values bytes
front_runs values encoding rest bytes is e =
    let runs = is.runs in
    let body = flat_map run_bytes runs in
    let count : length runs ≡ run_count values = AreRunsOf-count runs values is.are in
    let few : IsRunCount (run_count values) = IsFull-run_count values is.full in
    let split : bytes ≡ two_bytes (length runs) ++ (body ++ rest) = e ∙ ap (λ (front : List ℕ). front ++ rest) is.encoded ∙ append_assoc (two_bytes (length runs)) body rest in
    let head : count_in bytes ≡ length runs = ap count_in split ∙ count_in-two_bytes (length runs) (body ++ rest) (omega (arith, few.most)) in
    let back : drop 2 bytes ≡ body ++ rest = ap (drop 2) split ∙ drop_at (two_bytes (length runs)) (body ++ rest) 2 (length-two_bytes (length runs)) in
    let read : map run_in (cells_in (count_in bytes) bytes) ≡ runs =
    ap (λ (n : ℕ). map run_in (first_chunks 10 n (drop 2 bytes))) head ∙ ap (λ (cells : List ℕ). map run_in (first_chunks 10 (length runs) cells)) back
    ∙ runs_in-runs_bytes runs rest (AreRunsOf-fit runs values is.are is.full) in
    record {
      headed = head ∙ count;
      size = omega (arith, ap length e, length-append encoding rest, IsRunsBlock-length values encoding is);
      few = few;
      are = subst (λ (list : List Run). AreRunsOf list values) (sym read) is.are;
    }

pub begins_with_block : (values encoding rest bytes : List ℕ) → IsRunsBlock values encoding → bytes ≡ encoding ++ rest → BeginsWithRuns bytes
begins_with_block values encoding rest bytes is e =
    let front : FrontRuns values bytes = front_runs values encoding rest bytes is e in
    let runs = map run_in (cells_in (count_in bytes) bytes) in
    record {
      headed = omega (arith, front.size);
      some = omega (arith, front.headed, front.few.some);
      most = omega (arith, front.headed, front.few.most);
      whole = front.size;
      passes = Passes-from None block_values runs front.are.nonempty front.are.maximal (Follows-none runs) (ap length front.are.cover ∙ is.full.whole);
    }
  where
    Follows-none : (runs : List Run) → Follows None runs
    Follows-none [] = tt
    Follows-none (run ∷ runs) = λ same. cc

-- the runs of a block
pub block_runs : (values bytes : List ℕ) → IsRunsBlock values bytes → FrontRuns values bytes
block_runs values bytes is = front_runs values bytes [] bytes is (sym (append-nil bytes))

-- the values that the cells of a block have
pub block_values_in_cells : (values bytes : List ℕ) (runs : ℕ) (cells : List (List ℕ)) → IsRunsBlock values bytes → runs ≡ run_count values → cells ≡ cells_in runs bytes → run_values (map run_in cells) ≡ values
block_values_in_cells values bytes runs cells is head e =
    let front : FrontRuns values bytes = block_runs values bytes is in
    ap (λ (list : List (List ℕ)). run_values (map run_in list)) e
    ∙ ap (λ (n : ℕ). run_values (map run_in (cells_in n bytes))) (head ∙ sym front.headed) ∙ front.are.cover
