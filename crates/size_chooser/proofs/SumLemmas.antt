-- What is kept of whole blocks, as blocks are added.
use Rattle.std.proofs.Common.{◌≡◌, ℕ, ◌+◌, ◌≤◌, max, List, ◌++◌, length, ap, sym, subst, ◌∙◌, arith, length-append}
use Rattle.std.proofs.lemmas.List.{take_all}
use Rattle.definitions_blocks.specs.Blocks.{block_values, block_at}
use Rattle.definitions_blocks.specs.Packed.{IsWidth}
use Rattle.definitions_blocks.specs.Formats.{Format, dynamic, runs, delta1_dynamic, delta16_dynamic, reference_dynamic, delta1_runs}
use Rattle.definitions_blocks.proofs.WidthLaws.{IsWidth-append}
use Rattle.definitions_columns.specs.Sizes.{block_size, whole_count, blocks_size, sum_blocks}
use Rattle.definitions_columns.proofs.BlockSumLaws.{sum_blocks-push}
use Rattle.size_chooser.specs.declared.sums.BlockSums.{BlockSums}
use Rattle.size_chooser.specs.Sums.{AreSizes, AreBounded, AreSumsOf}

-- the size of one block
pub blocks_size-one : (format : Format) (width : ℕ) (block : List ℕ) → length block ≡ block_values → blocks_size format width block ≡ block_size format width block
blocks_size-one format width block full =
    let one : whole_count block ≡ 1 = omega (arith, full) in
    let first : block_at block 0 ≡ block = take_all block_values block (omega (arith, full)) in
    omega (arith, ap (sum_blocks (block_size format width) block) one, ap (block_size format width) first)

pub AreSizes-same : (sums : BlockSums) (size other : Format → ℕ) → ((format : Format) → size format ≡ other format) → AreSizes sums size → AreSizes sums other
AreSizes-same sums size other same are = record {
  in_dynamic = are.in_dynamic ∙ same _;
  in_runs = are.in_runs ∙ same _;
  in_delta1_dynamic = are.in_delta1_dynamic ∙ same _;
  in_delta16_dynamic = are.in_delta16_dynamic ∙ same _;
  in_reference_dynamic = are.in_reference_dynamic ∙ same _;
  in_delta1_runs = are.in_delta1_runs ∙ same _;
}

pub AreBounded-wider : (sums : BlockSums) (most other : ℕ) → most ≤ other → AreBounded sums most → AreBounded sums other
AreBounded-wider sums most other more are = record {
  dynamic = omega (arith, are.dynamic);
  runs = omega (arith, are.runs);
  delta1_dynamic = omega (arith, are.delta1_dynamic);
  delta16_dynamic = omega (arith, are.delta16_dynamic);
  reference_dynamic = omega (arith, are.reference_dynamic);
  delta1_runs = omega (arith, are.delta1_runs);
}

-- each sum is that of both
pub record AreAdded (blocks block sums : BlockSums) : Type 0 where
  pub width : sums.width ≡ max blocks.width block.width
  pub dynamic : sums.dynamic ≡ blocks.dynamic + block.dynamic
  pub runs : sums.runs ≡ blocks.runs + block.runs
  pub delta1_dynamic : sums.delta1_dynamic ≡ blocks.delta1_dynamic + block.delta1_dynamic
  pub delta16_dynamic : sums.delta16_dynamic ≡ blocks.delta16_dynamic + block.delta16_dynamic
  pub reference_dynamic : sums.reference_dynamic ≡ blocks.reference_dynamic + block.reference_dynamic
  pub delta1_runs : sums.delta1_runs ≡ blocks.delta1_runs + block.delta1_runs

-- the sums of one block more
pub AreSumsOf-push : (front block sums : BlockSums) (blocks last : List ℕ) → AreSumsOf front blocks → AreSumsOf block last → length last ≡ block_values → AreAdded front block sums → AreSumsOf sums (blocks ++ last)
AreSumsOf-push front block sums blocks last are is full added =
    let long = length-append blocks last in
    let whole = are.whole in
    let size : (format : Format) → blocks_size format 0 (blocks ++ last) ≡ blocks_size format 0 blocks + blocks_size format 0 last =
    λ format. sum_blocks-push (block_size format 0) blocks last are.whole full ∙ ap (λ n. blocks_size format 0 blocks + n) (sym (blocks_size-one format 0 last full)) in
    let count : whole_count (blocks ++ last) ≡ whole_count blocks + whole_count last = omega arith in
    record {
      whole = omega arith;
      narrow = omega (arith, added.width, are.narrow, is.narrow);
      widest = subst (λ w. IsWidth w (blocks ++ last)) (sym added.width) (IsWidth-append front.width block.width blocks last are.widest is.widest);
      sizes = record {
        in_dynamic = omega (arith, added.dynamic, are.sizes.in_dynamic, is.sizes.in_dynamic, size dynamic);
        in_runs = omega (arith, added.runs, are.sizes.in_runs, is.sizes.in_runs, size runs);
        in_delta1_dynamic = omega (arith, added.delta1_dynamic, are.sizes.in_delta1_dynamic, is.sizes.in_delta1_dynamic, size delta1_dynamic);
        in_delta16_dynamic = omega (arith, added.delta16_dynamic, are.sizes.in_delta16_dynamic, is.sizes.in_delta16_dynamic, size delta16_dynamic);
        in_reference_dynamic = omega (arith, added.reference_dynamic, are.sizes.in_reference_dynamic, is.sizes.in_reference_dynamic, size reference_dynamic);
        in_delta1_runs = omega (arith, added.delta1_runs, are.sizes.in_delta1_runs, is.sizes.in_delta1_runs, size delta1_runs);
      };
      bounded = record {
        dynamic = omega (arith, added.dynamic, are.bounded.dynamic, is.bounded.dynamic, count);
        runs = omega (arith, added.runs, are.bounded.runs, is.bounded.runs, count);
        delta1_dynamic = omega (arith, added.delta1_dynamic, are.bounded.delta1_dynamic, is.bounded.delta1_dynamic, count);
        delta16_dynamic = omega (arith, added.delta16_dynamic, are.bounded.delta16_dynamic, is.bounded.delta16_dynamic, count);
        reference_dynamic = omega (arith, added.reference_dynamic, are.bounded.reference_dynamic, is.bounded.reference_dynamic, count);
        delta1_runs = omega (arith, added.delta1_runs, are.bounded.delta1_runs, is.bounded.delta1_runs, count);
      };
    }
