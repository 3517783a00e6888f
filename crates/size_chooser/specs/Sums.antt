-- What is kept of the whole blocks of a list.
use Rattle.std.specs.Prelude.{◌≡◌, ℕ, ◌*◌, ◌%◌, ◌≤◌, List, length}
use Rattle.definitions_blocks.specs.Blocks.{block_values}
use Rattle.definitions_blocks.specs.Packed.{IsWidth}
use Rattle.definitions_blocks.specs.Formats.{Format, dynamic, runs, delta1_dynamic, delta16_dynamic, reference_dynamic, delta1_runs}
use Rattle.definitions_columns.specs.Sizes.{whole_count, blocks_size}
use Rattle.size_chooser.specs.declared.sums.BlockSums.{BlockSums}

-- the sums are those of their formats
pub record AreSizes (sums : BlockSums) (size : Format → ℕ) : Type 0 where
  pub in_dynamic : sums.dynamic ≡ size dynamic
  pub in_runs : sums.runs ≡ size runs
  pub in_delta1_dynamic : sums.delta1_dynamic ≡ size delta1_dynamic
  pub in_delta16_dynamic : sums.delta16_dynamic ≡ size delta16_dynamic
  pub in_reference_dynamic : sums.reference_dynamic ≡ size reference_dynamic
  pub in_delta1_runs : sums.delta1_runs ≡ size delta1_runs

-- no sum is above this number
pub record AreBounded (sums : BlockSums) (most : ℕ) : Type 0 where
  pub dynamic : sums.dynamic ≤ most
  pub runs : sums.runs ≤ most
  pub delta1_dynamic : sums.delta1_dynamic ≤ most
  pub delta16_dynamic : sums.delta16_dynamic ≤ most
  pub reference_dynamic : sums.reference_dynamic ≤ most
  pub delta1_runs : sums.delta1_runs ≤ most

-- What is kept of whole blocks: the least width of them all, and how long they are in the formats whose blocks differ in
-- length. A block's encoding has at most 10,250 bytes.
pub record AreSumsOf (sums : BlockSums) (blocks : List ℕ) : Type 0 where
  pub whole : length blocks % block_values ≡ 0
  pub narrow : sums.width ≤ 64
  pub widest : IsWidth sums.width blocks
  pub sizes : AreSizes sums (λ format. blocks_size format 0 blocks)
  pub bounded : AreBounded sums (10250 * whole_count blocks)
