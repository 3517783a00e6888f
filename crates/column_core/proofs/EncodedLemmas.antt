-- The list of blocks under way is the one that its bytes hold, and how it grows.
use Rattle.std.proofs.Common.{◌≡◌, ℕ, ◌+◌, ◌*◌, ◌/◌, ◌%◌, ◌<◌, ◌≤◌, List, [], ◌∷◌, ◌++◌, length, Result, Ok, Err, OnOk, OnErr, sym, ap, subst, arith, length-append}
use Rattle.definitions_blocks.specs.Blocks.{block_values}
use Rattle.definitions_blocks.specs.Columns.{max_rows}
use Rattle.definitions_blocks.specs.Formats as columns
use Rattle.definitions_blocks.specs.Formats.{BlockOf}
use Rattle.definitions_columns.specs.ColumnFiles.{head_len}
use Rattle.definitions_columns.specs.UnderWay.{AreBlocks}
use Rattle.definitions_columns.specs.Sizes.{block_size, front_size}
use Rattle.definitions_blocks.proofs.BlockLaws.{BlockOf-full}
use Rattle.definitions_columns.proofs.SizeLaws.{BlockOf-size}
use Rattle.definitions_columns.proofs.BlockSumLaws.{sum_blocks-push}
use Rattle.definitions_columns.proofs.UnderWayLaws.{under_way_counts, AreBlocks-none, AreBlocks-push}
use Rattle.block_core.specs.declared.formats.Format.{Format}
use Rattle.block_core.specs.Formats.{format_of}
use Rattle.column_core.specs.Columns.{UnderWay, UnderWay-prop}

pub stored_is : (format : Format) (width : ℕ) (bytes starts : List ℕ) (s : UnderWay format width bytes starts) (values : List ℕ) → AreBlocks (format_of format) width values bytes starts → s.0 ≡ values
stored_is format width bytes starts s values are =
    let t : UnderWay format width bytes starts = (values, ∣ are ∣₁) in
    ap (λ (u : UnderWay format width bytes starts). u.0) (UnderWay-prop format width bytes starts s t)

pub blocks_as : (format : Format) (width : ℕ) (bytes starts : List ℕ) (s : UnderWay format width bytes starts) (values : List ℕ) → AreBlocks (format_of format) width values bytes starts
    → AreBlocks (format_of format) width s.0 bytes starts
blocks_as format width bytes starts s values are = subst (λ l. AreBlocks (format_of format) width l bytes starts) (sym (stored_is format width bytes starts s values are)) are

-- no blocks yet
pub no_blocks : (format : columns.Format) (width : ℕ) (bytes starts : List ℕ) → length bytes ≡ head_len → starts ≡ [] → AreBlocks format width [] bytes starts
no_blocks format width bytes starts size none = subst (AreBlocks format width [] bytes) (sym none) (AreBlocks-none format width bytes size)

-- bytes and starts that did not change
pub same_blocks : (format : columns.Format) (width : ℕ) (values before begun bytes starts : List ℕ) → AreBlocks format width values before begun → bytes ≡ before → starts ≡ begun → AreBlocks format width values bytes starts
same_blocks format width values before begun bytes starts are same begins =
    subst (λ l. AreBlocks format width values l starts) (sym same) (subst (AreBlocks format width values before) (sym begins) are)

-- bytes and starts that grew by a block
pub pushed : (format : columns.Format) (width : ℕ) (values before begun block bytes starts : List ℕ) → AreBlocks format width values before begun → length values + block_values ≤ max_rows
    → (encoding : List ℕ) × BlockOf format width block encoding × (bytes ≡ before ++ encoding) → starts ≡ begun ++ length before ∷ [] → AreBlocks format width (values ++ block) bytes starts
pushed format width values before begun block bytes starts are few encoded begins =
    same_blocks format width (values ++ block) (before ++ encoded.0) (begun ++ length before ∷ []) bytes starts (AreBlocks-push format width values before begun block encoded.0 are few encoded.1) encoded.2 begins

-- whatever became of it, the bytes and starts are some blocks
pub some_blocks : {E : Type 0} (r : Result (Unit {0}) E) (format : columns.Format) (width : ℕ) (values before begun block bytes starts : List ℕ) → AreBlocks format width values before begun → length values + block_values ≤ max_rows
    → OnOk r ((encoding : List ℕ) × BlockOf format width block encoding × (bytes ≡ before ++ encoding)) → OnOk r (starts ≡ begun ++ length before ∷ []) → OnErr r (bytes ≡ before) → OnErr r (starts ≡ begun)
    → (list : List ℕ) × AreBlocks format width list bytes starts
some_blocks (Ok done) format width values before begun block bytes starts are few encoded begins same kept = (values ++ block, pushed format width values before begun block bytes starts are few encoded begins)
some_blocks (Err refused) format width values before begun block bytes starts are few encoded begins same kept = (values, same_blocks format width values before begun bytes starts are same kept)

-- What is reserved is enough for a block more.
pub record RoomForBlock (size encoding capacity blocks starts_capacity : ℕ) : Type 0 where
  pub bytes : size + encoding ≤ capacity
  pub starts : blocks < starts_capacity

pub room_for_block : (format : columns.Format) (width : ℕ) (values bytes starts block encoding : List ℕ) (reserved count capacity starts_capacity : ℕ) → AreBlocks format width values bytes starts
    → BlockOf format width block encoding → front_size format width (values ++ block) ≤ reserved → length (values ++ block) ≤ count
    → reserved ≤ capacity → count / block_values ≤ starts_capacity → RoomForBlock (length bytes) (length encoding) capacity (length starts) starts_capacity
room_for_block format width values bytes starts block encoding reserved count capacity starts_capacity are encoded fits few held begun =
    let now = under_way_counts format width values bytes starts are in
    let full = (BlockOf-full format width block encoding encoded).whole in
    let more = sum_blocks-push (block_size format width) values block (omega (arith, now.whole)) full in
    record {
      bytes = omega (arith, now.size, now.sized, more, BlockOf-size format width block encoding encoded);
      starts = omega (arith, now.many, now.whole, length-append values block, full);
    }
