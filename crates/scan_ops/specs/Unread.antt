-- A list that is read from its front on, a block at a time.
use Rattle.std.specs.Prelude.{◌≡◌, ℕ, ◌*◌, ◌≤◌, List, ◌++◌, length, drop}
use Rattle.definitions_blocks.specs.Blocks.{block_values}
use Rattle.definitions_blocks.specs.Columns.{max_rows}
use Rattle.definitions_operators.specs.Costs.{block_count}
use Rattle.scan_ops.specs.declared.unread.Unread.{Unread}

-- what is left: the values of the held block that were not used, and the blocks from the next one on
abbrev pub left_of : List ℕ → Unread → List ℕ
left_of list unread = drop unread.used unread.block ++ drop (unread.next * block_values) list

-- a block is held of which no more was used, and the next block is one of the list or its end
pub record IsUnread (list : List ℕ) (unread : Unread) : Type 0 where
  pub few : length list ≤ max_rows
  pub short : length unread.block ≤ block_values
  pub used : unread.used ≤ length unread.block
  pub next : unread.next ≤ unread.blocks
  pub blocks : unread.blocks ≡ block_count list
