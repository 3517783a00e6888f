-- the blocks so far were counted
use Rattle.std.proofs.Common.{◌≡◌, ◌*◌, take}
use Rattle.definitions_blocks.specs.Blocks.{block_values}
use Rattle.size_chooser.specs.Profiles.{IsProfileOf}
use Rattle.table_commands.proofs.reformatting.profile_of_column.Given as goal

abbrev pub invariant-loop-number : goal.invariant-loop-number
invariant-loop-number l = record {
  made : IsProfileOf l.profile (take (l.number * block_values) l.fn.column.values);
  list : l.cursor ≡ l.fn.column.values;
}
