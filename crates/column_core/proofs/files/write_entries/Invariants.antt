-- the entries so far are written
use Rattle.std.proofs.Common.{◌≡◌}
use Rattle.column_core.proofs.FileLemmas.{with_entries}
use Rattle.column_core.proofs.files.write_entries.Given as goal

abbrev pub invariant-loop-block : goal.invariant-loop-block
invariant-loop-block l = l.bytes ≡ with_entries l.shift l.starts l.fn.bytes l.block
