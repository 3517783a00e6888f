use Rattle.column_core.proofs.FileLemmas.{entries_more}
use Rattle.column_core.proofs.files.write_entries.Goals as goal

pub loop-block-preserved : goal.loop-block-preserved
loop-block-preserved c =
    entries_more c.args.shift c.args.starts.now c.args.bytes.now c.loop-block.bytes c.put_entry.new.bytes c.loop-block.block c.loop-block-test.true c.requires.room c.loop-block.invariant c.put_entry.ensures
