use Rattle.database_core.proofs.NowLemmas.{other_length}
use Rattle.database_core.proofs.now_files.read_now.Goals as goal

pub returns-then-bytes-ne-NOW_LEN : goal.returns-then-bytes-ne-NOW_LEN
returns-then-bytes-ne-NOW_LEN c = other_length c.args.bytes.now c.if-bytes-ne-NOW_LEN.true
