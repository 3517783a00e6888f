use Rattle.column_core.proofs.FileLemmas.{after_the_move, moved_front, moved_rest}
use Rattle.column_core.proofs.files.move_up.Goals as goal

pub returns-clause-front : goal.returns-clause-front
returns-clause-front c =
    let is = after_the_move c.args.bytes.now c.copy_within.new.self c.args.end c.args.shift c.requires.head c.requires.room c.copy_within.ensures.len c.copy_within.ensures.after in
    moved_front c.args.bytes.now c.copy_within.new.self c.args.end c.args.shift c.requires.head c.requires.room is

pub returns-clause-moved : goal.returns-clause-moved
returns-clause-moved c =
    let is = after_the_move c.args.bytes.now c.copy_within.new.self c.args.end c.args.shift c.requires.head c.requires.room c.copy_within.ensures.len c.copy_within.ensures.after in
    moved_rest c.args.bytes.now c.copy_within.new.self c.args.end c.args.shift c.requires.head c.requires.room is
