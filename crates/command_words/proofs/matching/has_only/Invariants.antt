use Rattle.std.proofs.Common.{◌≡◌, map}
use Rattle.std.specs.List.{list_all}
use Rattle.clap.specs.Words.{found_of, ids_left, rows_of}
use Rattle.command_words.specs.Words.{may_stand, has_only}
use Rattle.command_words.proofs.matching.has_only.Given as goal

-- the ids that are left are of no other argument exactly if all are
abbrev pub invariant-loop-id : goal.invariant-loop-id
invariant-loop-id l =
    (goal.iterator-loop-id).can_next l.id-iterator ×
    (goal.iterator-loop-id).is_finite l.id-iterator ×
    (list_all (may_stand (map (λ one. one.now) l.ids) (rows_of (found_of l.matches))) (ids_left l.id-iterator)
    ≡ has_only (map (λ one. one.now) l.ids) (rows_of (found_of l.matches)))
