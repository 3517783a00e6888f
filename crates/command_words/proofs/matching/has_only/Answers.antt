use Rattle.std.proofs.Common.{◌≡◌, ◌∙◌, ap, map, rules}
use Rattle.std.specs.List.{list_all}
use Rattle.clap.specs.Words.{found_of, ids_left, rows_of}
use Rattle.command_words.specs.Words.{may_stand}
use Rattle.command_words.proofs.MatchingLemmas.{all_ids}
use Rattle.command_words.proofs.matching.has_only.Goals as goal

pub loop-id-init : goal.loop-id-init
loop-id-init c =
    let test = may_stand (map (λ one. one.now) c.args.ids.now) (rows_of (found_of c.args.matches.now)) in
    let left : ids_left c.into_iter-id-iterator.result ≡ map (λ entry. entry.0.now) (found_of c.args.matches.now).entries.items = search rules in
    (tt, tt, ap (list_all test) left ∙ all_ids test (found_of c.args.matches.now).entries.items)
