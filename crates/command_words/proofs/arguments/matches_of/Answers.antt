use Rattle.std.proofs.Common.{ap, sym, map, ◌∙◌, string_bytes}
use Rattle.clap.specs.Words.{App, app_of, fault_of, matches_of, is_simple}
use Rattle.clap.specs.Faults.{is_simple_and_free}
use Rattle.command_words.proofs.Read.{program-is_free, program-is_simple, none_among}
use Rattle.command_words.proofs.arguments.matches_of.Goals as goal

pub returns-in-Ok-clause-takes : goal.returns-in-Ok-clause-takes
returns-in-Ok-clause-takes c =
    let same = c.in_ok-program.ensures in
    sym (ap (λ (a : App). fault_of a (map string_bytes c.args.words.now)) same) ∙ c.in-Ok.ensures.kinds (ap is_simple_and_free same ∙ program-is_free)

pub returns-in-Ok-clause-rows : goal.returns-in-Ok-clause-rows
returns-in-Ok-clause-rows c =
    let same = c.in_ok-program.ensures in
    (c.in-Ok.ensures.matches (ap is_simple same ∙ program-is_simple)).0 ∙ ap (λ (a : App). matches_of a (map string_bytes c.args.words.now)) same

pub returns : goal.returns
returns c =
    let same = c.in_ok-program.ensures in
    let words = map string_bytes c.args.words.now in
    let kinds = c.in-Err.ensures.kinds (ap is_simple_and_free same ∙ program-is_free) in
    record {
      takes = tt;
      rows = tt;
      refused = λ other none.
          none_among (fault_of (app_of c.in_ok-program.field-0) words) c.in-Err.error kinds
          (λ memory. c.in_default.not-OutOfMemory (c.kind.ensures ∙ memory))
          (ap (λ (a : App). fault_of a words) same ∙ none);
    }
